-- What an event makes of the output of a line: what it takes stood in front, what it puts out stands behind, and where it loses any it loses all before.
use Rattle.std.proofs.Common.{◌≡◌, ◌⊎◌, inl, inr, ℕ, Bool, true, false, cond, List, [], ◌∷◌, ◌++◌, map, refl, sym, ap, subst, ◌∙◌}
use Rattle.std.specs.Prelude.{◌==◌, ◌&&◌, not, Option, Some, None, is_some, option_map}
use Rattle.std.specs.List.{AllByRecursion}
use Rattle.std.proofs.lemmas.List.{append-nil}
use Rattle.sys_types.specs.declared.sig.Sig.{Sig}
use Rattle.call_words.specs.declared.call.Call.{Call}
use Rattle.call_words.specs.declared.call.Call.TheVariants as call
use Rattle.call_words.specs.declared.event.Event.{Event}
use Rattle.call_words.specs.declared.event.Event.TheVariants as event
use Rattle.proc_table.specs.Processes.{pending_at}
use Rattle.line_disc.specs.Discipline.{Discipline}
use Rattle.line_disc.specs.Cook as cooking
use Rattle.line_disc.specs.Transfers as transfers
use Rattle.line_disc.specs.Device as device
use Rattle.line_disc.specs.Device.{Device, closed_device}
use Rattle.line_disc.specs.Lines.{line_at, change_line}
use Rattle.system_model.specs.Parts.{Target, node, read_end, write_end, tty}
use Rattle.system_model.specs.State.{Tagged, last_revoke, OpenFile, State, View, view}
use Rattle.system_model.specs.Keeping.{tagging, is_tty}
use Rattle.system_model.specs.LineEffects.{receive_byte, write_line, take_output, change_lines, revokes_after}
use Rattle.system_model.specs.Effects.{Effect, on_lines, tag, tag_all}
use Rattle.system_model.specs.Looks.{file_at, holds_of}
use Rattle.system_model.specs.Step.{effects_of}
use Rattle.system_model.specs.Rows.{first}
use Rattle.system_laws.specs.Laws.{asks_call}
use Rattle.system_laws.specs.ProvenanceLaws.{output_cells, output_at, cells_sent_by, cells_sent_by_all, PutsOut, by_byte, by_write}
use Rattle.system_laws.proofs.InputEffects.{line-set, line-other, same-number}
use Rattle.system_laws.proofs.InputEvents.{cells_at, all_lines}
use Rattle.system_laws.proofs.OutputCells.{Puts, put_cook, put_write, takes_front}
use Rattle.system_laws.proofs.OutputEffects.{KeepsOutput, keep_all, unsent_all}
use Rattle.system_laws.proofs.AskedEffects.{no_line, AreAsked, no_write, a_write}
use Rattle.system_laws.proofs.AskedRows.{writes_line}
use Rattle.system_laws.proofs.AskedEvents.{Moves, of_calls, of_byte, of_take, event_moves}

-- each cell is of the event at the position
abbrev pub AreOf : ℕ → List Tagged → Type 0
AreOf p cells = AllByRecursion (λ cell. cell.brought ≡ p) cells

-- ---- one line

-- cells of the event at position p are put behind the output, or behind nothing where all that stood there is lost
record PutsAt (p : ℕ) (old new : Option (Discipline Tagged)) : Type 0 where
  more : List Tagged
  of_event : AreOf p more
  lost : List Tagged
  is : output_cells old ++ more ≡ lost ++ output_cells new
  cleared : (lost ≡ []) ⊎ AreOf p (output_cells new)

puts-same : (p : ℕ) (o : Option (Discipline Tagged)) → PutsAt p o o
puts-same p o = record { more = []; of_event = tt; lost = []; is = append-nil (output_cells o); cleared = inl refl }

puts-closed : (p : ℕ) (o : Option (Discipline Tagged)) → PutsAt p o None
puts-closed p o = record { more = []; of_event = tt; lost = output_cells o; is = refl; cleared = inr tt }

made-of : (p : ℕ) (bytes : List ℕ) → AreOf p (map (cells_at p).made bytes)
made-of p [] = tt
made-of p (b ∷ bs) = (refl, made-of p bs)

puts-tagged : (p : ℕ) (d new : Discipline Tagged) → Puts (cells_at p) d new → PutsAt p (Some d) (Some new)
puts-tagged p d new puts = record {
  more = map (cells_at p).made puts.put;
  of_event = made-of p puts.put;
  lost = puts.lost;
  is = puts.is;
  cleared = by_case puts.cleared;
}
  where
    by_case : (puts.lost ≡ []) ⊎ (new.output ≡ map (cells_at p).made puts.put) → (puts.lost ≡ []) ⊎ AreOf p new.output
    by_case (inl none) = inl none
    by_case (inr alone) = inr (subst (AreOf p) (sym alone) (made-of p puts.put))

puts-received : (p b : ℕ) (line : Device Tagged) (o : Option (Discipline Tagged)) → line.discipline ≡ o
    → PutsAt p o (device.cook_at (cells_at p) line b o).0.discipline
puts-received p b line None is = subst (λ new. PutsAt p None new) (sym is) (puts-same p None)
puts-received p b line (Some d) is = by_case (device.drops line d)
  where
    by_case : (t : Bool)
        → PutsAt p (Some d)
        (cond {A = Device Tagged × Option Sig} t (line, None)
        (record line { discipline = Some ((cooking.cook (cells_at p) d b).0) }, (cooking.cook (cells_at p) d b).1)).0.discipline
    by_case true = subst (λ new. PutsAt p (Some d) new) (sym is) (puts-same p (Some d))
    by_case false = puts-tagged p d (cooking.cook (cells_at p) d b).0 (put_cook (cells_at p) d b)

puts-written : (p : ℕ) (bytes : List ℕ) (o : Option (Discipline Tagged)) → PutsAt p o (option_map (λ d. transfers.put (cells_at p) d bytes) o)
puts-written p bytes None = puts-same p None
puts-written p bytes (Some d) = puts-tagged p d (transfers.put (cells_at p) d bytes) (put_write (cells_at p) d bytes)

-- ---- the first effect of an event

-- what it makes of a line's output
record Begun (n : ℕ) (s : State) (p : ℕ) (t : State) (sent : List Tagged) (e : Event) : Type 0 where
  more : List Tagged
  of_event : AreOf p more
  puts : (more ≡ []) ⊎ PutsOut (view s) e n
  lost : List Tagged
  is : output_at n s ++ more ≡ sent ++ (lost ++ output_at n t)
  cleared : (lost ≡ []) ⊎ AreOf p (output_at n t)
  revokes : t.revokes ≡ s.revokes
  apart : (more ≡ []) ⊎ (sent ≡ [])

begun-same : (n : ℕ) (s : State) (p : ℕ) (t : State) (e : Event) → output_at n t ≡ output_at n s → t.revokes ≡ s.revokes → Begun n s p t [] e
begun-same n s p t e same revokes = record {
  more = [];
  of_event = tt;
  puts = inl refl;
  lost = [];
  is = append-nil (output_at n s) ∙ sym same;
  cleared = inl refl;
  revokes = revokes;
  apart = inl refl;
}

begun-puts : (n : ℕ) (s : State) (p : ℕ) (t : State) (e : Event) → PutsAt p (line_at s.parts.lines n).discipline (line_at t.parts.lines n).discipline
    → PutsOut (view s) e n → t.revokes ≡ s.revokes → Begun n s p t [] e
begun-puts n s p t e puts out revokes = record {
  more = puts.more;
  of_event = puts.of_event;
  puts = inr out;
  lost = puts.lost;
  is = puts.is;
  cleared = puts.cleared;
  revokes = revokes;
  apart = inr refl;
}

changed-own : (n : ℕ) (s : State) (p : ℕ) (how : Device Tagged → Device Tagged)
    → PutsAt p (line_at s.parts.lines n).discipline (how (line_at s.parts.lines n)).discipline
    → PutsAt p (line_at s.parts.lines n).discipline (line_at (change_line how s.parts.lines n) n).discipline
changed-own n s p how puts =
    line-set (λ line. PutsAt p (line_at s.parts.lines n).discipline line.discipline) s.parts.lines n (how (line_at s.parts.lines n)) puts
    (λ closed. puts-closed p (line_at s.parts.lines n).discipline)

changed-other : (n m : ℕ) (s : State) (how : Device Tagged → Device Tagged) → (m == n) ≡ false
    → output_cells (line_at (change_line how s.parts.lines m) n).discipline ≡ output_at n s
changed-other n m s how is = ap (λ (line : Device Tagged). output_cells line.discipline) (line-other s.parts.lines m n (how (line_at s.parts.lines m)) is)

begun-byte : (n : ℕ) (s : State) (p m b : ℕ) (e : Event) → e ≡ event.Byte m b → Begun n s p (tag s p (on_lines (receive_byte m b))) [] e
unfolding change_lines revokes_after
begun-byte n s p m b e is = by_case (m == n) refl
  where
    by_own : (k : ℕ) → k ≡ n → e ≡ event.Byte k b → Begun n s p (tag s p (on_lines (receive_byte k b))) [] e
    by_own k same byte =
        subst (λ j. Begun n s p (tag s p (on_lines (receive_byte j b))) [] e) (sym same)
        (begun-puts n s p (tag s p (on_lines (receive_byte n b))) e
        (changed-own n s p (λ line. (device.receive (tagging p s.revokes).cells line b).0)
        (puts-received p b (line_at s.parts.lines n) (line_at s.parts.lines n).discipline refl))
        (by_byte b (byte ∙ ap (λ j. event.Byte j b) same)) refl)

    by_case : (t : Bool) → (m == n) ≡ t → Begun n s p (tag s p (on_lines (receive_byte m b))) [] e
    by_case true same = by_own m (same-number m n same) is
    by_case false apart =
        begun-same n s p (tag s p (on_lines (receive_byte m b))) e
        (changed-other n m s (λ line. (device.receive (tagging p s.revokes).cells line b).0) apart) refl

begun-write : (n : ℕ) (s : State) (p m : ℕ) (bytes : List ℕ) (e : Event) → PutsOut (view s) e m → Begun n s p (tag s p (on_lines (write_line m bytes))) [] e
unfolding change_lines revokes_after
begun-write n s p m bytes e out = by_case (m == n) refl
  where
    by_own : (k : ℕ) → k ≡ n → PutsOut (view s) e k → Begun n s p (tag s p (on_lines (write_line k bytes))) [] e
    by_own k same puts =
        subst (λ j. Begun n s p (tag s p (on_lines (write_line j bytes))) [] e) (sym same)
        (begun-puts n s p (tag s p (on_lines (write_line n bytes))) e
        (changed-own n s p (λ line. device.put (tagging p s.revokes).cells line bytes)
        (puts-written p bytes (line_at s.parts.lines n).discipline))
        (subst (PutsOut (view s) e) same puts) refl)

    by_case : (t : Bool) → (m == n) ≡ t → Begun n s p (tag s p (on_lines (write_line m bytes))) [] e
    by_case true same = by_own m (same-number m n same) out
    by_case false apart =
        begun-same n s p (tag s p (on_lines (write_line m bytes))) e
        (changed-other n m s (λ line. device.put (tagging p s.revokes).cells line bytes) apart) refl

-- what is taken stood in front
taken-front : (o : Option (Discipline Tagged)) (max : ℕ)
    → output_cells o ≡ device.output_of max o ++ output_cells (option_map (λ d. transfers.after_take d max) o)
taken-front None max = refl
taken-front (Some d) max = takes_front d max

closed-front : (line : Device Tagged) (max : ℕ) → line ≡ closed_device
    → output_cells line.discipline ≡ device.output_of max line.discipline ++ output_cells closed_device.discipline
closed-front line max is = rw is refl

begun-take : (n : ℕ) (s : State) (p m max : ℕ) (e : Event)
    → Begun n s p (tag s p (on_lines (take_output m max))) (cells_sent_by n s (on_lines (take_output m max))) e
unfolding change_lines revokes_after
begun-take n s p m max e = record {
  more = [];
  of_event = tt;
  puts = inl refl;
  lost = [];
  is = append-nil (output_at n s) ∙ by_case (m == n) refl;
  cleared = inl refl;
  revokes = refl;
  apart = inl refl;
}
  where
    by_case : (t : Bool) → (m == n) ≡ t
        → output_at n s ≡ cond t (device.output_of max (line_at s.parts.lines m).discipline) []
        ++ output_cells (line_at (change_line (λ line. device.take_output line max) s.parts.lines m) n).discipline
    by_case true same =
        subst (λ k. output_at n s ≡ device.output_of max (line_at s.parts.lines k).discipline
        ++ output_cells (line_at (change_line (λ line. device.take_output line max) s.parts.lines k) n).discipline)
        (sym (same-number m n same))
        (line-set (λ line. output_at n s ≡ device.output_of max (line_at s.parts.lines n).discipline ++ output_cells line.discipline) s.parts.lines n
        (device.take_output (line_at s.parts.lines n) max) (taken-front (line_at s.parts.lines n).discipline max) (closed-front (line_at s.parts.lines n) max))
    by_case false apart = sym (changed-other n m s (λ line. device.take_output line max) apart)

-- ---- an event

pub record OutputAfter (n : ℕ) (s : State) (p : ℕ) (e : Event) (es : List Effect) : Type 0 where
  pub more : List Tagged
  pub of_event : AreOf p more
  pub puts : (more ≡ []) ⊎ PutsOut (view s) e n
  pub lost : List Tagged
  pub is : output_at n s ++ more ≡ cells_sent_by_all n s p es ++ (lost ++ output_at n (tag_all s p es))
  pub cleared : (lost ≡ []) ⊎ AreOf p (output_at n (tag_all s p es))
  pub last : (last_revoke (tag_all s p es).revokes n ≡ last_revoke s.revokes n) ⊎ (output_at n (tag_all s p es) ≡ [])
  pub apart : (more ≡ []) ⊎ (cells_sent_by_all n s p es ≡ [])

-- the state after the first effect, if any, and the effects behind it
after-begun : (n : ℕ) (s : State) (p : ℕ) (e : Event) (es : List Effect) (t : State) (r : ℕ → Bool) (fs : List Effect) → AreAsked r no_line fs
    → tag_all s p es ≡ tag_all t p fs → Begun n s p t (cells_sent_by_all n s p es) e → OutputAfter n s p e es
after-begun n s p e es t r fs are same first = by_output kept.output
  where
    u : State
    u = tag_all s p es

    kept : KeepsOutput n t u
    kept = subst (KeepsOutput n t) (sym same) (keep_all n t p r fs are)

    last : (last_revoke u.revokes n ≡ last_revoke s.revokes n) ⊎ (output_at n u ≡ [])
    last = subst (λ rs. (last_revoke u.revokes n ≡ last_revoke rs n) ⊎ (output_at n u ≡ [])) first.revokes kept.last

    by_cleared : output_at n u ≡ output_at n t → (first.lost ≡ []) ⊎ AreOf p (output_at n t) → (first.lost ≡ []) ⊎ AreOf p (output_at n u)
    by_cleared still (inl none) = inl none
    by_cleared still (inr all) = inr (subst (AreOf p) (sym still) all)

    by_output : (output_at n u ≡ output_at n t) ⊎ (output_at n u ≡ []) → OutputAfter n s p e es
    by_output (inl still) = record {
      more = first.more;
      of_event = first.of_event;
      puts = first.puts;
      lost = first.lost;
      is = first.is ∙ ap (λ xs. cells_sent_by_all n s p es ++ (first.lost ++ xs)) (sym still);
      cleared = by_cleared still first.cleared;
      last = last;
      apart = first.apart;
    }
    by_output (inr empty) = record {
      more = first.more;
      of_event = first.of_event;
      puts = first.puts;
      lost = first.lost ++ output_at n t;
      is =
          first.is
          ∙ ap (λ xs. cells_sent_by_all n s p es ++ xs) (sym (append-nil (first.lost ++ output_at n t))
          ∙ ap (λ xs. (first.lost ++ output_at n t) ++ xs) (sym empty));
      cleared = inr (subst (AreOf p) (sym empty) tt);
      last = last;
      apart = first.apart;
    }

with-sent : (n : ℕ) (s : State) (p : ℕ) (t : State) (a b : List Tagged) (e : Event) → b ≡ a → Begun n s p t a e → Begun n s p t b e
with-sent n s p t a b e is begun = subst (λ sent. Begun n s p t sent e) (sym is) begun

pub sent-first : (n : ℕ) (s : State) (p : ℕ) (e : Effect) (r : ℕ → Bool) (es : List Effect) → AreAsked r no_line es
    → cells_sent_by_all n s p (e ∷ es) ≡ cells_sent_by n s e
sent-first n s p e r es are =
    ap (λ xs. cells_sent_by n s e ++ xs) (unsent_all n (tag s p e) p r no_line es are) ∙ append-nil (cells_sent_by n s e)

by-moves : (n : ℕ) (s : State) (p : ℕ) (e : Event) (w : ℕ → Bool) → ((m : ℕ) → w m ≡ true → PutsOut (view s) e m) → (es : List Effect)
    → Moves all_lines w e es → OutputAfter n s p e es
by-moves n s p e w out es (of_calls _ (no_write _ are)) =
    after-begun n s p e es s all_lines es are refl
    (with-sent n s p s [] (cells_sent_by_all n s p es) e (unsent_all n s p all_lines no_line es are) (begun-same n s p s e refl refl))
by-moves n s p e w out (f ∷ es) (of_calls _ (a_write m bytes _ is are)) =
    after-begun n s p e (f ∷ es) (tag s p f) no_line es are refl
    (with-sent n s p (tag s p f) [] (cells_sent_by_all n s p (f ∷ es)) e (sent-first n s p f no_line es are) (begun-write n s p m bytes e (out m is)))
by-moves n s p e w out (f ∷ es) (of_byte m b _ is are) =
    after-begun n s p e (f ∷ es) (tag s p f) no_line es are refl
    (with-sent n s p (tag s p f) [] (cells_sent_by_all n s p (f ∷ es)) e (sent-first n s p f no_line es are) (begun-byte n s p m b e is))
by-moves n s p e w out (f ∷ es) (of_take m max _ is are) =
    after-begun n s p e (f ∷ es) (tag s p f) no_line es are refl
    (with-sent n s p (tag s p f) (cells_sent_by n s f) (cells_sent_by_all n s p (f ∷ es)) e (sent-first n s p f no_line es are)
    (begun-take n s p m max e))

-- ---- which lines an event writes to

pending_writes : View → ℕ → Option Call → ℕ → Bool
pending_writes v slot None m = false
pending_writes v slot (Some c) m = writes_line v slot c m

abbrev writes_in : View → Event → ℕ → Bool
writes_in v (event.Call slot c) m = not (is_some (pending_at v.processes slot)) && writes_line v slot c m
writes_in v (event.Again slot) m = pending_writes v slot (pending_at v.processes slot) m
writes_in v _ m = false

both-true : (a b : Bool) → a ≡ false → b ≡ true → (not a && b) ≡ true
both-true false b is also = also
both-true true b is also = cc

asked-writes : (v : View) (e : Event) (slot : ℕ) (c : Call) (m : ℕ) → asks_call v e slot c → writes_line v slot c m ≡ true → writes_in v e m ≡ true
unfolding pending_writes
asked-writes v (event.Call asker asked) slot c m (same, is, free) writes =
    both-true (is_some (pending_at v.processes asker)) (writes_line v asker asked m) free
    (ap (λ d. writes_line v asker d m) is ∙ ap (λ k. writes_line v k c m) same ∙ writes)
asked-writes v (event.Again asker) slot c m (same, pends) writes =
    ap (λ o. pending_writes v asker o m) pends ∙ ap (λ k. writes_line v k c m) same ∙ writes
asked-writes v (event.Byte n b) slot c m asks writes = absurd asks
asked-writes v (event.Carrier n up) slot c m asks writes = absurd asks
asked-writes v (event.Take n max) slot c m asks writes = absurd asks
asked-writes v (event.Ended n) slot c m asks writes = absurd asks

tty-is : (m : ℕ) (target : Target) → is_tty m target ≡ true → target ≡ tty m
tty-is m (node path) is = cc
tty-is m (read_end k) is = cc
tty-is m (write_end k) is = cc
tty-is m (tty k) is = ap tty (same-number k m is)

writes-file : (v : View) (e : Event) (slot fd : ℕ) (bs : List ℕ) (m : ℕ) (o : Option OpenFile) → asks_call v e slot (call.Write fd bs)
    → file_at v slot fd ≡ o → holds_of (λ f. is_tty m f.file.target) o ≡ true → PutsOut v e m
writes-file v e slot fd bs m None asks there is = cc
writes-file v e slot fd bs m (Some f) asks there is = by_write slot fd bs f asks there (tty-is m f.file.target is)

writes-out : (v : View) (e : Event) (slot : ℕ) (c : Call) (m : ℕ) → asks_call v e slot c → writes_line v slot c m ≡ true → PutsOut v e m
writes-out v e slot (call.Write fd bs) m asks is = writes-file v e slot fd bs m (file_at v slot fd) asks refl is
writes-out v e slot c m asks is = cc

first-false : (a b : Bool) → (not a && b) ≡ true → a ≡ false
first-false true b is = cc
first-false false b is = refl

second-true : (a b : Bool) → (not a && b) ≡ true → b ≡ true
second-true true b is = cc
second-true false b is = is

puts-out : (v : View) (e : Event) (m : ℕ) → writes_in v e m ≡ true → PutsOut v e m
unfolding pending_writes
puts-out v (event.Call slot c) m is =
    writes-out v (event.Call slot c) slot c m (refl, refl, first-false (is_some (pending_at v.processes slot)) (writes_line v slot c m) is)
    (second-true (is_some (pending_at v.processes slot)) (writes_line v slot c m) is)
puts-out v (event.Again slot) m is = by_pending (pending_at v.processes slot) refl is
  where
    by_pending : (o : Option Call) → pending_at v.processes slot ≡ o → pending_writes v slot o m ≡ true → PutsOut v (event.Again slot) m
    by_pending None pends writes = cc
    by_pending (Some c) pends writes = writes-out v (event.Again slot) slot c m (refl, pends) writes
puts-out v (event.Byte n b) m is = cc
puts-out v (event.Carrier n up) m is = cc
puts-out v (event.Take n max) m is = cc
puts-out v (event.Ended n) m is = cc

pub output_after : (n : ℕ) (s : State) (p : ℕ) (e : Event) → OutputAfter n s p e (effects_of (view s) e)
output_after n s p e =
    by-moves n s p e (writes_in (view s) e) (puts-out (view s) e) (effects_of (view s) e)
    (event_moves all_lines (writes_in (view s) e) (view s) e (record {
      reads = λ slot c m asks none is. refl;
      writes = λ slot c m asks none is. asked-writes (view s) e slot c m asks is;
    }))
