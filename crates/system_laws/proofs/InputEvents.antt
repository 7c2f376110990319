-- What an event makes of the input of a line: only a byte of the line brings a cell, behind all others, and what the event reads comes from the front.
use Rattle.std.proofs.Common.{◌≡◌, ◌⊎◌, inl, inr, ℕ, Bool, true, false, cond, List, [], ◌∷◌, ◌++◌, refl, sym, ap, subst, ◌∙◌}
use Rattle.std.specs.Prelude.{◌==◌, Option, Some, None, option_map}
use Rattle.std.proofs.lemmas.List.{append-nil, append_assoc}
use Rattle.call_words.specs.declared.event.Event.{Event}
use Rattle.call_words.specs.declared.event.Event.TheVariants as event
use Rattle.sys_types.specs.declared.sig.Sig.{Sig}
use Rattle.termios_core.specs.declared.termios.Termios.{Termios}
use Rattle.line_disc.specs.Discipline.{Cells, Discipline, map_discipline}
use Rattle.line_disc.specs.Cook as cooking
use Rattle.line_disc.specs.Device as device
use Rattle.line_disc.specs.Device.{Device, closed_device}
use Rattle.line_disc.specs.Lines.{line_at, change_line}
use Rattle.system_model.specs.State.{Tagged, byte_of, last_revoke, State, view}
use Rattle.system_model.specs.Keeping.{tagging}
use Rattle.system_model.specs.LineEffects.{LineEffect, open_line, receive_byte, read_line, write_line, take_output, set_carrier, end_line, revoke_line}
use Rattle.system_model.specs.LineEffects.{flush_line, retune_line, set_session, set_foreground, change_lines, revokes_after}
use Rattle.system_model.specs.Effects.{Effect, on_files, on_pipes, on_lines, on_tree, on_processes, halt, tag, tag_all}
use Rattle.system_model.specs.Looks.{boot_termios, termios_by, termios_of}
use Rattle.system_model.specs.Step.{effects_of}
use Rattle.system_laws.specs.ProvenanceLaws.{cells_by, cells_by_all, read_as}
use Rattle.system_laws.proofs.FileSteps.{line_at-map}
use Rattle.system_laws.proofs.InputCells.{Cooked, none, one, cook_input}
use Rattle.system_laws.proofs.InputEffects.{input_of, input_at, IsPlainOf, IsPlainAt, line-set, line-other, same-number, is_arrival}
use Rattle.system_laws.proofs.InputEffects.{BringNone, no_effect, next_effect}
use Rattle.system_laws.proofs.InputEffects.{shorten_all}
use Rattle.system_laws.proofs.AskedEffects.{is_asked_line, is_asked, no_line, AreAsked, Begins, no_write, a_write}
use Rattle.system_laws.proofs.AskedEffects as asked
use Rattle.system_laws.proofs.AskedEvents.{Moves, of_calls, of_byte, of_take, event_moves}

-- ---- what calls do brings no byte in

line-brings : (r w : ℕ → Bool) (e : LineEffect) → is_asked_line r w e ≡ true → is_arrival (on_lines e) ≡ false
line-brings r w (open_line m t) is = refl
line-brings r w (receive_byte m b) is = cc
line-brings r w (read_line m max) is = refl
line-brings r w (write_line m bytes) is = refl
line-brings r w (take_output m max) is = refl
line-brings r w (set_carrier m up) is = refl
line-brings r w (end_line m) is = refl
line-brings r w (revoke_line m) is = refl
line-brings r w (flush_line m input output) is = refl
line-brings r w (retune_line m t) is = refl
line-brings r w (set_session m session group) is = refl
line-brings r w (set_foreground m group) is = refl

effect-brings : (r w : ℕ → Bool) (e : Effect) → is_asked r w e ≡ true → is_arrival e ≡ false
effect-brings r w (on_files e) is = refl
effect-brings r w (on_pipes e) is = refl
effect-brings r w (on_lines e) is = line-brings r w e is
effect-brings r w (on_tree e) is = refl
effect-brings r w (on_processes e) is = refl
effect-brings r w halt is = refl

asked-brings : (r w : ℕ → Bool) (es : List Effect) → AreAsked r w es → BringNone es
asked-brings r w [] asked.no_effect = no_effect
asked-brings r w (e ∷ es) (asked.next_effect _ _ is more) = next_effect e es (effect-brings r w e is) (asked-brings r w es more)

begins-bring : (r w : ℕ → Bool) (es : List Effect) → Begins r w es → BringNone es
begins-bring r w es (no_write _ are) = asked-brings r no_line es are
begins-bring r w (e ∷ es) (a_write m bytes _ is are) = next_effect e es refl (asked-brings no_line no_line es are)

-- effects that read no line take no cell
line-unread : (n : ℕ) (s : State) (w : ℕ → Bool) (e : LineEffect) → is_asked_line no_line w e ≡ true → cells_by n s (on_lines e) ≡ []
line-unread n s w (open_line m t) is = refl
line-unread n s w (receive_byte m b) is = refl
line-unread n s w (read_line m max) is = cc
line-unread n s w (write_line m bytes) is = refl
line-unread n s w (take_output m max) is = refl
line-unread n s w (set_carrier m up) is = refl
line-unread n s w (end_line m) is = refl
line-unread n s w (revoke_line m) is = refl
line-unread n s w (flush_line m input output) is = refl
line-unread n s w (retune_line m t) is = refl
line-unread n s w (set_session m session group) is = refl
line-unread n s w (set_foreground m group) is = refl

effect-unread : (n : ℕ) (s : State) (w : ℕ → Bool) (e : Effect) → is_asked no_line w e ≡ true → cells_by n s e ≡ []
effect-unread n s w (on_files e) is = refl
effect-unread n s w (on_pipes e) is = refl
effect-unread n s w (on_lines e) is = line-unread n s w e is
effect-unread n s w (on_tree e) is = refl
effect-unread n s w (on_processes e) is = refl
effect-unread n s w halt is = refl

pub unread_all : (n : ℕ) (s : State) (p : ℕ) (w : ℕ → Bool) (es : List Effect) → AreAsked no_line w es → cells_by_all n s p es ≡ []
unread_all n s p w [] asked.no_effect = refl
unread_all n s p w (e ∷ es) (asked.next_effect _ _ is more) =
    ap (λ cells. cells ++ cells_by_all n (tag s p e) p es) (effect-unread n s w e is) ∙ unread_all n (tag s p e) p w es more

-- ---- a byte comes in

-- the settings of a line, which are those of the boot while no file of it is live
abbrev pub tagged_termios : Termios → Option (Discipline Tagged) → Termios
tagged_termios boot None = boot
tagged_termios boot (Some d) = d.termios

termios-map : (boot : Termios) (o : Option (Discipline Tagged)) → termios_by boot (option_map (map_discipline byte_of) o) ≡ tagged_termios boot o
termios-map boot None = refl
termios-map boot (Some d) = refl

termios-seen : (s : State) (n : ℕ) → termios_of (view s) n ≡ tagged_termios (boot_termios n) (line_at s.parts.lines n).discipline
unfolding view
termios-seen s n =
    ap (λ (line : Device ℕ). termios_by (boot_termios n) line.discipline) (line_at-map s.parts.lines n)
    ∙ termios-map (boot_termios n) (line_at s.parts.lines n).discipline

-- the cells that a byte brings at position p: one with what it is read reads_so, or none
pub data Brought (p b : ℕ) (t : Termios) : List Tagged → Type 0 where
  nothing : Brought p b t []
  a_cell : (read : ℕ) → read_as t b ≡ Some read → Brought p b t (record { byte = read; brought = p } ∷ [])

record Takes (p b : ℕ) (t : Termios) (old new : Option (Discipline Tagged)) : Type 0 where
  more : List Tagged
  brought : Brought p b t more
  gone : List Tagged
  is : input_of old ++ more ≡ input_of new ++ gone
  plain : IsPlainOf new

takes-same : (p b : ℕ) (t : Termios) (o : Option (Discipline Tagged)) → IsPlainOf o → Takes p b t o o
takes-same p b t o plain = record { more = []; brought = nothing; gone = []; is = refl; plain = plain }

takes-none : (p b : ℕ) (t : Termios) (o : Option (Discipline Tagged)) → Takes p b t o None
takes-none p b t o = record { more = []; brought = nothing; gone = input_of o; is = append-nil (input_of o); plain = tt }

-- a cell that is made at a position has it
abbrev pub cells_at : ℕ → Cells Tagged
cells_at p = record { byte = byte_of; made = λ b. record { byte = b; brought = p } }

takes-cooked : (p b : ℕ) (d new : Discipline Tagged) → IsPlainOf (Some d) → Cooked (cells_at p) b d new → Takes p b d.termios (Some d) (Some new)
takes-cooked p b d new plain (none fewer) =
    record { more = []; brought = nothing; gone = fewer.gone; is = append-nil (input_of (Some d)) ∙ fewer.is; plain = fewer.plain plain }
takes-cooked p b d new plain (one read reads_so more still) = record {
  more = record { byte = read; brought = p } ∷ [];
  brought = a_cell read reads_so;
  gone = [];
  is = sym more ∙ sym (append-nil (input_of (Some new)));
  plain = still plain;
}

takes-at : (p b : ℕ) (boot : Termios) (line : Device Tagged) (o : Option (Discipline Tagged)) → line.discipline ≡ o → IsPlainOf o
    → Takes p b (tagged_termios boot o) o (device.cook_at (cells_at p) line b o).0.discipline
takes-at p b boot line None is plain = subst (λ new. Takes p b boot None new) (sym is) (takes-same p b boot None plain)
takes-at p b boot line (Some d) is plain = by_case (device.drops line d)
  where
    by_case : (t : Bool)
        → Takes p b d.termios (Some d)
        (cond {A = Device Tagged × Option Sig} t (line, None)
        (record line { discipline = Some ((cooking.cook (cells_at p) d b).0) }, (cooking.cook (cells_at p) d b).1)).0.discipline
    by_case true = subst (λ new. Takes p b d.termios (Some d) new) (sym is) (takes-same p b d.termios (Some d) plain)
    by_case false = takes-cooked p b d (cooking.cook (cells_at p) d b).0 plain (cook_input (cells_at p) d b)

-- what a byte of a line makes of the input of a line
record Arrives (n : ℕ) (s : State) (p m b : ℕ) (t : State) : Type 0 where
  more : List Tagged
  brought : (more ≡ []) ⊎ ((m ≡ n) × Brought p b (termios_of (view s) n) more)
  gone : List Tagged
  is : input_at n s ++ more ≡ input_at n t ++ gone
  plain : IsPlainAt n t

abbrev receive_at : State → ℕ → ℕ → ℕ → Device Tagged → Device Tagged
receive_at s p m b = λ line. (device.receive (tagging p s.revokes).cells line b).0

takes-own : (n : ℕ) (s : State) (p b : ℕ) → IsPlainAt n s
    → Takes p b (termios_of (view s) n) (line_at s.parts.lines n).discipline (line_at (change_line (receive_at s p n b) s.parts.lines n) n).discipline
takes-own n s p b plain =
    let old = line_at s.parts.lines n in
    line-set (λ line. Takes p b (termios_of (view s) n) old.discipline line.discipline) s.parts.lines n (receive_at s p n b old)
    (subst (λ t. Takes p b t old.discipline (receive_at s p n b old).discipline) (sym (termios-seen s n))
    (takes-at p b (boot_termios n) old old.discipline refl plain))
    (λ closed. takes-none p b (termios_of (view s) n) old.discipline)

arrives : (n : ℕ) (s : State) (p m b : ℕ) → IsPlainAt n s → Arrives n s p m b (tag s p (on_lines (receive_byte m b)))
unfolding change_lines revokes_after
arrives n s p m b plain = by_case (m == n) refl
  where
    by_own : (k : ℕ) → k ≡ n → Arrives n s p k b (tag s p (on_lines (receive_byte k b)))
    by_own k is =
        subst (λ j. Arrives n s p j b (tag s p (on_lines (receive_byte j b)))) (sym is)
        (let t = takes-own n s p b plain in record { more = t.more; brought = inr (refl, t.brought); gone = t.gone; is = t.is; plain = t.plain })

    by_case : (t : Bool) → (m == n) ≡ t → Arrives n s p m b (tag s p (on_lines (receive_byte m b)))
    by_case true is = by_own m (same-number m n is)
    by_case false is =
        let other = line-other s.parts.lines m n (receive_at s p m b (line_at s.parts.lines m)) is in
        record {
          more = [];
          brought = inl refl;
          gone = [];
          is = ap (λ (line : Device Tagged). input_of line.discipline ++ []) (sym other);
          plain = subst (λ (line : Device Tagged). IsPlainOf line.discipline) (sym other) plain;
        }

same-revokes : (s : State) (p m b : ℕ) → (tag s p (on_lines (receive_byte m b))).revokes ≡ s.revokes
unfolding revokes_after
same-revokes s p m b = refl

-- ---- an event

-- the cells that the event at position p brings to a line: one, where it is a byte of the line, or none
pub data Brings (n : ℕ) (s : State) (p : ℕ) (e : Event) : List Tagged → Type 0 where
  no_cell : Brings n s p e []
  one_cell : (b read : ℕ) → e ≡ event.Byte n b → read_as (termios_of (view s) n) b ≡ Some read
      → Brings n s p e (record { byte = read; brought = p } ∷ [])

-- What effects of an event leave of a line's input: what was there and what the event brings is, from the front on, what is read, what is left, and what
-- goes.
pub record InputAfter (n : ℕ) (s : State) (p : ℕ) (e : Event) (es : List Effect) : Type 0 where
  pub more : List Tagged
  pub brings : Brings n s p e more
  pub gone : List Tagged
  pub is : input_at n s ++ more ≡ (cells_by_all n s p es ++ input_at n (tag_all s p es)) ++ gone
  pub plain : IsPlainAt n (tag_all s p es)
  pub last : (last_revoke (tag_all s p es).revokes n ≡ last_revoke s.revokes n) ⊎ (input_at n (tag_all s p es) ≡ [])
  pub apart : (more ≡ []) ⊎ (cells_by_all n s p es ≡ [])

after-none : (n : ℕ) (s : State) (p : ℕ) (e : Event) (es : List Effect) → BringNone es → IsPlainAt n s → InputAfter n s p e es
after-none n s p e es brings plain =
    let all = shorten_all n s p es brings plain in
    record {
      more = [];
      brings = no_cell;
      gone = all.left.gone;
      is = append-nil (input_at n s) ∙ all.left.is;
      plain = all.left.plain;
      last = all.last;
      apart = inl refl;
    }

brings-so : (n : ℕ) (s : State) (p b : ℕ) (e : Event) (more : List Tagged) → e ≡ event.Byte n b → Brought p b (termios_of (view s) n) more
    → Brings n s p e more
brings-so n s p b e _ is nothing = no_cell
brings-so n s p b e _ is (a_cell read reads_so) = one_cell b read is reads_so

brought-by : (n : ℕ) (s : State) (p m b : ℕ) (e : Event) (more : List Tagged) → e ≡ event.Byte m b
    → (more ≡ []) ⊎ ((m ≡ n) × Brought p b (termios_of (view s) n) more) → Brings n s p e more
brought-by n s p m b e more is (inl empty) = subst (Brings n s p e) (sym empty) no_cell
brought-by n s p m b e more is (inr (same, brought)) = brings-so n s p b e more (is ∙ ap (λ k. event.Byte k b) same) brought

after-byte : (n : ℕ) (s : State) (p m b : ℕ) (e : Event) (es : List Effect) → e ≡ event.Byte m b → AreAsked no_line no_line es → IsPlainAt n s
    → InputAfter n s p e (on_lines (receive_byte m b) ∷ es)
after-byte n s p m b e es is are plain =
    let t = tag s p (on_lines (receive_byte m b)) in
    let first = arrives n s p m b plain in
    let then = shorten_all n t p es (asked-brings no_line no_line es are) first.plain in
    let unread = unread_all n t p no_line es are in
    record {
      more = first.more;
      brings = brought-by n s p m b e first.more is first.brought;
      gone = then.left.gone ++ first.gone;
      is =
          first.is ∙ ap (λ xs. xs ++ first.gone) then.left.is
          ∙ append_assoc (cells_by_all n t p es ++ input_at n (tag_all t p es)) then.left.gone first.gone;
      plain = then.left.plain;
      last = subst (λ rs. (last_revoke (tag_all t p es).revokes n ≡ last_revoke rs n) ⊎ (input_at n (tag_all t p es) ≡ [])) (same-revokes s p m b) then.last;
      apart = inr unread;
    }

by-moves : (n : ℕ) (s : State) (p : ℕ) (e : Event) (r w : ℕ → Bool) (es : List Effect) → Moves r w e es → IsPlainAt n s → InputAfter n s p e es
by-moves n s p e r w es (of_calls _ begin) plain = after-none n s p e es (begins-bring r w es begin) plain
by-moves n s p e r w (first ∷ es) (of_byte m b _ is are) plain = after-byte n s p m b e es is are plain
by-moves n s p e r w (first ∷ es) (of_take m max _ is are) plain =
    after-none n s p e (on_lines (take_output m max) ∷ es) (next_effect _ _ refl (asked-brings no_line no_line es are)) plain

abbrev pub all_lines : ℕ → Bool
all_lines n = true

pub input_after : (n : ℕ) (s : State) (p : ℕ) (e : Event) → IsPlainAt n s → InputAfter n s p e (effects_of (view s) e)
input_after n s p e plain =
    by-moves n s p e all_lines all_lines (effects_of (view s) e)
    (event_moves all_lines all_lines (view s) e (record { reads = λ slot c m asks none is. refl; writes = λ slot c m asks none is. refl })) plain
