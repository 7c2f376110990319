-- What is done at a terminal line takes cells of its input away at one end, or puts one behind them.
use Rattle.std.proofs.Common.{◌≡◌, ℕ, ◌+◌, Bool, true, false, cond, List, [], ◌∷◌, ◌++◌, take, drop, Option, Some, None, refl, sym, ap, ◌∙◌}
use Rattle.std.specs.Prelude.{not, ◌&&◌, ◌||◌, ◌==◌, reverse, nat_le, length, unwrap_or}
use Rattle.std.specs.List.{flat_map}
use Rattle.std.proofs.lemmas.List.{append-nil, append_assoc, reverse-append, reverse-reverse, take-append-drop}
use Rattle.std.proofs.lemmas.Grind.{flat_map-append}
use Rattle.sys_types.specs.declared.limits.TheConstants.{OUTPUT_BYTES}
use Rattle.sys_types.specs.declared.sig.Sig.{Sig}
use Rattle.termios_core.specs.declared.termios.Termios.{Termios}
use Rattle.line_disc.specs.Echo.{newline, is_char, shown, echo, erase_echo, drop_line_echo}
use Rattle.line_disc.specs.Discipline.{Cells, ReadyLine, Input, Discipline, no_input, all_cells}
use Rattle.line_disc.specs.Cook.{put_whole, strip, is_flow, set_flow, signal_of, flush, interrupt, translate, erase_last, erase, drop_line, is_full, make_ready}
use Rattle.line_disc.specs.Cook.{end_file, end_line, is_long, add_byte, enter, enter_as, cook_by_case, cook}
use Rattle.line_disc.specs.Transfers.{has_none, lines_after, front_of, waits, read, after_read, as_line, turn, retune}
use Rattle.system_laws.specs.ProvenanceLaws.{read_as}

-- without icanon no line is ready
abbrev pub IsPlain : {C : Type 0} → Discipline C → Type 0
IsPlain d = d.termios.flags.icanon ≡ false → d.input.ready ≡ []

-- cells are taken away from the back of the input, or none
pub record Fewer {C : Type 0} (old new : Discipline C) : Type 0 where
  pub gone : List C
  pub is : all_cells old.input ≡ all_cells new.input ++ gone
  pub plain : IsPlain old → IsPlain new

-- or the cell of a byte is put behind them
pub data Entered {C : Type 0} (c : Cells C) (b : ℕ) (old new : Discipline C) : Type 0 where
  fewer : Fewer old new → Entered c b old new
  one_more : all_cells new.input ≡ all_cells old.input ++ c.made b ∷ [] → (IsPlain old → IsPlain new) → Entered c b old new

pub choose : {C : Type 0} (P : Discipline C → Type 0) (t : Bool) (x y : Discipline C) → (t ≡ true → P x) → (t ≡ false → P y) → P (cond t x y)
choose P true x y first second = first refl
choose P false x y first second = second refl

same : {C : Type 0} (d : Discipline C) → Fewer d d
same d = record { gone = []; is = sym (append-nil (all_cells d.input)); plain = λ p. p }

-- what goes out leaves the input
whole : {C : Type 0} (P : Discipline C → Type 0) (c : Cells C) (d : Discipline C) (out : List ℕ) → ((o : List C) → P (record d { output = o }))
    → P (put_whole c d out)
whole P c d out all = choose P (nat_le (length d.output + length (shown d.termios out)) OUTPUT_BYTES) _ d (λ is. all _) (λ is. all d.output)

flush-input : {C : Type 0} (t u : Bool) (d : Discipline C) (o : List C) → Fewer d (record d { input = cond t no_input d.input; output = o })
flush-input true u d o = record { gone = all_cells d.input; is = refl; plain = λ p is. refl }
flush-input false u d o = record { gone = []; is = sym (append-nil (all_cells d.input)); plain = λ p. p }

pub flush_fewer : {C : Type 0} (d : Discipline C) (input output : Bool) → Fewer d (flush d input output)
flush_fewer d input output = flush-input input output d (cond output [] d.output)

-- ---- a byte comes in

interrupt-input : {C : Type 0} (c : Cells C) (d : Discipline C) (b : ℕ) → Fewer d (interrupt c d b)
unfolding interrupt
interrupt-input c d b =
    let t = not d.termios.flags.noflsh in
    whole (Fewer d) c (flush d t t) (echo d.termios b) (λ o. flush-input t t d o)

turn-round : {C : Type 0} (current before : List C) (last : C) → reverse current ≡ last ∷ before → current ≡ reverse before ++ last ∷ []
turn-round current before last is = sym (reverse-reverse current) ∙ ap reverse is ∙ reverse-append (last ∷ []) before

erase-last : {C : Type 0} (c : Cells C) (d : Discipline C) (b : ℕ) (xs : List C) → reverse d.input.current ≡ xs → Entered c b d (erase_last c d b xs)
erase-last c d b [] is = fewer (same d)
erase-last c d b (last ∷ before) is =
    let ready = flat_map (λ line. line.cells) d.input.ready in
    whole (Entered c b d) c (record d { input = record { ready = d.input.ready; current = reverse before } }) (erase_echo d.termios b (c.byte last))
    (λ o. fewer (record {
      gone = last ∷ [];
      is = ap (λ xs. ready ++ xs) (turn-round d.input.current before last is) ∙ sym (append_assoc ready (reverse before) (last ∷ []));
      plain = λ p. p;
    }))

erase-input : {C : Type 0} (c : Cells C) (d : Discipline C) (b : ℕ) → Entered c b d (erase c d b)
unfolding erase
erase-input c d b = erase-last c d b (reverse d.input.current) refl

drop-input : {C : Type 0} (c : Cells C) (d : Discipline C) (b : ℕ) → Entered c b d (drop_line c d b)
unfolding drop_line
drop-input c d b =
    let ready = flat_map (λ line. line.cells) d.input.ready in
    whole (Entered c b d) c (record d { input = record { ready = d.input.ready; current = [] } }) (drop_line_echo d.termios b)
    (λ o. fewer (record { gone = d.input.current; is = ap (λ xs. xs ++ d.input.current) (sym (append-nil ready)); plain = λ p. p }))

-- a current line that becomes ready is where it was
ready-cells : {C : Type 0} (ready : List (ReadyLine C)) (cells : List C) (marked : Bool)
    → flat_map (λ line. line.cells) (ready ++ record { cells = cells; marked = marked } ∷ []) ++ [] ≡ flat_map (λ line. line.cells) ready ++ cells
ready-cells ready cells marked =
    append-nil _
    ∙ flat_map-append (λ line. line.cells) ready (record { cells = cells; marked = marked } ∷ [])
    ∙ ap (λ xs. flat_map (λ line. line.cells) ready ++ xs) (append-nil cells)

never : {A : Type 0} (t : Bool) → t ≡ true → t ≡ false → A
never true is isnt = absurd cc
never false is isnt = absurd cc

first-holds : (a b : Bool) → (a && b) ≡ true → a ≡ true
first-holds true b is = refl
first-holds false b is = cc

end-file : {C : Type 0} (c : Cells C) (d : Discipline C) (b : ℕ) → d.termios.flags.icanon ≡ true → Entered c b d (end_file d)
unfolding end_file
end-file c d b edits = fewer (record {
  gone = [];
  is = sym (append-nil _ ∙ ready-cells d.input.ready d.input.current true);
  plain = λ p raw. never d.termios.flags.icanon edits raw;
})

end-line : {C : Type 0} (c : Cells C) (d : Discipline C) (b : ℕ) → d.termios.flags.icanon ≡ true → Entered c b d (end_line c d b)
unfolding end_line
end-line c d b edits =
    let ready = flat_map (λ line. line.cells) d.input.ready in
    whole (Entered c b d) c (record d { input = make_ready d.input (d.input.current ++ c.made b ∷ []) false }) (echo d.termios b)
    (λ o. one_more
    (ready-cells d.input.ready (d.input.current ++ c.made b ∷ []) false ∙ sym (append_assoc ready d.input.current (c.made b ∷ [])))
    (λ p raw. never d.termios.flags.icanon edits raw))

add-input : {C : Type 0} (c : Cells C) (d : Discipline C) (b : ℕ) → Entered c b d (add_byte c d b)
unfolding add_byte
add-input c d b =
    let ready = flat_map (λ line. line.cells) d.input.ready in
    whole (Entered c b d) c (record d { input = record { ready = d.input.ready; current = d.input.current ++ c.made b ∷ [] } }) (echo d.termios b)
    (λ o. one_more (sym (append_assoc ready d.input.current (c.made b ∷ []))) (λ p. p))

enter-input : {C : Type 0} (c : Cells C) (d : Discipline C) (b : ℕ) → Entered c b d (enter c d b)
enter-input c d b =
    let edits = d.termios.flags.icanon in
    let P = Entered c b d in
    choose P (edits && is_char d.termios.erase b) _ _ (λ is. erase-input c d b) (λ is.
    choose P (edits && is_char d.termios.kill b) _ _ (λ is. drop-input c d b) (λ is.
    choose P (is_full d) _ _ (λ is. fewer (same d)) (λ is.
    choose P (edits && is_char d.termios.eof b) _ _ (λ is. end-file c d b (first-holds edits _ is)) (λ is.
    choose P (edits && ((b == newline) || is_char d.termios.eol b)) _ _ (λ is. end-line c d b (first-holds edits _ is)) (λ is.
    choose P (is_long d) _ _ (λ is. fewer (same d)) (λ is. add-input c d b))))))

-- what becomes of the input where a byte comes in
pub data Cooked {C : Type 0} (c : Cells C) (b : ℕ) (old new : Discipline C) : Type 0 where
  none : Fewer old new → Cooked c b old new
  one : (read : ℕ) → read_as old.termios b ≡ Some read → all_cells new.input ≡ all_cells old.input ++ c.made read ∷ [] → (IsPlain old → IsPlain new)
      → Cooked c b old new

enter-as-input : {C : Type 0} (c : Cells C) (d : Discipline C) (b : ℕ) (o : Option ℕ) → read_as d.termios b ≡ o → Cooked c b d (enter_as c d o)
enter-as-input c d b None is = none (same d)
enter-as-input c d b (Some read) is = by_case (enter-input c d read)
  where
    by_case : Entered c read d (enter c d read) → Cooked c b d (enter c d read)
    by_case (fewer some) = none some
    by_case (one_more more plain) = one read is more plain

by-signal : {C : Type 0} (c : Cells C) (d : Discipline C) (b : ℕ) (o : Option Sig) → Cooked c b d (cook_by_case c d (strip d.termios b) o)
by-signal c d b None = enter-as-input c d b (translate d.termios (strip d.termios b)) refl
by-signal c d b (Some signal) = none (interrupt-input c d (strip d.termios b))

pub cook_input : {C : Type 0} (c : Cells C) (d : Discipline C) (b : ℕ) → Cooked c b d (cook c d b).0
unfolding cook
cook_input {C} c d b = by_case (is_flow d.termios (strip d.termios b))
  where
    signal : Option Sig
    signal = signal_of d.termios (strip d.termios b)

    by_case : (t : Bool)
        → Cooked c b d (cond {A = Discipline C × Option Sig} t (set_flow d (strip d.termios b), None) (cook_by_case c d (strip d.termios b) signal, signal)).0
    by_case true = none (record { gone = []; is = sym (append-nil _); plain = λ p. p })
    by_case false = by-signal c d b signal

-- ---- reads and other settings

-- the cells of the input are those that a read gives, and those that are left after it
pub record Reads {C : Type 0} (d : Discipline C) (max : ℕ) : Type 0 where
  pub is : all_cells d.input ≡ unwrap_or (read d max) [] ++ all_cells (after_read d max).input
  pub plain : IsPlain (after_read d max)

left-line : {C : Type 0} (t : Bool) (line : ReadyLine C) (lines : List (ReadyLine C)) (rest : List C) → has_none rest ≡ t
    → flat_map (λ l. l.cells) (cond t lines (record line { cells = rest } ∷ lines)) ≡ rest ++ flat_map (λ l. l.cells) lines
left-line true line lines [] is = refl
left-line true line lines (x ∷ xs) is = cc
left-line false line lines rest is = refl

ready-read : {C : Type 0} (ready : List (ReadyLine C)) (max : ℕ)
    → flat_map (λ l. l.cells) ready ≡ front_of max ready ++ flat_map (λ l. l.cells) (lines_after max ready)
ready-read [] max = refl
ready-read (line ∷ lines) max =
    let rest = flat_map (λ l. l.cells) lines in
    ap (λ xs. xs ++ rest) (sym (take-append-drop max line.cells))
    ∙ append_assoc (take max line.cells) (drop max line.cells) rest
    ∙ ap (λ xs. take max line.cells ++ xs) (sym (left-line (has_none (drop max line.cells)) line lines (drop max line.cells) refl))

plain-read : {C : Type 0} (ready : List (ReadyLine C)) (current : List C) (max : ℕ) → ready ≡ []
    → flat_map (λ l. l.cells) ready ++ current ≡ take max current ++ (flat_map (λ l. l.cells) ready ++ drop max current)
plain-read ready current max is = rw is (sym (take-append-drop max current))

pub read_input : {C : Type 0} (d : Discipline C) (max : ℕ) → IsPlain d → Reads d max
read_input {C} d max plain = by_wait (waits d max) refl
  where
    front_then : Bool → List C
    front_then t = cond t (front_of max d.input.ready) (take max d.input.current)

    after_then : Bool → Discipline C
    after_then t = record d {
      input = cond t (record { ready = lines_after max d.input.ready; current = d.input.current })
          (record { ready = d.input.ready; current = drop max d.input.current });
    }

    cells_then : (t : Bool) → d.termios.flags.icanon ≡ t → all_cells d.input ≡ front_then t ++ all_cells (after_then t).input
    cells_then true is =
        ap (λ xs. xs ++ d.input.current) (ready-read d.input.ready max)
        ∙ append_assoc (front_of max d.input.ready) (flat_map (λ l. l.cells) (lines_after max d.input.ready)) d.input.current
    cells_then false is = plain-read d.input.ready d.input.current max (plain is)

    plain_then : (t : Bool) → d.termios.flags.icanon ≡ t → IsPlain (after_then t)
    plain_then true is raw = never d.termios.flags.icanon is raw
    plain_then false is raw = plain is

    by_wait : (t : Bool) → waits d max ≡ t → Reads d max
    by_wait true is = record { is = rw is refl; plain = rw is plain }
    by_wait false is = record {
      is = rw is (cells_then d.termios.flags.icanon refl);
      plain = rw is (plain_then d.termios.flags.icanon refl);
    }

one-line : {C : Type 0} (cells : List C) → flat_map (λ l. l.cells) (as_line cells) ++ [] ≡ cells
one-line [] = refl
one-line (x ∷ xs) = append-nil _ ∙ append-nil (x ∷ xs)

turn-cells : {C : Type 0} (old new : Bool) (input : Input C) → all_cells (turn old new input) ≡ all_cells input
turn-cells true true input = refl
turn-cells true false input = refl
turn-cells false true input = one-line (all_cells input)
turn-cells false false input = refl

turn-plain : {C : Type 0} (old new : Bool) (input : Input C) → (old ≡ false → input.ready ≡ []) → new ≡ false → (turn old new input).ready ≡ []
turn-plain true true input plain raw = cc
turn-plain true false input plain raw = refl
turn-plain false true input plain raw = cc
turn-plain false false input plain raw = plain refl

pub retune_input : {C : Type 0} (d : Discipline C) (t : Termios) → Fewer d (retune d t)
unfolding retune
retune_input d t = record {
  gone = [];
  is = sym (append-nil _ ∙ turn-cells d.termios.flags.icanon t.flags.icanon d.input);
  plain = turn-plain d.termios.flags.icanon t.flags.icanon d.input;
}
