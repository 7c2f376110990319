-- What a byte does at a line is the same whatever the cells of its queues are: it goes before a change of every cell as after it. So it is with cells
-- that tell from which event a byte came and with bytes alone.
use Rattle.std.proofs.Common.{◌≡◌, ℕ, ◌+◌, Bool, true, false, cond, List, [], ◌∷◌, ◌++◌, length, map, refl, sym, ap, ap₂, ◌∙◌}
use Rattle.std.specs.Prelude.{not, ◌&&◌, ◌||◌, ◌==◌, reverse, nat_le, sum_by, if◌then◌else◌, Option, Some, None}
use Rattle.std.proofs.lemmas.List.{length-map, map-append, reverse-append}
use Rattle.std.proofs.lemmas.List.Sums.{sum_by-cons}
use Rattle.sys_types.specs.declared.limits.TheConstants.{INPUT_PLACES, READY_LINE_BYTES, OUTPUT_BYTES}
use Rattle.sys_types.specs.declared.sig.Sig.{Sig}
use Rattle.line_disc.specs.Echo.{newline, is_char, shown, echo, erase_echo, drop_line_echo}
use Rattle.line_disc.specs.Discipline.{Cells, ReadyLine, Input, Discipline, no_input, line_places, places, map_ready, map_input, map_discipline}
use Rattle.line_disc.specs.Cook.{put_whole, strip, is_flow, set_flow, signal_of, flush, interrupt, translate, erase_last, erase, drop_line, is_full, make_ready}
use Rattle.line_disc.specs.Cook.{end_file, end_line, is_long, add_byte, enter, enter_as, cook_by_case, cook}

-- a choice of two lines
chosen : {B C : Type 0} (f : B → C) (t u : Bool) (x y : Discipline B) (v w : Discipline C) → t ≡ u → map_discipline f x ≡ v → map_discipline f y ≡ w
    → map_discipline f (cond t x y) ≡ cond u v w
chosen f true u x y v w same first second = first ∙ ap (λ t. cond t v w) same
chosen f false u x y v w same first second = second ∙ ap (λ t. cond t v w) same

-- and of two lines with something beside each
chosen_first : {B C S : Type 0} (f : B → C) (t : Bool) (x y : Discipline B) (v w : Discipline C) (r s : S) → map_discipline f x ≡ v → map_discipline f y ≡ w
    → map_discipline f (cond {A = Discipline B × S} t (x, r) (y, s)).0 ≡ (cond {A = Discipline C × S} t (v, r) (w, s)).0
chosen_first f true x y v w r s first second = first
chosen_first f false x y v w r s first second = second

chosen_second : {B C S : Type 0} (t : Bool) (x y : B) (v w : C) (r s : S) → (cond {A = B × S} t (x, r) (y, s)).1 ≡ (cond {A = C × S} t (v, r) (w, s)).1
chosen_second true x y v w r s = refl
chosen_second false x y v w r s = refl

pub map-reverse : {B C : Type 0} (f : B → C) (xs : List B) → map f (reverse xs) ≡ reverse (map f xs)
map-reverse f [] = refl
map-reverse f (x ∷ xs) =
    ap (map f) (reverse-append (x ∷ []) xs) ∙ map-append f (reverse xs) (x ∷ []) ∙ ap (λ ys. ys ++ f x ∷ []) (map-reverse f xs)
    ∙ sym (reverse-append (f x ∷ []) (map f xs))

-- how many places the input takes
line_places-map : {B C : Type 0} (f : B → C) (line : ReadyLine B) → line_places (map_ready f line) ≡ line_places line
line_places-map f line = ap (λ n. n + (if line.marked then 1 else 0)) (length-map line.cells f)

ready_places-map : {B C : Type 0} (f : B → C) (lines : List (ReadyLine B)) → sum_by line_places (map (map_ready f) lines) ≡ sum_by line_places lines
ready_places-map f [] = refl
ready_places-map f (line ∷ lines) =
    sum_by-cons line_places (map_ready f line) (map (map_ready f) lines) ∙ ap₂ (λ m n. m + n) (line_places-map f line) (ready_places-map f lines)
    ∙ sym (sum_by-cons line_places line lines)

pub places-map : {B C : Type 0} (f : B → C) (input : Input B) → places (map_input f input) ≡ places input
places-map f input = ap₂ (λ m n. m + n) (ready_places-map f input.ready) (length-map input.current f)

pub is_full-map : {B C : Type 0} (f : B → C) (d : Discipline B) → is_full (map_discipline f d) ≡ is_full d
is_full-map f d = ap (nat_le INPUT_PLACES) (places-map f d.input)

pub is_long-map : {B C : Type 0} (f : B → C) (d : Discipline B) → is_long (map_discipline f d) ≡ is_long d
is_long-map f d = ap (λ n. d.termios.flags.icanon && nat_le READY_LINE_BYTES n) (length-map d.input.current f)

-- the queues are emptied
flush_input-map : {B C : Type 0} (f : B → C) (t : Bool) (input : Input B) → map_input f (cond t no_input input) ≡ cond t no_input (map_input f input)
flush_input-map f true input = refl
flush_input-map f false input = refl

flush_output-map : {B C : Type 0} (f : B → C) (t : Bool) (output : List B) → map f (cond t [] output) ≡ cond t [] (map f output)
flush_output-map f true output = refl
flush_output-map f false output = refl

pub flush-map : {B C : Type 0} (f : B → C) (d : Discipline B) (input output : Bool)
    → map_discipline f (flush d input output) ≡ flush (map_discipline f d) input output
flush-map {B} {C} f d input output =
    ap₂ (λ (i : Input C) (o : List C). record { termios = d.termios; input = i; output = o; stopped = d.stopped })
    (flush_input-map f input d.input) (flush_output-map f output d.output)

-- the current line is ready
make_ready-map : {B C : Type 0} (f : B → C) (input : Input B) (cells : List B) (marked : Bool)
    → map_input f (make_ready input cells marked) ≡ make_ready (map_input f input) (map f cells) marked
make_ready-map {B} {C} f input cells marked =
    ap (λ (ready : List (ReadyLine C)). record { ready = ready; current = [] })
    (map-append (map_ready f) input.ready (record { cells = cells; marked = marked } ∷ []))

pub end_file-map : {B C : Type 0} (f : B → C) (d : Discipline B) → map_discipline f (end_file d) ≡ end_file (map_discipline f d)
unfolding end_file
end_file-map {B} {C} f d = ap (λ (i : Input C). record (map_discipline f d) { input = i }) (make_ready-map f d.input d.input.current true)

-- each case of a byte with those behind it
abbrev from_9 : {C : Type 0} → Cells C → Discipline C → ℕ → Discipline C
from_9 c d b = if is_long d then d else add_byte c d b

abbrev from_8 : {C : Type 0} → Cells C → Discipline C → ℕ → Discipline C
from_8 c d b = if d.termios.flags.icanon && ((b == newline) || is_char d.termios.eol b) then end_line c d b else from_9 c d b

abbrev from_7 : {C : Type 0} → Cells C → Discipline C → ℕ → Discipline C
from_7 c d b = if d.termios.flags.icanon && is_char d.termios.eof b then end_file d else from_8 c d b

abbrev from_6 : {C : Type 0} → Cells C → Discipline C → ℕ → Discipline C
from_6 c d b = if is_full d then d else from_7 c d b

abbrev from_5 : {C : Type 0} → Cells C → Discipline C → ℕ → Discipline C
from_5 c d b = if d.termios.flags.icanon && is_char d.termios.kill b then drop_line c d b else from_6 c d b

-- A change that makes cells of bytes and bytes of cells as before: what a byte does.
module _ {B C : Type 0} (b : Cells B) (c : Cells C) (f : B → C) (byte : (x : B) → c.byte (f x) ≡ b.byte x) (made : (n : ℕ) → f (b.made n) ≡ c.made n) where
  pub made-map : (bytes : List ℕ) → map f (map b.made bytes) ≡ map c.made bytes
  made-map [] = refl
  made-map (n ∷ bytes) = ap₂ (λ x xs. x ∷ xs) (made n) (made-map bytes)

  pub put_whole-map : (d : Discipline B) (out : List ℕ) → map_discipline f (put_whole b d out) ≡ put_whole c (map_discipline f d) out
  put_whole-map d out =
      let test = ap (λ n. nat_le (n + length (shown d.termios out)) OUTPUT_BYTES) (sym (length-map d.output f)) in
      let more = map-append f d.output (map b.made (shown d.termios out)) ∙ ap (λ xs. map f d.output ++ xs) (made-map (shown d.termios out)) in
      chosen f _ _ (record d { output = d.output ++ map b.made (shown d.termios out) }) d _ _ test
      (ap (λ (o : List C). record (map_discipline f d) { output = o }) more) refl

  -- a line with this input, of which an echo is put out
  echo_after : (d : Discipline B) (i : Input B) (j : Input C) (out : List ℕ) → map_input f i ≡ j
      → map_discipline f (put_whole b (record d { input = i }) out) ≡ put_whole c (record (map_discipline f d) { input = j }) out
  echo_after d i j out same =
      put_whole-map (record d { input = i }) out ∙ ap (λ (k : Input C). put_whole c (record (map_discipline f d) { input = k }) out) same

  pub interrupt-map : (d : Discipline B) (n : ℕ) → map_discipline f (interrupt b d n) ≡ interrupt c (map_discipline f d) n
  unfolding interrupt
  interrupt-map d n =
      let empties = not d.termios.flags.noflsh in
      put_whole-map (flush d empties empties) (echo d.termios n) ∙ ap (λ (e : Discipline C). put_whole c e (echo d.termios n)) (flush-map f d empties empties)

  erase_last-map : (d : Discipline B) (n : ℕ) (cells : List B) → map_discipline f (erase_last b d n cells) ≡ erase_last c (map_discipline f d) n (map f cells)
  erase_last-map d n [] = refl
  erase_last-map d n (last ∷ before) =
      put_whole-map (record d { input = record { ready = d.input.ready; current = reverse before } }) (erase_echo d.termios n (b.byte last))
      ∙ ap₂
      (λ (xs : List C) (m : ℕ). put_whole c
      (record (map_discipline f d) { input = record { ready = map (map_ready f) d.input.ready; current = xs } })
      (erase_echo d.termios n m)) (map-reverse f before) (sym (byte last))

  pub erase-map : (d : Discipline B) (n : ℕ) → map_discipline f (erase b d n) ≡ erase c (map_discipline f d) n
  unfolding erase
  erase-map d n = erase_last-map d n (reverse d.input.current) ∙ ap (erase_last c (map_discipline f d) n) (map-reverse f d.input.current)

  pub drop_line-map : (d : Discipline B) (n : ℕ) → map_discipline f (drop_line b d n) ≡ drop_line c (map_discipline f d) n
  unfolding drop_line
  drop_line-map d n = put_whole-map (record d { input = record { ready = d.input.ready; current = [] } }) (drop_line_echo d.termios n)

  -- the current line with one more byte
  current-map : (cells : List B) (n : ℕ) → map f (cells ++ b.made n ∷ []) ≡ map f cells ++ c.made n ∷ []
  current-map cells n = map-append f cells (b.made n ∷ []) ∙ ap (λ x. map f cells ++ x ∷ []) (made n)

  pub end_line-map : (d : Discipline B) (n : ℕ) → map_discipline f (end_line b d n) ≡ end_line c (map_discipline f d) n
  unfolding end_line
  end_line-map d n =
      echo_after d (make_ready d.input (d.input.current ++ b.made n ∷ []) false)
      (make_ready (map_input f d.input) (map f d.input.current ++ c.made n ∷ []) false) (echo d.termios n)
      (make_ready-map f d.input (d.input.current ++ b.made n ∷ []) false
      ∙ ap (λ cells. make_ready (map_input f d.input) cells false) (current-map d.input.current n))

  pub add_byte-map : (d : Discipline B) (n : ℕ) → map_discipline f (add_byte b d n) ≡ add_byte c (map_discipline f d) n
  unfolding add_byte
  add_byte-map d n =
      echo_after d (record { ready = d.input.ready; current = d.input.current ++ b.made n ∷ [] })
      (record { ready = map (map_ready f) d.input.ready; current = map f d.input.current ++ c.made n ∷ [] }) (echo d.termios n)
      (ap (λ (cells : List C). record { ready = map (map_ready f) d.input.ready; current = cells }) (current-map d.input.current n))

  -- each case with those behind it, from the last
  from_9-map : (d : Discipline B) (n : ℕ) → map_discipline f (from_9 b d n) ≡ from_9 c (map_discipline f d) n
  from_9-map d n = chosen f _ _ d (add_byte b d n) _ _ (sym (is_long-map f d)) refl (add_byte-map d n)

  from_8-map : (d : Discipline B) (n : ℕ) → map_discipline f (from_8 b d n) ≡ from_8 c (map_discipline f d) n
  from_8-map d n = chosen f _ _ (end_line b d n) (from_9 b d n) _ _ refl (end_line-map d n) (from_9-map d n)

  from_7-map : (d : Discipline B) (n : ℕ) → map_discipline f (from_7 b d n) ≡ from_7 c (map_discipline f d) n
  from_7-map d n = chosen f _ _ (end_file d) (from_8 b d n) _ _ refl (end_file-map f d) (from_8-map d n)

  from_6-map : (d : Discipline B) (n : ℕ) → map_discipline f (from_6 b d n) ≡ from_6 c (map_discipline f d) n
  from_6-map d n = chosen f _ _ d (from_7 b d n) _ _ (sym (is_full-map f d)) refl (from_7-map d n)

  from_5-map : (d : Discipline B) (n : ℕ) → map_discipline f (from_5 b d n) ≡ from_5 c (map_discipline f d) n
  from_5-map d n = chosen f _ _ (drop_line b d n) (from_6 b d n) _ _ refl (drop_line-map d n) (from_6-map d n)

  pub enter-map : (d : Discipline B) (n : ℕ) → map_discipline f (enter b d n) ≡ enter c (map_discipline f d) n
  enter-map d n = chosen f _ _ (erase b d n) (from_5 b d n) _ _ refl (erase-map d n) (from_5-map d n)

  pub enter_as-map : (d : Discipline B) (n : Option ℕ) → map_discipline f (enter_as b d n) ≡ enter_as c (map_discipline f d) n
  enter_as-map d None = refl
  enter_as-map d (Some n) = enter-map d n

  pub cook_by_case-map : (d : Discipline B) (n : ℕ) (signal : Option Sig)
      → map_discipline f (cook_by_case b d n signal) ≡ cook_by_case c (map_discipline f d) n signal
  cook_by_case-map d n None = enter_as-map d (translate d.termios n)
  cook_by_case-map d n (Some signal) = interrupt-map d n

  -- what a byte makes of the line, and the signal that it sends
  pub cook-map : (d : Discipline B) (n : ℕ) → map_discipline f (cook b d n).0 ≡ (cook c (map_discipline f d) n).0
  unfolding cook
  cook-map d n =
      let cut = strip d.termios n in
      chosen_first f (is_flow d.termios cut) (set_flow d cut) (cook_by_case b d cut (signal_of d.termios cut)) _ _ None (signal_of d.termios cut) refl
      (cook_by_case-map d cut (signal_of d.termios cut))

  pub cook_signal-map : (d : Discipline B) (n : ℕ) → (cook b d n).1 ≡ (cook c (map_discipline f d) n).1
  unfolding cook
  cook_signal-map d n =
      let cut = strip d.termios n in
      chosen_second (is_flow d.termios cut) (set_flow d cut) (cook_by_case b d cut (signal_of d.termios cut)) (set_flow (map_discipline f d) cut)
      (cook_by_case c (map_discipline f d) cut (signal_of d.termios cut)) None (signal_of d.termios cut)
