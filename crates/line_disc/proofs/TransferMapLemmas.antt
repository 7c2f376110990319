-- What is read, written and taken at a line, and its settings, are the same whatever the cells of its queues are.
use Rattle.std.proofs.Common.{◌≡◌, ℕ, zero, suc, ◌-◌, Bool, true, false, cond, List, [], ◌∷◌, ◌++◌, map, take, drop, min, refl, sym, ap, ap₂, ◌∙◌}
use Rattle.std.specs.Prelude.{not, ◌&&◌, nat_lt, Some, None, option_map}
use Rattle.std.specs.List.{flat_map}
use Rattle.std.proofs.lemmas.List.{length-map, map-append, drop-map}
use Rattle.sys_types.specs.declared.limits.TheConstants.{OUTPUT_BYTES}
use Rattle.termios_core.specs.declared.termios.Termios.{Termios}
use Rattle.line_disc.specs.Echo.{shown}
use Rattle.line_disc.specs.Discipline.{Cells, ReadyLine, Input, Discipline, all_cells, map_ready, map_input, map_discipline}
use Rattle.line_disc.specs.Transfers.{has_none, lines_after, front_of, waits, front, input_after, read, after_read, fit_count, put_count, put, output_front}
use Rattle.line_disc.specs.Transfers.{after_take, is_takeable, is_drained, as_line, turn, retune}
use Rattle.line_disc.proofs.MapLemmas.{made-map}

-- a choice
choose : {A B : Type 0} (f : A → B) (t : Bool) (x y : A) → f (cond t x y) ≡ cond t (f x) (f y)
choose f true x y = refl
choose f false x y = refl

take-map : {B C : Type 0} (f : B → C) (n : ℕ) (xs : List B) → map f (take n xs) ≡ take n (map f xs)
take-map f zero xs = refl
take-map f (suc n) [] = refl
take-map f (suc n) (x ∷ xs) = ap (λ ys. f x ∷ ys) (take-map f n xs)

pub has_none-map : {B C : Type 0} (f : B → C) (xs : List B) → has_none (map f xs) ≡ has_none xs
has_none-map f [] = refl
has_none-map f (x ∷ xs) = refl

rest_is_none : {B C : Type 0} (f : B → C) (n : ℕ) (xs : List B) → has_none (drop n (map f xs)) ≡ has_none (drop n xs)
rest_is_none f n xs = ap has_none (drop-map f n xs) ∙ has_none-map f (drop n xs)

-- the lines after a read, and what it gives
lines_after-map : {B C : Type 0} (f : B → C) (max : ℕ) (lines : List (ReadyLine B))
    → map (map_ready f) (lines_after max lines) ≡ lines_after max (map (map_ready f) lines)
lines_after-map f max [] = refl
lines_after-map {B} {C} f max (line ∷ lines) =
    choose (map (map_ready f)) (has_none (drop max line.cells)) lines (record line { cells = drop max line.cells } ∷ lines)
    ∙ ap₂
    (λ (t : Bool) (cells : List C). cond t (map (map_ready f) lines) (record { cells = cells; marked = line.marked } ∷ map (map_ready f) lines))
    (sym (rest_is_none f max line.cells)) (sym (drop-map f max line.cells))

front_of-map : {B C : Type 0} (f : B → C) (max : ℕ) (lines : List (ReadyLine B)) → map f (front_of max lines) ≡ front_of max (map (map_ready f) lines)
front_of-map f max [] = refl
front_of-map f max (line ∷ lines) = take-map f max line.cells

pub waits-map : {B C : Type 0} (f : B → C) (d : Discipline B) (max : ℕ) → waits (map_discipline f d) max ≡ waits d max
waits-map f d max =
    ap₂ (λ (t : Bool) (n : ℕ). cond d.termios.flags.icanon t (nat_lt n (min d.termios.min max)))
    (has_none-map (map_ready f) d.input.ready) (length-map d.input.current f)

pub front-map : {B C : Type 0} (f : B → C) (d : Discipline B) (max : ℕ) → map f (front d max) ≡ front (map_discipline f d) max
front-map f d max =
    choose (map f) d.termios.flags.icanon (front_of max d.input.ready) (take max d.input.current)
    ∙ ap₂ (λ xs ys. cond d.termios.flags.icanon xs ys) (front_of-map f max d.input.ready) (take-map f max d.input.current)

pub input_after-map : {B C : Type 0} (f : B → C) (d : Discipline B) (max : ℕ) → map_input f (input_after d max) ≡ input_after (map_discipline f d) max
input_after-map {B} {C} f d max =
    choose (map_input f) d.termios.flags.icanon (record { ready = lines_after max d.input.ready; current = d.input.current })
    (record { ready = d.input.ready; current = drop max d.input.current })
    ∙ ap₂
    (λ (ready : List (ReadyLine C)) (current : List C). cond d.termios.flags.icanon
    (record { ready = ready; current = map f d.input.current }) (record { ready = map (map_ready f) d.input.ready; current = current }))
    (lines_after-map f max d.input.ready) (sym (drop-map f max d.input.current))

pub read-map : {B C : Type 0} (f : B → C) (d : Discipline B) (max : ℕ) → option_map (map f) (read d max) ≡ read (map_discipline f d) max
read-map f d max =
    choose (option_map (map f)) (waits d max) None (Some (front d max))
    ∙ ap₂ (λ t xs. cond t None (Some xs)) (sym (waits-map f d max)) (front-map f d max)

pub after_read-map : {B C : Type 0} (f : B → C) (d : Discipline B) (max : ℕ) → map_discipline f (after_read d max) ≡ after_read (map_discipline f d) max
after_read-map {B} {C} f d max =
    choose (map_discipline f) (waits d max) d (record d { input = input_after d max })
    ∙ ap₂ (λ (t : Bool) (i : Input C). cond t (map_discipline f d) (record (map_discipline f d) { input = i }))
    (sym (waits-map f d max)) (input_after-map f d max)

-- what is written
pub put_count-map : {B C : Type 0} (f : B → C) (d : Discipline B) (bytes : List ℕ) → put_count (map_discipline f d) bytes ≡ put_count d bytes
put_count-map f d bytes = ap (λ n. fit_count d.termios (OUTPUT_BYTES - n) bytes) (length-map d.output f)

pub put-map : {B C : Type 0} (b : Cells B) (c : Cells C) (f : B → C) → ((x : B) → c.byte (f x) ≡ b.byte x) → ((n : ℕ) → f (b.made n) ≡ c.made n)
    → (d : Discipline B) (bytes : List ℕ) → map_discipline f (put b d bytes) ≡ put c (map_discipline f d) bytes
unfolding put
put-map {B} {C} b c f byte made d bytes =
    ap (λ (o : List C). record (map_discipline f d) { output = o })
    (map-append f d.output (map b.made (shown d.termios (take (put_count d bytes) bytes)))
    ∙ ap (λ xs. map f d.output ++ xs)
    (made-map b c f byte made (shown d.termios (take (put_count d bytes) bytes))
    ∙ ap (λ n. map c.made (shown d.termios (take n bytes))) (sym (put_count-map f d bytes))))

-- what is taken
pub output_front-map : {B C : Type 0} (f : B → C) (d : Discipline B) (max : ℕ) → map f (output_front d max) ≡ output_front (map_discipline f d) max
output_front-map f d max = choose (map f) d.stopped [] (take max d.output) ∙ ap (λ xs. cond d.stopped [] xs) (take-map f max d.output)

pub after_take-map : {B C : Type 0} (f : B → C) (d : Discipline B) (max : ℕ) → map_discipline f (after_take d max) ≡ after_take (map_discipline f d) max
after_take-map {B} {C} f d max =
    choose (map_discipline f) d.stopped d (record d { output = drop max d.output })
    ∙ ap (λ (o : List C). cond d.stopped (map_discipline f d) (record (map_discipline f d) { output = o })) (sym (drop-map f max d.output))

pub is_takeable-map : {B C : Type 0} (f : B → C) (d : Discipline B) → is_takeable (map_discipline f d) ≡ is_takeable d
is_takeable-map f d = ap (λ t. not d.stopped && not t) (has_none-map f d.output)

pub is_drained-map : {B C : Type 0} (f : B → C) (d : Discipline B) → is_drained (map_discipline f d) ≡ is_drained d
is_drained-map f d = has_none-map f d.output

-- other settings
ready_cells-map : {B C : Type 0} (f : B → C) (lines : List (ReadyLine B))
    → map f (flat_map (λ line. line.cells) lines) ≡ flat_map (λ line. line.cells) (map (map_ready f) lines)
ready_cells-map f [] = refl
ready_cells-map f (line ∷ lines) =
    map-append f line.cells (flat_map (λ l. l.cells) lines) ∙ ap (λ xs. map f line.cells ++ xs) (ready_cells-map f lines)

pub all_cells-map : {B C : Type 0} (f : B → C) (input : Input B) → map f (all_cells input) ≡ all_cells (map_input f input)
all_cells-map f input =
    map-append f (flat_map (λ l. l.cells) input.ready) input.current ∙ ap (λ xs. xs ++ map f input.current) (ready_cells-map f input.ready)

as_line-map : {B C : Type 0} (f : B → C) (cells : List B) → map (map_ready f) (as_line cells) ≡ as_line (map f cells)
as_line-map f [] = refl
as_line-map f (cell ∷ cells) = refl

pub turn-map : {B C : Type 0} (f : B → C) (old new : Bool) (input : Input B) → map_input f (turn old new input) ≡ turn old new (map_input f input)
turn-map f true true input = refl
turn-map f false false input = refl
turn-map {B} {C} f true false input = ap (λ (cells : List C). record { ready = []; current = cells }) (all_cells-map f input)
turn-map {B} {C} f false true input =
    ap (λ (ready : List (ReadyLine C)). record { ready = ready; current = [] }) (as_line-map f (all_cells input) ∙ ap as_line (all_cells-map f input))

pub retune-map : {B C : Type 0} (f : B → C) (d : Discipline B) (t : Termios) → map_discipline f (retune d t) ≡ retune (map_discipline f d) t
unfolding retune
retune-map {B} {C} f d t =
    ap (λ (i : Input C). record (map_discipline f d) { termios = t; input = i }) (turn-map f d.termios.flags.icanon t.flags.icanon d.input)
