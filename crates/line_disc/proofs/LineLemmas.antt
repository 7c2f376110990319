-- The lines that places hold.
use Rattle.std.proofs.Common.{◌≡◌, ℕ, zero, suc, ◌+◌, ◌-◌, ◌<◌, ◌≤◌, Bool, true, false, List, [], ◌∷◌, ◌++◌, length, take, drop, sym, refl, ap, ◌∙◌, arith}
use Rattle.std.proofs.Common.{append_assoc, append-nil}
use Rattle.std.proofs.lemmas.List.Sums.{sum_by-cons}
use Rattle.std.specs.Prelude.{◌↔◌, if◌then◌else◌, option_to_list, Option, Some, None}
use Rattle.std.specs.List.{zip}
use Rattle.line_disc.specs.Discipline.{ReadyLine, Input, no_input, places, line_places, all_cells}
use Rattle.line_disc.specs.Transfers.{has_none, front_of, lines_after, as_line}
use Rattle.line_disc.specs.declared.place.PlaceKind.{PlaceKind}
use Rattle.line_disc.specs.declared.place.PlaceKind.TheVariants.{Byte, LineEnd, FileEnd}
use Rattle.line_disc.specs.Places.{with_front, with_place, with_back, lines_of, is_byte, all_bytes, current_places, current_behind, walk, begins_with_mark}

-- places with one more behind
pub zip_push : (ks : List PlaceKind) (bs : List ℕ) (k : PlaceKind) (b : ℕ) → length ks ≡ length bs
    → zip (ks ++ k ∷ []) (bs ++ b ∷ []) ≡ zip ks bs ++ (k, b) ∷ []
zip_push [] [] k b same = refl
zip_push [] (x ∷ bs) k b same = absurd (omega (arith, same))
zip_push (x ∷ ks) [] k b same = absurd (omega (arith, same))
zip_push (x ∷ ks) (y ∷ bs) k b same = ap (λ (ps : List (PlaceKind × ℕ)). (x, y) ∷ ps) (zip_push ks bs k b (omega (arith, same)))

-- a place in front and one behind may be taken in either order
with_place_back : (p k : PlaceKind) (x b : ℕ) (ready : List (ReadyLine ℕ)) (current : List ℕ)
    → with_place p x (with_back k b (record { ready = ready; current = current }))
    ≡ with_back k b (with_place p x (record { ready = ready; current = current }))
with_place_back Byte Byte x b [] current = refl
with_place_back Byte Byte x b (line ∷ lines) current = refl
with_place_back Byte LineEnd x b [] current = refl
with_place_back Byte LineEnd x b (line ∷ lines) current = refl
with_place_back Byte FileEnd x b [] current = refl
with_place_back Byte FileEnd x b (line ∷ lines) current = refl
with_place_back LineEnd Byte x b ready current = refl
with_place_back LineEnd LineEnd x b ready current = refl
with_place_back LineEnd FileEnd x b ready current = refl
with_place_back FileEnd Byte x b ready current = refl
with_place_back FileEnd LineEnd x b ready current = refl
with_place_back FileEnd FileEnd x b ready current = refl

first_place : (k : PlaceKind) (b : ℕ) → with_place k b no_input ≡ with_back k b no_input
first_place Byte b = refl
first_place LineEnd b = refl
first_place FileEnd b = refl

-- the lines of places with one more behind
pub lines_of-push : (ps : List (PlaceKind × ℕ)) (k : PlaceKind) (b : ℕ) → lines_of (ps ++ (k, b) ∷ []) ≡ with_back k b (lines_of ps)
lines_of-push [] k b = first_place k b
lines_of-push (p ∷ ps) k b =
    ap (with_place p.0 p.1) (lines_of-push ps k b) ∙ with_place_back p.0 k p.1 b (lines_of ps).ready (lines_of ps).current

-- where each place holds a byte of no ready line, all is the current line
pub lines_of-bytes : (ks : List PlaceKind) (bs : List ℕ) → length ks ≡ length bs → all_bytes ks ≡ true
    → lines_of (zip ks bs) ≡ record { ready = []; current = bs }
lines_of-bytes [] [] same all = refl
lines_of-bytes [] (b ∷ bs) same all = absurd (omega (arith, same))
lines_of-bytes (k ∷ ks) [] same all = absurd (omega (arith, same))
lines_of-bytes (Byte ∷ ks) (b ∷ bs) same all =
    ap (λ (i : Input ℕ). with_front b i.ready i.current) (lines_of-bytes ks bs (omega (arith, same)) all)
lines_of-bytes (LineEnd ∷ ks) (b ∷ bs) same all = cc
lines_of-bytes (FileEnd ∷ ks) (b ∷ bs) same all = cc

-- a byte in front leaves whether a line is ready
has_none-front : (b : ℕ) (ready : List (ReadyLine ℕ)) (current : List ℕ) → has_none (with_front b ready current).ready ≡ has_none ready
has_none-front b [] current = refl
has_none-front b (line ∷ lines) current = refl

-- it joins the current line where no line is ready
current-front : (b : ℕ) (ready : List (ReadyLine ℕ)) (current : List ℕ)
    → (with_front b ready current).current ≡ (if has_none ready then b ∷ current else current)
current-front b [] current = refl
current-front b (line ∷ lines) current = refl

-- a line is ready where not every place holds a byte of the current one
pub has_none-lines_of : (ks : List PlaceKind) (bs : List ℕ) → length ks ≡ length bs → has_none (lines_of (zip ks bs)).ready ≡ all_bytes ks
has_none-lines_of [] [] same = refl
has_none-lines_of [] (b ∷ bs) same = absurd (omega (arith, same))
has_none-lines_of (k ∷ ks) [] same = absurd (omega (arith, same))
has_none-lines_of (Byte ∷ ks) (b ∷ bs) same =
    has_none-front b (lines_of (zip ks bs)).ready (lines_of (zip ks bs)).current ∙ has_none-lines_of ks bs (omega (arith, same))
has_none-lines_of (LineEnd ∷ ks) (b ∷ bs) same = refl
has_none-lines_of (FileEnd ∷ ks) (b ∷ bs) same = refl

one_more_where : (test : Bool) (b n : ℕ) (bs : List ℕ) → length bs ≡ n → length (if test then b ∷ bs else bs) ≡ (if test then n + 1 else n)
one_more_where true b n bs same = omega (arith, same)
one_more_where false b n bs same = same

-- the current line has as many bytes as places
pub length-current : (ks : List PlaceKind) (bs : List ℕ) → length ks ≡ length bs → length (lines_of (zip ks bs)).current ≡ current_places ks
length-current [] [] same = refl
length-current [] (b ∷ bs) same = absurd (omega (arith, same))
length-current (k ∷ ks) [] same = absurd (omega (arith, same))
length-current (Byte ∷ ks) (b ∷ bs) same =
    let inner : length ks ≡ length bs = omega (arith, same) in
    ap length (current-front b (lines_of (zip ks bs)).ready (lines_of (zip ks bs)).current)
    ∙ ap (λ (test : Bool). length (if test then b ∷ (lines_of (zip ks bs)).current else (lines_of (zip ks bs)).current)) (has_none-lines_of ks bs inner)
    ∙ one_more_where (all_bytes ks) b (current_places ks) (lines_of (zip ks bs)).current (length-current ks bs inner)
length-current (LineEnd ∷ ks) (b ∷ bs) same = length-current ks bs (omega (arith, same))
length-current (FileEnd ∷ ks) (b ∷ bs) same = length-current ks bs (omega (arith, same))

-- each place is one place of a line
places-with_place : (k : PlaceKind) (b : ℕ) (ready : List (ReadyLine ℕ)) (current : List ℕ)
    → places (with_place k b (record { ready = ready; current = current })) ≡ places (record { ready = ready; current = current }) + 1
places-with_place Byte b [] current = omega arith
places-with_place Byte b (line ∷ lines) current =
    let grown : ReadyLine ℕ = record { cells = b ∷ line.cells; marked = line.marked } in
    omega (arith, sum_by-cons (line_places {C = ℕ}) line lines, sum_by-cons (line_places {C = ℕ}) grown lines)
places-with_place LineEnd b ready current =
    let made : ReadyLine ℕ = record { cells = b ∷ []; marked = false } in omega (arith, sum_by-cons (line_places {C = ℕ}) made ready)
places-with_place FileEnd b ready current =
    let made : ReadyLine ℕ = record { cells = []; marked = true } in omega (arith, sum_by-cons (line_places {C = ℕ}) made ready)

pub places-lines_of : (ps : List (PlaceKind × ℕ)) → places (lines_of ps) ≡ length ps
places-lines_of [] = refl
places-lines_of (p ∷ ps) = omega (arith, places-with_place p.0 p.1 (lines_of ps).ready (lines_of ps).current, places-lines_of ps)

-- Places of a current line.

pub all_bytes-push : (ks : List PlaceKind) (k : PlaceKind) → all_bytes (ks ++ k ∷ []) ≡ (if is_byte k then all_bytes ks else false)
all_bytes-push [] Byte = refl
all_bytes-push [] LineEnd = refl
all_bytes-push [] FileEnd = refl
all_bytes-push (Byte ∷ ks) k = all_bytes-push ks k
all_bytes-push (LineEnd ∷ ks) Byte = refl
all_bytes-push (LineEnd ∷ ks) LineEnd = refl
all_bytes-push (LineEnd ∷ ks) FileEnd = refl
all_bytes-push (FileEnd ∷ ks) Byte = refl
all_bytes-push (FileEnd ∷ ks) LineEnd = refl
all_bytes-push (FileEnd ∷ ks) FileEnd = refl

two_more_where : (test : Bool) (n m : ℕ) → m ≡ n + 1 → (if test then m + 1 else m) ≡ (if test then n + 1 else n) + 1
two_more_where true n m same = omega (arith, same)
two_more_where false n m same = same

pub current_places-push : (ks : List PlaceKind) (k : PlaceKind) → current_places (ks ++ k ∷ []) ≡ current_behind k (current_places ks)
current_places-push [] Byte = refl
current_places-push [] LineEnd = refl
current_places-push [] FileEnd = refl
current_places-push (Byte ∷ ks) Byte =
    ap (λ (test : Bool). if test then current_places (ks ++ Byte ∷ []) + 1 else current_places (ks ++ Byte ∷ [])) (all_bytes-push ks Byte)
    ∙ two_more_where (all_bytes ks) (current_places ks) (current_places (ks ++ Byte ∷ [])) (current_places-push ks Byte)
current_places-push (Byte ∷ ks) LineEnd =
    ap (λ (test : Bool). if test then current_places (ks ++ LineEnd ∷ []) + 1 else current_places (ks ++ LineEnd ∷ [])) (all_bytes-push ks LineEnd)
    ∙ current_places-push ks LineEnd
current_places-push (Byte ∷ ks) FileEnd =
    ap (λ (test : Bool). if test then current_places (ks ++ FileEnd ∷ []) + 1 else current_places (ks ++ FileEnd ∷ [])) (all_bytes-push ks FileEnd)
    ∙ current_places-push ks FileEnd
current_places-push (LineEnd ∷ ks) k = current_places-push ks k
current_places-push (FileEnd ∷ ks) k = current_places-push ks k

pub current_places-all : (ks : List PlaceKind) → all_bytes ks ≡ true → current_places ks ≡ length ks
current_places-all [] all = refl
current_places-all (Byte ∷ ks) all = rw all (omega (arith, current_places-all ks all))
current_places-all (LineEnd ∷ ks) all = cc
current_places-all (FileEnd ∷ ks) all = cc

at_most_where : (test : Bool) (n m : ℕ) → n ≤ m → (if test then n + 1 else n) ≤ m + 1
at_most_where true n m h = omega (arith, h)
at_most_where false n m h = omega (arith, h)

pub current_places-le : (ks : List PlaceKind) → current_places ks ≤ length ks
current_places-le [] = omega arith
current_places-le (Byte ∷ ks) = let h = at_most_where (all_bytes ks) (current_places ks) (length ks) (current_places-le ks) in omega (arith, h)
current_places-le (LineEnd ∷ ks) = omega (arith, current_places-le ks)
current_places-le (FileEnd ∷ ks) = omega (arith, current_places-le ks)

pub current_places-less : (ks : List PlaceKind) → all_bytes ks ≡ false → current_places ks < length ks
current_places-less [] all = cc
current_places-less (Byte ∷ ks) all = rw all (omega (arith, current_places-less ks all))
current_places-less (LineEnd ∷ ks) all = omega (arith, current_places-le ks)
current_places-less (FileEnd ∷ ks) all = omega (arith, current_places-le ks)

tail_where : (test : Bool) (n : ℕ) → n ≡ (if test then (if test then n + 1 else n) - 1 else (if test then n + 1 else n))
tail_where true n = omega arith
tail_where false n = refl

-- without its first place, a current line that had all places has one less
pub current_places-tail : (k : PlaceKind) (ks : List PlaceKind)
    → current_places ks ≡ (if all_bytes (k ∷ ks) then current_places (k ∷ ks) - 1 else current_places (k ∷ ks))
current_places-tail Byte ks = tail_where (all_bytes ks) (current_places ks)
current_places-tail LineEnd ks = refl
current_places-tail FileEnd ks = refl

-- What is read.

take_none : (n : ℕ) → take n (let none : List ℕ = [] in none) ≡ []
take_none zero = refl
take_none (suc n) = refl

drop_none : (n : ℕ) → drop n (let none : List ℕ = [] in none) ≡ []
drop_none zero = refl
drop_none (suc n) = refl

-- a byte in front of ready lines is read first
front_read : (b n : ℕ) (ready : List (ReadyLine ℕ)) (current : List ℕ) → has_none ready ≡ false
    → (front_of (suc n) (with_front b ready current).ready ≡ b ∷ front_of n ready)
    × (lines_after (suc n) (with_front b ready current).ready ≡ lines_after n ready)
    × ((with_front b ready current).current ≡ current)
front_read b n [] current some = cc
front_read b n (line ∷ lines) current some = (refl, refl, refl)

-- a read of nothing leaves a line that has a byte
front_left : (b : ℕ) (ready : List (ReadyLine ℕ)) (current : List ℕ) → has_none ready ≡ false
    → (front_of zero (with_front b ready current).ready ≡ []) × ((with_front b ready current).ready ≡ lines_after zero (with_front b ready current).ready)
front_left b [] current some = cc
front_left b (line ∷ lines) current some = (refl, refl)

-- what a read of a ready line gives and leaves
pub record ReadsLine (input : Input ℕ) (max : ℕ) (cells : List ℕ) (rest : Input ℕ) : Type 0 where
  pub front_is : cells ≡ front_of max input.ready
  pub ready_is : rest.ready ≡ lines_after max input.ready
  pub current_is : rest.current ≡ input.current

pub walk_line : (ps : List (PlaceKind × ℕ)) (max : ℕ) → has_none (lines_of ps).ready ≡ false
    → ReadsLine (lines_of ps) max (walk max ps).0 (lines_of (walk max ps).1)
walk_line [] max some = cc
walk_line ((FileEnd, b) ∷ ps) zero some = record { front_is = refl; ready_is = refl; current_is = refl }
walk_line ((FileEnd, b) ∷ ps) (suc n) some = record { front_is = refl; ready_is = refl; current_is = refl }
walk_line ((LineEnd, b) ∷ ps) zero some = record { front_is = refl; ready_is = refl; current_is = refl }
walk_line ((LineEnd, b) ∷ ps) (suc n) some = record {
  front_is = ap (λ (xs : List ℕ). b ∷ xs) (sym (take_none n));
  ready_is = rw (drop_none n) refl;
  current_is = refl;
}
walk_line ((Byte, b) ∷ ps) zero some =
    let inner = sym (has_none-front b (lines_of ps).ready (lines_of ps).current) ∙ some in
    let left = front_left b (lines_of ps).ready (lines_of ps).current inner in
    record { front_is = sym left.0; ready_is = left.1; current_is = refl }
walk_line ((Byte, b) ∷ ps) (suc n) some =
    let inner = sym (has_none-front b (lines_of ps).ready (lines_of ps).current) ∙ some in
    let front = front_read b n (lines_of ps).ready (lines_of ps).current inner in
    let rest = walk_line ps n inner in
    record {
      front_is = ap (λ (xs : List ℕ). b ∷ xs) rest.front_is ∙ sym front.0;
      ready_is = rest.ready_is ∙ sym front.1;
      current_is = rest.current_is ∙ sym front.2;
    }

front_none : (b : ℕ) (ready : List (ReadyLine ℕ)) (current : List ℕ) → has_none ready ≡ true
    → with_front b ready current ≡ record { ready = []; current = b ∷ current }
front_none b [] current none = refl
front_none b (line ∷ lines) current none = cc

-- where no line is ready, a read gives bytes of the current line
pub record ReadsBytes (input : Input ℕ) (max : ℕ) (cells : List ℕ) (rest : Input ℕ) : Type 0 where
  pub front_is : cells ≡ take max input.current
  pub rest_is : rest ≡ record { ready = []; current = drop max input.current }

pub walk_bytes : (ps : List (PlaceKind × ℕ)) (max : ℕ) → has_none (lines_of ps).ready ≡ true
    → ReadsBytes (lines_of ps) max (walk max ps).0 (lines_of (walk max ps).1)
walk_bytes [] max none = record {
  front_is = sym (take_none max);
  rest_is = ap (λ (xs : List ℕ). record { ready = []; current = xs }) (sym (drop_none max));
}
walk_bytes ((FileEnd, b) ∷ ps) max none = cc
walk_bytes ((LineEnd, b) ∷ ps) max none = cc
walk_bytes ((Byte, b) ∷ ps) zero none =
    let inner = sym (has_none-front b (lines_of ps).ready (lines_of ps).current) ∙ none in
    let front = front_none b (lines_of ps).ready (lines_of ps).current inner in
    record { front_is = refl; rest_is = front ∙ ap (λ (i : Input ℕ). record { ready = []; current = i.current }) (sym front) }
walk_bytes ((Byte, b) ∷ ps) (suc n) none =
    let inner = sym (has_none-front b (lines_of ps).ready (lines_of ps).current) ∙ none in
    let front = front_none b (lines_of ps).ready (lines_of ps).current inner in
    let rest = walk_bytes ps n inner in
    record {
      front_is = ap (λ (xs : List ℕ). b ∷ xs) rest.front_is ∙ ap (λ (i : Input ℕ). take (suc n) i.current) (sym front);
      rest_is = rest.rest_is ∙ ap (λ (i : Input ℕ). record { ready = []; current = drop (suc n) i.current }) (sym front);
    }

-- What is joined.

-- a place without the end of its line; an end of file goes
abbrev pub kept_one : PlaceKind → ℕ → List (PlaceKind × ℕ)
kept_one Byte b = (Byte, b) ∷ []
kept_one LineEnd b = (Byte, b) ∷ []
kept_one FileEnd b = []

abbrev pub kept : List (PlaceKind × ℕ) → List (PlaceKind × ℕ)
kept [] = []
kept (p ∷ ps) = kept_one p.0 p.1 ++ kept ps

-- so many places, from the first on, go to the back
abbrev pub turned_round : ℕ → List (PlaceKind × ℕ) → List (PlaceKind × ℕ)
turned_round zero ps = ps
turned_round (suc n) [] = []
turned_round (suc n) (p ∷ ps) = turned_round n (ps ++ kept_one p.0 p.1)

turned_round_all : (ps qs : List (PlaceKind × ℕ)) → turned_round (length ps) (ps ++ qs) ≡ qs ++ kept ps
turned_round_all [] qs = sym (append-nil qs)
turned_round_all (p ∷ ps) qs =
    let one_more : length (p ∷ ps) ≡ suc (length ps) = omega arith in
    let moved : (ps ++ qs) ++ kept_one p.0 p.1 ≡ ps ++ (qs ++ kept_one p.0 p.1) = rw append_assoc refl in
    let added : (qs ++ kept_one p.0 p.1) ++ kept ps ≡ qs ++ (kept_one p.0 p.1 ++ kept ps) = rw append_assoc refl in
    ap (λ (n : ℕ). turned_round n (p ∷ (ps ++ qs))) one_more ∙ ap (turned_round (length ps)) moved
    ∙ turned_round_all ps (qs ++ kept_one p.0 p.1) ∙ added

-- all places, once round, are those that are kept
pub turned_round_whole : (ps : List (PlaceKind × ℕ)) (n : ℕ) → n ≡ length ps → turned_round n ps ≡ kept ps
turned_round_whole ps n all =
    ap (λ (k : ℕ). turned_round k ps) all ∙ ap (turned_round (length ps)) (sym (append-nil ps)) ∙ turned_round_all ps []

all_cells-front : (b : ℕ) (ready : List (ReadyLine ℕ)) (current : List ℕ)
    → all_cells (with_front b ready current) ≡ b ∷ all_cells (record { ready = ready; current = current })
all_cells-front b [] current = refl
all_cells-front b (line ∷ lines) current = refl

-- what is kept is all cells, in one current line
pub lines_of-kept : (ps : List (PlaceKind × ℕ)) → lines_of (kept ps) ≡ record { ready = []; current = all_cells (lines_of ps) }
lines_of-kept [] = refl
lines_of-kept ((Byte, b) ∷ ps) =
    ap (λ (i : Input ℕ). with_front b i.ready i.current) (lines_of-kept ps)
    ∙ ap (λ (xs : List ℕ). record { ready = []; current = xs }) (sym (all_cells-front b (lines_of ps).ready (lines_of ps).current))
lines_of-kept ((LineEnd, b) ∷ ps) = ap (λ (i : Input ℕ). with_front b i.ready i.current) (lines_of-kept ps)
lines_of-kept ((FileEnd, b) ∷ ps) = lines_of-kept ps

-- the current line becomes a ready one where its last byte ends it
pub lines_of-ended : (ks : List PlaceKind) (bs : List ℕ) → length bs ≡ length ks + 1 → all_bytes ks ≡ true
    → lines_of (zip (ks ++ LineEnd ∷ []) bs) ≡ record { ready = as_line bs; current = [] }
lines_of-ended [] [] many all = absurd (omega (arith, many))
lines_of-ended [] (b ∷ []) many all = refl
lines_of-ended [] (b ∷ c ∷ bs) many all = absurd (omega (arith, many))
lines_of-ended (Byte ∷ ks) [] many all = absurd (omega (arith, many))
lines_of-ended (Byte ∷ ks) (b ∷ []) many all = absurd (omega (arith, many))
lines_of-ended (Byte ∷ ks) (b ∷ c ∷ bs) many all =
    ap (λ (i : Input ℕ). with_front b i.ready i.current) (lines_of-ended ks (c ∷ bs) (omega (arith, many)) all)
lines_of-ended (LineEnd ∷ ks) bs many all = cc
lines_of-ended (FileEnd ∷ ks) bs many all = cc

-- bytes alone that are behind the first are bytes alone
pub all_bytes-drop : (n : ℕ) (ks : List PlaceKind) → all_bytes ks ≡ true → all_bytes (drop n ks) ≡ true
all_bytes-drop zero ks all = all
all_bytes-drop (suc n) [] all = all
all_bytes-drop (suc n) (Byte ∷ ks) all = all_bytes-drop n ks all
all_bytes-drop (suc n) (LineEnd ∷ ks) all = cc
all_bytes-drop (suc n) (FileEnd ∷ ks) all = cc

-- a read of bytes alone
pub walk_all_bytes : (max : ℕ) (ks : List PlaceKind) (bs : List ℕ) → length ks ≡ length bs → all_bytes ks ≡ true
    → ((walk max (zip ks bs)).0 ≡ take max bs) × ((walk max (zip ks bs)).1 ≡ zip (drop max ks) (drop max bs))
walk_all_bytes zero [] [] same all = (refl, refl)
walk_all_bytes (suc n) [] [] same all = (refl, refl)
walk_all_bytes max [] (b ∷ bs) same all = absurd (omega (arith, same))
walk_all_bytes max (k ∷ ks) [] same all = absurd (omega (arith, same))
walk_all_bytes zero (Byte ∷ ks) (b ∷ bs) same all = (refl, refl)
walk_all_bytes (suc n) (Byte ∷ ks) (b ∷ bs) same all =
    let rest = walk_all_bytes n ks bs (omega (arith, same)) all in
    (ap (λ (xs : List ℕ). b ∷ xs) rest.0, rest.1)
walk_all_bytes max (LineEnd ∷ ks) (b ∷ bs) same all = cc
walk_all_bytes max (FileEnd ∷ ks) (b ∷ bs) same all = cc

-- Ends of file in front.

pub walk_zero : (ps : List (PlaceKind × ℕ)) → (walk zero ps).0 ≡ []
walk_zero [] = refl
walk_zero ((FileEnd, b) ∷ ps) = refl
walk_zero ((Byte, b) ∷ ps) = refl
walk_zero ((LineEnd, b) ∷ ps) = refl

pub walk_no_mark : (ks : List PlaceKind) (bs : List ℕ) → length ks ≡ length bs → begins_with_mark ks ≡ false → zip ks bs ≡ (walk zero (zip ks bs)).1
walk_no_mark [] [] same none = refl
walk_no_mark [] (b ∷ bs) same none = absurd (omega (arith, same))
walk_no_mark (k ∷ ks) [] same none = absurd (omega (arith, same))
walk_no_mark (Byte ∷ ks) (b ∷ bs) same none = refl
walk_no_mark (LineEnd ∷ ks) (b ∷ bs) same none = refl
walk_no_mark (FileEnd ∷ ks) (b ∷ bs) same none = cc

pub walk_mark : (ks : List PlaceKind) (bs : List ℕ) (rest : List (PlaceKind × ℕ)) (p : Option (PlaceKind × ℕ)) → length ks ≡ length bs
    → begins_with_mark ks ≡ true
    → zip ks bs ≡ option_to_list p ++ rest → (p ≡ None) ↔ (zip ks bs ≡ []) → rest ≡ (walk zero (zip ks bs)).1
walk_mark [] bs rest p same mark pops none = cc
walk_mark (k ∷ ks) [] rest p same mark pops none = absurd (omega (arith, same))
walk_mark (Byte ∷ ks) (b ∷ bs) rest p same mark pops none = cc
walk_mark (LineEnd ∷ ks) (b ∷ bs) rest p same mark pops none = cc
walk_mark (FileEnd ∷ ks) (b ∷ bs) rest None same mark pops none = let never = none.0 refl in cc
walk_mark (FileEnd ∷ ks) (b ∷ bs) rest (Some q) same mark pops none = cc
