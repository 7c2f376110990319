-- A text that is joined of parts is split into them again.
use Rattle.std.proofs.Common.{◌≡◌, ℕ, suc, ◌+◌, true, false, eqb, ltb, List, [], ◌∷◌, ◌++◌, length, take, drop, get_or, Some, option_map, refl, sym, ap, ◌∙◌, append_assoc, add-one, drop-cons, arith}
use Rattle.std.specs.List.{AllByRecursion, join_with_byte, position_or_len}
use Rattle.std.specs.Prelude.{position}
use Rattle.std.proofs.lemmas.Bool.{eqb-true, lt-ltb}
use Rattle.std.proofs.lemmas.Bool.Decides.{nat_tests}
use Rattle.std.proofs.lemmas.List.{length-append, take_at, drop_at, take-append-drop}
use Rattle.std.proofs.lemmas.List.Elements.{All-from_recursion}
use Rattle.std.proofs.lemmas.List.Quantifiers.{position-Some}
use Rattle.std.proofs.lemmas.List.Splits.{slice_split_none, slice_split_at}
use Rattle.termios_core.specs.Text.{colon}
use Rattle.termios_core.specs.Reading.{parts, around_colon}
use Rattle.termios_core.proofs.CaseLemmas.{some_of_map}

-- no byte of the text is this one
abbrev pub Lacks : ℕ → List ℕ → Type 0
Lacks c text = AllByRecursion (λ b. eqb b c ≡ false) text

same_byte : (c : ℕ) → eqb c c ≡ true
same_byte c = grind (arith, nat_tests)

Lacks-append : (c : ℕ) (xs ys : List ℕ) → Lacks c xs → Lacks c ys → Lacks c (xs ++ ys)
Lacks-append c [] ys h k = k
Lacks-append c (x ∷ xs) ys h k = (h.0, Lacks-append c xs ys h.1 k)

-- the byte between the parts is another one
pub Lacks-join : (c between : ℕ) (ps : List (List ℕ)) → eqb between c ≡ false → AllByRecursion (Lacks c) ps → Lacks c (join_with_byte between ps)
Lacks-join c between [] other h = tt
Lacks-join c between (p ∷ []) other h = h.0
Lacks-join c between (p ∷ q ∷ ps) other h = Lacks-append c p (between ∷ join_with_byte between (q ∷ ps)) h.0 (other, Lacks-join c between (q ∷ ps) other h.1)

-- parts that lack the byte between them are found again
pub parts-join : (c : ℕ) (p : List ℕ) (ps : List (List ℕ)) → AllByRecursion (Lacks c) (p ∷ ps) → parts c (join_with_byte c (p ∷ ps)) ≡ p ∷ ps
parts-join c p [] h = slice_split_none (λ b. eqb b c) p (All-from_recursion _ p h.0)
parts-join c p (q ∷ ps) h =
    slice_split_at (λ b. eqb b c) p c (join_with_byte c (q ∷ ps)) (All-from_recursion _ p h.0) (same_byte c)
    ∙ ap (λ (rest : List (List ℕ)). p ∷ rest) (parts-join c q ps h.1)

first_place : (front rest : List ℕ) → Lacks colon front → position_or_len (λ b. eqb b colon) (front ++ colon ∷ rest) ≡ length front
first_place [] rest h = refl
first_place (b ∷ front) rest h =
    let more = first_place front rest h.1 in
    rw h.0 (omega (arith, more))

-- a text's front and rest are found again
pub around_colon-at : (front rest : List ℕ) → Lacks colon front → around_colon (front ++ colon ∷ rest) ≡ Some (front, rest)
around_colon-at front rest h =
    let text : List ℕ = front ++ colon ∷ rest in
    let place = first_place front rest h in
    let within : ltb (length front) (length text) ≡ true = lt-ltb _ _ (omega (arith, length-append front (colon ∷ rest))) in
    let found : position (λ b. eqb b colon) text ≡ Some (length front) = rw (place, within) refl in
    let regrouped : text ≡ (front ++ colon ∷ []) ++ rest = sym (append_assoc front (colon ∷ []) rest) in
    let behind : drop (length front + 1) text ≡ rest =
    ap (drop (length front + 1)) regrouped ∙ drop_at (front ++ colon ∷ []) rest (length front + 1) (length-append front (colon ∷ [])) in
    ap (option_map (λ (k : ℕ). (take k text, drop (k + 1) text))) found ∙ rw (take_at front (colon ∷ rest) (length front) refl, behind) refl

-- a text that is cut is its front, a colon and its rest
pub around_colon-some : (text : List ℕ) (sides : List ℕ × List ℕ) → around_colon text ≡ Some sides → text ≡ sides.0 ++ colon ∷ sides.1
around_colon-some text sides e =
    let cut = some_of_map (λ (k : ℕ). (take k text, drop (k + 1) text)) (position (λ b. eqb b colon) text) sides e in
    let k = cut.0 in
    let place = position-Some (λ b. eqb b colon) text k 0 cut.1 in
    let here : get_or text k 0 ≡ colon = eqb-true _ _ place.1 in
    let rest : drop k text ≡ colon ∷ drop (k + 1) text =
    drop-cons text k 0 place.0 ∙ ap (λ (b : ℕ). b ∷ drop (suc k) text) here ∙ ap (λ (n : ℕ). colon ∷ drop n text) (sym (add-one k)) in
    sym (take-append-drop k text) ∙ ap (λ (r : List ℕ). take k text ++ r) rest ∙ ap (λ (s : List ℕ × List ℕ). s.0 ++ colon ∷ s.1) (sym cut.2)
