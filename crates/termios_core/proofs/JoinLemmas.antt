-- Parts with a byte between each two.
use Rattle.std.proofs.Common.{◌≡◌, ℕ, suc, false, cond, eqb, List, [], ◌∷◌, ◌++◌, length, map, refl, sym, ap, ◌∙◌, append_assoc, arith}
use Rattle.std.specs.List.{join_with_byte}
use Rattle.std.proofs.lemmas.Bool.Decides.{nat_tests}
use Rattle.std.proofs.lemmas.List.{map_push, length-map}

some_parts : (n : ℕ) → eqb (suc n) 0 ≡ false
some_parts n = grind (arith, nat_tests)

-- one part more
pub join_with_byte-push : (c : ℕ) (xs : List (List ℕ)) (x : List ℕ)
    → join_with_byte c (xs ++ x ∷ []) ≡ join_with_byte c xs ++ (cond (eqb (length xs) 0) [] (c ∷ []) ++ x)
join_with_byte-push c [] x = refl
join_with_byte-push c (y ∷ []) x = refl
join_with_byte-push c (y ∷ z ∷ xs) x =
    let more : join_with_byte c (z ∷ xs ++ x ∷ []) ≡ join_with_byte c (z ∷ xs) ++ (c ∷ x) = rw some_parts at (join_with_byte-push c (z ∷ xs) x) in
    rw some_parts (ap (λ (r : List ℕ). y ++ (c ∷ r)) more ∙ sym (append_assoc y (c ∷ join_with_byte c (z ∷ xs)) (c ∷ x)))

-- a loop that writes parts writes the next: the byte, unless nothing stands before it, and the part
pub join_more : {X : Type 0} (f : X → List ℕ) (c : ℕ) (xs : List X) (x : X) (old before between after : List ℕ)
    → before ≡ old ++ join_with_byte c (map f xs) → between ≡ before ++ cond (eqb (length xs) 0) [] (c ∷ []) → after ≡ between ++ f x
    → after ≡ old ++ join_with_byte c (map f (xs ++ x ∷ []))
join_more f c xs x old before between after b m a =
    let gap : List ℕ = cond (eqb (length xs) 0) [] (c ∷ []) in
    let joined : join_with_byte c (map f (xs ++ x ∷ [])) ≡ join_with_byte c (map f xs) ++ (gap ++ f x) =
    ap (join_with_byte c) (map_push f xs x) ∙ join_with_byte-push c (map f xs) (f x)
    ∙ ap (λ (n : ℕ). join_with_byte c (map f xs) ++ (cond (eqb n 0) [] (c ∷ []) ++ f x)) (length-map xs f) in
    rw (a, m, b, joined) (append_assoc (old ++ join_with_byte c (map f xs)) gap (f x) ∙ append_assoc old (join_with_byte c (map f xs)) (gap ++ f x))

-- three parts, one after the other
pub three_parts : (old a b c first second third : List ℕ) → first ≡ old ++ a → second ≡ first ++ b → third ≡ second ++ c → third ≡ old ++ (a ++ b ++ c)
three_parts old a b c first second third e f g = rw (g, f, e) (ap (λ (x : List ℕ). x ++ c) (append_assoc old a b) ∙ append_assoc old (a ++ b) c)
