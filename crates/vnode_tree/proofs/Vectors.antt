-- Vectors that are written through a slice of all their elements.
use Rattle.std.proofs.Common.{◌≡◌, ℕ, List, [], ◌++◌, length, take, drop, ap, ◌∙◌, arith}
use Rattle.std.proofs.lemmas.List.{append-nil, take_all}
use Rattle.std.proofs.Math.ListN.{drop_of_length-le}

-- a vector after all of it was written
pub all_written : {X : Type 0} (size : ℕ) (xs ys : List X) → size ≡ length ys → length xs ≡ length ys → take size (xs ++ drop (length xs) ys) ≡ xs
all_written size xs ys whole same =
    let nothing : drop (length xs) ys ≡ [] = drop_of_length-le ys (omega (arith, same)) in
    rw nothing (ap (take size) (append-nil xs) ∙ take_all size xs (omega (arith, whole, same)))
