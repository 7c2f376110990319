-- One word at the flag for all jobs: where it is true, all were run.
use Rattle.std.proofs.Common.{◌≡◌, Bool, true, List, [], ◌∷◌}
use Rattle.std.specs.List.{AllZip}
use Rattle.edge_io.specs.Crew.{Went}

module _ {J : Type 0} (ran : J → J → Type 0) (word : Bool) where
  pub all_ran : (before after : List J) → word ≡ true → AllZip (Went ran word) before after → AllZip ran before after
  all_ran [] [] is went = tt
  all_ran [] (y ∷ ys) is went = went
  all_ran (x ∷ xs) [] is went = went
  all_ran (x ∷ xs) (y ∷ ys) is went = (went.0.0 is, all_ran xs ys is went.1)
