-- Places that pass a test.
use Rattle.std.proofs.Common.{◌≡◌, ◌<◌, inl, inr, ℕ, Bool, false, cond, List, length, get_or, Some, None, sym, ap, ◌∙◌, arith, lt-ltb}
use Rattle.std.specs.Prelude.{position}
use Rattle.std.specs.List.{position_or_len}
use Rattle.std.proofs.lemmas.List.Sums.{fails_before_first}
use Rattle.std.proofs.lemmas.Bool.{cases_lt}

-- where no place passes, each fails
pub all_fail : {X : Type 0} (p : X → Bool) (xs : List X) (k : ℕ) (d : X) → position p xs ≡ None → k < length xs → p (get_or xs k d) ≡ false
all_fail p xs k d none below =
    elim (cases_lt (position_or_len p xs) (length xs)) [
      | inl found ↦
          absurd
          (let no : Some (position_or_len p xs) ≡ None =
          sym (ap (λ b. cond b (Some (position_or_len p xs)) None) (lt-ltb (position_or_len p xs) (length xs) found)) ∙ none in
          cc)
      | inr past ↦ fails_before_first p xs k d (omega arith)
    ]
