-- Numbers that are read one after the other.
use Rattle.std.proofs.Common.{◌≡◌, ℕ, ◌≤◌, List, [], ◌++◌, length, Some, option_map, refl, append-nil}
use Rattle.std.proofs.lemmas.Bool.{le-leb}
use Rattle.script_text.specs.Rights.{ids_of, if_few}

-- the numbers of all words stand behind those that are read, which are few
pub record AreRead (all left : List (List ℕ)) (ids : List ℕ) : Type 0 where
  pub all_are : ids_of all ≡ option_map (λ ns. ids ++ ns) (ids_of left)
  pub few : length ids ≤ 16

-- where no word is left, all numbers are read
pub all_read : (all : List (List ℕ)) (ids : List ℕ) → AreRead all [] ids → Some ids ≡ if_few (ids_of all)
all_read all ids h = rw (h.all_are, append-nil ids, le-leb (length ids) 16 h.few) refl
