-- What sources, sinks and ports promise.
use Rattle.std.specs.Prelude.{◌≡◌, ℕ, ◌+◌, ◌-◌, ◌^◌, ◌<◌, ◌≤◌, ◌⊎◌, min, List, [], ◌++◌, take, Option, Some, None}

-- The count rose. At its last value, 2 ^ 64 - 1, it counts as risen.
abbrev pub Rose : ℕ → ℕ → Type 0
Rose old new = (old < new) ⊎ (2 ^ 64 - 1 ≤ new)

-- A count of 64 bits, after n more. It stays at its last value.
abbrev pub count_after : ℕ → ℕ → ℕ
count_after old n = min (old + n) (2 ^ 64 - 1)

-- A read took the first n bytes of what was left, and put them at the front of a slice. It took
-- none only at the end. Nothing is said where the source does not tell what is left.
abbrev pub Gave : Option (List ℕ) → Option (List ℕ) → List ℕ → ℕ → Type 0
Gave None after into n = Unit {0}
Gave (Some left) None into n = ⊥
Gave (Some left) (Some rest) into n = (left ≡ take n into ++ rest) × (n ≡ 0 → left ≡ [])

-- What was written, heard or sent has this more at its end, where the object tells it.
abbrev pub Appended : {X : Type 0} → Option (List X) → Option (List X) → List X → Type 0
Appended None after more = Unit {0}
Appended (Some before) None more = ⊥
Appended (Some before) (Some after) more = after ≡ before ++ more
