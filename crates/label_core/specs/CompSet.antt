-- Sets of compartments, after mac_mls(4): finite sets of the numbers 1 to 256, as their numbers in rising order.
use Rattle.std.specs.Prelude.{ℕ, ◌-◌, ◌/◌, ◌%◌, ◌<◌, ◌≤◌, Bool, List, [], ◌∷◌, ◌==◌, nat_lt, if◌then◌else◌, filter, fold, slice_index, ⊤}
use Rattle.std.specs.List.{list_any, list_all, range_with_len}
use Rattle.std.specs.Int.{bit_at}

-- a number that a compartment may have
abbrev pub IsCompartment : ℕ → Type 0
IsCompartment n = (1 ≤ n) × (n ≤ 256)

-- each number is above the one before it, the first is above low, and none is above 256
abbrev pub RisesFrom : ℕ → List ℕ → Type 0
RisesFrom low [] = ⊤
RisesFrom low (n ∷ ns) = (low < n) × (n ≤ 256) × RisesFrom n ns

-- numbers 1 to 256 in rising order: each set of compartments is one such list
abbrev pub IsCompSet : List ℕ → Type 0
IsCompSet ns = RisesFrom 0 ns

-- whether the number is in the set
abbrev pub has_number : ℕ → List ℕ → Bool
has_number n set = list_any (λ m. m == n) set

-- whether every number of the first set is in the second
abbrev pub is_subset : List ℕ → List ℕ → Bool
is_subset some all = list_all (λ n. has_number n all) some

-- the set with a number
abbrev pub with_number : ℕ → List ℕ → List ℕ
with_number n [] = n ∷ []
with_number n (m ∷ ms) = if nat_lt n m then n ∷ m ∷ ms else (if m == n then m ∷ ms else m ∷ with_number n ms)

-- the set of these numbers, in any order and with repeats
abbrev pub set_of : List ℕ → List ℕ
set_of ns = fold (λ set n. with_number n set) [] ns

-- The set as four words of 64 bits.

-- whether the bit of the number n is set: bit (n - 1) % 64 of word (n - 1) / 64
abbrev pub is_marked : List ℕ → ℕ → Bool
is_marked words n = bit_at (slice_index words ((n - 1) / 64)) ((n - 1) % 64) == 1

-- the numbers whose bits are set
unfoldable pub numbers_in : List ℕ → List ℕ
numbers_in words = filter (is_marked words) (range_with_len 1 256)
