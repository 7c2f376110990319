-- How many numbers refer to an entry, and the first place of a list that passes a test.
use Rattle.std.proofs.Common.{◌≡◌, ℕ, ◌+◌, ◌*◌, ◌<◌, ◌≤◌, Bool, true, cond, List, [], length, get_or, set, Option, None, Some, position, count_by, arith}
use Rattle.std.proofs.Common.{refl, ap, ◌∙◌}
use Rattle.std.specs.Prelude.{nat_lt, All}
use Rattle.std.specs.List.{position_or_len}
use Rattle.std.proofs.lemmas.Bool.Decides.{nat_tests}
use Rattle.std.proofs.lemmas.List.Sums.{prefix_len-le-length, sum_by-set, sum_by-le, count_by-le-length, get_or-le-sum_by}
use Rattle.std.proofs.lemmas.List.{get_or_past}
use Rattle.std.proofs.lemmas.List.Elements.{All-weaker}
use Rattle.std.proofs.lemmas.Bool.{eq-eqb}
use Rattle.fd_table.specs.declared.open.Descriptor.{Descriptor}
use Rattle.fd_table.specs.Shared.{Table, row_of, descriptor_at, put, refers, references}

none-means : (a b : ℕ) → a ≤ b → cond (nat_lt a b) (Some a) None ≡ None → a ≡ b
none-means a b h is = grind (arith, nat_tests)

some-means : (a b i : ℕ) → cond (nat_lt a b) (Some a) None ≡ Some i → (a ≡ i) × (i < b)
some-means a b i is = grind (arith, nat_tests)

pub first-none : {X : Type 0} (p : X → Bool) (xs : List X) → position p xs ≡ None → position_or_len p xs ≡ length xs
first-none p xs is = none-means (position_or_len p xs) (length xs) (prefix_len-le-length _ xs) is

pub first-some : {X : Type 0} (p : X → Bool) (xs : List X) (i : ℕ) → position p xs ≡ Some i → (position_or_len p xs ≡ i) × (i < length xs)
first-some p xs i is = some-means (position_or_len p xs) (length xs) i is

pub first-most : {X : Type 0} (p : X → Bool) (xs : List X) → position_or_len p xs ≤ length xs
first-most p xs = prefix_len-le-length _ xs

pub ruleset at_most_all = count_by-le-length

pub ruleset first = (first-none, first-some, first-most)

abbrev pub bit : Bool → ℕ
bit b = cond b 1 0

-- one number is given another descriptor
pub references-put : (a : ℕ) (table : Table) (slot number : ℕ) (what : Option Descriptor) → slot < length table → number < length (row_of table slot)
    → references a (put table slot number what) + bit (refers a (descriptor_at table slot number)) ≡ references a table + bit (refers a what)
references-put a table slot number what within inside =
    let row = row_of table slot in
    let outer = sum_by-set (λ r. count_by (refers a) r) table slot (set row number what) [] within in
    let inner = sum_by-set (λ d. bit (refers a d)) row number what None inside in
    omega (arith, outer, inner)

-- a slot is given other numbers
pub references-row : (a : ℕ) (table : Table) (slot : ℕ) (row : List (Option Descriptor)) → slot < length table
    → references a (set table slot row) + count_by (refers a) (row_of table slot) ≡ references a table + count_by (refers a) row
references-row a table slot row within = sum_by-set (λ r. count_by (refers a) r) table slot row [] within

pub references-of_row : (a : ℕ) (table : Table) (slot : ℕ) → slot < length table → count_by (refers a) (row_of table slot) ≤ references a table
references-of_row a table slot within = get_or-le-sum_by (λ r. count_by (refers a) r) table slot [] within

-- no more numbers refer to an entry than there are
pub references-most : (a n : ℕ) (table : Table) → All (λ row. length row ≡ n) table → references a table ≤ length table * n
references-most a n table h =
    sum_by-le (λ row. count_by (refers a) row) n table
    (All-weaker (λ row. length row ≡ n) (λ row. count_by (refers a) row ≤ n) (λ row is. (let most = count_by-le-length (refers a) row in omega (arith, most)))
    table h)

within-some : {X : Type 0} (xs : List (Option X)) (i : ℕ) (x : X) → get_or xs i None ≡ Some x → i < length xs
within-some xs i x is = first_of (grind (arith, get_or_past), omega arith)

row-some : (table : Table) (slot number : ℕ) (d : Descriptor) → descriptor_at table slot number ≡ Some d → slot < length table
row-some table slot number d is = grind (arith, get_or_past)

refers-own : (d : Descriptor) → refers d.entry (Some d) ≡ true
refers-own d = eq-eqb d.entry d.entry refl

-- a number that is open is one that refers to its entry
pub references-some : (table : Table) (slot number : ℕ) (d : Descriptor) → descriptor_at table slot number ≡ Some d
    → (slot < length table) × (number < length (row_of table slot)) × (0 < references d.entry table)
references-some table slot number d is =
    let within = row-some table slot number d is in
    let inside = within-some (row_of table slot) number d is in
    let here : refers d.entry (descriptor_at table slot number) ≡ true = ap (refers d.entry) is ∙ refers-own d in
    let one : bit (refers d.entry (descriptor_at table slot number)) ≡ 1 = ap bit here in
    let in_row = get_or-le-sum_by (λ r. bit (refers d.entry r)) (row_of table slot) number None inside in
    let in_all = references-of_row d.entry table slot within in
    (within, inside, omega (arith, one, in_row, in_all))
