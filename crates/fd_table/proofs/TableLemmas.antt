-- What each change of the numbers, the files and the counts leaves together.
use Rattle.std.proofs.Common.{◌≡◌, inl, inr, ℕ, zero, suc, ◌+◌, ◌-◌, ◌<◌, ◌≤◌, Bool, true, cond, List, [], ◌∷◌, length, get_or, set, replicate, Option, None}
use Rattle.std.proofs.Common.{Some, count_by, slice_index, eqb, arith, refl, ap, sym, ◌∙◌}
use Rattle.std.specs.Prelude.{nat_lt, is_some, is_none}
use Rattle.std.specs.List.{position_or_len}
use Rattle.std.proofs.lemmas.Bool.Decides.{nat_tests, eqb_tells}
use Rattle.std.proofs.lemmas.Bool.{eq-eqb}
use Rattle.std.proofs.lemmas.List.{get_or-set_same, length-replicate}
use Rattle.std.proofs.lemmas.List.Elements.{All-replicate}
use Rattle.std.proofs.lemmas.List.Folds.{sum_by-replicate}
use Rattle.std.proofs.lemmas.List.Sums.{passes_at_first, sum_by-cons, sum_by-set}
use Rattle.sys_types.specs.declared.limits.TheConstants.{SLOTS, DESCRIPTORS, OPEN_FILES}
use Rattle.fd_table.specs.declared.open.Descriptor.{Descriptor}
use Rattle.fd_table.specs.Shared.{Shared, Table, row_of, descriptor_at, put, refers, references, lowest_entry, lowest_number, free_numbers, free_entries}
use Rattle.fd_table.specs.Shared.{lowest_open, last_file, make}
use Rattle.fd_table.specs.Kept.{IsKept, IsCounted}
use Rattle.sys_types.specs.declared.rules.Rule.{Rule}
use Rattle.sys_types.specs.declared.rules.Rule.TheVariants as rule
use Rattle.fd_table.specs.Calls.{room_rule, drop_found, drop_first}
use Rattle.fd_table.proofs.CountLemmas.{bit, first-none, references-row, references-of_row, references-most}
use Rattle.fd_table.proofs.KeptLemmas.{row-length, entry-of, entry-within, references-given, references-closed, counted-set, free-entry}

-- a count fits, and so does one more of each number of a slot
pub count-fits : {F : Type 0} (t : Shared F) (counts : List ℕ) → IsKept t → IsCounted t.table counts → (a : ℕ) → slice_index counts a + 32 < 65536
count-fits t counts h n a =
    let most = references-most a DESCRIPTORS t.table h.numbers in
    let size = h.slots in
    let is = n.each a in
    omega (arith, most, size, is)

-- the entries of a slot's numbers are entries of the table
pub row-there : {F : Type 0} (t : Shared F) (slot : ℕ) → IsKept t → slot < SLOTS → (a : ℕ) → 0 < count_by (refers a) (row_of t.table slot) → a < OPEN_FILES
row-there t slot h within a some =
    let size = h.slots in
    let in_table : slot < length t.table = omega (arith, size) in
    let part = references-of_row a t.table slot in_table in
    let used : 0 < references a t.table = omega (arith, part, some) in
    let inside = entry-within t.files a (h.used a used) in
    let entries = h.entries in
    omega (arith, inside, entries)

-- where a place is free, the first free place is one of the list
pub first-free : {X : Type 0} (xs : List (Option X)) → 0 < count_by is_none xs → position_or_len is_none xs < length xs
first-free {X} [] some = let none : count_by (is_none {T = X}) [] ≡ 0 = refl in absurd (omega (arith, none, some))
first-free (None ∷ xs) some = omega arith
first-free (Some x ∷ xs) some =
    let step = sum_by-cons (λ o. bit (is_none o)) (Some x) xs in
    let rest : 0 < count_by is_none xs = omega (arith, step, some) in
    let more = first-free xs rest in
    omega (arith, more)

nothing : {X : Type 0} (o : Option X) → is_none o ≡ true → o ≡ None
nothing None is = refl
nothing (Some x) is = cc

-- the lowest free number is one of the slot, and not open
pub number-there : {F : Type 0} (t : Shared F) (slot : ℕ) → IsKept t → slot < SLOTS → 0 < free_numbers t.table slot → lowest_number t.table slot < DESCRIPTORS
number-there t slot h within some =
    let first = first-free (row_of t.table slot) some in
    let long = row-length t slot h within in
    omega (arith, first, long)

pub number-closed : (table : Table) (slot : ℕ) → 0 < free_numbers table slot → descriptor_at table slot (lowest_number table slot) ≡ None
number-closed table slot some =
    nothing (descriptor_at table slot (lowest_number table slot)) (passes_at_first is_none (row_of table slot) None (first-free (row_of table slot) some))

pub entry-there : {F : Type 0} (t : Shared F) → IsKept t → 0 < free_entries t.files → lowest_entry t.files < OPEN_FILES
entry-there t h some =
    let first = first-free t.files some in
    let entries = h.entries in
    omega (arith, first, entries)

-- a number is given the entry of another
pub counted-copy : {F : Type 0} (t : Shared F) (counts : List ℕ) (slot number : ℕ) (d : Descriptor) → IsKept t → IsCounted t.table counts → slot < SLOTS
    → number < DESCRIPTORS → descriptor_at t.table slot number ≡ None → d.entry < OPEN_FILES
    → IsCounted (put t.table slot number (Some d)) (set counts d.entry (slice_index counts d.entry + 1))
counted-copy t counts slot number d h n within inside closed there =
    counted-set t.table (put t.table slot number (Some d)) counts d.entry (slice_index counts d.entry + 1) n there
    (let given = references-given t d.entry slot number d h within inside closed in
    let one : bit (eqb d.entry d.entry) ≡ 1 = ap bit (eq-eqb d.entry d.entry refl) in
    let is = n.each d.entry in
    omega (arith, given, one, is))
    (λ a apart. (
    let given = references-given t a slot number d h within inside closed in
    elim (eqb_tells d.entry a) [
      | inl same ↦ absurd (apart (sym same.1))
      | inr other ↦ (let none : bit (eqb d.entry a) ≡ 0 = ap bit other.0 in omega (arith, given, none))
    ]))

-- a number is closed
pub counted-drop : {F : Type 0} (t : Shared F) (counts : List ℕ) (slot number : ℕ) (d : Descriptor) → IsKept t → IsCounted t.table counts → slot < SLOTS
    → descriptor_at t.table slot number ≡ Some d → IsCounted (put t.table slot number None) (set counts d.entry (slice_index counts d.entry - 1))
counted-drop t counts slot number d h n within is =
    counted-set t.table (put t.table slot number None) counts d.entry (slice_index counts d.entry - 1) n (entry-of t slot number d h is)
    (let closed = references-closed t d.entry slot number d h within is in
    let one : bit (eqb d.entry d.entry) ≡ 1 = ap bit (eq-eqb d.entry d.entry refl) in
    let count = n.each d.entry in
    omega (arith, closed, one, count))
    (λ a apart. (
    let closed = references-closed t a slot number d h within is in
    elim (eqb_tells d.entry a) [
      | inl same ↦ absurd (apart (sym same.1))
      | inr other ↦ (let none : bit (eqb d.entry a) ≡ 0 = ap bit other.0 in omega (arith, closed, none))
    ]))

-- how many numbers refer to the entry of a number after that is closed
pub count-left : {F : Type 0} (t : Shared F) (counts : List ℕ) (slot number : ℕ) (d : Descriptor) → IsKept t → IsCounted t.table counts → slot < SLOTS
    → descriptor_at t.table slot number ≡ Some d → references d.entry (put t.table slot number None) ≡ slice_index counts d.entry - 1
count-left t counts slot number d h n within is =
    let closed = references-closed t d.entry slot number d h within is in
    let one : bit (eqb d.entry d.entry) ≡ 1 = ap bit (eq-eqb d.entry d.entry refl) in
    let count = n.each d.entry in
    omega (arith, closed, one, count)

none-refers : (xs : List (Option Descriptor)) (a : ℕ) → position_or_len is_some xs ≡ length xs → count_by (refers a) xs ≡ 0
none-refers [] a none = refl
none-refers (None ∷ xs) a none =
    let step = sum_by-cons (λ o. bit (refers a o)) None xs in
    let rest : position_or_len is_some xs ≡ length xs = omega arith in
    let more = none-refers xs a rest in
    omega (arith, step, more)
none-refers (Some d ∷ xs) a none = absurd (omega arith)

-- no number of a slot that has no descriptor refers to an entry
pub none-open : (table : Table) (slot a : ℕ) → lowest_open table slot ≡ None → count_by (refers a) (row_of table slot) ≡ 0
none-open table slot a none = none-refers (row_of table slot) a (first-none is_some (row_of table slot) none)

-- a slot without descriptors is given those of another
pub counted-fork : {F : Type 0} (t : Shared F) (counts new : List ℕ) (from into : ℕ) → IsKept t → IsCounted t.table counts → into < SLOTS
    → lowest_open t.table into ≡ None → length new ≡ OPEN_FILES
    → ((a : ℕ) → slice_index new a ≡ slice_index counts a + count_by (refers a) (row_of t.table from)) → IsCounted (set t.table into (row_of t.table from)) new
counted-fork t counts new from into h n within none long raised = record {
  size = long;
  each = λ a. (
      let size = h.slots in
      let in_table : into < length t.table = omega (arith, size) in
      let row = references-row a t.table into (row_of t.table from) in_table in
      let empty = none-open t.table into a none in
      let old = n.each a in
      let up = raised a in
      omega (arith, row, empty, old, up));
}

no-references : (a slots numbers : ℕ) → references a (replicate slots (replicate numbers None)) ≡ 0
no-references a slots numbers =
    let row : count_by (refers a) (replicate numbers None) ≡ 0 = sum_by-replicate (λ o. bit (refers a o)) numbers None ∙ omega arith in
    sum_by-replicate (λ r. count_by (refers a) r) slots (replicate numbers None) ∙ rw row (omega arith)

get-all : {X : Type 0} (n i : ℕ) (x : X) → get_or (replicate n x) i x ≡ x
get-all zero i x = refl
get-all (suc n) zero x = refl
get-all (suc n) (suc i) x = get-all n i x

abbrev closed_row : List (Option Descriptor)
closed_row = replicate DESCRIPTORS None

-- a table in which nothing is open
pub kept-nothing : {F : Type 0} → IsKept {F = F} (record { table = replicate SLOTS closed_row; files = replicate OPEN_FILES None })
kept-nothing {F} = record {
  slots = length-replicate {A = List (Option Descriptor)} SLOTS closed_row;
  numbers = All-replicate (λ row. length row ≡ DESCRIPTORS) SLOTS closed_row (length-replicate {A = Option Descriptor} DESCRIPTORS None);
  entries = length-replicate {A = Option F} OPEN_FILES None;
  used = λ a some. (let none = no-references a SLOTS DESCRIPTORS in absurd (omega (arith, none, some)));
  free = λ a none. get-all {X = Option F} OPEN_FILES a None;
}

pub counted-nothing : IsCounted (replicate SLOTS closed_row) (replicate OPEN_FILES 0)
counted-nothing = record {
  size = length-replicate {A = ℕ} OPEN_FILES 0;
  each = λ a. get-all {X = ℕ} OPEN_FILES a 0 ∙ sym (no-references a SLOTS DESCRIPTORS);
}

-- one place that was free is taken
pub free-put : {X : Type 0} (xs : List (Option X)) (i : ℕ) (x : X) → i < length xs → get_or xs i None ≡ None
    → count_by is_none (set xs i (Some x)) + 1 ≡ count_by is_none xs
free-put {X} xs i x within none =
    let set_one = sum_by-set (λ o. bit (is_none o)) xs i (Some x) None within in
    let one : bit (is_none (get_or xs i None)) ≡ 1 = ap (λ (o : Option X). bit (is_none o)) none in
    omega (arith, set_one, one)

row-in : (table : Table) (slot : ℕ) → 0 < free_numbers table slot → slot < length table
row-in [] slot some = absurd (omega (arith, some))
row-in (row ∷ table) zero some = omega arith
row-in (row ∷ table) (suc slot) some = (let more = row-in table slot some in omega (arith, more))

-- after an open at the lowest free number one number less is free, and one entry less
pub numbers-left : {F : Type 0} (t : Shared F) (slot : ℕ) (file : F) (on_exec : Bool) → 0 < free_numbers t.table slot
    → free_numbers (make t slot (lowest_number t.table slot) file on_exec).table slot + 1 ≡ free_numbers t.table slot
numbers-left t slot file on_exec some =
    let in_table = row-in t.table slot some in
    let d : Descriptor = record { entry = lowest_entry t.files; on_exec = on_exec } in
    let row = row_of t.table slot in
    let same = get_or-set_same t.table slot (set row (lowest_number t.table slot) (Some d)) [] in_table in
    rw same (free-put row (lowest_number t.table slot) d (first-free row some) (number-closed t.table slot some))

pub entries-left : {F : Type 0} (t : Shared F) (slot : ℕ) (file : F) (on_exec : Bool) → 0 < free_entries t.files
    → free_entries (make t slot (lowest_number t.table slot) file on_exec).files + 1 ≡ free_entries t.files
entries-left t slot file on_exec some = free-put t.files (lowest_entry t.files) file (first-free t.files some) (free-entry t.files (first-free t.files some))

room-means : (a b n : ℕ) (first second : Rule) → cond (nat_lt a n) (Some first) (cond (nat_lt b n) (Some second) None) ≡ None → (n ≤ a) × (n ≤ b)
room-means a b n first second none = grind (arith, nat_tests)

-- where no rule refuses so many files, there are as many numbers and entries
pub room-none : {F : Type 0} (t : Shared F) (slot n : ℕ) → room_rule t slot n ≡ None → (n ≤ free_numbers t.table slot) × (n ≤ free_entries t.files)
room-none t slot n none = room-means (free_numbers t.table slot) (free_entries t.files) n rule.FdRoom rule.OpenRoom none

-- a slot of which `drop_first` finds no number has no descriptor, and the table is as it was
pub drop_none : {F : Type 0} (t new : Shared F) (slot : ℕ) → (new, None) ≡ drop_first t slot → (new ≡ t) × (lowest_open t.table slot ≡ None)
drop_none {F} t new slot is =
    elim (lowest_open t.table slot) as (λ o. lowest_open t.table slot ≡ o → (new, None) ≡ drop_found t slot o → (new ≡ t) × (lowest_open t.table slot ≡ None)) [
      | None ↦ λ none same. (ap (λ (p : Shared F × Option (Option F)). p.0) same, none)
      | Some number ↦ λ some other. (let no : None ≡ Some (last_file t slot number) = ap (λ (p : Shared F × Option (Option F)). p.1) other in cc)
    ] refl is

pub closed_by : {F : Type 0} (t new : Shared F) (slot : ℕ) → (new, None) ≡ drop_first t slot → lowest_open new.table slot ≡ None
closed_by {F} t new slot is =
    let all = drop_none t new slot is in
    ap (λ (s : Shared F). lowest_open s.table slot) all.0 ∙ all.1
