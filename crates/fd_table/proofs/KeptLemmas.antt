-- Every slot keeps all its numbers, and an entry has a file exactly where some number refers to it.
use Rattle.std.proofs.Common.{◌≡◌, ◌≢◌, inl, inr, ℕ, zero, suc, ◌+◌, ◌<◌, Bool, true, false, cond, List, [], ◌∷◌, length, get_or, set, Option, None, Some}
use Rattle.std.proofs.Common.{option_map, count_by, eqb, arith, refl, ap, sym, ◌∙◌, subst}
use Rattle.std.specs.Prelude.{All, is_some, is_none}
use Rattle.std.proofs.lemmas.Bool.Decides.{nat_tests, eqb_tells}
use Rattle.std.proofs.lemmas.Bool.{eq-eqb}
use Rattle.std.proofs.lemmas.List.{get_or_past, get_or-set_same, get_or-set_other, set-get_or, length-set}
use Rattle.std.proofs.lemmas.List.Elements.{All-get_or, All-set}
use Rattle.std.proofs.lemmas.List.Sums.{passes_at_first}
use Rattle.sys_types.specs.declared.limits.TheConstants.{SLOTS, DESCRIPTORS, OPEN_FILES}
use Rattle.fd_table.specs.declared.open.Descriptor.{Descriptor}
use Rattle.fd_table.specs.Shared.{Shared, Table, row_of, descriptor_at, put, entry_at, refers, references, lowest_entry, make, fork, files_after, drop_number}
use Rattle.fd_table.specs.Shared.{change_in, change_file}
use Rattle.fd_table.specs.Kept.{IsKept, IsCounted}
use Rattle.fd_table.proofs.CountLemmas.{bit, references-put, references-row, references-of_row, references-some}

pub row-length : {F : Type 0} (t : Shared F) (slot : ℕ) → IsKept t → slot < SLOTS → length (row_of t.table slot) ≡ DESCRIPTORS
row-length t slot h within =
    let all = h.numbers in let size = h.slots in
    let here : slot < length t.table = omega arith in
    All-get_or (λ row. length row ≡ DESCRIPTORS) t.table slot [] here all

-- a number that is open has a file
pub file-of : {F : Type 0} (t : Shared F) (slot number : ℕ) (d : Descriptor) → IsKept t → descriptor_at t.table slot number ≡ Some d
    → is_some (entry_at t.files d.entry) ≡ true
file-of t slot number d h is = h.used d.entry (references-some t.table slot number d is).2

pub entry-within : {F : Type 0} (files : List (Option F)) (entry : ℕ) → is_some (entry_at files entry) ≡ true → entry < length files
entry-within files entry is = grind (arith, get_or_past)

-- its entry is one of the table
pub entry-of : {F : Type 0} (t : Shared F) (slot number : ℕ) (d : Descriptor) → IsKept t → descriptor_at t.table slot number ≡ Some d → d.entry < OPEN_FILES
entry-of t slot number d h is =
    let within = entry-within t.files d.entry (file-of t slot number d h is) in
    let size = h.entries in
    omega (arith, within, size)

numbers-put : {F : Type 0} (t : Shared F) (slot number : ℕ) (what : Option Descriptor) → IsKept t → slot < SLOTS
    → All (λ row. length row ≡ DESCRIPTORS) (put t.table slot number what)
numbers-put t slot number what h within =
    All-set (λ row. length row ≡ DESCRIPTORS) t.table slot (set (row_of t.table slot) number what)
    (length-set (row_of t.table slot) number what ∙ row-length t slot h within) h.numbers

-- how many numbers refer to an entry after one was given another descriptor
pub references-after : {F : Type 0} (t : Shared F) (a slot number : ℕ) (what : Option Descriptor) → IsKept t → slot < SLOTS → number < DESCRIPTORS
    → references a (put t.table slot number what) + bit (refers a (descriptor_at t.table slot number)) ≡ references a t.table + bit (refers a what)
references-after t a slot number what h within inside =
    let size = h.slots in
    let long = row-length t slot h within in
    let in_table : slot < length t.table = omega arith in
    let in_row : number < length (row_of t.table slot) = omega (arith, long) in
    references-put a t.table slot number what in_table in_row

-- a free number is given a descriptor of an entry
pub references-given : {F : Type 0} (t : Shared F) (a slot number : ℕ) (d : Descriptor) → IsKept t → slot < SLOTS → number < DESCRIPTORS
    → descriptor_at t.table slot number ≡ None → references a (put t.table slot number (Some d)) ≡ references a t.table + bit (eqb d.entry a)
references-given t a slot number d h within inside closed =
    let after = references-after t a slot number (Some d) h within inside in
    let none : bit (refers a (descriptor_at t.table slot number)) ≡ 0 = ap (λ o. bit (refers a o)) closed in
    omega (arith, after, none)

-- an open number is closed
pub references-closed : {F : Type 0} (t : Shared F) (a slot number : ℕ) (d : Descriptor) → IsKept t → slot < SLOTS → descriptor_at t.table slot number ≡ Some d
    → references a (put t.table slot number None) + bit (eqb d.entry a) ≡ references a t.table
references-closed t a slot number d h within is =
    let some = references-some t.table slot number d is in
    let after = references-put a t.table slot number None some.0 some.1 in
    let one : bit (refers a (descriptor_at t.table slot number)) ≡ bit (eqb d.entry a) = ap (λ o. bit (refers a o)) is in
    omega (arith, after, one)

-- a free number is given a descriptor of an entry that has a file
pub kept-put : {F : Type 0} (t : Shared F) (slot number : ℕ) (d : Descriptor) → IsKept t → slot < SLOTS → number < DESCRIPTORS
    → descriptor_at t.table slot number ≡ None → is_some (entry_at t.files d.entry) ≡ true → IsKept (record t { table = put t.table slot number (Some d) })
kept-put {F} t slot number d h within inside closed file = record {
  slots = length-set t.table slot (set (row_of t.table slot) number (Some d)) ∙ h.slots;
  numbers = numbers-put t slot number (Some d) h within;
  entries = h.entries;
  used = λ a some. (let given = references-given t a slot number d h within inside closed in
      elim (eqb_tells d.entry a) [
        | inl same ↦ subst (λ (e : ℕ). is_some (entry_at t.files e) ≡ true) same.1 file
        | inr other ↦ (let none : bit (eqb d.entry a) ≡ 0 = ap bit other.0 in h.used a (omega (arith, given, none, some)))
      ]);
  free = λ a none. (let given = references-given t a slot number d h within inside closed in h.free a (omega (arith, given, none)));
}

nothing : {X : Type 0} (o : Option X) → is_none o ≡ true → o ≡ None
nothing None is = refl
nothing (Some x) is = cc

-- the lowest free entry is one of the table, and free
pub free-entry : {F : Type 0} (files : List (Option F)) → lowest_entry files < length files → entry_at files (lowest_entry files) ≡ None
free-entry files room = nothing (entry_at files (lowest_entry files)) (passes_at_first is_none files None room)

-- a file is opened at a free number, in the lowest free entry
pub kept-make : {F : Type 0} (t : Shared F) (slot number : ℕ) (file : F) (on_exec : Bool) → IsKept t → slot < SLOTS → number < DESCRIPTORS
    → descriptor_at t.table slot number ≡ None → lowest_entry t.files < OPEN_FILES → IsKept (make t slot number file on_exec)
kept-make {F} t slot number file on_exec h within inside closed room =
    let e = lowest_entry t.files in
    let d : Descriptor = record { entry = e; on_exec = on_exec } in
    let size = h.entries in
    let here : e < length t.files = omega (arith, room, size) in
    record {
      slots = length-set t.table slot (set (row_of t.table slot) number (Some d)) ∙ h.slots;
      numbers = numbers-put t slot number (Some d) h within;
      entries = length-set t.files e (Some file) ∙ h.entries;
      used = λ a some. (let given = references-given t a slot number d h within inside closed in
          elim (eqb_tells e a) [
            | inl same ↦
                subst (λ (i : ℕ). is_some (entry_at (set t.files e (Some file)) i) ≡ true) same.1 (ap is_some (get_or-set_same t.files e (Some file) None here))
            | inr other ↦ (
                let none : bit (eqb e a) ≡ 0 = ap bit other.0 in
                let apart : a ≢ e = λ is. other.1 (sym is) in
                ap is_some (get_or-set_other t.files e a (Some file) None apart) ∙ h.used a (omega (arith, given, none, some)))
          ]);
      free = λ a none. (let given = references-given t a slot number d h within inside closed in
          elim (eqb_tells e a) [
            | inl same ↦ (let one : bit (eqb e a) ≡ 1 = ap bit same.0 in absurd (omega (arith, given, one, none)))
            | inr other ↦ (
                let apart : a ≢ e = λ is. other.1 (sym is) in
                get_or-set_other t.files e a (Some file) None apart ∙ h.free a (omega (arith, given, none)))
          ]);
    }

-- a number that is not open is closed: nothing changes
pub drop-closed : {F : Type 0} (t : Shared F) (slot number : ℕ) → descriptor_at t.table slot number ≡ None → drop_number t slot number ≡ t
drop-closed {F} t slot number is =
    let same : put t.table slot number None ≡ t.table =
    ap (λ o. set t.table slot (set (row_of t.table slot) number o)) (sym is)
    ∙ ap (λ row. set t.table slot row) (set-get_or (row_of t.table slot) number None) ∙ set-get_or t.table slot [] in
    ap (λ o. record { table = put t.table slot number None; files = files_after o (put t.table slot number None) t.files }) is
    ∙ ap (λ (table : Table). record { table = table; files = t.files }) same

length-left : {F : Type 0} (o : Option Descriptor) (after : Table) (files : List (Option F)) → length (files_after o after files) ≡ length files
length-left None after files = refl
length-left (Some d) after files =
    elim (eqb (references d.entry after) 0) as (λ b. length (cond b (set files d.entry None) files) ≡ length files) [
      | true ↦ length-set files d.entry None
      | false ↦ refl
    ]

pub left-freed : {F : Type 0} (d : Descriptor) (after : Table) (files : List (Option F)) → references d.entry after ≡ 0
    → files_after (Some d) after files ≡ set files d.entry None
left-freed d after files none = rw (eq-eqb (references d.entry after) 0 none) refl

pub left-same : {F : Type 0} (d : Descriptor) (after : Table) (files : List (Option F)) → 0 < references d.entry after
    → files_after (Some d) after files ≡ files
left-same d after files some = (let more : eqb (references d.entry after) 0 ≡ false = grind (arith, nat_tests) in rw more refl)

left-other : {F : Type 0} (d : Descriptor) (after : Table) (files : List (Option F)) (a : ℕ) → a ≢ d.entry
    → entry_at (files_after (Some d) after files) a ≡ entry_at files a
left-other d after files a apart =
    elim (eqb (references d.entry after) 0) as (λ b. entry_at (cond b (set files d.entry None) files) a ≡ entry_at files a) [
      | true ↦ get_or-set_other files d.entry a None None apart
      | false ↦ refl
    ]

cleared : {F : Type 0} (files : List (Option F)) (entry : ℕ) → entry_at (set files entry None) entry ≡ None
cleared [] entry = refl
cleared (f ∷ files) zero = refl
cleared (f ∷ files) (suc entry) = cleared files entry

pub kept-open : {F : Type 0} (t : Shared F) (slot number : ℕ) (d : Descriptor) → IsKept t → slot < SLOTS → descriptor_at t.table slot number ≡ Some d
    → IsKept (record { table = put t.table slot number None; files = files_after (Some d) (put t.table slot number None) t.files })
kept-open {F} t slot number d h within is =
    let after = put t.table slot number None in
    record {
      slots = length-set t.table slot (set (row_of t.table slot) number None) ∙ h.slots;
      numbers = numbers-put t slot number None h within;
      entries = length-left (Some d) after t.files ∙ h.entries;
      used = λ a some. (let closed = references-closed t a slot number d h within is in
          elim (eqb_tells d.entry a) [
            | inl same ↦ (
                let still : 0 < references d.entry after = subst (λ (i : ℕ). 0 < references i after) (sym same.1) some in
                ap (λ (files : List (Option F)). is_some (entry_at files a)) (left-same d after t.files still) ∙ h.used a (omega (arith, closed, some)))
            | inr other ↦ (
                let apart : a ≢ d.entry = λ e. other.1 (sym e) in
                ap is_some (left-other d after t.files a apart) ∙ h.used a (omega (arith, closed, some)))
          ]);
      free = λ a none. (let closed = references-closed t a slot number d h within is in
          elim (eqb_tells d.entry a) [
            | inl same ↦ (
                let gone : references d.entry after ≡ 0 = subst (λ (i : ℕ). references i after ≡ 0) (sym same.1) none in
                ap (λ (files : List (Option F)). entry_at files a) (left-freed d after t.files gone)
                ∙ subst (λ (i : ℕ). entry_at (set t.files d.entry None) i ≡ None) same.1 (cleared t.files d.entry))
            | inr other ↦ (
                let apart : a ≢ d.entry = λ e. other.1 (sym e) in
                let zero : bit (eqb d.entry a) ≡ 0 = ap bit other.0 in
                left-other d after t.files a apart ∙ h.free a (omega (arith, closed, zero, none)))
          ]);
    }

-- a number is closed
pub kept-drop : {F : Type 0} (t : Shared F) (slot number : ℕ) → IsKept t → slot < SLOTS → IsKept (drop_number t slot number)
kept-drop {F} t slot number h within =
    elim (descriptor_at t.table slot number) as (λ o. descriptor_at t.table slot number ≡ o → IsKept (drop_number t slot number)) [
      | None ↦ λ is. subst (λ (s : Shared F). IsKept s) (sym (drop-closed t slot number is)) h
      | Some d ↦
          λ is. subst
          (λ (o : Option Descriptor). IsKept (record { table = put t.table slot number None; files = files_after o (put t.table slot number None) t.files }))
          (sym is) (kept-open t slot number d h within is)
    ] refl

-- a slot without descriptors is given those of another
pub kept-fork : {F : Type 0} (t : Shared F) (from into : ℕ) → IsKept t → from < SLOTS → into < SLOTS → ((a : ℕ) → count_by (refers a) (row_of t.table into) ≡ 0)
    → IsKept (fork t from into)
kept-fork {F} t from into h there within empty =
    let size = h.slots in
    let in_table : into < length t.table = omega (arith, size) in
    let from_table : from < length t.table = omega (arith, size) in
    record {
      slots = length-set t.table into (row_of t.table from) ∙ h.slots;
      numbers = All-set (λ row. length row ≡ DESCRIPTORS) t.table into (row_of t.table from) (row-length t from h there) h.numbers;
      entries = h.entries;
      used = λ a some. (
          let row = references-row a t.table into (row_of t.table from) in_table in
          let part = references-of_row a t.table from from_table in
          let none = empty a in
          h.used a (omega (arith, row, part, none, some)));
      free = λ a zero. (
          let row = references-row a t.table into (row_of t.table from) in_table in
          let none = empty a in
          h.free a (omega (arith, row, none, zero)));
    }

changed-some : {F : Type 0} (how : F → F) (o : Option F) → is_some (option_map how o) ≡ is_some o
changed-some how None = refl
changed-some how (Some x) = refl

some-changed : {F : Type 0} (how : F → F) (files : List (Option F)) (entry a : ℕ)
    → is_some (entry_at (set files entry (option_map how (entry_at files entry))) a) ≡ is_some (entry_at files a)
some-changed how [] entry a = refl
some-changed how (f ∷ files) zero zero = changed-some how f
some-changed how (f ∷ files) zero (suc a) = refl
some-changed how (f ∷ files) (suc entry) zero = refl
some-changed how (f ∷ files) (suc entry) (suc a) = some-changed how files entry a

length-changed : {F : Type 0} (how : F → F) (o : Option Descriptor) (files : List (Option F)) → length (change_in how o files) ≡ length files
length-changed how None files = refl
length-changed how (Some d) files = length-set files d.entry (option_map how (entry_at files d.entry))

some-files : {F : Type 0} (how : F → F) (o : Option Descriptor) (files : List (Option F)) (a : ℕ)
    → is_some (entry_at (change_in how o files) a) ≡ is_some (entry_at files a)
some-files how None files a = refl
some-files how (Some d) files a = some-changed how files d.entry a

none-some : {X : Type 0} (o : Option X) → is_some o ≡ false → o ≡ None
none-some None is = refl
none-some (Some x) is = cc

-- the file of a number is changed
pub kept-change : {F : Type 0} (how : F → F) (t : Shared F) (slot number : ℕ) → IsKept t → IsKept (change_file how t slot number)
kept-change {F} how t slot number h =
    let o = descriptor_at t.table slot number in
    record {
      slots = h.slots;
      numbers = h.numbers;
      entries = length-changed how o t.files ∙ h.entries;
      used = λ a some. some-files how o t.files a ∙ h.used a some;
      free = λ a none. none-some (entry_at (change_in how o t.files) a) (some-files how o t.files a ∙ ap is_some (h.free a none));
    }

-- the count of one entry is set, and no other has changed
pub counted-set : (old new : Table) (counts : List ℕ) (entry count : ℕ) → IsCounted old counts → entry < OPEN_FILES → references entry new ≡ count
    → ((a : ℕ) → a ≢ entry → references a new ≡ references a old) → IsCounted new (set counts entry count)
counted-set old new counts entry count h within here others =
    let size = h.size in
    let inside : entry < length counts = omega (arith, size) in
    record {
      size = length-set counts entry count ∙ h.size;
      each = λ a. (elim (eqb_tells entry a) [
        | inl same ↦ subst (λ (i : ℕ). get_or (set counts entry count) i 0 ≡ references i new) same.1 (get_or-set_same counts entry count 0 inside ∙ sym here)
        | inr other ↦ (
            let apart : a ≢ entry = λ e. other.1 (sym e) in
            get_or-set_other counts entry a count 0 apart ∙ h.each a ∙ sym (others a apart))
      ]);
    }
