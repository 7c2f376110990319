-- What is kept of each file may be seen as something else, before a change or after it: each operation and each look has one lemma, which serves
-- the state of a machine and what calls see of it, and what calls see and what a kernel keeps.
use Rattle.std.proofs.Common.{◌≡◌, ℕ, zero, suc, ◌+◌, Bool, true, false, cond, List, [], ◌∷◌, map, set, Option, Some, None, option_map, eqb, refl, sym, ap, ◌∙◌}
use Rattle.std.specs.Prelude.{is_none, count_by}
use Rattle.std.proofs.lemmas.List.{map-set}
use Rattle.std.proofs.lemmas.List.Sums.{sum_by-cons}
use Rattle.fd_table.specs.declared.open.Descriptor.{Descriptor}
use Rattle.fd_table.specs.Shared.{Shared, Table, descriptor_at, put, references, entry_at, file_of, file_at, lowest_entry, free_entries, make, copy, fork}
use Rattle.fd_table.specs.Shared.{files_after, drop_number, unreferenced, last_file, change_in, change_file, holds, count_files, map_files}
use Rattle.fd_table.specs.Calls.{room_rule}
use Rattle.fd_table.proofs.CountLemmas.{bit}

entry-map : {F G : Type 0} (f : F → G) (files : List (Option F)) (entry : ℕ) → entry_at (map (option_map f) files) entry ≡ option_map f (entry_at files entry)
entry-map f [] entry = refl
entry-map f (x ∷ files) zero = refl
entry-map f (x ∷ files) (suc entry) = entry-map f files entry

file_of-map : {F G : Type 0} (f : F → G) (files : List (Option F)) (d : Option Descriptor)
    → file_of (map (option_map f) files) d ≡ option_map f (file_of files d)
file_of-map f files None = refl
file_of-map f files (Some d) = entry-map f files d.entry

-- the file of a number
pub file_at-map : {F G : Type 0} (f : F → G) (t : Shared F) (slot number : ℕ) → file_at (map_files f t) slot number ≡ option_map f (file_at t slot number)
file_at-map f t slot number = file_of-map f t.files (descriptor_at t.table slot number)

-- the lowest free entry
lowest-map : {F G : Type 0} (f : F → G) (files : List (Option F)) → lowest_entry (map (option_map f) files) ≡ lowest_entry files
lowest-map f [] = refl
lowest-map f (None ∷ files) = refl
lowest-map f (Some x ∷ files) = ap (λ n. 1 + n) (lowest-map f files)

-- how many entries are free
pub free_entries-map : {F G : Type 0} (f : F → G) (files : List (Option F)) → free_entries (map (option_map f) files) ≡ free_entries files
free_entries-map f [] = refl
free_entries-map {F} {G} f (None ∷ files) =
    sum_by-cons (λ (o : Option G). bit (is_none o)) None (map (option_map f) files)
    ∙ ap (λ n. 1 + n) (free_entries-map f files) ∙ sym (sum_by-cons (λ (o : Option F). bit (is_none o)) None files)
free_entries-map {F} {G} f (Some x ∷ files) =
    sum_by-cons (λ (o : Option G). bit (is_none o)) (Some (f x)) (map (option_map f) files)
    ∙ ap (λ n. 0 + n) (free_entries-map f files) ∙ sym (sum_by-cons (λ (o : Option F). bit (is_none o)) (Some x) files)

-- the rule of room
pub room_rule-map : {F G : Type 0} (f : F → G) (t : Shared F) (slot n : ℕ) → room_rule (map_files f t) slot n ≡ room_rule t slot n
room_rule-map f t slot n = rw (free_entries-map f t.files) refl

-- an open
pub make-map : {F G : Type 0} (f : F → G) (t : Shared F) (slot number : ℕ) (file : F) (on_exec : Bool)
    → map_files f (make t slot number file on_exec) ≡ make (map_files f t) slot number (f file) on_exec
make-map f t slot number file on_exec = rw (lowest-map f t.files, map-set (option_map f) t.files (lowest_entry t.files) (Some file)) refl

-- a dup
pub copy-map : {F G : Type 0} (f : F → G) (t : Shared F) (slot from into : ℕ) → map_files f (copy t slot from into) ≡ copy (map_files f t) slot from into
copy-map f t slot from into = refl

-- a fork
pub fork-map : {F G : Type 0} (f : F → G) (t : Shared F) (from into : ℕ) → map_files f (fork t from into) ≡ fork (map_files f t) from into
fork-map f t from into = refl

files_after-map : {F G : Type 0} (f : F → G) (d : Option Descriptor) (after : Table) (files : List (Option F))
    → map (option_map f) (files_after d after files) ≡ files_after d after (map (option_map f) files)
files_after-map f None after files = refl
files_after-map f (Some d) after files =
    elim (eqb (references d.entry after) 0) as
    (λ b. map (option_map f) (cond b (set files d.entry None) files) ≡ cond b (set (map (option_map f) files) d.entry None) (map (option_map f) files)) [
      | true ↦ map-set (option_map f) files d.entry None
      | false ↦ refl
    ]

-- a close
pub drop_number-map : {F G : Type 0} (f : F → G) (t : Shared F) (slot number : ℕ)
    → map_files f (drop_number t slot number) ≡ drop_number (map_files f t) slot number
drop_number-map {F} {G} f t slot number =
    let after = put t.table slot number None in
    ap (λ (files : List (Option G)). record { table = after; files = files }) (files_after-map f (descriptor_at t.table slot number) after t.files)

unreferenced-map : {F G : Type 0} (f : F → G) (d : Option Descriptor) (after : Table) (files : List (Option F))
    → unreferenced d after (map (option_map f) files) ≡ option_map f (unreferenced d after files)
unreferenced-map f None after files = refl
unreferenced-map {F} {G} f (Some d) after files =
    elim (eqb (references d.entry after) 0) as
    (λ b. cond b (entry_at (map (option_map f) files) d.entry) None ≡ option_map f (cond b (entry_at files d.entry) None)) [
      | true ↦ entry-map f files d.entry
      | false ↦ refl
    ]

-- the file that a close lets go
pub last_file-map : {F G : Type 0} (f : F → G) (t : Shared F) (slot number : ℕ) → last_file (map_files f t) slot number ≡ option_map f (last_file t slot number)
last_file-map f t slot number = unreferenced-map f (descriptor_at t.table slot number) (put t.table slot number None) t.files

changed-map : {F G : Type 0} (f : F → G) (how : F → F) (also : G → G) → ((x : F) → f (how x) ≡ also (f x)) → (o : Option F)
    → option_map f (option_map how o) ≡ option_map also (option_map f o)
changed-map f how also same None = refl
changed-map f how also same (Some x) = ap Some (same x)

change_in-map : {F G : Type 0} (f : F → G) (how : F → F) (also : G → G) → ((x : F) → f (how x) ≡ also (f x))
    → (d : Option Descriptor) (files : List (Option F)) → map (option_map f) (change_in how d files) ≡ change_in also d (map (option_map f) files)
change_in-map f how also same None files = refl
change_in-map f how also same (Some d) files =
    map-set (option_map f) files d.entry (option_map how (entry_at files d.entry))
    ∙ ap (λ o. set (map (option_map f) files) d.entry o)
    (changed-map f how also same (entry_at files d.entry) ∙ ap (option_map also) (sym (entry-map f files d.entry)))

-- a change of a number's file, which is seen as another change
pub change_file-map : {F G : Type 0} (f : F → G) (how : F → F) (also : G → G) → ((x : F) → f (how x) ≡ also (f x)) → (t : Shared F) (slot number : ℕ)
    → map_files f (change_file how t slot number) ≡ change_file also (map_files f t) slot number
change_file-map {F} {G} f how also same t slot number =
    ap (λ (files : List (Option G)). record { table = t.table; files = files }) (change_in-map f how also same (descriptor_at t.table slot number) t.files)

holds-map : {F G : Type 0} (f : F → G) (test : G → Bool) (o : Option F) → holds test (option_map f o) ≡ holds (λ x. test (f x)) o
holds-map f test None = refl
holds-map f test (Some x) = refl

count-map : {F G : Type 0} (f : F → G) (test : G → Bool) (files : List (Option F))
    → count_by (holds test) (map (option_map f) files) ≡ count_by (holds (λ x. test (f x))) files
count-map f test [] = refl
count-map {F} {G} f test (x ∷ files) =
    sum_by-cons (λ (o : Option G). bit (holds test o)) (option_map f x) (map (option_map f) files)
    ∙ ap (λ n. bit (holds test (option_map f x)) + n) (count-map f test files)
    ∙ ap (λ b. bit b + count_by (holds (λ y. test (f y))) files) (holds-map f test x)
    ∙ sym (sum_by-cons (λ (o : Option F). bit (holds (λ y. test (f y)) o)) x files)

-- how many files pass a test of what they are seen as
pub count_files-map : {F G : Type 0} (f : F → G) (test : G → Bool) (t : Shared F) → count_files test (map_files f t) ≡ count_files (λ x. test (f x)) t
count_files-map f test t = count-map f test t.files

map-twice : {F G H : Type 0} (f : F → G) (g : G → H) (files : List (Option F))
    → map (option_map g) (map (option_map f) files) ≡ map (option_map (λ x. g (f x))) files
map-twice f g [] = refl
map-twice f g (None ∷ files) = ap (λ rest. None ∷ rest) (map-twice f g files)
map-twice f g (Some x ∷ files) = ap (λ rest. Some (g (f x)) ∷ rest) (map-twice f g files)

-- seen twice is seen once
pub map_files-twice : {F G H : Type 0} (f : F → G) (g : G → H) (t : Shared F) → map_files g (map_files f t) ≡ map_files (λ x. g (f x)) t
map_files-twice {F} {G} {H} f g t = ap (λ (files : List (Option H)). record { table = t.table; files = files }) (map-twice f g t.files)
