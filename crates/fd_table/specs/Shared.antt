-- Open files that descriptors share, after open(2), dup(2), fork(2) and close(2): each open file stands in an entry of one table, as
-- in the file table of a system, and each number of a slot refers to an entry. What is kept of a file, F, may be one thing in a state
-- of the machine and another in what calls see of it; all else is the same in both.
use Rattle.std.specs.Prelude.{ℕ, Bool, false, ◌==◌, List, [], map, Option, Some, None, is_none, is_some, option_map, position, count_by, slice_index_or}
use Rattle.std.specs.Prelude.{slice_set, if◌then◌else◌}
use Rattle.std.specs.List.{sum_by, position_or_len}
use Rattle.fd_table.specs.declared.open.Descriptor.{Descriptor}

-- for each slot its numbers, each with what it refers to
abbrev pub Table : Type 0
Table = List (List (Option Descriptor))

pub record Shared (F : Type 0) : Type 0 where
  pub table : Table
  pub files : List (Option F)

-- the numbers of a slot
abbrev pub row_of : Table → ℕ → List (Option Descriptor)
row_of table slot = slice_index_or table slot []

abbrev pub descriptor_at : Table → ℕ → ℕ → Option Descriptor
descriptor_at table slot number = slice_index_or (row_of table slot) number None

abbrev pub put : Table → ℕ → ℕ → Option Descriptor → Table
put table slot number descriptor = slice_set table slot (slice_set (row_of table slot) number descriptor)

abbrev pub entry_at : {F : Type 0} → List (Option F) → ℕ → Option F
entry_at files entry = slice_index_or files entry None

abbrev pub file_of : {F : Type 0} → List (Option F) → Option Descriptor → Option F
file_of files None = None
file_of files (Some d) = entry_at files d.entry

-- the file of a number; none where the number is not open
abbrev pub file_at : {F : Type 0} → Shared F → ℕ → ℕ → Option F
file_at t slot number = file_of t.files (descriptor_at t.table slot number)

-- a number refers to an entry
abbrev pub refers : ℕ → Option Descriptor → Bool
refers entry None = false
refers entry (Some d) = d.entry == entry

-- how many numbers, of all slots, refer to an entry
abbrev pub references : ℕ → Table → ℕ
references entry table = sum_by (λ row. count_by (refers entry) row) table

-- the lowest free entry, which a new file takes
abbrev pub lowest_entry : {F : Type 0} → List (Option F) → ℕ
lowest_entry files = position_or_len is_none files

-- the lowest free number of a slot, which a new descriptor takes
abbrev pub lowest_number : Table → ℕ → ℕ
lowest_number table slot = position_or_len is_none (row_of table slot)

-- how many numbers of a slot are free
abbrev pub free_numbers : Table → ℕ → ℕ
free_numbers table slot = count_by is_none (row_of table slot)

-- how many entries are free
abbrev pub free_entries : {F : Type 0} → List (Option F) → ℕ
free_entries files = count_by is_none files

-- the lowest number of a slot that is open
abbrev pub lowest_open : Table → ℕ → Option ℕ
lowest_open table slot = position is_some (row_of table slot)

abbrev pub is_on_exec : Option Descriptor → Bool
is_on_exec None = false
is_on_exec (Some d) = d.on_exec

-- the lowest number of a slot that is closed on exec
abbrev pub lowest_on_exec : Table → ℕ → Option ℕ
lowest_on_exec table slot = position is_on_exec (row_of table slot)

-- a file is opened at a number of a slot
abbrev pub make : {F : Type 0} → Shared F → ℕ → ℕ → F → Bool → Shared F
make t slot number file on_exec = record {
  table = put t.table slot number (Some (record { entry = lowest_entry t.files; on_exec = on_exec }));
  files = slice_set t.files (lowest_entry t.files) (Some file);
}

-- not closed on exec
abbrev pub without_mark : Descriptor → Descriptor
without_mark d = record d { on_exec = false }

-- another number of a slot refers to the file of this one, without its mark
abbrev pub copy : {F : Type 0} → Shared F → ℕ → ℕ → ℕ → Shared F
copy t slot from into = record t { table = put t.table slot into (option_map without_mark (descriptor_at t.table slot from)) }

-- each number of a slot refers to the file of that of another slot, with its mark
abbrev pub fork : {F : Type 0} → Shared F → ℕ → ℕ → Shared F
fork t from into = record t { table = slice_set t.table into (row_of t.table from) }

-- the files, of which that of a number goes when no number refers to it any more
abbrev pub files_after : {F : Type 0} → Option Descriptor → Table → List (Option F) → List (Option F)
files_after None table files = files
files_after (Some d) table files = if references d.entry table == 0 then slice_set files d.entry None else files

-- a number of a slot is closed
abbrev pub drop_number : {F : Type 0} → Shared F → ℕ → ℕ → Shared F
drop_number t slot number =
    let after = put t.table slot number None in
    record { table = after; files = files_after (descriptor_at t.table slot number) after t.files }

abbrev pub unreferenced : {F : Type 0} → Option Descriptor → Table → List (Option F) → Option F
unreferenced None table files = None
unreferenced (Some d) table files = if references d.entry table == 0 then entry_at files d.entry else None

-- the file that goes when a number is closed: its file, where no other number refers to it
abbrev pub last_file : {F : Type 0} → Shared F → ℕ → ℕ → Option F
last_file t slot number = unreferenced (descriptor_at t.table slot number) (put t.table slot number None) t.files

abbrev pub change_in : {F : Type 0} → (F → F) → Option Descriptor → List (Option F) → List (Option F)
change_in how None files = files
change_in how (Some d) files = slice_set files d.entry (option_map how (entry_at files d.entry))

-- the file of a number is changed, for all numbers that refer to it
abbrev pub change_file : {F : Type 0} → (F → F) → Shared F → ℕ → ℕ → Shared F
change_file how t slot number = record t { files = change_in how (descriptor_at t.table slot number) t.files }

abbrev pub holds : {F : Type 0} → (F → Bool) → Option F → Bool
holds test None = false
holds test (Some file) = test file

-- how many open files pass a test
abbrev pub count_files : {F : Type 0} → (F → Bool) → Shared F → ℕ
count_files test t = count_by (holds test) t.files

-- the same, with something else kept of each file
abbrev pub map_files : {F G : Type 0} → (F → G) → Shared F → Shared G
map_files f t = record { table = t.table; files = map (option_map f) t.files }
