-- Rows of each call on descriptors, worked out by hand and computed from the definitions: which file stands where, what is answered, and which rule
-- comes first.
use Rattle.std.proofs.Common.{◌≡◌, ℕ, ◌+◌, true, false, List, [], ◌∷◌, Option, Some, None, refl}
use Rattle.std.specs.Prelude.{Ok, Err, nat_lt}
use Rattle.sys_types.specs.declared.rules.Rule.TheVariants as rule
use Rattle.fd_table.specs.declared.open.Target.{Target}
use Rattle.fd_table.specs.declared.open.Target.TheVariants as target
use Rattle.fd_table.specs.declared.open.Open.{Open}
use Rattle.fd_table.specs.Shared.{Shared, file_at, change_file, fork, count_files, references, free_numbers, free_entries, map_files}
use Rattle.fd_table.specs.Kept.{nothing_open}
use Rattle.fd_table.specs.Opens.{same_target, is_of, at_offset}
use Rattle.fd_table.specs.Calls as calls
use Rattle.fd_table.proofs.SharingRows.{Files, one_file, dup, dup2, open_more}

-- slot 0 has a file of offset 5 at number 0 and another of offset 6 at number 1
abbrev two_files : Files
two_files = (calls.open_new one_file 0 6 false).0

first_file : file_at two_files 0 0 ≡ Some 5
first_file = refl

second_file : file_at two_files 0 1 ≡ Some 6
second_file = refl

other_slot : file_at two_files 1 0 ≡ None
other_slot = refl

-- the numbers and the entries that are free
numbers_free : free_numbers two_files.table 0 ≡ 30
numbers_free = refl

numbers_free_elsewhere : free_numbers two_files.table 1 ≡ 32
numbers_free_elsewhere = refl

entries_free : free_entries two_files.files ≡ 254
entries_free = refl

-- an open takes the lowest free number, which a close may have freed
answer_of_open : (calls.open_new two_files 0 7 false).1 ≡ Ok 2
answer_of_open = refl

number_again : (calls.open_new (calls.close two_files 0 0).0 0 7 false).1 ≡ Ok 0
number_again = refl

-- a refused open changes nothing
refused_open : calls.open_new (open_more 0 32 nothing_open) 0 7 false ≡ (open_more 0 32 nothing_open, Err rule.FdRoom)
refused_open = refl

-- the two files of a pair stand in their order, and neither is closed on exec
pair_first : file_at (calls.open_pair one_file 0 7 8).0 0 1 ≡ Some 7
pair_first = refl

pair_second : file_at (calls.open_pair one_file 0 7 8).0 0 2 ≡ Some 8
pair_second = refl

pair_mark : (calls.close_exec_first (calls.open_pair one_file 0 7 8).0 0).1 ≡ None
pair_mark = refl

-- a dup in a slot whose numbers are all open; of a number that is not open it is refused for that first
full_dup : (calls.dup (open_more 0 32 nothing_open) 0 3).1 ≡ Err rule.FdRoom
full_dup = refl

full_dup_closed : (calls.dup (open_more 0 32 nothing_open) 0 32).1 ≡ Err rule.BadFd
full_dup_closed = refl

last_dup : (calls.dup (open_more 0 31 nothing_open) 0 3).1 ≡ Ok 31
last_dup = refl

-- dup2 closes what stood there, and says which file went
over_file : (calls.dup2 two_files 0 0 1).1 ≡ Ok (Some 6)
over_file = refl

over_file_at : file_at (calls.dup2 two_files 0 0 1).0 0 1 ≡ Some 5
over_file_at = refl

-- none went where another number refers to it
over_shared : (calls.dup2 (dup one_file) 0 0 1).1 ≡ Ok None
over_shared = refl

over_shared_at : file_at (calls.dup2 (dup one_file) 0 0 1).0 0 1 ≡ Some 5
over_shared_at = refl

-- of a number that is not open it is refused, also onto itself
from_closed : calls.dup2 one_file 0 3 3 ≡ (one_file, Err rule.BadFd)
from_closed = refl

-- the mark of a number does not go with it, and the number that it had before is closed with its mark
mark_of_target : (calls.close_exec_first (calls.dup2 (calls.open_new one_file 0 6 true).0 0 0 1).0 0).1 ≡ None
mark_of_target = refl

-- the lowest number goes, and the others stay
first_goes : file_at (calls.drop_first two_files 0).0 0 0 ≡ None
first_goes = refl

first_goes_alone : file_at (calls.drop_first two_files 0).0 0 1 ≡ Some 6
first_goes_alone = refl

first_answer : (calls.drop_first two_files 0).1 ≡ Some (Some 5)
first_answer = refl

-- and of those with a mark the lowest alone
marked_goes : file_at (calls.close_exec_first (calls.open_new one_file 0 6 true).0 0).0 0 1 ≡ None
marked_goes = refl

unmarked_stays : file_at (calls.close_exec_first (calls.open_new one_file 0 6 true).0 0).0 0 0 ≡ Some 5
unmarked_stays = refl

-- how many numbers refer to an entry, of all slots
three_references : references 0 (dup2 (dup one_file)).table ≡ 3
three_references = refl

six_references : references 0 (fork (dup2 (dup one_file)) 0 1).table ≡ 6
six_references = refl

no_reference : references 1 (dup2 (dup one_file)).table ≡ 0
no_reference = refl

-- a change of one file leaves the other
changed_file : file_at (change_file (λ _. 9) two_files 0 1) 0 1 ≡ Some 9
changed_file = refl

other_file : file_at (change_file (λ _. 9) two_files 0 1) 0 0 ≡ Some 5
other_file = refl

nothing_changes : change_file (λ _. 9) two_files 0 3 ≡ two_files
nothing_changes = refl

-- how many files pass a test
below_six : count_files (λ offset. nat_lt offset 6) two_files ≡ 1
below_six = refl

shared_counts_once : count_files (λ offset. nat_lt offset 6) (dup two_files) ≡ 1
shared_counts_once = refl

-- something else of each file
seen_file : file_at {F = ℕ} (map_files (λ offset. offset + 2) two_files) 0 1 ≡ Some 8
seen_file = refl

-- Targets: each end of a pipe is another, and so is each opening of a line.
same_node : same_target (target.File 4) (target.File 4) ≡ true
same_node = refl

other_node : same_target (target.File 4) (target.File 5) ≡ false
other_node = refl

same_reading_end : same_target (target.PipeRead 4) (target.PipeRead 4) ≡ true
same_reading_end = refl

other_reading_end : same_target (target.PipeRead 4) (target.PipeRead 5) ≡ false
other_reading_end = refl

same_writing_end : same_target (target.PipeWrite 4) (target.PipeWrite 4) ≡ true
same_writing_end = refl

other_writing_end : same_target (target.PipeWrite 4) (target.PipeWrite 5) ≡ false
other_writing_end = refl

other_end : same_target (target.PipeRead 4) (target.PipeWrite 4) ≡ false
other_end = refl

same_opening : same_target (target.Line 4 2) (target.Line 4 2) ≡ true
same_opening = refl

other_opening : same_target (target.Line 4 2) (target.Line 4 3) ≡ false
other_opening = refl

other_line : same_target (target.Line 4 2) (target.Line 5 2) ≡ false
other_line = refl

file_no_pipe : same_target (target.File 4) (target.PipeRead 4) ≡ false
file_no_pipe = refl

-- an open file for reading of the first line
abbrev open_line : Open
open_line = record { target = target.Line 0 2; readable = true; writable = false; append = false; nonblock = false; offset = 3 }

of_line : is_of (target.Line 0 2) open_line ≡ true
of_line = refl

of_other_line : is_of (target.Line 0 1) open_line ≡ false
of_other_line = refl

offset_moves : at_offset 8 open_line ≡ record open_line { offset = 8 }
offset_moves = refl
