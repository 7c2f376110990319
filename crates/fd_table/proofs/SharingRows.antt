-- Descriptors that share an open file, worked out by hand and computed from the definitions: dup, dup2, fork and close in every order of three, dup2
-- onto itself and onto 31 and 32, and 256 open files and one more.
use Rattle.std.proofs.Common.{◌≡◌, ℕ, zero, suc, true, false, List, [], ◌∷◌, Option, Some, None, refl}
use Rattle.std.specs.Prelude.{Ok, Err}
use Rattle.sys_types.specs.declared.rules.Rule.TheVariants as rule
use Rattle.fd_table.specs.Shared.{Shared, file_at, change_file, fork, count_files}
use Rattle.fd_table.specs.Kept.{nothing_open}
use Rattle.fd_table.specs.Calls as calls

-- what is kept of a file is its offset alone
abbrev pub Files : Type 0
Files = Shared ℕ

-- slot 0 has a file of offset 5 at number 0
abbrev pub one_file : Files
one_file = (calls.open_new nothing_open 0 5 false).0

-- number 0 is copied to the lowest free number, and to 9; slot 0 is fork_slot into slot 1; number 0 is closed
abbrev pub dup : Files → Files
dup t = (calls.dup t 0 0).0

abbrev pub dup2 : Files → Files
dup2 t = (calls.dup2 t 0 0 9).0

abbrev fork_slot : Files → Files
fork_slot t = fork t 0 1

abbrev close : Files → Files
close t = (calls.close t 0 0).0

-- the offset is set to 7 by the highest of its numbers that is open in slot 0
abbrev set_offset : ℕ → Files → Files
set_offset number t = change_file (λ _. 7) t 0 number

-- what slot 0 has at 0, 1 and 9, and what slot 1 has there
abbrev Seen : Type 0
Seen = List (Option ℕ)

abbrev seen : Files → Seen
seen t = file_at t 0 0 ∷ file_at t 0 1 ∷ file_at t 0 9 ∷ file_at t 1 0 ∷ file_at t 1 1 ∷ file_at t 1 9 ∷ []

dup-dup2-fork : seen (set_offset 9 (fork_slot (dup2 (dup one_file)))) ≡ Some 7 ∷ Some 7 ∷ Some 7 ∷ Some 7 ∷ Some 7 ∷ Some 7 ∷ []
dup-dup2-fork = refl

dup-dup2-close : seen (set_offset 9 (close (dup2 (dup one_file)))) ≡ None ∷ Some 7 ∷ Some 7 ∷ None ∷ None ∷ None ∷ []
dup-dup2-close = refl

dup-fork-dup2 : seen (set_offset 9 (dup2 (fork_slot (dup one_file)))) ≡ Some 7 ∷ Some 7 ∷ Some 7 ∷ Some 7 ∷ Some 7 ∷ None ∷ []
dup-fork-dup2 = refl

dup-fork-close : seen (set_offset 1 (close (fork_slot (dup one_file)))) ≡ None ∷ Some 7 ∷ None ∷ Some 7 ∷ Some 7 ∷ None ∷ []
dup-fork-close = refl

dup-close-dup2 : seen (set_offset 1 (dup2 (close (dup one_file)))) ≡ None ∷ Some 7 ∷ None ∷ None ∷ None ∷ None ∷ []
dup-close-dup2 = refl

dup-close-fork : seen (set_offset 1 (fork_slot (close (dup one_file)))) ≡ None ∷ Some 7 ∷ None ∷ None ∷ Some 7 ∷ None ∷ []
dup-close-fork = refl

dup2-dup-fork : seen (set_offset 9 (fork_slot (dup (dup2 one_file)))) ≡ Some 7 ∷ Some 7 ∷ Some 7 ∷ Some 7 ∷ Some 7 ∷ Some 7 ∷ []
dup2-dup-fork = refl

dup2-dup-close : seen (set_offset 9 (close (dup (dup2 one_file)))) ≡ None ∷ Some 7 ∷ Some 7 ∷ None ∷ None ∷ None ∷ []
dup2-dup-close = refl

dup2-fork-dup : seen (set_offset 9 (dup (fork_slot (dup2 one_file)))) ≡ Some 7 ∷ Some 7 ∷ Some 7 ∷ Some 7 ∷ None ∷ Some 7 ∷ []
dup2-fork-dup = refl

dup2-fork-close : seen (set_offset 9 (close (fork_slot (dup2 one_file)))) ≡ None ∷ None ∷ Some 7 ∷ Some 7 ∷ None ∷ Some 7 ∷ []
dup2-fork-close = refl

dup2-close-dup : seen (set_offset 9 (dup (close (dup2 one_file)))) ≡ None ∷ None ∷ Some 7 ∷ None ∷ None ∷ None ∷ []
dup2-close-dup = refl

dup2-close-fork : seen (set_offset 9 (fork_slot (close (dup2 one_file)))) ≡ None ∷ None ∷ Some 7 ∷ None ∷ None ∷ Some 7 ∷ []
dup2-close-fork = refl

fork-dup-dup2 : seen (set_offset 9 (dup2 (dup (fork_slot one_file)))) ≡ Some 7 ∷ Some 7 ∷ Some 7 ∷ Some 7 ∷ None ∷ None ∷ []
fork-dup-dup2 = refl

fork-dup-close : seen (set_offset 1 (close (dup (fork_slot one_file)))) ≡ None ∷ Some 7 ∷ None ∷ Some 7 ∷ None ∷ None ∷ []
fork-dup-close = refl

fork-dup2-dup : seen (set_offset 9 (dup (dup2 (fork_slot one_file)))) ≡ Some 7 ∷ Some 7 ∷ Some 7 ∷ Some 7 ∷ None ∷ None ∷ []
fork-dup2-dup = refl

fork-dup2-close : seen (set_offset 9 (close (dup2 (fork_slot one_file)))) ≡ None ∷ None ∷ Some 7 ∷ Some 7 ∷ None ∷ None ∷ []
fork-dup2-close = refl

fork-close-dup : seen (set_offset 0 (dup (close (fork_slot one_file)))) ≡ None ∷ None ∷ None ∷ Some 5 ∷ None ∷ None ∷ []
fork-close-dup = refl

fork-close-dup2 : seen (set_offset 0 (dup2 (close (fork_slot one_file)))) ≡ None ∷ None ∷ None ∷ Some 5 ∷ None ∷ None ∷ []
fork-close-dup2 = refl

close-dup-dup2 : seen (set_offset 0 (dup2 (dup (close one_file)))) ≡ None ∷ None ∷ None ∷ None ∷ None ∷ None ∷ []
close-dup-dup2 = refl

close-dup-fork : seen (set_offset 0 (fork_slot (dup (close one_file)))) ≡ None ∷ None ∷ None ∷ None ∷ None ∷ None ∷ []
close-dup-fork = refl

close-dup2-dup : seen (set_offset 0 (dup (dup2 (close one_file)))) ≡ None ∷ None ∷ None ∷ None ∷ None ∷ None ∷ []
close-dup2-dup = refl

close-dup2-fork : seen (set_offset 0 (fork_slot (dup2 (close one_file)))) ≡ None ∷ None ∷ None ∷ None ∷ None ∷ None ∷ []
close-dup2-fork = refl

close-fork-dup : seen (set_offset 0 (dup (fork_slot (close one_file)))) ≡ None ∷ None ∷ None ∷ None ∷ None ∷ None ∷ []
close-fork-dup = refl

close-fork-dup2 : seen (set_offset 0 (dup2 (fork_slot (close one_file)))) ≡ None ∷ None ∷ None ∷ None ∷ None ∷ None ∷ []
close-fork-dup2 = refl

-- dup2 onto itself changes nothing, the mark among it
abbrev file_with_mark : Files
file_with_mark = (calls.open_new nothing_open 0 5 true).0

dup2-itself : calls.dup2 one_file 0 0 0 ≡ (one_file, Ok None)
dup2-itself = refl

-- 31 is the last number, and 32 is none
dup2-31 : file_at (calls.dup2 one_file 0 0 31).0 0 31 ≡ Some 5
dup2-31 = refl

dup2-32 : calls.dup2 one_file 0 0 32 ≡ (one_file, Err rule.BadFd)
dup2-32 = refl

-- a dup of a number that is not open
dup-closed : calls.dup one_file 0 1 ≡ (one_file, Err rule.BadFd)
dup-closed = refl

-- the file goes with its last reference, in whatever order the numbers are closed
close-first : (calls.close (dup one_file) 0 0).1 ≡ Ok None
close-first = refl

close-last : (calls.close (calls.close (dup one_file) 0 0).0 0 1).1 ≡ Ok (Some 5)
close-last = refl

close-other_slot : (calls.close (close (fork_slot one_file)) 1 0).1 ≡ Ok (Some 5)
close-other_slot = refl

close-twice : (calls.close (close one_file) 0 0).1 ≡ Err rule.BadFd
close-twice = refl

-- as many files more, each in the lowest number of the slot
abbrev pub open_more : ℕ → ℕ → Files → Files
open_more slot zero t = t
open_more slot (suc n) t = open_more slot n (calls.open_new t slot n false).0

-- eight slots with 32 files each
abbrev full_slots : ℕ → Files → Files
full_slots zero t = t
full_slots (suc n) t = full_slots n (open_more n 32 t)

all_open : count_files (λ _. true) (full_slots 8 nothing_open) ≡ 256
all_open = refl

-- 256 files are open and one more is asked; a slot with 32 numbers is refused for its numbers first
one_more : (calls.open_new (full_slots 8 nothing_open) 8 0 false).1 ≡ Err rule.OpenRoom
one_more = refl

numbers_first : (calls.open_new (full_slots 8 nothing_open) 7 0 false).1 ≡ Err rule.FdRoom
numbers_first = refl

-- one entry free: a pair is refused, and then one file is opened in it
pair_of_one : (calls.open_pair (calls.close (full_slots 8 nothing_open) 3 4).0 8 0 0).1 ≡ Err rule.OpenRoom
pair_of_one = refl

-- one number free: a pair is refused for it
pair_of_number : (calls.open_pair (open_more 0 31 nothing_open) 0 0 0).1 ≡ Err rule.FdRoom
pair_of_number = refl

pair_of_two : (calls.open_pair (open_more 0 30 nothing_open) 0 0 0).1 ≡ Ok (30, 31)
pair_of_two = refl

-- the lowest goes first, and of those that are marked the lowest marked
first-number : (calls.drop_first (dup2 one_file) 0).1 ≡ Some None
first-number = refl

none-there : (calls.drop_first one_file 1).1 ≡ None
none-there = refl

exec-first : (calls.close_exec_first (calls.open_new (open_more 0 2 nothing_open) 0 5 true).0 0).1 ≡ Some (Some 5)
exec-first = refl

-- a copy has no mark, and a fork has it
exec-copy : (calls.close_exec_first (calls.close (dup file_with_mark) 0 0).0 0).1 ≡ None
exec-copy = refl

exec-fork : (calls.close_exec_first (fork_slot file_with_mark) 1).1 ≡ Some None
exec-fork = refl
