-- Rows of forks, worked out by hand from the manual page of fork(2).
use Rattle.std.proofs.Common.{◌≡◌, ℕ, Bool, true, false, List, [], ◌∷◌, map, refl, Some, None, option_map}
use Rattle.std.specs.Prelude.{is_none}
use Rattle.call_words.specs.declared.call.Call.TheVariants as call
use Rattle.proc_table.specs.Processes.{Processes, Process, process_at, running_at, change_process, pending_at, set_pending, is_left, tell, slot_of}
use Rattle.proc_table.specs.Forks.{lowest_slot, fork}
use Rattle.proc_table.specs.Posts.{disposition_of, post_child}
use Rattle.proc_table.specs.Endings.{end_at, groups_orphaned_by}
use Rattle.proc_table.proofs.Scenes.{boot, fork_at, child, exit_at, end_child, wait_for, exit_and_wait, with_children}

-- pids count up, and slots are taken from the lowest
first_fork : slot_of (fork_at boot 0) 2 ≡ Some 1
first_fork = refl

second_fork : slot_of (fork_at (fork_at boot 0) 0) 3 ≡ Some 2
second_fork = refl

-- a child: its parent, its arguments, and what it has not
abbrev forked_child : Process ℕ → Process ℕ
forked_child p = record p { pid = 3; parent = 2; args = 104 ∷ []; caught = 0; reported = false; begun = false; execed = false }

abbrev well_used : Process ℕ → Process ℕ
well_used p = record p { group = 2; directory = 7; umask = 63; caught = 4; reported = true; begun = true; execed = true }

fork_copies : process_at (fork (change_process well_used child 1) 1 (104 ∷ [])) 2 ≡ option_map (λ p. forked_child (well_used p)) (process_at child 1)
fork_copies = refl

-- a zombie's slot is not taken
zombie_slot : lowest_slot (exit_at child 1) ≡ Some 2
unfolding disposition_of post_child end_at groups_orphaned_by
zombie_slot = refl

-- that of one which was waited for is, and no pid is used again
reaped_slot : slot_of (fork_at (exit_and_wait child 2) 0) 3 ≡ Some 1
unfolding disposition_of post_child end_at groups_orphaned_by
reaped_slot = refl

-- but not while a call of the slot is pending
pending_slot : lowest_slot (exit_and_wait (set_pending child 1 (Some call.Pause)) 2) ≡ Some 2
unfolding disposition_of post_child end_at groups_orphaned_by
pending_slot = refl

-- other than a begin, which stays
begin_slot : lowest_slot (exit_and_wait (set_pending child 1 (Some call.Begin)) 2) ≡ Some 1
unfolding disposition_of post_child end_at groups_orphaned_by
begin_slot = refl

begin_stays : pending_at (fork_at (exit_and_wait (set_pending child 1 (Some call.Begin)) 2) 0) 1 ≡ Some call.Begin
unfolding disposition_of post_child end_at groups_orphaned_by
begin_stays = refl

-- a slot whose process a signal ended is left, and is taken when that is told
left_slot : lowest_slot (wait_for (end_child child) 2) ≡ Some 2
unfolding disposition_of post_child end_at groups_orphaned_by
left_slot = refl

told_slot : lowest_slot (tell (wait_for (end_child child) 2) 1) ≡ Some 1
unfolding disposition_of post_child end_at groups_orphaned_by
told_slot = refl

-- that of one which exited is not left
exited_slot : is_left (exit_at child 1) 1 ≡ false
unfolding disposition_of post_child end_at groups_orphaned_by
exited_slot = refl

-- with 32 processes there is no slot, and a fork changes nothing
no_slot : lowest_slot (with_children 31) ≡ None
no_slot = refl

last_fork : fork_at (with_children 31) 0 ≡ with_children 31
last_fork = refl

one_slot : lowest_slot (with_children 30) ≡ Some 31
one_slot = refl

-- a slot that is left: pid 2 is killed and waited for, pid 3 does not take its slot, and pid 4 does when that is told
abbrev after_left : Processes ℕ
after_left = fork_at (wait_for (end_child (fork_at boot 0)) 2) 0

left_behind_next : slot_of after_left 3 ≡ Some 2
unfolding disposition_of post_child end_at groups_orphaned_by
left_behind_next = refl

left_behind_then : slot_of (fork_at (tell after_left 1) 0) 4 ≡ Some 1
unfolding disposition_of post_child end_at groups_orphaned_by
left_behind_then = refl

-- a fork by no running process changes nothing
nobody_forks : fork_at (exit_at child 1) 1 ≡ exit_at child 1
unfolding disposition_of post_child end_at groups_orphaned_by
nobody_forks = refl

-- init(8) at a boot, in its session and group, with the numbers, the rights and the umask of a superuser, and nothing done yet
abbrev numbers : Process ℕ → ℕ × ℕ × ℕ × ℕ
numbers p = (p.pid, p.parent, p.group, p.session)

boot_numbers : option_map numbers (process_at boot 0) ≡ Some (1, 0, 1, 1)
boot_numbers = refl

abbrev rights : Process ℕ → ℕ × ℕ × List ℕ × ℕ
rights p = (p.cred.uid, p.cred.gid, p.cred.groups.items, p.umask)

boot_rights : option_map rights (process_at boot 0) ≡ Some (0, 0, [], 18)
boot_rights = refl

abbrev marks : Process ℕ → Bool × Bool × Bool × ℕ × List ℕ
marks p = (p.reported, p.begun, p.execed, p.caught, p.args)

boot_marks : option_map marks (process_at boot 0) ≡ Some (false, false, false, 0, [])
boot_marks = refl

boot_runs : running_at boot 0 ≡ process_at boot 0
boot_runs = refl

-- and no other process, with no call pending and no slot left
abbrev nothing_there : ℕ → Bool × Bool × Bool
nothing_there slot = (is_none (process_at boot slot), is_none (pending_at boot slot), is_left boot slot)

boot_alone : map nothing_there (0 ∷ 1 ∷ 31 ∷ [])
    ≡ (false, true, false) ∷ (true, true, false) ∷ (true, true, false) ∷ []
boot_alone = refl
