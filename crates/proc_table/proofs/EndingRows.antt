-- Rows of ends and orphaned groups, worked out by hand from the manual pages of _exit(2), setpgid(2) and termios(4).
use Rattle.std.proofs.Common.{◌≡◌, ℕ, true, false, [], ◌∷◌, refl, Some, None, option_and_then}
use Rattle.sys_types.specs.declared.sig.Sig.TheVariants.{HUP, INT, KILL, TERM, CONT, CHLD}
use Rattle.call_words.specs.declared.event.How.TheVariants.{Exit, Signal}
use Rattle.call_words.specs.declared.signal.Action.TheVariants.{Catch}
use Rattle.proc_table.specs.Processes.{Processes, process_at, change_process, is_left, has_member, has_member_in, is_orphaned}
use Rattle.proc_table.specs.Posts.{disposition_of, post_child}
use Rattle.proc_table.specs.Endings.{end_at, groups_orphaned_by, bury}
use Rattle.proc_table.proofs.Scenes.{fork_at, join_group, act_at, halt_at, child, job, post_to_child, exit_at, stopped_by, caught_at, parent_at}

-- a child's exit: it is a zombie, and its parent, which catches CHLD, gets it
exit_zombie : option_and_then (λ p. p.ending) (process_at (bury child 1 (Exit 7) []).table 1) ≡ Some (Exit 7)
unfolding disposition_of post_child end_at groups_orphaned_by
exit_zombie = refl

exit_tells : caught_at (bury (act_at child 0 CHLD Catch) 1 (Exit 7) []).table 0 ≡ Some 1048576
unfolding disposition_of post_child end_at groups_orphaned_by
exit_tells = refl

exit_tells_nobody : caught_at (bury child 1 (Exit 7) []).table 0 ≡ Some 0
unfolding disposition_of post_child end_at groups_orphaned_by
exit_tells_nobody = refl

-- nothing else changes of it, and its slot is not left
exit_alone : (bury child 1 (Exit 7) []).table ≡ change_process (λ p. record p { ending = Some (Exit 7) }) child 1
unfolding disposition_of post_child end_at groups_orphaned_by
exit_alone = refl

-- a signal that ends it leaves its slot
signal_leaves : is_left (bury child 1 (Signal HUP) []).table 1 ≡ true
unfolding disposition_of post_child end_at groups_orphaned_by
signal_leaves = refl

-- its children get pid 1 as their parent
child_is_adopted : parent_at (bury job 1 (Exit 0) []).table 2 ≡ Some 1
unfolding disposition_of post_child end_at groups_orphaned_by
child_is_adopted = refl

-- a zombie among them too
zombie_is_adopted : parent_at (exit_at (exit_at job 2) 1) 2 ≡ Some 1
unfolding disposition_of post_child end_at groups_orphaned_by
zombie_is_adopted = refl

-- the children of others do not
others_stay : parent_at (bury job 2 (Exit 0) []).table 1 ≡ Some 1
unfolding disposition_of post_child end_at groups_orphaned_by
others_stay = refl

-- pid 1, which catches CHLD, gets none for a child that it adopts
adoption_tells_nobody : caught_at (bury (act_at job 0 CHLD Catch) 2 (Exit 0) []).table 0 ≡ Some 0
unfolding disposition_of post_child end_at groups_orphaned_by
adoption_tells_nobody = refl

-- a job that is orphaned by the end of its parent, and is stopped, gets HUP, which ends it, and CONT
job_hangs_up : (bury (halt_at job 2) 1 (Exit 0) []).ending ≡ (2, Signal HUP) ∷ []
unfolding disposition_of post_child end_at groups_orphaned_by
job_hangs_up = refl

job_continues : stopped_by (bury (halt_at job 2) 1 (Exit 0) []).table 2 ≡ None
unfolding disposition_of post_child end_at groups_orphaned_by
job_continues = refl

-- first HUP, then CONT: both are pending where both are caught
job_catches : caught_at (bury (act_at (act_at (halt_at job 2) 2 HUP Catch) 2 CONT Catch) 1 (Exit 0) []).table 2 ≡ Some 524290
unfolding disposition_of post_child end_at groups_orphaned_by
job_catches = refl

-- one that is not stopped gets nothing
running_job : (bury (act_at job 2 CONT Catch) 1 (Exit 0) []).ending ≡ []
unfolding disposition_of post_child end_at groups_orphaned_by
running_job = refl

running_job_catches : caught_at (bury (act_at job 2 CONT Catch) 1 (Exit 0) []).table 2 ≡ Some 0
unfolding disposition_of post_child end_at groups_orphaned_by
running_job_catches = refl

-- nor one that was orphaned before: a stopped session leader, pid 2, when its child ends
orphaned_before : (bury (halt_at job 1) 2 (Exit 0) []).ending ≡ []
unfolding disposition_of post_child end_at groups_orphaned_by
orphaned_before = refl

-- nor one that has another parent outside it: pid 4 of group 3 is a child of the shell too
abbrev two_parents : Processes ℕ
two_parents = join_group (fork_at (join_group (fork_at job 1) 2 3) 1) 3 4

not_orphaned : is_orphaned two_parents 3 ≡ false
not_orphaned = refl

-- the end of the last member with a parent outside orphans its group: pid 4, whose parent is in the group, is stopped
abbrev job_with_child : Processes ℕ
job_with_child = halt_at (fork_at job 2) 3

last_parent : (bury job_with_child 2 (Exit 0) []).ending ≡ (3, Signal HUP) ∷ []
unfolding disposition_of post_child end_at groups_orphaned_by
last_parent = refl

-- a stopped process that ends does not count as stopped: its group has no stopped member then
ended_is_not_stopped : (bury (halt_at (fork_at job 2) 2) 2 (Signal KILL) []).ending ≡ []
unfolding disposition_of post_child end_at groups_orphaned_by
ended_is_not_stopped = refl

-- two jobs of a shell, groups 4 and 3 in slots 2 and 3, are hung up in rising number of their groups
abbrev two_stopped_jobs : Processes ℕ
two_stopped_jobs = halt_at (halt_at (join_group (join_group (fork_at job 1) 2 4) 3 3) 2) 3

rising_groups : (bury two_stopped_jobs 1 (Exit 0) []).ending ≡ (3, Signal HUP) ∷ (2, Signal HUP) ∷ []
unfolding disposition_of post_child end_at groups_orphaned_by
rising_groups = refl

-- each group once, though two members are stopped
one_group_twice : (bury (halt_at (halt_at (join_group (fork_at job 1) 3 3) 2) 3) 1 (Exit 0) []).ending ≡ (2, Signal HUP) ∷ (3, Signal HUP) ∷ []
unfolding disposition_of post_child end_at groups_orphaned_by
one_group_twice = refl

orphans_once : groups_orphaned_by (halt_at (halt_at (join_group (fork_at job 1) 3 3) 2) 3)
    (end_at (halt_at (halt_at (join_group (fork_at job 1) 3 3) 2) 3) 1 (Exit 0)) ≡ 3 ∷ []
unfolding post_child end_at groups_orphaned_by
orphans_once = refl

-- those that stand on the list are not put there again
listed_job : (bury (halt_at job 2) 1 (Exit 0) ((2, Signal TERM) ∷ [])).ending ≡ (2, Signal TERM) ∷ []
unfolding disposition_of post_child end_at groups_orphaned_by
listed_job = refl

-- a process on the list counts for groups until it is a zombie
listed_counts : has_member (post_to_child child INT).table 2 ≡ true
unfolding disposition_of post_child
listed_counts = refl

zombie_does_not : has_member (exit_at child 1) 2 ≡ false
unfolding disposition_of post_child end_at groups_orphaned_by
zombie_does_not = refl

-- a group is looked for in one session
group_here : has_member_in job 3 2 ≡ true
group_here = refl

group_elsewhere : has_member_in job 3 1 ≡ false
group_elsewhere = refl

-- where no process runs, none ends
nothing_ends : bury child 5 (Exit 0) [] ≡ record { table = child; ending = [] }
unfolding disposition_of post_child end_at groups_orphaned_by
nothing_ends = refl
