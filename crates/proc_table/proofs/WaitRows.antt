-- Rows of waits, worked out by hand from the manual page of wait4(2).
use Rattle.std.proofs.Common.{◌≡◌, ℕ, true, false, [], ◌∷◌, map, refl, Some, None}
use Rattle.std.specs.Prelude.{Ok, Err}
use Rattle.sys_types.specs.declared.sig.Sig.TheVariants.{KILL, STOP, TSTP}
use Rattle.sys_types.specs.declared.rules.Rule.TheVariants as rule
use Rattle.call_words.specs.declared.call.Call.TheVariants as call
use Rattle.call_words.specs.declared.event.How.TheVariants.{Exit, Signal, Stop}
use Rattle.call_words.specs.declared.signal.To.TheVariants.{Group}
use Rattle.proc_table.specs.Processes.{Processes, process_at, pending_at, set_pending, is_left, processes, running}
use Rattle.proc_table.specs.Posts.{disposition_of, post_child, post}
use Rattle.proc_table.specs.Endings.{end_at, groups_orphaned_by, bury}
use Rattle.proc_table.specs.Reaping.{reap}
use Rattle.proc_table.proofs.Scenes.{boot, fork_at, child, job, post_to_child, exit_at, end_child, wait_for, stopped_by, out_of_order}

-- a process without a child
childless : reap boot 0 0 false ≡ (boot, Err rule.NoChild)
childless = refl

-- without the one that is asked
no_such_child : reap child 0 3 false ≡ (child, Err rule.NoChild)
no_such_child = refl

-- pid 1 is nobody's child
init_is_no_child : reap child 1 1 false ≡ (child, Err rule.NoChild)
init_is_no_child = refl

-- a child of which there is no news
no_news : reap child 0 2 true ≡ (child, Ok None)
no_news = refl

-- a zombie is no more, and its parent learns how it ended
abbrev child_exit : Processes ℕ
child_exit = (bury child 1 (Exit 7) []).table

reaped_exit : (reap child_exit 0 2 false).1 ≡ Ok (Some (2, Exit 7))
unfolding disposition_of post_child end_at groups_orphaned_by
reaped_exit = refl

reaped_gone : process_at (reap child_exit 0 0 false).0 1 ≡ None
unfolding disposition_of post_child end_at groups_orphaned_by
reaped_gone = refl

-- once
reaped_once : (reap (reap child_exit 0 0 false).0 0 0 false).1 ≡ Err rule.NoChild
unfolding disposition_of post_child end_at groups_orphaned_by
reaped_once = refl

-- by which signal
reaped_signal : (reap (end_child child) 0 0 true).1 ≡ Ok (Some (2, Signal KILL))
unfolding disposition_of post_child end_at groups_orphaned_by
reaped_signal = refl

-- its slot's pending call stays, and so does that it is left
call_stays : pending_at (wait_for (set_pending (end_child child) 1 (Some call.Pause)) 2) 1 ≡ Some call.Pause
unfolding disposition_of post_child end_at groups_orphaned_by
call_stays = refl

left_stays : is_left (wait_for (end_child child) 2) 1 ≡ true
unfolding disposition_of post_child end_at groups_orphaned_by
left_stays = refl

-- the zombie of least pid goes first, wherever it stands: pids 3 and 4 in slots 2 and 1
abbrev two_zombies : Processes ℕ
two_zombies = exit_at (exit_at out_of_order 1) 2

least_first : (reap two_zombies 0 0 false).1 ≡ Ok (Some (3, Exit 0))
unfolding disposition_of post_child end_at groups_orphaned_by
least_first = refl

-- unless another is asked
asked_first : (reap two_zombies 0 4 false).1 ≡ Ok (Some (4, Exit 0))
unfolding disposition_of post_child end_at groups_orphaned_by
asked_first = refl

-- a stop is told where that is asked, once
abbrev child_stop : Processes ℕ
child_stop = (post_to_child child TSTP).table

stop_is_told : (reap child_stop 0 2 true).1 ≡ Ok (Some (2, Stop TSTP))
unfolding disposition_of post_child
stop_is_told = refl

stop_is_told_once : (reap (reap child_stop 0 2 true).0 0 2 true).1 ≡ Ok None
unfolding disposition_of post_child
stop_is_told_once = refl

stop_stays : stopped_by (reap child_stop 0 2 true).0 1 ≡ Some TSTP
unfolding disposition_of post_child
stop_stays = refl

-- and not otherwise
stop_is_not_asked : reap child_stop 0 2 false ≡ (child_stop, Ok None)
unfolding disposition_of post_child
stop_is_not_asked = refl

-- a stop anew is told anew
stop_is_told_anew : (reap (post_to_child (reap child_stop 0 2 true).0 STOP).table 0 2 true).1 ≡ Ok (Some (2, Stop STOP))
unfolding disposition_of post_child
stop_is_told_anew = refl

-- a zombie goes before a stop, though its pid is higher
abbrev zombie_and_stop : Processes ℕ
zombie_and_stop = exit_at (post_to_child (fork_at child 0) TSTP).table 2

zombie_before_stop : (reap zombie_and_stop 0 0 true).1 ≡ Ok (Some (3, Exit 0))
unfolding disposition_of post_child end_at groups_orphaned_by
zombie_before_stop = refl

-- the stop of least pid is told first: pids 3 and 4 in slots 2 and 1
least_stop_first : (reap (post out_of_order TSTP (Group 3) []).table 0 0 true).1 ≡ Ok (Some (3, Stop TSTP))
unfolding disposition_of post_child end_at groups_orphaned_by
least_stop_first = refl

-- a zombie that was stopped is no stop
stopped_zombie : (reap (exit_at child_stop 1) 0 2 true).1 ≡ Ok (Some (2, Exit 0))
unfolding disposition_of post_child end_at groups_orphaned_by
stopped_zombie = refl

-- the children of others do not count
others_child : reap job 0 3 true ≡ (job, Err rule.NoChild)
others_child = refl

-- all processes in rising order of their pids, zombies too
all_processes : map (λ e. (e.1).pid) (processes (exit_at out_of_order 2)) ≡ 1 ∷ 3 ∷ 4 ∷ []
unfolding disposition_of post_child end_at groups_orphaned_by
all_processes = refl

-- and those that run
all_running : map (λ e. (e.1).pid) (running (exit_at out_of_order 2)) ≡ 1 ∷ 4 ∷ []
unfolding disposition_of post_child end_at groups_orphaned_by
all_running = refl
