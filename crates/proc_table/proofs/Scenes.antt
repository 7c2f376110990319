-- Processes in a few states, for the rows that are worked out by hand.
use Rattle.std.proofs.Common.{ℕ, zero, suc, Bool, true, false, [], Option, Some, option_map, option_and_then}
use Rattle.sys_types.specs.declared.sig.Sig.{Sig}
use Rattle.sys_types.specs.declared.sig.Sig.TheVariants.{KILL, STOP}
use Rattle.call_words.specs.declared.event.How.TheVariants.{Exit, Signal}
use Rattle.call_words.specs.declared.signal.Action.{Action}
use Rattle.call_words.specs.declared.signal.To.TheVariants.{Pid}
use Rattle.proc_table.specs.Processes.{Process, Processes, at_boot, set_action, process_at, change_process, tell}
use Rattle.proc_table.specs.Forks.{fork}
use Rattle.proc_table.specs.Posts.{Posted, post}
use Rattle.proc_table.specs.Endings.{bury}
use Rattle.proc_table.specs.Reaping.{reap}

-- init(8) alone
abbrev pub boot : Processes ℕ
boot = at_boot 0

-- a process of a slot forks
abbrev pub fork_at : Processes ℕ → ℕ → Processes ℕ
fork_at t slot = fork t slot []

-- a process joins a group
abbrev pub join_group : Processes ℕ → ℕ → ℕ → Processes ℕ
join_group t slot group = change_process (λ p. record p { group = group }) t slot

-- it leads a session
abbrev pub lead_session : Processes ℕ → ℕ → ℕ → Processes ℕ
lead_session t slot pid = change_process (λ p. record p { group = pid; session = pid }) t slot

-- it does something else at a signal
abbrev pub act_at : Processes ℕ → ℕ → Sig → Action → Processes ℕ
act_at t slot sig what = change_process (λ p. record p { actions = set_action p.actions sig what }) t slot

-- it was stopped
abbrev pub halt_at : Processes ℕ → ℕ → Processes ℕ
halt_at t slot = change_process (λ p. record p { stopped = Some STOP; reported = true }) t slot

-- init and a child, pid 2 in slot 1, in a group of its own
abbrev pub child : Processes ℕ
child = join_group (fork_at boot 0) 1 2

-- a shell that leads a session, pid 2 in slot 1, and its child, pid 3 in slot 2, in a group of its own
abbrev pub job : Processes ℕ
job = join_group (fork_at (lead_session (fork_at boot 0) 1 2) 1) 2 3

abbrev pub post_to_child : Processes ℕ → Sig → Posted ℕ
post_to_child t signal = post t signal (Pid 2) []

-- the process of a slot exits
abbrev pub exit_at : Processes ℕ → ℕ → Processes ℕ
exit_at t slot = (bury t slot (Exit 0) []).table

-- a signal ends pid 2
abbrev pub end_child : Processes ℕ → Processes ℕ
end_child t = (bury t 1 (Signal KILL) []).table

-- pid 1 waits for a zombie
abbrev pub wait_for : Processes ℕ → ℕ → Processes ℕ
wait_for t pid = (reap t 0 pid false).0

-- pid 2 exits, and pid 1 waits for it
abbrev pub exit_and_wait : Processes ℕ → ℕ → Processes ℕ
exit_and_wait t pid = wait_for (exit_at t 1) pid

-- init and so many children
abbrev pub with_children : ℕ → Processes ℕ
with_children zero = boot
with_children (suc n) = fork_at (with_children n) 0

-- which signal stopped the process of a slot
abbrev pub stopped_by : Processes ℕ → ℕ → Option Sig
stopped_by t slot = option_and_then (λ p. p.stopped) (process_at t slot)

abbrev pub stop_told : Process ℕ → Option Sig × Bool
stop_told p = (p.stopped, p.reported)

abbrev pub stop_caught : Process ℕ → Option Sig × ℕ
stop_caught p = (p.stopped, p.caught)

abbrev pub caught_at : Processes ℕ → ℕ → Option ℕ
caught_at t slot = option_map (λ p. p.caught) (process_at t slot)

abbrev pub parent_at : Processes ℕ → ℕ → Option ℕ
parent_at t slot = option_map (λ p. p.parent) (process_at t slot)

-- two children in a group of their own, pids 3 and 4 in slots 2 and 1
abbrev pub out_of_order : Processes ℕ
out_of_order = join_group (join_group (fork_at (tell (exit_and_wait (fork_at (fork_at boot 0) 0) 2) 1) 0) 1 3) 2 3
