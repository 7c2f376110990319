-- Rows of whom setpgid(2) and kill(2) name, of the background of a terminal, and of what ps(1) says, worked out by hand.
use Rattle.std.proofs.Common.{◌≡◌, ℕ, true, false, List, [], ◌∷◌, refl, Option, Some, None, option_map, option_and_then}
use Rattle.std.specs.Prelude.{codes}
use Rattle.std.specs.Fmt.{digits}
use Rattle.sys_types.specs.declared.sig.Sig.TheVariants.{TTIN, TTOU}
use Rattle.sys_types.specs.declared.rules.Rule.{Rule}
use Rattle.sys_types.specs.declared.rules.Rule.TheVariants as rule
use Rattle.label_core.specs.declared.element.Element.TheVariants.{Low, High}
use Rattle.label_core.specs.Element.{dom}
use Rattle.call_words.specs.declared.call.Call.TheVariants as call
use Rattle.call_words.specs.declared.signal.Action.TheVariants.{Ignore, Catch}
use Rattle.call_words.specs.declared.signal.To.TheVariants.{Pid, Group}
use Rattle.proc_table.specs.Processes.{Process, Processes, process_at, change_process, set_pending}
use Rattle.proc_table.specs.Posts.{disposition_of, post_child}
use Rattle.proc_table.specs.Endings.{end_at, groups_orphaned_by}
use Rattle.proc_table.specs.Jobs.{setpgid_target, group_for, is_no_group}
use Rattle.proc_table.specs.Background.{is_background, may_not_stop, is_stopped_by_write}
use Rattle.proc_table.specs.Kills.{targets, kill_refusal, pids_to_signal}
use Rattle.proc_table.specs.Listing.{process_text}
use Rattle.proc_table.proofs.Scenes.{boot, fork_at, join_group, act_at, halt_at, child, job, exit_at}

-- the process of a slot answers a question
abbrev ask : {A : Type 0} → Processes ℕ → ℕ → (Process ℕ → A) → Option A
ask t slot question = option_map question (process_at t slot)

-- Whom setpgid names. In a job slot 1 has the shell, pid 2, which leads session and group 2, and slot 2 its child, pid 3, in group 3.

abbrev target_pid : Processes ℕ → ℕ → ℕ → Option ℕ
target_pid t slot pid = option_and_then (λ who. option_map (λ (p : Process ℕ). p.pid) (setpgid_target t who pid)) (process_at t slot)

-- 0 is the caller
own_by_0 : target_pid job 1 0 ≡ Some 2
own_by_0 = refl

own_by_pid : target_pid job 1 2 ≡ Some 2
own_by_pid = refl

child_by_pid : target_pid job 1 3 ≡ Some 3
child_by_pid = refl

-- a parent is not named, nor one that has the same parent, nor one that has ended
not_the_parent : target_pid job 2 2 ≡ None
not_the_parent = refl

not_a_brother : target_pid (fork_at child 0) 1 3 ≡ None
not_a_brother = refl

not_a_grandchild : target_pid job 0 3 ≡ None
not_a_grandchild = refl

not_a_zombie : target_pid (exit_at job 2) 1 3 ≡ None
unfolding disposition_of post_child end_at groups_orphaned_by
not_a_zombie = refl

nobody : target_pid job 1 9 ≡ None
nobody = refl

-- group 0 is the target's pid
group_by_0 : ask (fork_at boot 0) 1 (λ p. group_for p 0) ≡ Some 2
group_by_0 = refl

group_by_number : ask (fork_at boot 0) 1 (λ p. group_for p 1) ≡ Some 1
group_by_number = refl

-- its own new group, one of its session, one of another session, and none at all
own_group : ask (fork_at boot 0) 1 (λ p. is_no_group (fork_at boot 0) p 2) ≡ Some false
own_group = refl

group_of_session : ask job 2 (λ p. is_no_group job p 2) ≡ Some false
group_of_session = refl

group_of_another_session : ask job 2 (λ p. is_no_group job p 1) ≡ Some true
group_of_another_session = refl

no_group : ask job 2 (λ p. is_no_group job p 9) ≡ Some true
no_group = refl

-- The background of the terminal of session 2.

shell_in_front : ask job 1 (is_background (Some 2) 2) ≡ Some false
shell_in_front = refl

job_behind : ask job 2 (is_background (Some 2) 2) ≡ Some true
job_behind = refl

other_terminal : ask job 2 (is_background (Some 1) 2) ≡ Some false
other_terminal = refl

terminal_of_none : ask job 2 (is_background None 2) ≡ Some false
terminal_of_none = refl

-- a write from there is stopped unless TTOU is ignored
write_behind : ask job 2 (is_stopped_by_write (Some 2) 2) ≡ Some true
write_behind = refl

write_in_front : ask job 2 (is_stopped_by_write (Some 2) 3) ≡ Some false
write_in_front = refl

write_ignored : ask (act_at job 2 TTOU Ignore) 2 (is_stopped_by_write (Some 2) 2) ≡ Some false
write_ignored = refl

write_caught : ask (act_at job 2 TTOU Catch) 2 (is_stopped_by_write (Some 2) 2) ≡ Some true
write_caught = refl

-- and pid 1 is not stopped
write_of_init : ask boot 0 (is_stopped_by_write (Some 1) 9) ≡ Some false
write_of_init = refl

-- a read is not stopped where TTIN is ignored, the group is orphaned, or the process is pid 1
read_stops : ask job 2 (may_not_stop job) ≡ Some false
read_stops = refl

read_ignored : ask (act_at job 2 TTIN Ignore) 2 (may_not_stop (act_at job 2 TTIN Ignore)) ≡ Some true
read_ignored = refl

read_of_orphans : ask job 1 (may_not_stop job) ≡ Some true
read_of_orphans = refl

read_of_init : ask boot 0 (may_not_stop boot) ≡ Some true
read_of_init = refl

-- Whom a kill names. Pids 2 and 3 in group 2, of uid 7 and 8; pid 2 asks.

abbrev with_uid : ℕ → Process ℕ → Process ℕ
with_uid uid p = record p { cred = record { uid = uid; gid = 0; groups = record { items = [] } } }

abbrev users : Processes ℕ
users = change_process (with_uid 8) (change_process (with_uid 7) (join_group (fork_at child 0) 2 2) 1) 2

abbrev refusal_of : Processes ℕ → ℕ → ℕ → Option (Option Rule)
refusal_of t slot pid = ask t slot (λ who. kill_refusal who (targets t who (Pid pid)))

own_pid : refusal_of users 1 2 ≡ Some None
unfolding dom
own_pid = refl

other_user : refusal_of users 1 3 ≡ Some (Some rule.SigOwner)
unfolding dom
other_user = refl

no_process : refusal_of users 1 9 ≡ Some (Some rule.NoProcess)
unfolding dom
no_process = refl

superuser : refusal_of users 0 3 ≡ Some None
unfolding dom
superuser = refl

-- of a group those are signalled that may be
group_in_part : ask users 1 (λ who. pids_to_signal users who (Group 2)) ≡ Some (2 ∷ [])
unfolding dom
group_in_part = refl

group_whole : ask users 0 (λ who. pids_to_signal users who (Group 2)) ≡ Some (2 ∷ 3 ∷ [])
unfolding dom
group_whole = refl

-- one of a higher label is not seen, and one of a lower label may not be signalled
abbrev labels : Processes ℕ
labels =
    change_process (λ p. record p { label = record { active = Low; low = Low; high = High } })
    (change_process (λ p. record p { label = record { active = High; low = Low; high = High } }) (fork_at child 0) 1) 2

higher : refusal_of labels 2 2 ≡ Some (Some rule.NoProcess)
unfolding dom
higher = refl

lower : refusal_of labels 1 3 ≡ Some (Some rule.LabelWrite)
unfolding dom
lower = refl

-- What ps says: pid, parent, group, session, user, what it does, and its program.

abbrev line_of : Processes ℕ → ℕ → Option (List ℕ)
line_of t slot = ask t slot (λ p. process_text t (slot, p))

runs : line_of (change_process (with_uid 7) job 2) 2 ≡ Some (codes "3:2:3:2:7:run:init")
unfolding digits
runs = refl

sleeps : line_of (set_pending job 2 (Some call.Pause)) 2 ≡ Some (codes "3:2:3:2:0:sleep:init")
unfolding digits
sleeps = refl

-- one that sleeps and is stopped is stopped, and one that was stopped and has ended is a zombie
stops : line_of (halt_at (set_pending job 2 (Some call.Pause)) 2) 2 ≡ Some (codes "3:2:3:2:0:stop:init")
unfolding digits
stops = refl

ended : line_of (exit_at (halt_at job 2) 2) 2 ≡ Some (codes "3:2:3:2:0:zombie:init")
unfolding digits disposition_of post_child end_at groups_orphaned_by
ended = refl
