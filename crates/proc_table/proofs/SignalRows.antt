-- Rows of signals, worked out by hand from the manual pages of signal(3), kill(2) and termios(4).
use Rattle.std.proofs.Common.{◌≡◌, ℕ, true, false, [], ◌∷◌, map, refl, Some, None, option_map, option_and_then}
use Rattle.sys_types.specs.declared.sig.Sig.TheVariants.{HUP, INT, QUIT, KILL, PIPE, TERM, STOP, TSTP, CONT, CHLD, TTIN, TTOU, USR1, USR2}
use Rattle.call_words.specs.declared.event.How.TheVariants.{Signal}
use Rattle.call_words.specs.declared.signal.Action.TheVariants.{Ignore, Catch}
use Rattle.call_words.specs.declared.signal.To.TheVariants.{Pid, Group}
use Rattle.proc_table.specs.Processes.{Processes, process_at, change_process, is_orphaned, add_caught, drop_caught, least_caught}
use Rattle.proc_table.specs.Posts.{disposition_of, post_child, post}
use Rattle.proc_table.specs.Endings.{end_at, groups_orphaned_by}
use Rattle.proc_table.proofs.Scenes.{boot, fork_at, join_group, act_at, halt_at, child, job, post_to_child, exit_at, stopped_by, stop_told, stop_caught}
use Rattle.proc_table.proofs.Scenes.{caught_at, out_of_order}

-- by default these end a process
hup_ends : (post_to_child child HUP).ending ≡ (1, Signal HUP) ∷ []
unfolding disposition_of post_child
hup_ends = refl

int_ends : (post_to_child child INT).ending ≡ (1, Signal INT) ∷ []
unfolding disposition_of post_child
int_ends = refl

quit_ends : (post_to_child child QUIT).ending ≡ (1, Signal QUIT) ∷ []
unfolding disposition_of post_child
quit_ends = refl

kill_ends : (post_to_child child KILL).ending ≡ (1, Signal KILL) ∷ []
unfolding disposition_of post_child
kill_ends = refl

pipe_ends : (post_to_child child PIPE).ending ≡ (1, Signal PIPE) ∷ []
unfolding disposition_of post_child
pipe_ends = refl

term_ends : (post_to_child child TERM).ending ≡ (1, Signal TERM) ∷ []
unfolding disposition_of post_child
term_ends = refl

usr1_ends : (post_to_child child USR1).ending ≡ (1, Signal USR1) ∷ []
unfolding disposition_of post_child
usr1_ends = refl

usr2_ends : (post_to_child child USR2).ending ≡ (1, Signal USR2) ∷ []
unfolding disposition_of post_child
usr2_ends = refl

-- and nothing else changes: the process runs until its end is worked
int_waits : (post_to_child child INT).table ≡ child
unfolding disposition_of post_child
int_waits = refl

-- these do nothing
chld_does_nothing : post_to_child child CHLD ≡ record { table = child; ending = [] }
unfolding disposition_of post_child
chld_does_nothing = refl

cont_does_nothing : post_to_child child CONT ≡ record { table = child; ending = [] }
unfolding disposition_of post_child
cont_does_nothing = refl

-- these stop it, which was not reported
stop_stops : post_to_child child STOP ≡ record { table = change_process (λ p. record p { stopped = Some STOP; reported = false }) child 1; ending = [] }
unfolding disposition_of post_child
stop_stops = refl

tstp_stops : stopped_by (post_to_child child TSTP).table 1 ≡ Some TSTP
unfolding disposition_of post_child
tstp_stops = refl

ttin_stops : stopped_by (post_to_child child TTIN).table 1 ≡ Some TTIN
unfolding disposition_of post_child
ttin_stops = refl

ttou_stops : stopped_by (post_to_child child TTOU).table 1 ≡ Some TTOU
unfolding disposition_of post_child
ttou_stops = refl

-- a process that is stopped is stopped anew, by the new signal, which was not reported
stop_again : option_map stop_told (process_at (post_to_child (halt_at child 1) TSTP).table 1) ≡ Some (Some TSTP, false)
unfolding disposition_of post_child
stop_again = refl

-- the parent that catches CHLD gets it at a stop
stop_tells : caught_at (post_to_child (act_at child 0 CHLD Catch) TSTP).table 0 ≡ Some 1048576
unfolding disposition_of post_child
stop_tells = refl

-- and not otherwise
stop_tells_nobody : caught_at (post_to_child (act_at child 0 CHLD Ignore) TSTP).table 0 ≡ Some 0
unfolding disposition_of post_child
stop_tells_nobody = refl

-- an ignored signal does nothing
ignored : post_to_child (act_at child 1 TERM Ignore) TERM ≡ record { table = act_at child 1 TERM Ignore; ending = [] }
unfolding disposition_of post_child
ignored = refl

-- a caught one becomes pending
caught : post_to_child (act_at child 1 TERM Catch) TERM ≡ record { table = change_process (add_caught TERM) (act_at child 1 TERM Catch) 1; ending = [] }
unfolding disposition_of post_child
caught = refl

-- which is the bit of its number
caught_bit : caught_at (post_to_child (act_at child 1 TERM Catch) TERM).table 1 ≡ Some 32768
unfolding disposition_of post_child
caught_bit = refl

-- another one joins it
caught_two : caught_at (post_to_child (post_to_child (act_at (act_at child 1 TERM Catch) 1 INT Catch) TERM).table INT).table 1 ≡ Some 32772
unfolding disposition_of post_child
caught_two = refl

-- the pending one of the least number is known
least_of_two : option_and_then least_caught (process_at (post_to_child (post_to_child
    (act_at (act_at child 1 TERM Catch) 1 INT Catch) TERM).table INT).table 1) ≡ Some INT
unfolding disposition_of post_child
least_of_two = refl

-- and the other, when it was taken away
least_of_one : option_and_then (λ p. least_caught (drop_caught INT p)) (process_at
    (post_to_child (post_to_child (act_at (act_at child 1 TERM Catch) 1 INT Catch) TERM).table INT).table 1) ≡ Some TERM
unfolding disposition_of post_child
least_of_one = refl

-- what is not pending is not taken away
drop_of_none : option_map (λ p. (drop_caught INT p).caught) (process_at (post_to_child (act_at child 1 TERM Catch) TERM).table 1) ≡ Some 32768
unfolding disposition_of post_child
drop_of_none = refl

-- KILL ends and STOP stops whatever the action is
kill_is_fixed : (post_to_child (act_at child 1 KILL Ignore) KILL).ending ≡ (1, Signal KILL) ∷ []
unfolding disposition_of post_child
kill_is_fixed = refl

stop_is_fixed : stopped_by (post_to_child (act_at child 1 STOP Catch) STOP).table 1 ≡ Some STOP
unfolding disposition_of post_child
stop_is_fixed = refl

-- CONT continues a stopped process, by default, ignored, and caught
cont_continues : stopped_by (post_to_child (halt_at child 1) CONT).table 1 ≡ None
unfolding disposition_of post_child
cont_continues = refl

cont_ignored : option_map stop_caught (process_at (post_to_child (act_at (halt_at child 1) 1 CONT Ignore) CONT).table 1) ≡ Some (None, 0)
unfolding disposition_of post_child
cont_ignored = refl

cont_caught : option_map stop_caught (process_at (post_to_child (act_at (halt_at child 1) 1 CONT Catch) CONT).table 1) ≡ Some (None, 524288)
unfolding disposition_of post_child
cont_caught = refl

-- other signals leave it stopped
int_leaves_stopped : stopped_by (post_to_child (act_at (halt_at child 1) 1 INT Catch) INT).table 1 ≡ Some STOP
unfolding disposition_of post_child
int_leaves_stopped = refl

-- pid 1 is neither ended nor stopped
init_is_not_ended : (post child KILL (Pid 1) []).ending ≡ []
unfolding disposition_of post_child
init_is_not_ended = refl

init_is_not_stopped : (post child STOP (Pid 1) []).table ≡ child
unfolding disposition_of post_child
init_is_not_stopped = refl

-- and catches what it catches
init_catches : caught_at (post (act_at child 0 INT Catch) INT (Pid 1) []).table 0 ≡ Some 4
unfolding disposition_of post_child
init_catches = refl

-- nobody has pid 0 or group 0
nobody : post child KILL (Pid 0) [] ≡ record { table = child; ending = [] }
unfolding disposition_of post_child
nobody = refl

no_group : post child KILL (Group 0) [] ≡ record { table = child; ending = [] }
unfolding disposition_of post_child
no_group = refl

-- the group of pid 1 is orphaned, also by its children, whose parent is in the group
first_group : is_orphaned (fork_at boot 0) 1 ≡ true
first_group = refl

-- a job is not orphaned, whose parent is in another group of its session
job_group : is_orphaned job 3 ≡ false
job_group = refl

-- the group of a session leader is, whose parent is in another session
leader_group : is_orphaned job 2 ≡ true
leader_group = refl

-- a job with one such parent is not
two_jobs : is_orphaned (join_group (fork_at job 2) 3 3) 3 ≡ false
two_jobs = refl

-- one whose only parent outside is in another session is
far_job : is_orphaned (change_process (λ p. record p { session = 9 }) job 1) 3 ≡ true
far_job = refl

-- TSTP, TTIN and TTOU do not stop an orphaned group
tstp_of_orphans : (post job TSTP (Group 2) []).table ≡ job
unfolding disposition_of post_child
tstp_of_orphans = refl

ttin_of_orphans : (post job TTIN (Group 2) []).table ≡ job
unfolding disposition_of post_child
ttin_of_orphans = refl

ttou_of_orphans : (post job TTOU (Group 2) []).table ≡ job
unfolding disposition_of post_child
ttou_of_orphans = refl

-- STOP does
stop_of_orphans : stopped_by (post job STOP (Group 2) []).table 1 ≡ Some STOP
unfolding disposition_of post_child
stop_of_orphans = refl

-- and a caught TSTP is pending there
tstp_caught_by_orphans : caught_at (post (act_at job 1 TSTP Catch) TSTP (Group 2) []).table 1 ≡ Some 262144
unfolding disposition_of post_child
tstp_caught_by_orphans = refl

-- a group's members get a signal in rising order of their pids, wherever they stand
rising : (post out_of_order INT (Group 3) []).ending ≡ (2, Signal INT) ∷ (1, Signal INT) ∷ []
unfolding disposition_of post_child end_at groups_orphaned_by
rising = refl

-- a group in which members ignore, catch, stop and end: each does what it does
abbrev three_in_group : Processes ℕ
three_in_group = join_group (join_group (join_group (fork_at (fork_at (fork_at boot 0) 0) 0) 1 2) 2 2) 3 2

mixed : (post (act_at (act_at three_in_group 1 INT Ignore) 2 INT Catch) INT (Group 2) []).ending ≡ (3, Signal INT) ∷ []
unfolding disposition_of post_child
mixed = refl

mixed_catch : caught_at (post (act_at (act_at three_in_group 1 INT Ignore) 2 INT Catch) INT (Group 2) []).table 2 ≡ Some 4
unfolding disposition_of post_child
mixed_catch = refl

all_stop : map (stopped_by (post three_in_group TSTP (Group 2) []).table) (0 ∷ 1 ∷ 2 ∷ 3 ∷ []) ≡ None ∷ Some TSTP ∷ Some TSTP ∷ Some TSTP ∷ []
unfolding disposition_of post_child
all_stop = refl

-- a process that is to be ended stands on the list once, with the first signal
once : (post child INT (Pid 2) ((1, Signal HUP) ∷ [])).ending ≡ (1, Signal HUP) ∷ []
unfolding disposition_of post_child
once = refl

-- behind those that stand there
behind : (post three_in_group INT (Pid 3) ((1, Signal HUP) ∷ [])).ending ≡ (1, Signal HUP) ∷ (2, Signal INT) ∷ []
unfolding disposition_of post_child
behind = refl

-- it runs on until its end is worked, and catches
catches_to_the_end : caught_at (post (act_at child 1 INT Catch) INT (Pid 2) ((1, Signal HUP) ∷ [])).table 1 ≡ Some 4
unfolding disposition_of post_child
catches_to_the_end = refl

-- a zombie gets nothing
zombie_gets_nothing : (post (exit_at child 1) KILL (Pid 2) []).ending ≡ []
unfolding disposition_of post_child end_at groups_orphaned_by
zombie_gets_nothing = refl

-- CHLD to a parent is a post of CHLD to it, whether it catches CHLD, ignores it or neither, also to one that is stopped, and to none
child_caught : post_child (act_at child 0 CHLD Catch) 1 ≡ (post (act_at child 0 CHLD Catch) CHLD (Pid 1) []).table
unfolding disposition_of post_child
child_caught = refl

child_ignored : post_child (act_at child 1 CHLD Ignore) 2 ≡ (post (act_at child 1 CHLD Ignore) CHLD (Pid 2) []).table
unfolding disposition_of post_child
child_ignored = refl

child_caught_stopped : post_child (act_at (halt_at child 1) 1 CHLD Catch) 2 ≡ (post (act_at (halt_at child 1) 1 CHLD Catch) CHLD (Pid 2) []).table
unfolding disposition_of post_child
child_caught_stopped = refl

child_of_none : post_child child 9 ≡ (post child CHLD (Pid 9) []).table
unfolding disposition_of post_child
child_of_none = refl
