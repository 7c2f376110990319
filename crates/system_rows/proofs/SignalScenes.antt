-- Signals: who may send them, and what they do.
use Rattle.std.proofs.Common.{◌≡◌, [], ◌∷◌, codes, refl}
use Rattle.system_rows.specs.Scenes.{wrong}
use Rattle.system_rows.proofs.Computing.{scenes_compute}

-- by default these end
endings : wrong [] (
    codes "0 fork -> 0 ok 2"
    ∷ codes "0 fork -> 0 ok 3"
    ∷ codes "0 fork -> 0 ok 4"
    ∷ codes "0 fork -> 0 ok 5"
    ∷ codes "0 fork -> 0 ok 6"
    ∷ codes "0 fork -> 0 ok 7"
    ∷ codes "0 fork -> 0 ok 8"
    ∷ codes "0 fork -> 0 ok 9"
    ∷ codes "0 kill 2 HUP -> 0 ok 0"
    ∷ codes "0 kill 3 INT -> 0 ok 0"
    ∷ codes "0 kill 4 QUIT -> 0 ok 0"
    ∷ codes "0 kill 5 KILL -> 0 ok 0"
    ∷ codes "0 kill 6 PIPE -> 0 ok 0"
    ∷ codes "0 kill 7 TERM -> 0 ok 0"
    ∷ codes "0 kill 8 USR1 -> 0 ok 0"
    ∷ codes "0 kill 9 USR2 -> 0 ok 0"
    ∷ codes "0 wait 0 n -> 0 child 2 signal 1"
    ∷ codes "0 wait 0 n -> 0 child 3 signal 2"
    ∷ codes "0 wait 0 n -> 0 child 4 signal 3"
    ∷ codes "0 wait 0 n -> 0 child 5 signal 9"
    ∷ codes "0 wait 0 n -> 0 child 6 signal 13"
    ∷ codes "0 wait 0 n -> 0 child 7 signal 15"
    ∷ codes "0 wait 0 n -> 0 child 8 signal 30"
    ∷ codes "0 wait 0 n -> 0 child 9 signal 31"
    ∷ codes "0 wait 0 n -> 0 err ECHILD no-child"
    ∷ codes "0 kill 2 HUP -> 0 err ESRCH no-process"
    ∷ []) ≡ []
unfolding scenes_compute
endings = refl

-- these stop a process whose group is not orphaned
stops : wrong [] (
    codes "0 fork -> 0 ok 2"
    ∷ codes "1 setsid -> 1 ok 2"
    ∷ codes "1 fork -> 1 ok 3"
    ∷ codes "2 setpgid 0 0 -> 2 ok 0"
    ∷ codes "1 kill 3 TSTP -> 1 ok 0"
    ∷ codes "1 wait 0 nu -> 1 child 3 stop 18"
    ∷ codes "2 sigtake -> 2 sleep stop"
    ∷ codes "2 sigtake -> 2 err EBUSY asleep"
    ∷ codes "1 kill 3 TTIN -> 1 ok 0"
    ∷ codes "1 wait 0 nu -> 1 child 3 stop 21"
    ∷ codes "1 kill 3 TTOU -> 1 ok 0"
    ∷ codes "1 wait 0 nu -> 1 child 3 stop 22"
    ∷ codes "1 kill 3 STOP -> 1 ok 0"
    ∷ codes "1 wait 0 nu -> 1 child 3 stop 17"
    ∷ codes "2 again -> 2 sleep stop"
    ∷ codes "1 kill 3 CHLD -> 1 ok 0"
    ∷ codes "2 again -> 2 sleep stop"
    ∷ codes "1 kill 3 CONT -> 1 ok 0 wake 2"
    ∷ codes "2 again -> 2 ok 0"
    ∷ codes "1 wait 0 nu -> 1 ok 0"
    ∷ codes "1 kill 3 CONT -> 1 ok 0"
    ∷ codes "1 kill 3 CHLD -> 1 ok 0"
    ∷ codes "2 sigtake -> 2 ok 0"
    ∷ []) ≡ []
unfolding scenes_compute
stops = refl

-- one of an orphaned group is stopped by STOP alone
orphaned_stops : wrong [] (
    codes "0 fork -> 0 ok 2"
    ∷ codes "0 kill 2 TSTP -> 0 ok 0"
    ∷ codes "1 sigtake -> 1 ok 0"
    ∷ codes "0 kill 2 TTIN -> 0 ok 0"
    ∷ codes "1 sigtake -> 1 ok 0"
    ∷ codes "0 kill 2 TTOU -> 0 ok 0"
    ∷ codes "1 sigtake -> 1 ok 0"
    ∷ codes "0 kill 2 STOP -> 0 ok 0"
    ∷ codes "1 sigtake -> 1 sleep stop"
    ∷ []) ≡ []
unfolding scenes_compute
orphaned_stops = refl

-- pid 1 is neither ended nor stopped, but catches
init_is_spared : wrong [] (
    codes "0 kill 1 KILL -> 0 ok 0"
    ∷ codes "0 kill 1 STOP -> 0 ok 0"
    ∷ codes "0 kill 1 TERM -> 0 ok 0"
    ∷ codes "0 kill 1 TSTP -> 0 ok 0"
    ∷ codes "0 sigtake -> 0 ok 0"
    ∷ codes "0 sigset TERM catch -> 0 ok 0"
    ∷ codes "0 kill 1 TERM -> 0 ok 0"
    ∷ codes "0 sigtake -> 0 ok 15"
    ∷ []) ≡ []
unfolding scenes_compute
init_is_spared = refl

-- an ignored signal does nothing, a caught one becomes pending once; the least number is taken first; CONT continues in any case
actions : wrong [] (
    codes "0 fork -> 0 ok 2"
    ∷ codes "1 sigset KILL ignore -> 1 err EINVAL sig-fixed"
    ∷ codes "1 sigset STOP catch -> 1 err EINVAL sig-fixed"
    ∷ codes "1 sigset KILL default -> 1 err EINVAL sig-fixed"
    ∷ codes "1 sigset INT ignore -> 1 ok 0"
    ∷ codes "0 kill 2 INT -> 0 ok 0"
    ∷ codes "1 sigtake -> 1 ok 0"
    ∷ codes "1 sigset USR2 catch -> 1 ok 0"
    ∷ codes "1 sigset HUP catch -> 1 ok 0"
    ∷ codes "1 sigset CONT catch -> 1 ok 0"
    ∷ codes "0 kill 2 USR2 -> 0 ok 0"
    ∷ codes "0 kill 2 HUP -> 0 ok 0"
    ∷ codes "0 kill 2 HUP -> 0 ok 0"
    ∷ codes "0 kill 2 STOP -> 0 ok 0"
    ∷ codes "1 sigtake -> 1 sleep stop"
    ∷ codes "0 kill 2 CONT -> 0 ok 0 wake 1"
    ∷ codes "1 again -> 1 ok 1"
    ∷ codes "1 sigtake -> 1 ok 19"
    ∷ codes "1 sigtake -> 1 ok 31"
    ∷ codes "1 sigtake -> 1 ok 0"
    ∷ codes "0 kill 2 USR2 -> 0 ok 0"
    ∷ codes "0 kill 2 HUP -> 0 ok 0"
    ∷ codes "1 sigset USR2 default -> 1 ok 0"
    ∷ codes "1 sigtake -> 1 ok 1"
    ∷ codes "1 sigtake -> 1 ok 0"
    ∷ codes "1 sigset CONT ignore -> 1 ok 0"
    ∷ codes "0 kill 2 STOP -> 0 ok 0"
    ∷ codes "1 sigtake -> 1 sleep stop"
    ∷ codes "0 kill 2 CONT -> 0 ok 0 wake 1"
    ∷ codes "1 again -> 1 ok 0"
    ∷ codes "1 sigset HUP ignore -> 1 ok 0"
    ∷ codes "0 kill 2 HUP -> 0 ok 0"
    ∷ codes "1 sigset HUP default -> 1 ok 0"
    ∷ codes "0 kill 2 HUP -> 0 ok 0"
    ∷ codes "0 wait 0 - -> 0 child 2 signal 1"
    ∷ []) ≡ []
unfolding scenes_compute
actions = refl

-- a caught signal interrupts a sleep, and a sleep that would begin
interrupts : wrong [] (
    codes "0 fork -> 0 ok 2"
    ∷ codes "1 sigset USR1 catch -> 1 ok 0"
    ∷ codes "1 pause -> 1 sleep pause"
    ∷ codes "0 kill 2 USR2 -> 0 ok 0 wake 1"
    ∷ codes "1 again -> 1 gone"
    ∷ codes "0 wait 0 - -> 0 child 2 signal 31"
    ∷ codes "0 fork -> 0 ok 3"
    ∷ codes "1 sigset USR1 catch -> 1 ok 0"
    ∷ codes "1 pause -> 1 sleep pause"
    ∷ codes "0 kill 3 USR1 -> 0 ok 0 wake 1"
    ∷ codes "1 again -> 1 err EINTR signal"
    ∷ codes "1 pause -> 1 err EINTR signal"
    ∷ codes "1 wait 0 - -> 1 err ECHILD no-child"
    ∷ codes "1 pipe -> 1 pair 0 1"
    ∷ codes "1 read 0 9 -> 1 err EINTR signal"
    ∷ codes "1 write 1 61 -> 1 ok 1"
    ∷ codes "1 read 0 9 -> 1 bytes 61"
    ∷ codes "1 open /dev/tty0 rw -> 1 err EINTR signal"
    ∷ codes "1 sigtake -> 1 ok 30"
    ∷ codes "1 pause -> 1 sleep pause"
    ∷ []) ≡ []
unfolding scenes_compute
interrupts = refl

-- a read that may not wait is not ready, also where a caught signal would interrupt the sleep
no_sleep_to_interrupt : wrong [] (
    codes "0 open /dev/tty7 rw n -> 0 ok 0"
    ∷ codes "0 open /dev/tty7 rw -> 0 ok 1"
    ∷ codes "0 sigset USR1 catch -> 0 ok 0"
    ∷ codes "0 kill 1 USR1 -> 0 ok 0"
    ∷ codes "0 read 0 9 -> 0 err EAGAIN not-ready"
    ∷ codes "0 read 1 9 -> 0 err EINTR signal"
    ∷ codes "0 sigtake -> 0 ok 30"
    ∷ codes "0 read 0 9 -> 0 err EAGAIN not-ready"
    ∷ codes "0 read 1 9 -> 0 sleep read"
    ∷ []) ≡ []
unfolding scenes_compute
no_sleep_to_interrupt = refl

-- a child that stops or ends posts CHLD to its parent
child_signals : wrong [] (
    codes "0 fork -> 0 ok 2"
    ∷ codes "1 fork -> 1 ok 3"
    ∷ codes "1 sigset CHLD catch -> 1 ok 0"
    ∷ codes "1 wait 0 - -> 1 sleep child"
    ∷ codes "0 kill 3 STOP -> 0 ok 0 wake 1"
    ∷ codes "1 again -> 1 err EINTR signal"
    ∷ codes "1 sigtake -> 1 ok 20"
    ∷ codes "0 kill 3 STOP -> 0 ok 0"
    ∷ codes "1 sigtake -> 1 ok 20"
    ∷ codes "0 kill 3 CONT -> 0 ok 0"
    ∷ codes "1 sigtake -> 1 ok 0"
    ∷ codes "2 exit 0 -> 2 ok 0"
    ∷ codes "1 sigtake -> 1 ok 20"
    ∷ codes "0 sigtake -> 0 ok 0"
    ∷ []) ≡ []
unfolding scenes_compute
child_signals = refl

-- who may send: nobody that is seen, a label, an owner
kill_rules : wrong [] (
    codes "0 kill 0 TERM -> 0 err ESRCH no-process"
    ∷ codes "0 kill g0 TERM -> 0 err ESRCH no-process"
    ∷ codes "0 kill 9 TERM -> 0 err ESRCH no-process"
    ∷ codes "0 kill g9 TERM -> 0 err ESRCH no-process"
    ∷ codes "0 fork -> 0 ok 2"
    ∷ codes "0 fork -> 0 ok 3"
    ∷ codes "0 fork -> 0 ok 4"
    ∷ codes "1 setproclabel mls/10(low-high) -> 1 ok 0"
    ∷ codes "2 setproclabel mls/5(low-high) -> 2 ok 0"
    ∷ codes "1 setcred 7 0 - -> 1 ok 0"
    ∷ codes "2 setcred 7 0 - -> 2 ok 0"
    ∷ codes "3 setcred 8 0 - -> 3 ok 0"
    ∷ codes "2 kill 2 TERM -> 2 err ESRCH no-process"
    ∷ codes "1 kill 3 TERM -> 1 err EACCES label-write"
    ∷ codes "1 kill 4 TERM -> 1 err EPERM sig-owner"
    ∷ codes "1 kill 1 TERM -> 1 err EPERM sig-owner"
    ∷ codes "3 kill 3 TERM -> 3 err EPERM sig-owner"
    ∷ codes "2 kill 3 CONT -> 2 ok 0"
    ∷ codes "3 exit 0 -> 3 ok 0"
    ∷ codes "0 kill 4 TERM -> 0 err ESRCH no-process"
    ∷ codes "0 kill 3 TERM -> 0 ok 0"
    ∷ codes "0 wait 3 - -> 0 child 3 signal 15"
    ∷ []) ≡ []
unfolding scenes_compute
kill_rules = refl

-- a group: those that pass get it; where none is seen, and where none passes
kill_groups : wrong [] (
    codes "0 fork -> 0 ok 2"
    ∷ codes "1 setpgid 0 0 -> 1 ok 0"
    ∷ codes "1 fork -> 1 ok 3"
    ∷ codes "1 fork -> 1 ok 4"
    ∷ codes "1 fork -> 1 ok 5"
    ∷ codes "2 setcred 7 0 - -> 2 ok 0"
    ∷ codes "3 setcred 8 0 - -> 3 ok 0"
    ∷ codes "4 setproclabel mls/10(low-high) -> 4 ok 0"
    ∷ codes "2 sigset USR1 catch -> 2 ok 0"
    ∷ codes "3 sigset USR1 catch -> 3 ok 0"
    ∷ codes "4 sigset USR1 catch -> 4 ok 0"
    ∷ codes "1 sigset USR1 catch -> 1 ok 0"
    ∷ codes "2 kill g2 USR1 -> 2 ok 0"
    ∷ codes "2 sigtake -> 2 ok 30"
    ∷ codes "1 sigtake -> 1 ok 0"
    ∷ codes "3 sigtake -> 3 ok 0"
    ∷ codes "4 sigtake -> 4 ok 0"
    ∷ codes "0 kill g2 USR1 -> 0 ok 0"
    ∷ codes "1 sigtake -> 1 ok 30"
    ∷ codes "2 sigtake -> 2 ok 30"
    ∷ codes "3 sigtake -> 3 ok 30"
    ∷ codes "4 sigtake -> 4 ok 30"
    ∷ codes "0 setproclabel mls/5(low-high) -> 0 ok 0"
    ∷ codes "0 kill g2 USR1 -> 0 ok 0"
    ∷ codes "4 sigtake -> 4 ok 0"
    ∷ codes "3 sigtake -> 3 ok 30"
    ∷ codes "0 fork -> 0 ok 6"
    ∷ codes "5 setcred 9 0 - -> 5 ok 0"
    ∷ codes "5 kill g2 USR1 -> 5 err EPERM sig-owner"
    ∷ codes "5 setproclabel mls/20(low-high) -> 5 ok 0"
    ∷ codes "5 kill g2 USR1 -> 5 err EPERM sig-owner"
    ∷ codes "1 setproclabel mls/15(low-high) -> 1 ok 0"
    ∷ codes "5 kill g2 USR1 -> 5 err EACCES label-write"
    ∷ []) ≡ []
unfolding scenes_compute
kill_groups = refl

-- those that end are ended in the order of their pids, after all posts: the second to end learns nothing of the first
order_of_endings : wrong [] (
    codes "0 fork -> 0 ok 2"
    ∷ codes "1 setpgid 0 0 -> 1 ok 0"
    ∷ codes "1 sigset CHLD catch -> 1 ok 0"
    ∷ codes "1 fork -> 1 ok 3"
    ∷ codes "1 sigset USR1 catch -> 1 ok 0"
    ∷ codes "2 sigset CHLD default -> 2 ok 0"
    ∷ codes "0 kill g2 USR1 -> 0 ok 0"
    ∷ codes "1 sigtake -> 1 ok 20"
    ∷ codes "1 sigtake -> 1 ok 30"
    ∷ codes "1 wait 0 - -> 1 child 3 signal 30"
    ∷ []) ≡ []
unfolding scenes_compute
order_of_endings = refl

-- the first signal that ends decides
first_signal : wrong [] (
    codes "0 fork -> 0 ok 2"
    ∷ codes "1 kill 2 TERM -> 1 ok 0"
    ∷ codes "1 sigtake -> 1 gone"
    ∷ codes "0 wait 2 - -> 0 child 2 signal 15"
    ∷ []) ≡ []
unfolding scenes_compute
first_signal = refl
