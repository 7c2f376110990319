-- Processes: fork, begin, exec, exit, wait, sessions and groups.
use Rattle.std.proofs.Common.{◌≡◌, [], ◌∷◌, codes, refl}
use Rattle.system_rows.specs.Scenes.{wrong}
use Rattle.system_rows.proofs.Computing.{scenes_compute}

-- a child is a copy of its parent, but for its number, its parent, its arguments, and what it has not done yet
fork_copies : wrong [] (
    codes "0 umask 77 -> 0 ok 18"
    ∷ codes "0 chdir /tmp -> 0 ok 0"
    ∷ codes "0 sigset INT ignore -> 0 ok 0"
    ∷ codes "0 sigset HUP catch -> 0 ok 0"
    ∷ codes "0 kill 1 HUP -> 0 ok 0"
    ∷ codes "0 setcred 7 8 9+10 -> 0 ok 0"
    ∷ codes "0 setproclabel mls/5(low-high) -> 0 ok 0"
    ∷ codes "0 open f rw ce -> 0 ok 0"
    ∷ codes "0 begin -> 0 image init -"
    ∷ codes "0 fork 6162 -> 0 ok 2"
    ∷ codes "1 ident -> 1 text 2:7:8:9+10:mls/5(low-high)"
    ∷ codes "1 umask 22 -> 1 ok 63"
    ∷ codes "1 sigtake -> 1 ok 0"
    ∷ codes "0 sigtake -> 0 ok 1"
    ∷ codes "1 info f -> 1 text file:7:0:600:0"
    ∷ codes "1 kill 2 INT -> 1 ok 0"
    ∷ codes "1 kill 2 HUP -> 1 ok 0"
    ∷ codes "1 sigtake -> 1 ok 1"
    ∷ codes "1 begin -> 1 image init 6162"
    ∷ codes "1 begin -> 1 err EINVAL begun"
    ∷ codes "0 begin -> 0 err EINVAL begun"
    ∷ codes "1 write 0 61 -> 1 ok 1"
    ∷ codes "0 write 0 62 -> 0 ok 1"
    ∷ codes "0 info f -> 0 text file:7:0:600:2"
    ∷ codes "1 umask 0 -> 1 ok 18"
    ∷ codes "0 umask 0 -> 0 ok 63"
    ∷ []) ≡ []
unfolding scenes_compute
fork_copies = refl

-- the lowest slot is taken, pids count up, and 32 slots are all
slots_taken : wrong [] (
    codes "0 fork -> 0 ok 2"
    ∷ codes "0 fork -> 0 ok 3"
    ∷ codes "0 fork -> 0 ok 4"
    ∷ codes "2 exit 0 -> 2 ok 0"
    ∷ codes "0 fork -> 0 ok 5"
    ∷ codes "0 wait 3 - -> 0 child 3 exit 0"
    ∷ codes "0 fork -> 0 ok 6"
    ∷ codes "0 fork -> 0 ok 7"
    ∷ codes "2 ident -> 2 text 6:0:0:-:mls/equal(low-high)"
    ∷ codes "5 ident -> 5 text 7:0:0:-:mls/equal(low-high)"
    ∷ codes "0 fork -> 0 ok 8"
    ∷ codes "0 fork -> 0 ok 9"
    ∷ codes "0 fork -> 0 ok 10"
    ∷ codes "0 fork -> 0 ok 11"
    ∷ codes "0 fork -> 0 ok 12"
    ∷ codes "0 fork -> 0 ok 13"
    ∷ codes "0 fork -> 0 ok 14"
    ∷ codes "0 fork -> 0 ok 15"
    ∷ codes "0 fork -> 0 ok 16"
    ∷ codes "0 fork -> 0 ok 17"
    ∷ codes "0 fork -> 0 ok 18"
    ∷ codes "0 fork -> 0 ok 19"
    ∷ codes "0 fork -> 0 ok 20"
    ∷ codes "0 fork -> 0 ok 21"
    ∷ codes "0 fork -> 0 ok 22"
    ∷ codes "0 fork -> 0 ok 23"
    ∷ codes "0 fork -> 0 ok 24"
    ∷ codes "0 fork -> 0 ok 25"
    ∷ codes "0 fork -> 0 ok 26"
    ∷ codes "0 fork -> 0 ok 27"
    ∷ codes "0 fork -> 0 ok 28"
    ∷ codes "0 fork -> 0 ok 29"
    ∷ codes "0 fork -> 0 ok 30"
    ∷ codes "0 fork -> 0 ok 31"
    ∷ codes "0 fork -> 0 ok 32"
    ∷ codes "0 fork -> 0 ok 33"
    ∷ codes "0 fork -> 0 err EAGAIN slots"
    ∷ codes "31 exit 0 -> 31 ok 0"
    ∷ codes "0 fork -> 0 err EAGAIN slots"
    ∷ codes "0 wait 33 - -> 0 child 33 exit 0"
    ∷ codes "0 fork -> 0 ok 34"
    ∷ codes "31 ident -> 31 text 34:0:0:-:mls/equal(low-high)"
    ∷ []) ≡ []
unfolding scenes_compute
slots_taken = refl

-- a slot with a pending begin may be taken, one with another pending call may not
pending_calls_keep_slots : wrong [] (
    codes "1 begin -> 1 sleep begin"
    ∷ codes "0 fork 61 -> 0 ok 2 wake 1"
    ∷ codes "1 again -> 1 image init 61"
    ∷ codes "1 pause -> 1 sleep pause"
    ∷ codes "0 kill 2 KILL -> 0 ok 0 wake 1"
    ∷ codes "0 wait 0 - -> 0 child 2 signal 9 wake 1"
    ∷ codes "0 fork -> 0 ok 3 wake 1"
    ∷ codes "1 again -> 1 gone"
    ∷ codes "0 fork -> 0 ok 4"
    ∷ codes "1 ident -> 1 text 4:0:0:-:mls/equal(low-high)"
    ∷ codes "2 ident -> 2 text 3:0:0:-:mls/equal(low-high)"
    ∷ []) ≡ []
unfolding scenes_compute
pending_calls_keep_slots = refl

-- a pending begin of a process that a signal ended is told once
begin_of_one_that_was_ended : wrong [] (
    codes "0 fork -> 0 ok 2"
    ∷ codes "0 kill 2 STOP -> 0 ok 0"
    ∷ codes "1 begin -> 1 sleep stop"
    ∷ codes "0 kill 2 KILL -> 0 ok 0 wake 1"
    ∷ codes "1 again -> 1 sleep begin"
    ∷ codes "1 again -> 1 sleep begin"
    ∷ codes "0 wait 0 - -> 0 child 2 signal 9"
    ∷ codes "0 fork -> 0 ok 3 wake 1"
    ∷ codes "1 again -> 1 image init -"
    ∷ []) ≡ []
unfolding scenes_compute
begin_of_one_that_was_ended = refl

-- begin takes the place of another call that pends in a slot without a process
begin_takes_the_place : wrong [] (
    codes "0 fork -> 0 ok 2"
    ∷ codes "1 pause -> 1 sleep pause"
    ∷ codes "0 kill 2 KILL -> 0 ok 0 wake 1"
    ∷ codes "1 begin -> 1 sleep begin"
    ∷ codes "1 again -> 1 sleep begin"
    ∷ []) ≡ []
unfolding scenes_compute
begin_takes_the_place = refl

-- what a call of a slot without a process answers, and of one that is asleep or awake
events_of_slots : wrong [] (
    codes "1 sigtake -> 1 gone"
    ∷ codes "1 again -> 1 gone"
    ∷ codes "1 read 0 900 -> 1 gone"
    ∷ codes "0 again -> 0 err EINVAL awake"
    ∷ codes "0 pause -> 0 sleep pause"
    ∷ codes "0 sigtake -> 0 err EBUSY asleep"
    ∷ codes "0 begin -> 0 err EBUSY asleep"
    ∷ codes "0 again -> 0 sleep pause"
    ∷ []) ≡ []
unfolding scenes_compute
events_of_slots = refl

-- exec
exec_rules : wrong [] (
    codes "0 exec /nope - -> 0 err ENOENT no-entry"
    ∷ codes "0 exec /bin - -> 0 err EACCES not-file"
    ∷ codes "0 exec /dev/tty7 - -> 0 err EACCES not-file"
    ∷ codes "0 exec /dev/tty - -> 0 err EACCES not-file"
    ∷ codes "0 exec /etc/ttys - -> 0 err EACCES list"
    ∷ codes "0 open /tmp/x rw c 755 -> 0 ok 0"
    ∷ codes "0 exec /tmp/x - -> 0 err ENOEXEC image"
    ∷ codes "0 write 0 696d61676520736a0a -> 0 ok 9"
    ∷ codes "0 exec /tmp/x - -> 0 err ENOEXEC image"
    ∷ codes "0 open /tmp/y rw c 755 -> 0 ok 1"
    ∷ codes "0 write 1 696d616765207368 -> 0 ok 8"
    ∷ codes "0 exec /tmp/y - -> 0 err ENOEXEC image"
    ∷ codes "0 write 1 0a -> 0 ok 1"
    ∷ codes "0 exec /tmp/y 6162 -> 0 image sh 6162"
    ∷ codes "0 chmod /tmp/y 644 -> 0 ok 0"
    ∷ codes "0 exec /tmp/y - -> 0 err EACCES list"
    ∷ codes "0 setlabel /tmp/y mls/5 -> 0 ok 0"
    ∷ codes "0 setproclabel mls/4(low-high) -> 0 ok 0"
    ∷ codes "0 exec /tmp/y - -> 0 err EACCES label-read"
    ∷ codes "0 exec /tmp/y/z - -> 0 err ENOTDIR not-dir"
    ∷ codes "0 setproclabel mls/5(low-high) -> 0 ok 0"
    ∷ []) ≡ []
unfolding scenes_compute
exec_rules = refl

-- exec closes what is marked, and resets what is caught; begun stays
exec_leaves : wrong [] (
    codes "0 open /tmp/a rw ce -> 0 ok 0"
    ∷ codes "0 open /tmp/b rw c -> 0 ok 1"
    ∷ codes "0 open /tmp/c rw ce -> 0 ok 2"
    ∷ codes "0 dup 2 -> 0 ok 3"
    ∷ codes "0 dup2 0 0 -> 0 ok 0"
    ∷ codes "0 pipe -> 0 pair 4 5"
    ∷ codes "0 fork -> 0 ok 2"
    ∷ codes "1 sigset INT catch -> 1 ok 0"
    ∷ codes "1 sigset HUP ignore -> 1 ok 0"
    ∷ codes "1 sigset TERM catch -> 1 ok 0"
    ∷ codes "1 kill 2 TERM -> 1 ok 0"
    ∷ codes "1 begin -> 1 image init -"
    ∷ codes "1 exec /bin/cat 6100 -> 1 image cat 6100"
    ∷ codes "1 begin -> 1 err EINVAL begun"
    ∷ codes "1 sigtake -> 1 ok 0"
    ∷ codes "1 read 0 1 -> 1 err EBADF bad-fd"
    ∷ codes "1 read 1 1 -> 1 bytes -"
    ∷ codes "1 read 2 1 -> 1 err EBADF bad-fd"
    ∷ codes "1 read 3 1 -> 1 bytes -"
    ∷ codes "1 fdname 4 -> 1 text pipe"
    ∷ codes "0 read 2 1 -> 0 bytes -"
    ∷ codes "1 kill 2 HUP -> 1 ok 0"
    ∷ codes "1 kill 2 INT -> 1 ok 0"
    ∷ codes "0 wait 2 - -> 0 child 2 signal 2"
    ∷ codes "0 fork 62 -> 0 ok 3"
    ∷ codes "1 again -> 1 gone"
    ∷ codes "1 exec /bin/ls 63 -> 1 gone"
    ∷ codes "2 exec /bin/ls 63 -> 2 image ls 63"
    ∷ codes "2 begin -> 2 image ls 63"
    ∷ []) ≡ []
unfolding scenes_compute
exec_leaves = refl

-- the last writer of a pipe is closed by an exec
exec_closes_a_pipe : wrong [] (
    codes "0 pipe -> 0 pair 0 1"
    ∷ codes "0 open /dev/tty7 rw e -> 0 ok 2"
    ∷ codes "0 write 2 6f6c64 -> 0 ok 3"
    ∷ codes "0 fork -> 0 ok 2"
    ∷ codes "0 close 2 -> 0 ok 0"
    ∷ codes "1 exec /bin/id - -> 1 image id -"
    ∷ codes "take tty7 9 -> tty7 out -"
    ∷ codes "1 fdname 2 -> 1 err EBADF bad-fd"
    ∷ codes "1 fdname 1 -> 1 text pipe"
    ∷ []) ≡ []
unfolding scenes_compute
exec_closes_a_pipe = refl

-- pid 1 does not exit; an exit leaves its status to its parent
exits : wrong [] (
    codes "0 exit 0 -> 0 err EBUSY init"
    ∷ codes "0 fork -> 0 ok 2"
    ∷ codes "0 fork -> 0 ok 3"
    ∷ codes "1 exit 255 -> 1 ok 0"
    ∷ codes "1 exit 1 -> 1 gone"
    ∷ codes "0 wait 3 n -> 0 ok 0"
    ∷ codes "0 wait 2 n -> 0 child 2 exit 255"
    ∷ codes "0 wait 2 n -> 0 err ECHILD no-child"
    ∷ codes "0 wait 1 - -> 0 err ECHILD no-child"
    ∷ codes "0 wait 3 - -> 0 sleep child"
    ∷ codes "2 exit 7 -> 2 ok 0 wake 0"
    ∷ codes "0 again -> 0 child 3 exit 7"
    ∷ []) ≡ []
unfolding scenes_compute
exits = refl

-- the zombie of least pid is told first, whatever is stopped; a stop is told once, where that is asked
waits : wrong [] (
    codes "0 fork -> 0 ok 2"
    ∷ codes "0 fork -> 0 ok 3"
    ∷ codes "0 fork -> 0 ok 4"
    ∷ codes "0 fork -> 0 ok 5"
    ∷ codes "0 kill 2 STOP -> 0 ok 0"
    ∷ codes "3 exit 4 -> 3 ok 0"
    ∷ codes "2 exit 3 -> 2 ok 0"
    ∷ codes "0 wait 0 u -> 0 child 3 exit 3"
    ∷ codes "0 wait 0 - -> 0 child 4 exit 4"
    ∷ codes "0 wait 0 n -> 0 ok 0"
    ∷ codes "0 wait 5 nu -> 0 ok 0"
    ∷ codes "0 wait 0 nu -> 0 child 2 stop 17"
    ∷ codes "0 wait 0 nu -> 0 ok 0"
    ∷ codes "0 kill 2 STOP -> 0 ok 0"
    ∷ codes "0 wait 2 un -> 0 child 2 stop 17"
    ∷ codes "0 kill 2 CONT -> 0 ok 0"
    ∷ codes "0 wait 2 nu -> 0 ok 0"
    ∷ codes "0 kill 2 TSTP -> 0 ok 0"
    ∷ codes "0 wait 2 nu -> 0 ok 0"
    ∷ codes "0 kill 5 STOP -> 0 ok 0"
    ∷ codes "0 kill 2 STOP -> 0 ok 0"
    ∷ codes "0 wait 0 u -> 0 child 2 stop 17"
    ∷ codes "0 wait 0 u -> 0 child 5 stop 17"
    ∷ codes "0 wait 0 u -> 0 sleep child"
    ∷ codes "0 again -> 0 sleep child"
    ∷ []) ≡ []
unfolding scenes_compute
waits = refl

-- a child of a child goes to init when its parent ends, a zombie too
adoption : wrong [] (
    codes "0 fork -> 0 ok 2"
    ∷ codes "1 fork -> 1 ok 3"
    ∷ codes "1 fork -> 1 ok 4"
    ∷ codes "2 exit 9 -> 2 ok 0"
    ∷ codes "0 wait 3 n -> 0 err ECHILD no-child"
    ∷ codes "1 exit 1 -> 1 ok 0"
    ∷ codes "0 wait 3 - -> 0 child 3 exit 9"
    ∷ codes "3 ps -> 3 text 1:0:1:1:0:run:init/2:1:1:1:0:zombie:init/4:1:1:1:0:run:init"
    ∷ codes "0 wait 4 n -> 0 ok 0"
    ∷ codes "0 wait 0 n -> 0 child 2 exit 1"
    ∷ codes "0 kill 4 KILL -> 0 ok 0"
    ∷ codes "0 wait 0 - -> 0 child 4 signal 9"
    ∷ []) ≡ []
unfolding scenes_compute
adoption = refl

-- a new session is of a process that leads no group
sessions : wrong [] (
    codes "0 setsid -> 0 err EPERM leader"
    ∷ codes "0 fork -> 0 ok 2"
    ∷ codes "1 setsid -> 1 ok 2"
    ∷ codes "1 setsid -> 1 err EPERM leader"
    ∷ codes "1 fork -> 1 ok 3"
    ∷ codes "2 setpgid 0 0 -> 2 ok 0"
    ∷ codes "2 setsid -> 2 err EPERM leader"
    ∷ codes "0 fork -> 0 ok 4"
    ∷ codes "0 fork -> 0 ok 5"
    ∷ codes "3 setpgid 0 0 -> 3 ok 0"
    ∷ codes "4 setpgid 0 4 -> 4 ok 0"
    ∷ codes "3 setpgid 0 1 -> 3 ok 0"
    ∷ codes "3 setsid -> 3 err EPERM leader"
    ∷ codes "4 exit 0 -> 4 ok 0"
    ∷ codes "3 setsid -> 3 ok 4"
    ∷ codes "3 ps -> 3 text 1:0:1:1:0:run:init/2:1:2:2:0:run:init/3:2:3:2:0:run:init/4:1:4:4:0:run:init/5:1:4:1:0:zombie:init"
    ∷ []) ≡ []
unfolding scenes_compute
sessions = refl

-- setpgid, by each rule
groups : wrong [] (
    codes "0 setpgid 9 0 -> 0 err ESRCH no-process"
    ∷ codes "0 setpgid 0 0 -> 0 err EPERM leader"
    ∷ codes "0 setpgid 1 1 -> 0 err EPERM leader"
    ∷ codes "0 fork -> 0 ok 2"
    ∷ codes "0 fork -> 0 ok 3"
    ∷ codes "1 setpgid 3 0 -> 1 err ESRCH no-process"
    ∷ codes "1 setpgid 1 0 -> 1 err ESRCH no-process"
    ∷ codes "0 setpgid 2 9 -> 0 err EPERM group"
    ∷ codes "0 setpgid 2 2 -> 0 ok 0"
    ∷ codes "0 setpgid 3 2 -> 0 ok 0"
    ∷ codes "0 setpgid 3 0 -> 0 ok 0"
    ∷ codes "0 setpgid 3 1 -> 0 ok 0"
    ∷ codes "1 fork -> 1 ok 4"
    ∷ codes "0 setpgid 4 0 -> 0 err ESRCH no-process"
    ∷ codes "3 setsid -> 3 ok 4"
    ∷ codes "1 setpgid 4 0 -> 1 err EPERM leader"
    ∷ codes "3 fork -> 3 ok 5"
    ∷ codes "4 setsid -> 4 ok 5"
    ∷ codes "4 exec /bin/id - -> 4 image id -"
    ∷ codes "3 setpgid 5 0 -> 3 err EACCES child-exec"
    ∷ codes "4 setpgid 0 0 -> 4 err EPERM leader"
    ∷ codes "2 exec /bin/id - -> 2 image id -"
    ∷ codes "0 setpgid 3 0 -> 0 err EACCES child-exec"
    ∷ codes "2 setpgid 0 0 -> 2 ok 0"
    ∷ codes "2 setpgid 0 4 -> 2 err EPERM group"
    ∷ codes "2 setpgid 0 2 -> 2 ok 0"
    ∷ codes "1 exit 0 -> 1 ok 0"
    ∷ codes "0 setpgid 2 0 -> 0 err ESRCH no-process"
    ∷ []) ≡ []
unfolding scenes_compute
groups = refl

-- a child in another session that leads nothing
group_of_another_session : wrong [] (
    codes "0 fork -> 0 ok 2"
    ∷ codes "1 setsid -> 1 ok 2"
    ∷ codes "1 fork -> 1 ok 3"
    ∷ codes "1 fork -> 1 ok 4"
    ∷ codes "2 setsid -> 2 ok 3"
    ∷ codes "2 fork -> 2 ok 5"
    ∷ codes "2 exit 0 -> 2 ok 0"
    ∷ codes "0 setpgid 5 0 -> 0 err EPERM session"
    ∷ codes "0 setpgid 5 9 -> 0 err EPERM session"
    ∷ codes "1 setpgid 4 5 -> 1 err EPERM group"
    ∷ codes "1 setpgid 4 2 -> 1 ok 0"
    ∷ []) ≡ []
unfolding scenes_compute
group_of_another_session = refl

-- what ps tells of whom
ps_states : wrong [] (
    codes "0 fork -> 0 ok 2"
    ∷ codes "0 fork -> 0 ok 3"
    ∷ codes "0 fork -> 0 ok 4"
    ∷ codes "0 fork -> 0 ok 5"
    ∷ codes "1 pause -> 1 sleep pause"
    ∷ codes "0 kill 3 STOP -> 0 ok 0"
    ∷ codes "3 exit 0 -> 3 ok 0"
    ∷ codes "4 setcred 8 0 - -> 4 ok 0"
    ∷ codes "4 exec /bin/sh - -> 4 image sh -"
    ∷ codes "4 ps -> 4 text 1:0:1:1:0:run:init/2:1:1:1:0:sleep:init/3:1:1:1:0:stop:init/4:1:1:1:0:zombie:init/5:1:1:1:8:run:sh"
    ∷ codes "0 kill 2 STOP -> 0 ok 0"
    ∷ codes "0 ps -> 0 text 1:0:1:1:0:run:init/2:1:1:1:0:stop:init/3:1:1:1:0:stop:init/4:1:1:1:0:zombie:init/5:1:1:1:8:run:sh"
    ∷ []) ≡ []
unfolding scenes_compute
ps_states = refl

-- those of a label that the caller's does not dominate are not told
ps_labels : wrong [] (
    codes "0 fork -> 0 ok 2"
    ∷ codes "0 fork -> 0 ok 3"
    ∷ codes "1 setproclabel mls/5(low-high) -> 1 ok 0"
    ∷ codes "2 setproclabel mls/10(low-high) -> 2 ok 0"
    ∷ codes "1 ps -> 1 text 1:0:1:1:0:run:init/2:1:1:1:0:run:init"
    ∷ codes "2 ps -> 2 text 1:0:1:1:0:run:init/2:1:1:1:0:run:init/3:1:1:1:0:run:init"
    ∷ []) ≡ []
unfolding scenes_compute
ps_labels = refl

-- a ps that was asked while its process was stopped is answered by an again, which the call pends before
ps_by_again : wrong [] (
    codes "0 fork -> 0 ok 2"
    ∷ codes "0 kill 2 STOP -> 0 ok 0"
    ∷ codes "1 ps -> 1 sleep stop"
    ∷ codes "0 kill 2 CONT -> 0 ok 0 wake 1"
    ∷ codes "1 again -> 1 text 1:0:1:1:0:run:init/2:1:1:1:0:sleep:init"
    ∷ codes "1 ps -> 1 text 1:0:1:1:0:run:init/2:1:1:1:0:run:init"
    ∷ []) ≡ []
unfolding scenes_compute
ps_by_again = refl

-- the superuser halts; then each event is gone, and every slot with a pending call is in the wakeup list
halts : wrong [] (
    codes "0 fork -> 0 ok 2"
    ∷ codes "0 fork -> 0 ok 3"
    ∷ codes "0 open /dev/tty7 rw -> 0 ok 0"
    ∷ codes "0 write 0 61 -> 0 ok 1"
    ∷ codes "1 setcred 5 5 - -> 1 ok 0"
    ∷ codes "1 halt -> 1 err EPERM super"
    ∷ codes "1 pause -> 1 sleep pause"
    ∷ codes "2 wait 0 - -> 2 err ECHILD no-child"
    ∷ codes "0 halt -> 0 ok 0 wake 1"
    ∷ codes "0 sigtake -> 0 gone wake 1"
    ∷ codes "1 again -> 1 gone wake 1"
    ∷ codes "take tty7 9 -> tty7 gone wake 1"
    ∷ codes "in tty7 61 -> tty7 gone wake 1"
    ∷ codes "up tty0 -> tty0 gone wake 1"
    ∷ codes "end tty0 -> tty0 gone wake 1"
    ∷ codes "9 begin -> 9 gone wake 1"
    ∷ []) ≡ []
unfolding scenes_compute
halts = refl

-- an orphaned group with a stopped member is hung up and continued when its last parent ends
newly_orphaned : wrong [] (
    codes "0 fork -> 0 ok 2"
    ∷ codes "1 setsid -> 1 ok 2"
    ∷ codes "1 fork -> 1 ok 3"
    ∷ codes "2 setpgid 0 0 -> 2 ok 0"
    ∷ codes "2 fork -> 2 ok 4"
    ∷ codes "2 fork -> 2 ok 5"
    ∷ codes "3 sigset HUP catch -> 3 ok 0"
    ∷ codes "4 sigset HUP ignore -> 4 ok 0"
    ∷ codes "1 kill 4 STOP -> 1 ok 0"
    ∷ codes "3 sigtake -> 3 sleep stop"
    ∷ codes "1 exit 0 -> 1 ok 0 wake 3"
    ∷ codes "3 again -> 3 ok 1"
    ∷ codes "2 sigtake -> 2 gone"
    ∷ codes "0 wait 3 - -> 0 child 3 signal 1"
    ∷ codes "4 sigtake -> 4 ok 0"
    ∷ codes "3 sigtake -> 3 ok 0"
    ∷ []) ≡ []
unfolding scenes_compute
newly_orphaned = refl

-- without a stopped member nothing is sent
orphaned_without_stops : wrong [] (
    codes "0 fork -> 0 ok 2"
    ∷ codes "1 setsid -> 1 ok 2"
    ∷ codes "1 fork -> 1 ok 3"
    ∷ codes "2 setpgid 0 0 -> 2 ok 0"
    ∷ codes "2 sigset HUP catch -> 2 ok 0"
    ∷ codes "1 exit 0 -> 1 ok 0"
    ∷ codes "2 sigtake -> 2 ok 0"
    ∷ []) ≡ []
unfolding scenes_compute
orphaned_without_stops = refl

-- rmdir and what is in use: a running process's directory, but not a zombie's
directories_of_processes : wrong [] (
    codes "0 mkdir /tmp/d 755 -> 0 ok 0"
    ∷ codes "0 fork -> 0 ok 2"
    ∷ codes "1 chdir /tmp/d -> 1 ok 0"
    ∷ codes "0 rmdir /tmp/d -> 0 err EBUSY in-use"
    ∷ codes "1 rmdir /tmp/d -> 1 err EBUSY in-use"
    ∷ codes "1 exit 0 -> 1 ok 0"
    ∷ codes "0 rmdir /tmp/d -> 0 ok 0"
    ∷ []) ≡ []
unfolding scenes_compute
directories_of_processes = refl
