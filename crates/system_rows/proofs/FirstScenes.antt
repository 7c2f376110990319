-- A revoke and what it leaves, labels, background reads, editing, pipes, hang-up.
use Rattle.std.proofs.Common.{◌≡◌, [], ◌∷◌, ◌++◌, codes, refl}
use Rattle.system_rows.specs.Scenes.{wrong, times}
use Rattle.system_rows.proofs.Computing.{scenes_compute}

-- the first run of the program
first_run : wrong [] (
    codes "0 open /dev/tty7 rw -> 0 ok 0"
    ∷ codes "in tty7 68 -> tty7 noted"
    ∷ codes "0 read 0 100 -> 0 bytes 68"
    ∷ codes "0 write 0 6869 -> 0 ok 2"
    ∷ codes "in tty7 79 -> tty7 noted"
    ∷ codes "0 revoke /dev/tty7 -> 0 ok 0"
    ∷ codes "0 read 0 100 -> 0 bytes -"
    ∷ codes "0 write 0 7a -> 0 err EIO dead"
    ∷ codes "take tty7 100 -> tty7 out -"
    ∷ codes "0 close 0 -> 0 ok 0"
    ∷ []) ≡ []
unfolding scenes_compute
first_run = refl

-- a cooked line echoes what comes in
cooked_echo : wrong [] (
    codes "up tty0 -> tty0 noted"
    ∷ codes "0 open /dev/tty0 rw -> 0 ok 0"
    ∷ codes "in tty0 680a -> tty0 noted;tty0 noted"
    ∷ codes "0 read 0 100 -> 0 bytes 680a"
    ∷ codes "take tty0 100 -> tty0 out 680d0a"
    ∷ []) ≡ []
unfolding scenes_compute
cooked_echo = refl

-- a revoke wakes a reader, which gets no bytes
revoked_reader : wrong [] (
    codes "up tty0 -> tty0 noted"
    ∷ codes "0 open /dev/tty0 rw -> 0 ok 0"
    ∷ codes "0 fork -> 0 ok 2"
    ∷ codes "1 read 0 100 -> 1 sleep read"
    ∷ codes "0 revoke /dev/tty0 -> 0 ok 0 wake 1"
    ∷ codes "in tty0 78 -> tty0 noted wake 1"
    ∷ codes "1 again -> 1 bytes -"
    ∷ []) ≡ []
unfolding scenes_compute
revoked_reader = refl

-- a revoke wakes a writer, which is refused, and its output is gone; a new descriptor writes
revoked_writer : wrong [] (
    codes "up tty0 -> tty0 noted"
    ∷ codes "0 open /dev/tty0 rw -> 0 ok 0"
    ∷ codes "0 fork -> 0 ok 2"
    ∷ (codes "1 write 0 " ++ times 512 (codes "61") ++ codes " -> 1 ok 512")
    ∷ (codes "1 write 0 " ++ times 512 (codes "61") ++ codes " -> 1 ok 512")
    ∷ (codes "1 write 0 " ++ times 512 (codes "61") ++ codes " -> 1 ok 512")
    ∷ (codes "1 write 0 " ++ times 512 (codes "61") ++ codes " -> 1 ok 512")
    ∷ (codes "1 write 0 " ++ times 512 (codes "61") ++ codes " -> 1 ok 512")
    ∷ (codes "1 write 0 " ++ times 512 (codes "61") ++ codes " -> 1 ok 512")
    ∷ (codes "1 write 0 " ++ times 512 (codes "61") ++ codes " -> 1 ok 512")
    ∷ (codes "1 write 0 " ++ times 512 (codes "61") ++ codes " -> 1 ok 512")
    ∷ (codes "1 write 0 " ++ times 512 (codes "61") ++ codes " -> 1 sleep write")
    ∷ codes "0 revoke /dev/tty0 -> 0 ok 0 wake 1"
    ∷ codes "1 again -> 1 err EIO dead"
    ∷ codes "take tty0 512 -> tty0 out -"
    ∷ codes "0 open /dev/tty0 rw -> 0 ok 1"
    ∷ codes "0 write 1 62 -> 0 ok 1"
    ∷ codes "take tty0 512 -> tty0 out 62"
    ∷ codes "0 read 0 10 -> 0 bytes -"
    ∷ codes "0 read 1 10 -> 0 sleep read"
    ∷ codes "0 close 0 -> 0 err EBUSY asleep"
    ∷ []) ≡ []
unfolding scenes_compute
revoked_writer = refl

-- a revoke is of every descriptor that shares the file
shared_descriptors : wrong [] (
    codes "0 open /dev/tty7 rw -> 0 ok 0"
    ∷ codes "0 dup 0 -> 0 ok 1"
    ∷ codes "0 fork -> 0 ok 2"
    ∷ codes "1 dup2 1 9 -> 1 ok 9"
    ∷ codes "1 dup2 9 9 -> 1 ok 9"
    ∷ codes "0 revoke /dev/tty7 -> 0 ok 0"
    ∷ codes "0 read 1 5 -> 0 bytes -"
    ∷ codes "1 write 9 61 -> 1 err EIO dead"
    ∷ codes "1 close 9 -> 1 ok 0"
    ∷ codes "1 close 9 -> 1 err EBADF bad-fd"
    ∷ []) ≡ []
unfolding scenes_compute
shared_descriptors = refl

-- a new descriptor reads no byte that came before it
no_earlier_byte : wrong [] (
    codes "0 open /dev/tty7 rw -> 0 ok 0"
    ∷ codes "in tty7 41 -> tty7 noted"
    ∷ codes "0 revoke /dev/tty7 -> 0 ok 0"
    ∷ codes "in tty7 42 -> tty7 noted"
    ∷ codes "0 open /dev/tty7 rw -> 0 ok 1"
    ∷ codes "in tty7 43 -> tty7 noted"
    ∷ codes "0 read 1 9 -> 0 bytes 43"
    ∷ []) ≡ []
unfolding scenes_compute
no_earlier_byte = refl

-- who may not revoke
revoke_refusals : wrong [] (
    codes "0 open /tmp/f rw c 600 -> 0 ok 0"
    ∷ codes "0 revoke /tmp/f -> 0 err EINVAL no-revoke"
    ∷ codes "0 fork -> 0 ok 2"
    ∷ codes "1 setcred 1001 100 - -> 1 ok 0"
    ∷ codes "1 revoke /dev/tty0 -> 1 err EPERM owner"
    ∷ codes "0 mkdir /tmp/d 700 -> 0 ok 0"
    ∷ codes "1 revoke /tmp/d/x -> 1 err EACCES search"
    ∷ codes "1 revoke /tmp/x -> 1 err ENOENT no-entry"
    ∷ []) ≡ []
unfolding scenes_compute
revoke_refusals = refl

-- labels are looked at when a file is opened
labels_at_open : wrong [] (
    codes "0 open /tmp/low rw c 666 -> 0 ok 0"
    ∷ codes "0 setlabel /tmp/low mls/5:2 -> 0 ok 0"
    ∷ codes "0 fork -> 0 ok 2"
    ∷ codes "1 setproclabel mls/10:2(5:2-20:2+3) -> 1 ok 0"
    ∷ codes "1 open /tmp/low w -> 1 err EACCES label-write"
    ∷ codes "1 open /tmp/low r -> 1 ok 1"
    ∷ codes "1 setproclabel mls/5:2(5:2-20:2+3) -> 1 ok 0"
    ∷ codes "1 open /tmp/low w -> 1 ok 2"
    ∷ codes "1 setproclabel mls/equal -> 1 err EPERM proclabel"
    ∷ []) ≡ []
unfolding scenes_compute
labels_at_open = refl

-- and at each read, where the boot says so
recheck_on : wrong (codes "recheck on\n") (
    codes "0 open /tmp/f rw c 644 -> 0 ok 0"
    ∷ codes "0 write 0 6162 -> 0 ok 2"
    ∷ codes "0 setlabel /tmp/f mls/5 -> 0 ok 0"
    ∷ codes "0 fork -> 0 ok 2"
    ∷ codes "1 setproclabel mls/10(5-20) -> 1 ok 0"
    ∷ codes "1 open /tmp/f r -> 1 ok 1"
    ∷ codes "0 setlabel /tmp/f mls/15 -> 0 ok 0"
    ∷ codes "1 read 1 9 -> 1 err EACCES label-read"
    ∷ []) ≡ []
unfolding scenes_compute
recheck_on = refl

recheck_off : wrong [] (
    codes "0 open /tmp/f rw c 644 -> 0 ok 0"
    ∷ codes "0 write 0 6162 -> 0 ok 2"
    ∷ codes "0 setlabel /tmp/f mls/5 -> 0 ok 0"
    ∷ codes "0 fork -> 0 ok 2"
    ∷ codes "1 setproclabel mls/10(5-20) -> 1 ok 0"
    ∷ codes "1 open /tmp/f r -> 1 ok 1"
    ∷ codes "0 setlabel /tmp/f mls/15 -> 0 ok 0"
    ∷ codes "1 read 1 9 -> 1 bytes 6162"
    ∷ []) ≡ []
unfolding scenes_compute
recheck_off = refl

-- a read from the background stops its process, and is read once it is in the foreground
background_reads : wrong [] (
    codes "up tty0 -> tty0 noted"
    ∷ codes "0 open /dev/tty0 rw -> 0 ok 0"
    ∷ codes "0 setctty 0 -> 0 ok 0"
    ∷ codes "0 fork -> 0 ok 2"
    ∷ codes "1 setpgid 0 0 -> 1 ok 0"
    ∷ codes "1 read 0 9 -> 1 sleep stop"
    ∷ codes "0 wait 2 u -> 0 child 2 stop 21"
    ∷ codes "0 tcsetpgrp 0 2 -> 0 ok 0"
    ∷ codes "0 kill 2 CONT -> 0 ok 0"
    ∷ codes "in tty0 610a -> tty0 noted;tty0 noted wake 1"
    ∷ codes "1 again -> 1 bytes 610a"
    ∷ []) ≡ []
unfolding scenes_compute
background_reads = refl

-- one of an orphaned group is denied
orphaned_background_read : wrong [] (
    codes "up tty0 -> tty0 noted"
    ∷ codes "0 open /dev/tty0 rw -> 0 ok 0"
    ∷ codes "0 fork -> 0 ok 2"
    ∷ codes "1 setsid -> 1 ok 2"
    ∷ codes "1 setctty 0 -> 1 ok 0"
    ∷ codes "1 fork -> 1 ok 3"
    ∷ codes "2 setpgid 0 0 -> 2 ok 0"
    ∷ codes "2 fork -> 2 ok 4"
    ∷ codes "2 exit 0 -> 2 ok 0"
    ∷ codes "3 read 0 9 -> 3 err EIO background"
    ∷ []) ≡ []
unfolding scenes_compute
orphaned_background_read = refl

-- a caught interrupt wakes a reader, which is interrupted
caught_interrupt : wrong [] (
    codes "up tty0 -> tty0 noted"
    ∷ codes "0 open /dev/tty0 rw -> 0 ok 0"
    ∷ codes "0 fork -> 0 ok 2"
    ∷ codes "1 setsid -> 1 ok 2"
    ∷ codes "1 setctty 0 -> 1 ok 0"
    ∷ codes "1 sigset INT catch -> 1 ok 0"
    ∷ codes "1 read 0 9 -> 1 sleep read"
    ∷ codes "in tty0 6103 -> tty0 noted;tty0 noted wake 1"
    ∷ codes "1 again -> 1 err EINTR signal"
    ∷ codes "take tty0 9 -> tty0 out 5e43"
    ∷ codes "1 sigtake -> 1 ok 2"
    ∷ codes "1 sigtake -> 1 ok 0"
    ∷ []) ≡ []
unfolding scenes_compute
caught_interrupt = refl

-- editing of a line
line_editing : wrong [] (
    codes "up tty0 -> tty0 noted"
    ∷ codes "0 open /dev/tty0 rw -> 0 ok 0"
    ∷ codes "in tty0 7f61627f0a -> tty0 noted;tty0 noted;tty0 noted;tty0 noted;tty0 noted"
    ∷ codes "0 read 0 9 -> 0 bytes 610a"
    ∷ codes "take tty0 99 -> tty0 out 61620820080d0a"
    ∷ codes "in tty0 616204 -> tty0 noted;tty0 noted;tty0 noted"
    ∷ codes "0 read 0 5 -> 0 bytes 6162"
    ∷ codes "in tty0 04 -> tty0 noted"
    ∷ codes "0 read 0 5 -> 0 bytes -"
    ∷ codes "in tty0 616263640a -> tty0 noted;tty0 noted;tty0 noted;tty0 noted;tty0 noted"
    ∷ codes "0 read 0 2 -> 0 bytes 6162"
    ∷ codes "0 read 0 9 -> 0 bytes 63640a"
    ∷ []) ≡ []
unfolding scenes_compute
line_editing = refl

-- a pipe holds 4,096 bytes
pipes : wrong [] (
    codes "0 pipe -> 0 pair 0 1"
    ∷ (codes "0 write 1 " ++ times 512 (codes "61") ++ codes " -> 0 ok 512")
    ∷ (codes "0 write 1 " ++ times 512 (codes "61") ++ codes " -> 0 ok 512")
    ∷ (codes "0 write 1 " ++ times 512 (codes "61") ++ codes " -> 0 ok 512")
    ∷ (codes "0 write 1 " ++ times 512 (codes "61") ++ codes " -> 0 ok 512")
    ∷ (codes "0 write 1 " ++ times 512 (codes "61") ++ codes " -> 0 ok 512")
    ∷ (codes "0 write 1 " ++ times 512 (codes "61") ++ codes " -> 0 ok 512")
    ∷ (codes "0 write 1 " ++ times 512 (codes "61") ++ codes " -> 0 ok 512")
    ∷ (codes "0 write 1 " ++ times 116 (codes "61") ++ codes " -> 0 ok 116")
    ∷ codes "0 fork -> 0 ok 2"
    ∷ (codes "1 write 1 " ++ times 512 (codes "61") ++ codes " -> 1 sleep write")
    ∷ (codes "0 read 0 115 -> 0 bytes " ++ times 115 (codes "61"))
    ∷ codes "0 read 0 1 -> 0 bytes 61 wake 1"
    ∷ codes "1 again -> 1 ok 512"
    ∷ codes "0 close 0 -> 0 ok 0"
    ∷ codes "1 close 0 -> 1 ok 0"
    ∷ codes "1 write 1 61 -> 1 err EPIPE no-reader"
    ∷ codes "1 again -> 1 gone"
    ∷ []) ≡ []
unfolding scenes_compute
pipes = refl

pipe_labels : wrong [] (
    codes "0 setproclabel mls/10(5-20) -> 0 ok 0"
    ∷ codes "0 pipe -> 0 pair 0 1"
    ∷ codes "0 fork -> 0 ok 2"
    ∷ codes "1 setproclabel mls/5(5-20) -> 1 ok 0"
    ∷ codes "1 read 0 9 -> 1 err EACCES label-read"
    ∷ []) ≡ []
unfolding scenes_compute
pipe_labels = refl

-- a loss of carrier hangs up
hang_up : wrong [] (
    codes "up tty0 -> tty0 noted"
    ∷ codes "0 open /dev/tty0 rw -> 0 ok 0"
    ∷ codes "0 fork -> 0 ok 2"
    ∷ codes "1 setsid -> 1 ok 2"
    ∷ codes "1 setctty 0 -> 1 ok 0"
    ∷ codes "1 sigset HUP catch -> 1 ok 0"
    ∷ codes "1 read 0 9 -> 1 sleep read"
    ∷ codes "down tty0 -> tty0 noted wake 1"
    ∷ codes "1 again -> 1 bytes -"
    ∷ codes "1 write 0 61 -> 1 err EIO zombie"
    ∷ codes "1 sigtake -> 1 ok 1"
    ∷ codes "up tty0 -> tty0 noted"
    ∷ codes "1 write 0 61 -> 1 err EIO zombie"
    ∷ codes "0 revoke /dev/tty0 -> 0 ok 0"
    ∷ codes "0 open /dev/tty0 rw -> 0 ok 1"
    ∷ codes "0 write 1 61 -> 0 ok 1"
    ∷ []) ≡ []
unfolding scenes_compute
hang_up = refl

-- 512 blocks are twelve lines and a pipe, or seven lines and seven pipes
block_room : wrong [] (
    codes "0 open /dev/tty0 rw n -> 0 ok 0"
    ∷ codes "0 open /dev/tty1 rw n -> 0 ok 1"
    ∷ codes "0 open /dev/tty2 rw n -> 0 ok 2"
    ∷ codes "0 open /dev/tty3 rw n -> 0 ok 3"
    ∷ codes "0 open /dev/tty4 rw n -> 0 ok 4"
    ∷ codes "0 open /dev/tty5 rw n -> 0 ok 5"
    ∷ codes "0 open /dev/tty6 rw n -> 0 ok 6"
    ∷ codes "0 pipe -> 0 pair 7 8"
    ∷ codes "0 pipe -> 0 pair 9 10"
    ∷ codes "0 pipe -> 0 pair 11 12"
    ∷ codes "0 pipe -> 0 pair 13 14"
    ∷ codes "0 pipe -> 0 pair 15 16"
    ∷ codes "0 pipe -> 0 pair 17 18"
    ∷ codes "0 pipe -> 0 pair 19 20"
    ∷ codes "0 open /dev/tty7 rw -> 0 err ENOBUFS pool"
    ∷ codes "0 revoke /dev/tty0 -> 0 ok 0"
    ∷ codes "0 open /dev/tty7 rw -> 0 ok 21"
    ∷ []) ≡ []
unfolding scenes_compute
block_room = refl

-- the exit of a session's leader revokes its line
leaders_exit : wrong [] (
    codes "up tty0 -> tty0 noted"
    ∷ codes "0 open /dev/tty0 rw -> 0 ok 0"
    ∷ codes "0 fork -> 0 ok 2"
    ∷ codes "1 setsid -> 1 ok 2"
    ∷ codes "1 setctty 0 -> 1 ok 0"
    ∷ codes "1 exit 0 -> 1 ok 0"
    ∷ codes "0 read 0 9 -> 0 bytes -"
    ∷ codes "0 wait 0 - -> 0 child 2 exit 0"
    ∷ codes "1 again -> 1 gone"
    ∷ []) ≡ []
unfolding scenes_compute
leaders_exit = refl

tree_calls : wrong [] (
    codes "0 mkdir /tmp/d 700 -> 0 ok 0"
    ∷ codes "0 open /tmp/d/f rw c 640 -> 0 ok 0"
    ∷ codes "0 write 0 6162 -> 0 ok 2"
    ∷ codes "0 info /tmp/d/f -> 0 text file:0:0:640:2"
    ∷ codes "0 rmdir /tmp/d -> 0 err ENOTEMPTY not-empty"
    ∷ codes "0 unlink /tmp/d/f -> 0 err EBUSY in-use"
    ∷ codes "0 close 0 -> 0 ok 0"
    ∷ codes "0 unlink /tmp/d/f -> 0 ok 0"
    ∷ codes "0 setcred 1001 100 - -> 0 ok 0"
    ∷ codes "0 chmod /tmp/d 777 -> 0 err EPERM owner"
    ∷ codes "0 list /tmp/d 0 -> 0 err EACCES list"
    ∷ codes "0 list /bin/../tmp 0 -> 0 text d"
    ∷ []) ≡ []
unfolding scenes_compute
tree_calls = refl

-- a byte that another reader takes leaves a sleeper asleep
shared_sleepers : wrong [] (
    codes "0 open /dev/tty7 rw -> 0 ok 0"
    ∷ codes "0 fork -> 0 ok 2"
    ∷ codes "1 read 0 100 -> 1 sleep read"
    ∷ codes "in tty7 78 -> tty7 noted wake 1"
    ∷ codes "0 read 0 100 -> 0 bytes 78"
    ∷ codes "1 again -> 1 sleep read"
    ∷ codes "0 revoke /dev/tty7 -> 0 ok 0 wake 1"
    ∷ codes "1 again -> 1 bytes -"
    ∷ codes "1 again -> 1 err EINVAL awake"
    ∷ []) ≡ []
unfolding scenes_compute
shared_sleepers = refl

begin_and_wait : wrong [] (
    codes "0 fork 7368 -> 0 ok 2"
    ∷ codes "1 begin -> 1 image init 7368"
    ∷ codes "1 begin -> 1 err EINVAL begun"
    ∷ codes "0 wait 0 - -> 0 sleep child"
    ∷ codes "1 exit 7 -> 1 ok 0 wake 0"
    ∷ codes "0 again -> 0 child 2 exit 7"
    ∷ codes "0 wait 0 - -> 0 err ECHILD no-child"
    ∷ codes "1 begin -> 1 sleep begin"
    ∷ []) ≡ []
unfolding scenes_compute
begin_and_wait = refl

-- no fork takes a slot whose process a signal ended, until an event of the slot
slot_that_is_left : wrong [] (
    codes "0 fork -> 0 ok 2"
    ∷ codes "0 kill 2 KILL -> 0 ok 0"
    ∷ codes "0 wait 0 - -> 0 child 2 signal 9"
    ∷ codes "0 fork -> 0 ok 3"
    ∷ codes "2 sigtake -> 2 ok 0"
    ∷ codes "1 sigtake -> 1 gone"
    ∷ codes "0 fork -> 0 ok 4"
    ∷ codes "1 sigtake -> 1 ok 0"
    ∷ []) ≡ []
unfolding scenes_compute
slot_that_is_left = refl

controlling_terminal : wrong [] (
    codes "0 open /dev/tty rw -> 0 err ENXIO no-tty"
    ∷ codes "up tty0 -> tty0 noted"
    ∷ codes "0 open /dev/tty0 rw -> 0 ok 0"
    ∷ codes "0 setctty 0 -> 0 ok 0"
    ∷ codes "0 open /dev/tty rw -> 0 ok 1"
    ∷ codes "0 fdname 1 -> 0 text tty0"
    ∷ codes "0 revoke /dev/tty0 -> 0 ok 0"
    ∷ codes "0 open /dev/tty rw -> 0 err ENXIO no-tty"
    ∷ codes "0 setctty 0 -> 0 err EIO dead"
    ∷ []) ≡ []
unfolding scenes_compute
controlling_terminal = refl

-- an open waits for the carrier
sleeping_open : wrong [] (
    codes "0 open /dev/tty0 r -> 0 sleep carrier"
    ∷ codes "up tty0 -> tty0 noted wake 0"
    ∷ codes "down tty0 -> tty0 noted"
    ∷ codes "0 again -> 0 sleep carrier"
    ∷ codes "up tty0 -> tty0 noted wake 0"
    ∷ codes "0 again -> 0 ok 0"
    ∷ []) ≡ []
unfolding scenes_compute
sleeping_open = refl
