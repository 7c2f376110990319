-- Terminal lines: opens, sessions, settings, background writes, carrier, ends, and revokes in each state.
use Rattle.std.proofs.Common.{◌≡◌, [], ◌∷◌, ◌++◌, codes, refl}
use Rattle.system_rows.specs.Scenes.{wrong, times}
use Rattle.system_rows.proofs.Computing.{scenes_compute}

-- each call on a line is denied by its first rule: no descriptor, a dead one, none of a line
descriptors_of_lines : wrong [] (
    codes "0 open /dev/tty7 rw -> 0 ok 0"
    ∷ codes "0 open /tmp/f rw c -> 0 ok 1"
    ∷ codes "0 revoke /dev/tty7 -> 0 ok 0"
    ∷ codes "0 setctty 5 -> 0 err EBADF bad-fd"
    ∷ codes "0 setctty 0 -> 0 err EIO dead"
    ∷ codes "0 setctty 1 -> 0 err ENOTTY not-line"
    ∷ codes "0 tcgetattr 5 -> 0 err EBADF bad-fd"
    ∷ codes "0 tcgetattr 0 -> 0 err EIO dead"
    ∷ codes "0 tcgetattr 1 -> 0 err ENOTTY not-line"
    ∷ codes "0 tcsetattr 5 now raw -> 0 err EBADF bad-fd"
    ∷ codes "0 tcsetattr 0 now raw -> 0 err EIO dead"
    ∷ codes "0 tcsetattr 1 now raw -> 0 err ENOTTY not-line"
    ∷ codes "0 tcflush 5 in -> 0 err EBADF bad-fd"
    ∷ codes "0 tcflush 0 in -> 0 err EIO dead"
    ∷ codes "0 tcflush 1 in -> 0 err ENOTTY not-line"
    ∷ codes "0 tcdrain 5 -> 0 err EBADF bad-fd"
    ∷ codes "0 tcdrain 0 -> 0 err EIO dead"
    ∷ codes "0 tcdrain 1 -> 0 err ENOTTY not-line"
    ∷ codes "0 tcsetpgrp 5 1 -> 0 err EBADF bad-fd"
    ∷ codes "0 tcsetpgrp 0 1 -> 0 err EIO dead"
    ∷ codes "0 tcsetpgrp 1 1 -> 0 err ENOTTY not-line"
    ∷ codes "0 tcgetpgrp 5 -> 0 err EBADF bad-fd"
    ∷ codes "0 tcgetpgrp 0 -> 0 err EIO dead"
    ∷ codes "0 tcgetpgrp 1 -> 0 err ENOTTY not-line"
    ∷ codes "0 fdname 5 -> 0 err EBADF bad-fd"
    ∷ codes "0 fdname 0 -> 0 err EIO dead"
    ∷ codes "0 fdname 1 -> 0 text file"
    ∷ codes "0 dup 0 -> 0 ok 2"
    ∷ codes "0 close 0 -> 0 ok 0"
    ∷ codes "0 fdname 2 -> 0 err EIO dead"
    ∷ []) ≡ []
unfolding scenes_compute
descriptors_of_lines = refl

-- a session leader without a line takes one that no session has
controlling_lines : wrong [] (
    codes "0 open /dev/tty7 rw -> 0 ok 0"
    ∷ codes "0 open /dev/tty6 rw n -> 0 ok 1"
    ∷ codes "0 tcgetpgrp 0 -> 0 err ENOTTY not-ctty"
    ∷ codes "0 tcsetpgrp 0 1 -> 0 err ENOTTY not-ctty"
    ∷ codes "0 fork -> 0 ok 2"
    ∷ codes "1 setctty 0 -> 1 err EPERM not-leader"
    ∷ codes "0 setctty 0 -> 0 ok 0"
    ∷ codes "0 setctty 0 -> 0 err EPERM has-tty"
    ∷ codes "0 setctty 1 -> 0 err EPERM has-tty"
    ∷ codes "0 tcgetpgrp 0 -> 0 ok 1"
    ∷ codes "0 tcgetpgrp 1 -> 0 err ENOTTY not-ctty"
    ∷ codes "1 tcgetpgrp 0 -> 1 ok 1"
    ∷ codes "1 setsid -> 1 ok 2"
    ∷ codes "1 tcgetpgrp 0 -> 1 err ENOTTY not-ctty"
    ∷ codes "1 setctty 0 -> 1 err EPERM line-taken"
    ∷ codes "1 setctty 1 -> 1 ok 0"
    ∷ codes "1 tcgetpgrp 1 -> 1 ok 2"
    ∷ codes "0 tcsetpgrp 0 2 -> 0 err EPERM group"
    ∷ codes "0 tcsetpgrp 0 9 -> 0 err EPERM group"
    ∷ codes "0 fork -> 0 ok 3"
    ∷ codes "0 setpgid 3 3 -> 0 ok 0"
    ∷ codes "0 tcsetpgrp 0 3 -> 0 ok 0"
    ∷ codes "0 tcgetpgrp 0 -> 0 ok 3"
    ∷ codes "1 open /dev/tty r n -> 1 ok 2"
    ∷ codes "1 fdname 2 -> 1 text tty6"
    ∷ codes "0 open /dev/tty w -> 0 ok 2"
    ∷ codes "0 fdname 2 -> 0 text tty7"
    ∷ codes "0 write 2 61 -> 0 ok 1"
    ∷ codes "take tty7 9 -> tty7 out 61"
    ∷ []) ≡ []
unfolding scenes_compute
controlling_lines = refl

-- the session and its foreground stay with the line when its last file is closed
last_close_leaves_the_session : wrong [] (
    codes "up tty0 -> tty0 noted"
    ∷ codes "0 fork -> 0 ok 2"
    ∷ codes "1 setsid -> 1 ok 2"
    ∷ codes "1 open /dev/tty0 rw -> 1 ok 0"
    ∷ codes "1 setctty 0 -> 1 ok 0"
    ∷ codes "1 close 0 -> 1 ok 0"
    ∷ codes "1 open /dev/tty rw -> 1 ok 0"
    ∷ codes "1 tcgetpgrp 0 -> 1 ok 2"
    ∷ codes "1 setctty 0 -> 1 err EPERM has-tty"
    ∷ []) ≡ []
unfolding scenes_compute
last_close_leaves_the_session = refl

-- `/dev/tty` asks for the rights of the line's own node too
own_line : wrong [] (
    codes "0 open /dev/tty7 rw -> 0 ok 0"
    ∷ codes "0 fork -> 0 ok 2"
    ∷ codes "1 setsid -> 1 ok 2"
    ∷ codes "1 setctty 0 -> 1 ok 0"
    ∷ codes "1 setcred 7 7 - -> 1 ok 0"
    ∷ codes "1 open /dev/tty rw -> 1 err EACCES list"
    ∷ codes "0 chmod /dev/tty7 606 -> 0 ok 0"
    ∷ codes "1 open /dev/tty rw -> 1 ok 1"
    ∷ codes "0 setlabel /dev/tty7 mls/10 -> 0 ok 0"
    ∷ codes "0 setlabel /dev/tty mls/5 -> 0 ok 0"
    ∷ codes "1 setproclabel mls/5(low-high) -> 1 ok 0"
    ∷ codes "1 open /dev/tty r -> 1 err EACCES label-read"
    ∷ codes "1 open /dev/tty w -> 1 ok 2"
    ∷ codes "1 setproclabel mls/3(low-high) -> 1 ok 0"
    ∷ codes "1 open /dev/tty r -> 1 err EACCES label-read"
    ∷ codes "0 setlabel /dev/tty7 mls/equal -> 0 ok 0"
    ∷ codes "1 open /dev/tty r -> 1 err EACCES label-read"
    ∷ codes "1 open /dev/tty w -> 1 ok 3"
    ∷ codes "0 chmod /dev/tty 600 -> 0 ok 0"
    ∷ codes "1 open /dev/tty w -> 1 err EACCES list"
    ∷ codes "0 open /dev/tty rw -> 0 err ENXIO no-tty"
    ∷ codes "0 unlink /dev/tty -> 0 err EBUSY device"
    ∷ codes "0 revoke /dev/tty -> 0 err EINVAL no-revoke"
    ∷ []) ≡ []
unfolding scenes_compute
own_line = refl

-- an open waits for the carrier, unless it may not wait; the settings that count are those that the line has
opens_and_carrier : wrong [] (
    codes "0 open /dev/tty0 rw n -> 0 ok 0"
    ∷ codes "0 fork -> 0 ok 2"
    ∷ codes "1 open /dev/tty0 rw -> 1 sleep carrier"
    ∷ codes "0 tcsetattr 0 now clocal:3+28+127+21+4+255+17+19+26+1+0 -> 0 ok 0 wake 1"
    ∷ codes "1 again -> 1 ok 1"
    ∷ codes "1 open /dev/tty1 rw -> 1 sleep carrier"
    ∷ codes "0 revoke /dev/tty0 -> 0 ok 0"
    ∷ codes "up tty0 -> tty0 noted"
    ∷ codes "1 again -> 1 sleep carrier"
    ∷ codes "up tty1 -> tty1 noted wake 1"
    ∷ codes "1 again -> 1 ok 2"
    ∷ codes "1 tcgetattr 2 -> 1 text icrnl,ixon,opost,onlcr,hupcl,isig,icanon,echo,echoe,echok,echoctl:3+28+127+21+4+255+17+19+26+1+0"
    ∷ codes "0 open /dev/tty7 rw -> 0 ok 1"
    ∷ codes "0 tcgetattr 1 -> 0 text clocal:3+28+127+21+4+255+17+19+26+1+0"
    ∷ []) ≡ []
unfolding scenes_compute
opens_and_carrier = refl

-- the first open finds the boot's settings and output that runs; the last close empties the line and clears its zombie mark
first_open_and_last_close : wrong [] (
    codes "up tty0 -> tty0 noted"
    ∷ codes "0 open /dev/tty0 rw -> 0 ok 0"
    ∷ codes "0 dup 0 -> 0 ok 1"
    ∷ codes "0 tcsetattr 0 now raw -> 0 ok 0"
    ∷ codes "in tty0 61 -> tty0 noted"
    ∷ codes "0 write 0 6f6c64 -> 0 ok 3"
    ∷ codes "0 close 0 -> 0 ok 0"
    ∷ codes "0 tcgetattr 1 -> 0 text clocal:3+28+127+21+4+255+17+19+26+1+0"
    ∷ codes "0 close 1 -> 0 ok 0"
    ∷ codes "take tty0 9 -> tty0 out -"
    ∷ codes "0 open /dev/tty0 rw n -> 0 ok 0"
    ∷ codes "0 tcgetattr 0 -> 0 text icrnl,ixon,opost,onlcr,hupcl,isig,icanon,echo,echoe,echok,echoctl:3+28+127+21+4+255+17+19+26+1+0"
    ∷ codes "0 read 0 9 -> 0 err EAGAIN not-ready"
    ∷ codes "in tty0 13 -> tty0 noted"
    ∷ codes "0 write 0 6f6c64 -> 0 ok 3"
    ∷ codes "take tty0 9 -> tty0 out -"
    ∷ codes "0 close 0 -> 0 ok 0"
    ∷ codes "0 open /dev/tty0 rw n -> 0 ok 0"
    ∷ codes "0 write 0 6e -> 0 ok 1"
    ∷ codes "take tty0 9 -> tty0 out 6e"
    ∷ codes "down tty0 -> tty0 noted"
    ∷ codes "0 write 0 61 -> 0 err EIO zombie"
    ∷ codes "0 tcsetattr 0 now raw -> 0 err EIO zombie"
    ∷ codes "0 tcflush 0 both -> 0 err EIO zombie"
    ∷ codes "0 tcdrain 0 -> 0 err EIO zombie"
    ∷ codes "0 tcgetattr 0 -> 0 text icrnl,ixon,opost,onlcr,hupcl,isig,icanon,echo,echoe,echok,echoctl:3+28+127+21+4+255+17+19+26+1+0"
    ∷ codes "0 open /dev/tty0 rw n -> 0 err EIO zombie"
    ∷ codes "0 read 0 9 -> 0 bytes -"
    ∷ codes "0 read 0 0 -> 0 bytes -"
    ∷ codes "up tty0 -> tty0 noted"
    ∷ codes "0 open /dev/tty0 rw n -> 0 err EIO zombie"
    ∷ codes "0 close 0 -> 0 ok 0"
    ∷ codes "0 open /dev/tty0 rw n -> 0 ok 0"
    ∷ codes "0 write 0 61 -> 0 ok 1"
    ∷ []) ≡ []
unfolding scenes_compute
first_open_and_last_close = refl

-- START and STOP: what is stopped is not taken, and the wakeup of the line comes again
flow : wrong [] (
    codes "up tty0 -> tty0 noted"
    ∷ codes "0 open /dev/tty0 rw -> 0 ok 0"
    ∷ codes "0 write 0 61 -> 0 ok 1"
    ∷ codes "in tty0 13 -> tty0 noted"
    ∷ codes "take tty0 9 -> tty0 out -"
    ∷ codes "in tty0 11 -> tty0 noted"
    ∷ codes "take tty0 9 -> tty0 out 61"
    ∷ codes "in tty0 13 -> tty0 noted"
    ∷ codes "0 write 0 62 -> 0 ok 1"
    ∷ codes "0 revoke /dev/tty0 -> 0 ok 0"
    ∷ codes "0 open /dev/tty0 rw -> 0 ok 1"
    ∷ codes "0 write 1 63 -> 0 ok 1"
    ∷ codes "take tty0 9 -> tty0 out 63"
    ∷ []) ≡ []
unfolding scenes_compute
flow = refl

-- settings: a timed read is not there yet; with flush the input goes first
settings : wrong [] (
    codes "up tty0 -> tty0 noted"
    ∷ codes "0 open /dev/tty0 rw n -> 0 ok 0"
    ∷ codes "0 tcsetattr 0 now clocal:3+28+127+21+4+255+17+19+26+1+1 -> 0 err EINVAL time"
    ∷ codes "in tty0 6162 -> tty0 noted;tty0 noted"
    ∷ codes "0 read 0 9 -> 0 err EAGAIN not-ready"
    ∷ codes "0 tcsetattr 0 now raw -> 0 ok 0"
    ∷ codes "0 read 0 1 -> 0 bytes 61"
    ∷ codes "0 tcsetattr 0 flush raw -> 0 ok 0"
    ∷ codes "0 read 0 9 -> 0 err EAGAIN not-ready"
    ∷ codes "in tty0 6364 -> tty0 noted;tty0 noted"
    ∷ codes "0 tcsetattr 0 now icanon:3+28+127+21+4+255+17+19+26+1+0 -> 0 ok 0"
    ∷ codes "0 read 0 1 -> 0 bytes 63"
    ∷ codes "0 read 0 9 -> 0 bytes 64"
    ∷ codes "0 tcsetattr 0 now clocal:3+28+127+21+4+255+17+19+26+3+0 -> 0 ok 0"
    ∷ codes "in tty0 6162 -> tty0 noted;tty0 noted"
    ∷ codes "0 read 0 9 -> 0 err EAGAIN not-ready"
    ∷ codes "0 read 0 2 -> 0 bytes 6162"
    ∷ codes "in tty0 616263 -> tty0 noted;tty0 noted;tty0 noted"
    ∷ codes "0 read 0 9 -> 0 bytes 616263"
    ∷ []) ≡ []
unfolding scenes_compute
settings = refl

-- a change of settings empties no output, and with `now` no input
settings_leave_the_output : wrong [] (
    codes "0 open /dev/tty7 rw n -> 0 ok 0"
    ∷ codes "in tty7 61 -> tty7 noted"
    ∷ codes "0 write 0 6f -> 0 ok 1"
    ∷ codes "0 tcsetattr 0 flush raw -> 0 ok 0"
    ∷ codes "0 read 0 9 -> 0 err EAGAIN not-ready"
    ∷ codes "take tty7 9 -> tty7 out 6f"
    ∷ codes "in tty7 62 -> tty7 noted"
    ∷ codes "0 write 0 70 -> 0 ok 1"
    ∷ codes "0 tcsetattr 0 now raw -> 0 ok 0"
    ∷ codes "0 read 0 9 -> 0 bytes 62"
    ∷ codes "take tty7 9 -> tty7 out 70"
    ∷ []) ≡ []
unfolding scenes_compute
settings_leave_the_output = refl

-- what is flushed
flushes : wrong [] (
    codes "0 open /dev/tty7 rw n -> 0 ok 0"
    ∷ codes "0 write 0 61 -> 0 ok 1"
    ∷ codes "in tty7 62 -> tty7 noted"
    ∷ codes "0 tcflush 0 in -> 0 ok 0"
    ∷ codes "0 read 0 9 -> 0 err EAGAIN not-ready"
    ∷ codes "take tty7 9 -> tty7 out 61"
    ∷ codes "0 write 0 61 -> 0 ok 1"
    ∷ codes "in tty7 62 -> tty7 noted"
    ∷ codes "0 tcflush 0 out -> 0 ok 0"
    ∷ codes "take tty7 9 -> tty7 out -"
    ∷ codes "0 read 0 9 -> 0 bytes 62"
    ∷ codes "0 write 0 61 -> 0 ok 1"
    ∷ codes "in tty7 62 -> tty7 noted"
    ∷ codes "0 tcflush 0 both -> 0 ok 0"
    ∷ codes "take tty7 9 -> tty7 out -"
    ∷ codes "0 read 0 9 -> 0 err EAGAIN not-ready"
    ∷ []) ≡ []
unfolding scenes_compute
flushes = refl

-- tcdrain sleeps while the output has a byte, on a nonblocking file too
drains : wrong [] (
    codes "0 open /dev/tty7 rw n -> 0 ok 0"
    ∷ codes "0 tcdrain 0 -> 0 ok 0"
    ∷ codes "0 write 0 6162 -> 0 ok 2"
    ∷ codes "0 tcdrain 0 -> 0 sleep drain"
    ∷ codes "take tty7 1 -> tty7 out 61"
    ∷ codes "0 again -> 0 sleep drain"
    ∷ codes "take tty7 1 -> tty7 out 62 wake 0"
    ∷ codes "0 again -> 0 ok 0"
    ∷ codes "0 write 0 63 -> 0 ok 1"
    ∷ codes "0 fork -> 0 ok 2"
    ∷ codes "1 tcdrain 0 -> 1 sleep drain"
    ∷ codes "0 revoke /dev/tty7 -> 0 ok 0 wake 1"
    ∷ codes "1 again -> 1 err EIO dead"
    ∷ []) ≡ []
unfolding scenes_compute
drains = refl

-- writes and changes from the background
background_writes : wrong [] (
    codes "up tty0 -> tty0 noted"
    ∷ codes "0 open /dev/tty0 rw -> 0 ok 0"
    ∷ codes "0 fork -> 0 ok 2"
    ∷ codes "1 setsid -> 1 ok 2"
    ∷ codes "1 setctty 0 -> 1 ok 0"
    ∷ codes "1 fork -> 1 ok 3"
    ∷ codes "2 setpgid 0 0 -> 2 ok 0"
    ∷ codes "2 write 0 61 -> 2 ok 1"
    ∷ codes "2 tcflush 0 out -> 2 sleep stop"
    ∷ codes "1 wait 0 u -> 1 child 3 stop 22"
    ∷ codes "1 kill 3 CONT -> 1 ok 0 wake 2"
    ∷ codes "2 again -> 2 sleep stop"
    ∷ codes "1 wait 0 u -> 1 child 3 stop 22"
    ∷ codes "1 tcsetpgrp 0 3 -> 1 ok 0"
    ∷ codes "1 kill 3 CONT -> 1 ok 0 wake 2"
    ∷ codes "2 again -> 2 ok 0"
    ∷ codes "2 tcsetpgrp 0 2 -> 2 ok 0"
    ∷ codes "2 sigset TTOU ignore -> 2 ok 0"
    ∷ codes "2 tcsetattr 0 now icanon,tostop:3+28+127+21+4+255+17+19+26+1+0 -> 2 ok 0"
    ∷ codes "2 write 0 61 -> 2 ok 1"
    ∷ codes "2 sigset TTOU catch -> 2 ok 0"
    ∷ codes "2 write 0 61 -> 2 err EINTR signal"
    ∷ codes "2 sigtake -> 2 ok 22"
    ∷ codes "2 tcdrain 0 -> 2 err EINTR signal"
    ∷ codes "2 sigtake -> 2 ok 22"
    ∷ codes "2 tcsetpgrp 0 3 -> 2 err EINTR signal"
    ∷ codes "2 sigtake -> 2 ok 22"
    ∷ codes "2 tcsetattr 0 now raw -> 2 err EINTR signal"
    ∷ codes "2 tcsetpgrp 0 9 -> 2 err EINTR signal"
    ∷ codes "2 sigtake -> 2 ok 22"
    ∷ codes "2 sigtake -> 2 ok 0"
    ∷ codes "2 sigset TTOU default -> 2 ok 0"
    ∷ codes "2 tcgetpgrp 0 -> 2 ok 2"
    ∷ codes "2 write 0 - -> 2 ok 0"
    ∷ codes "2 write 0 61 -> 2 sleep stop"
    ∷ codes "1 wait 0 u -> 1 child 3 stop 22"
    ∷ codes "1 kill 3 KILL -> 1 ok 0 wake 2"
    ∷ codes "2 again -> 2 gone"
    ∷ []) ≡ []
unfolding scenes_compute
background_writes = refl

-- a read from the background by one that ignores TTIN is denied, and one that catches it is interrupted
background_actions : wrong [] (
    codes "up tty0 -> tty0 noted"
    ∷ codes "0 open /dev/tty0 rw -> 0 ok 0"
    ∷ codes "0 fork -> 0 ok 2"
    ∷ codes "1 setsid -> 1 ok 2"
    ∷ codes "1 setctty 0 -> 1 ok 0"
    ∷ codes "1 fork -> 1 ok 3"
    ∷ codes "2 setpgid 0 0 -> 2 ok 0"
    ∷ codes "2 read 0 0 -> 2 bytes -"
    ∷ codes "2 sigset TTIN ignore -> 2 ok 0"
    ∷ codes "2 read 0 9 -> 2 err EIO background"
    ∷ codes "2 sigset TTIN catch -> 2 ok 0"
    ∷ codes "2 read 0 9 -> 2 err EINTR signal"
    ∷ codes "2 sigtake -> 2 ok 21"
    ∷ codes "2 sigset TTOU ignore -> 2 ok 0"
    ∷ codes "2 tcsetattr 0 now raw -> 2 ok 0"
    ∷ codes "2 sigset TTIN default -> 2 ok 0"
    ∷ codes "2 read 0 9 -> 2 sleep stop"
    ∷ codes "0 read 0 9 -> 0 sleep read"
    ∷ codes "in tty0 61 -> tty0 noted wake 0"
    ∷ codes "1 tcsetpgrp 0 3 -> 1 ok 0 wake 0"
    ∷ codes "1 read 0 9 -> 1 err EIO background wake 0"
    ∷ codes "1 tcsetattr 0 now raw -> 1 err EIO background wake 0"
    ∷ codes "1 exit 0 -> 1 ok 0 wake 0 2"
    ∷ codes "2 again -> 2 gone wake 0"
    ∷ codes "0 again -> 0 bytes -"
    ∷ []) ≡ []
unfolding scenes_compute
background_actions = refl

-- pid 1 in the background: its read is denied, and its writes are allowed
background_init : wrong [] (
    codes "up tty0 -> tty0 noted"
    ∷ codes "0 open /dev/tty0 rw -> 0 ok 0"
    ∷ codes "0 setctty 0 -> 0 ok 0"
    ∷ codes "0 fork -> 0 ok 2"
    ∷ codes "0 setpgid 2 2 -> 0 ok 0"
    ∷ codes "0 tcsetpgrp 0 2 -> 0 ok 0"
    ∷ codes "0 read 0 9 -> 0 err EIO background"
    ∷ codes "0 tcsetattr 0 now icanon,tostop:3+28+127+21+4+255+17+19+26+1+0 -> 0 ok 0"
    ∷ codes "0 write 0 61 -> 0 ok 1"
    ∷ codes "0 tcsetpgrp 0 1 -> 0 ok 0"
    ∷ codes "1 write 0 61 -> 1 sleep stop"
    ∷ []) ≡ []
unfolding scenes_compute
background_init = refl

-- an orphaned group in the background is denied what would stop it
orphaned_writes : wrong [] (
    codes "up tty0 -> tty0 noted"
    ∷ codes "0 open /dev/tty0 rw -> 0 ok 0"
    ∷ codes "0 fork -> 0 ok 2"
    ∷ codes "1 setsid -> 1 ok 2"
    ∷ codes "1 setctty 0 -> 1 ok 0"
    ∷ codes "1 fork -> 1 ok 3"
    ∷ codes "2 setpgid 0 0 -> 2 ok 0"
    ∷ codes "2 fork -> 2 ok 4"
    ∷ codes "2 exit 0 -> 2 ok 0"
    ∷ codes "3 tcflush 0 in -> 3 err EIO background"
    ∷ codes "3 tcsetpgrp 0 3 -> 3 err EIO background"
    ∷ codes "3 tcdrain 0 -> 3 err EIO background"
    ∷ codes "3 sigset TTOU ignore -> 3 ok 0"
    ∷ codes "3 tcflush 0 in -> 3 ok 0"
    ∷ codes "3 read 0 9 -> 3 err EIO background"
    ∷ []) ≡ []
unfolding scenes_compute
orphaned_writes = refl

-- the signal characters go to the foreground group
signal_characters : wrong [] (
    codes "up tty0 -> tty0 noted"
    ∷ codes "0 open /dev/tty0 rw -> 0 ok 0"
    ∷ codes "in tty0 03 -> tty0 noted"
    ∷ codes "0 fork -> 0 ok 2"
    ∷ codes "1 setsid -> 1 ok 2"
    ∷ codes "1 setctty 0 -> 1 ok 0"
    ∷ codes "1 sigset INT catch -> 1 ok 0"
    ∷ codes "1 sigset QUIT catch -> 1 ok 0"
    ∷ codes "1 sigset TSTP catch -> 1 ok 0"
    ∷ codes "1 fork -> 1 ok 3"
    ∷ codes "1 fork -> 1 ok 4"
    ∷ codes "3 setpgid 0 0 -> 3 ok 0"
    ∷ codes "in tty0 03 -> tty0 noted"
    ∷ codes "1 sigtake -> 1 ok 2"
    ∷ codes "2 sigtake -> 2 ok 2"
    ∷ codes "3 sigtake -> 3 ok 0"
    ∷ codes "in tty0 1c -> tty0 noted"
    ∷ codes "1 sigtake -> 1 ok 3"
    ∷ codes "2 sigtake -> 2 ok 3"
    ∷ codes "in tty0 1a -> tty0 noted"
    ∷ codes "1 sigtake -> 1 ok 18"
    ∷ codes "2 sigtake -> 2 ok 18"
    ∷ codes "1 tcsetpgrp 0 4 -> 1 ok 0"
    ∷ codes "in tty0 1c -> tty0 noted"
    ∷ codes "3 sigtake -> 3 ok 3"
    ∷ codes "1 sigtake -> 1 ok 0"
    ∷ codes "3 sigset INT default -> 3 ok 0"
    ∷ codes "3 pause -> 3 sleep pause"
    ∷ codes "in tty0 03 -> tty0 noted wake 3"
    ∷ codes "3 again -> 3 gone"
    ∷ codes "1 wait 4 - -> 1 child 4 signal 2"
    ∷ []) ≡ []
unfolding scenes_compute
signal_characters = refl

-- a loss of carrier: the session's leader gets HUP, the queues go; with clocal nothing happens
carrier_lost : wrong [] (
    codes "up tty0 -> tty0 noted"
    ∷ codes "up tty1 -> tty1 noted"
    ∷ codes "0 open /dev/tty0 rw -> 0 ok 0"
    ∷ codes "0 open /dev/tty1 rw n -> 0 ok 1"
    ∷ codes "0 fork -> 0 ok 2"
    ∷ codes "1 setsid -> 1 ok 2"
    ∷ codes "1 setctty 0 -> 1 ok 0"
    ∷ codes "1 fork -> 1 ok 3"
    ∷ codes "2 setpgid 0 0 -> 2 ok 0"
    ∷ codes "2 sigset HUP catch -> 2 ok 0"
    ∷ codes "1 tcsetpgrp 0 3 -> 1 ok 0"
    ∷ codes "0 tcsetattr 1 now icanon,clocal:3+28+127+21+4+255+17+19+26+1+0 -> 0 ok 0"
    ∷ codes "0 write 1 61 -> 0 ok 1"
    ∷ codes "in tty1 620a -> tty1 noted;tty1 noted"
    ∷ codes "down tty1 -> tty1 noted"
    ∷ codes "in tty1 630a -> tty1 noted;tty1 noted"
    ∷ codes "0 read 1 9 -> 0 bytes 620a"
    ∷ codes "0 read 1 9 -> 0 bytes 630a"
    ∷ codes "take tty1 9 -> tty1 out 61"
    ∷ codes "0 write 0 61 -> 0 ok 1"
    ∷ codes "in tty0 620a -> tty0 noted;tty0 noted"
    ∷ codes "down tty0 -> tty0 noted"
    ∷ codes "take tty0 9 -> tty0 out -"
    ∷ codes "2 sigtake -> 2 ok 1"
    ∷ codes "1 sigtake -> 1 gone"
    ∷ codes "0 read 0 9 -> 0 bytes -"
    ∷ codes "0 wait 2 - -> 0 child 2 signal 1"
    ∷ codes "up tty0 -> tty0 noted"
    ∷ codes "0 open /dev/tty0 rw -> 0 ok 2"
    ∷ codes "in tty0 630a -> tty0 noted;tty0 noted"
    ∷ codes "0 read 2 9 -> 0 bytes 630a"
    ∷ []) ≡ []
unfolding scenes_compute
carrier_lost = refl

-- a loss of carrier and a revoke hang the leader up, and no other member of its group
leader_alone_is_hung_up : wrong [] (
    codes "up tty0 -> tty0 noted"
    ∷ codes "0 open /dev/tty0 rw -> 0 ok 0"
    ∷ codes "0 fork -> 0 ok 2"
    ∷ codes "1 setsid -> 1 ok 2"
    ∷ codes "1 setctty 0 -> 1 ok 0"
    ∷ codes "1 sigset HUP catch -> 1 ok 0"
    ∷ codes "1 fork -> 1 ok 3"
    ∷ codes "down tty0 -> tty0 noted"
    ∷ codes "2 sigtake -> 2 ok 0"
    ∷ codes "1 sigtake -> 1 ok 1"
    ∷ codes "0 revoke /dev/tty0 -> 0 ok 0"
    ∷ codes "2 sigtake -> 2 ok 0"
    ∷ codes "1 sigtake -> 1 ok 1"
    ∷ []) ≡ []
unfolding scenes_compute
leader_alone_is_hung_up = refl

-- a byte at a line without a live file, without carrier, or that is a zombie is dropped
bytes_dropped : wrong [] (
    codes "in tty0 61 -> tty0 noted"
    ∷ codes "0 open /dev/tty0 rw n -> 0 ok 0"
    ∷ codes "in tty0 610a -> tty0 noted;tty0 noted"
    ∷ codes "take tty0 9 -> tty0 out -"
    ∷ codes "0 read 0 9 -> 0 err EAGAIN not-ready"
    ∷ codes "up tty0 -> tty0 noted"
    ∷ codes "in tty0 620a -> tty0 noted;tty0 noted"
    ∷ codes "0 read 0 9 -> 0 bytes 620a"
    ∷ codes "take tty0 9 -> tty0 out 620d0a"
    ∷ codes "down tty0 -> tty0 noted"
    ∷ codes "up tty0 -> tty0 noted"
    ∷ codes "in tty0 630a -> tty0 noted;tty0 noted"
    ∷ codes "0 read 0 9 -> 0 bytes -"
    ∷ codes "take tty0 9 -> tty0 out -"
    ∷ []) ≡ []
unfolding scenes_compute
bytes_dropped = refl

-- the end of a line hangs up like a loss of carrier, and is for good
line_ends : wrong [] (
    codes "up tty0 -> tty0 noted"
    ∷ codes "0 open /dev/tty0 rw -> 0 ok 0"
    ∷ codes "0 fork -> 0 ok 2"
    ∷ codes "1 setsid -> 1 ok 2"
    ∷ codes "1 setctty 0 -> 1 ok 0"
    ∷ codes "1 sigset HUP catch -> 1 ok 0"
    ∷ codes "end tty0 -> tty0 noted"
    ∷ codes "1 sigtake -> 1 ok 1"
    ∷ codes "up tty0 -> tty0 noted"
    ∷ codes "end tty0 -> tty0 noted"
    ∷ codes "down tty0 -> tty0 noted"
    ∷ codes "1 sigtake -> 1 ok 0"
    ∷ codes "in tty0 61 -> tty0 noted"
    ∷ codes "0 read 0 9 -> 0 bytes -"
    ∷ codes "0 write 0 61 -> 0 err EIO zombie"
    ∷ codes "0 open /dev/tty0 rw -> 0 err ENXIO ended"
    ∷ codes "0 open /dev/tty0 rw n -> 0 err ENXIO ended"
    ∷ codes "0 revoke /dev/tty0 -> 0 ok 0"
    ∷ codes "0 open /dev/tty0 rw -> 0 err ENXIO ended"
    ∷ codes "0 open /dev/tty7 rw -> 0 ok 1"
    ∷ codes "end tty7 -> tty7 noted"
    ∷ codes "0 write 1 61 -> 0 ok 1"
    ∷ codes "in tty7 62 -> tty7 noted"
    ∷ codes "take tty7 9 -> tty7 out 61"
    ∷ codes "0 open /dev/tty7 rw -> 0 err ENXIO ended"
    ∷ codes "end tty1 -> tty1 noted"
    ∷ codes "end tty2 -> tty2 noted"
    ∷ codes "end tty3 -> tty3 noted"
    ∷ codes "end tty4 -> tty4 noted"
    ∷ codes "end tty5 -> tty5 noted"
    ∷ codes "0 sigtake -> 0 ok 0"
    ∷ codes "end tty6 -> tty6 noted"
    ∷ codes "0 sigtake -> 0 gone"
    ∷ codes "end tty6 -> tty6 gone"
    ∷ []) ≡ []
unfolding scenes_compute
line_ends = refl

-- a revoke tells the former leader, unless it is the caller, and leaves other lines and other sessions
revoke_tells_the_leader : wrong [] (
    codes "up tty0 -> tty0 noted"
    ∷ codes "0 open /dev/tty0 rw -> 0 ok 0"
    ∷ codes "0 open /dev/tty7 rw -> 0 ok 1"
    ∷ codes "0 setctty 1 -> 0 ok 0"
    ∷ codes "0 sigset HUP catch -> 0 ok 0"
    ∷ codes "0 fork -> 0 ok 2"
    ∷ codes "1 setsid -> 1 ok 2"
    ∷ codes "1 setctty 0 -> 1 ok 0"
    ∷ codes "1 fork -> 1 ok 3"
    ∷ codes "2 setpgid 0 0 -> 2 ok 0"
    ∷ codes "1 tcsetpgrp 0 3 -> 1 ok 0"
    ∷ codes "in tty7 61 -> tty7 noted"
    ∷ codes "0 write 1 62 -> 0 ok 1"
    ∷ codes "0 revoke /dev/tty0 -> 0 ok 0"
    ∷ codes "1 sigtake -> 1 ok 1"
    ∷ codes "2 sigtake -> 2 ok 0"
    ∷ codes "0 sigtake -> 0 ok 0"
    ∷ codes "1 tcgetpgrp 0 -> 1 err EIO dead"
    ∷ codes "1 open /dev/tty rw -> 1 err ENXIO no-tty"
    ∷ codes "0 read 1 9 -> 0 bytes 61"
    ∷ codes "take tty7 9 -> tty7 out 62"
    ∷ codes "0 tcgetpgrp 1 -> 0 ok 1"
    ∷ codes "0 revoke /dev/tty7 -> 0 ok 0"
    ∷ codes "0 sigtake -> 0 ok 0"
    ∷ codes "0 open /dev/tty rw -> 0 err ENXIO no-tty"
    ∷ codes "0 open /dev/tty7 rw -> 0 ok 2"
    ∷ codes "0 setctty 2 -> 0 ok 0"
    ∷ []) ≡ []
unfolding scenes_compute
revoke_tells_the_leader = refl

-- the revoke at a leader's exit: the foreground group is hung up while the line is still its, and then every file is dead
leader_ends : wrong [] (
    codes "up tty0 -> tty0 noted"
    ∷ codes "0 open /dev/tty0 rw -> 0 ok 0"
    ∷ codes "0 fork -> 0 ok 2"
    ∷ codes "1 setsid -> 1 ok 2"
    ∷ codes "1 setctty 0 -> 1 ok 0"
    ∷ codes "1 sigset HUP catch -> 1 ok 0"
    ∷ codes "1 fork -> 1 ok 3"
    ∷ codes "1 fork -> 1 ok 4"
    ∷ codes "2 setpgid 0 0 -> 2 ok 0"
    ∷ codes "1 tcsetpgrp 0 3 -> 1 ok 0"
    ∷ codes "2 read 0 9 -> 2 sleep read"
    ∷ codes "0 write 0 6f6c64 -> 0 ok 3"
    ∷ codes "in tty0 610a -> tty0 noted;tty0 noted wake 2"
    ∷ codes "1 exit 5 -> 1 ok 0 wake 2"
    ∷ codes "take tty0 99 -> tty0 out - wake 2"
    ∷ codes "2 again -> 2 bytes -"
    ∷ codes "2 sigtake -> 2 ok 1"
    ∷ codes "2 write 0 61 -> 2 err EIO dead"
    ∷ codes "3 sigtake -> 3 ok 0"
    ∷ codes "0 wait 2 - -> 0 child 2 exit 5"
    ∷ codes "0 open /dev/tty0 rw n -> 0 ok 1"
    ∷ codes "0 read 1 9 -> 0 err EAGAIN not-ready"
    ∷ codes "0 tcgetpgrp 1 -> 0 err ENOTTY not-ctty"
    ∷ []) ≡ []
unfolding scenes_compute
leader_ends = refl

-- the end of a member of the leader's group that is not the leader takes no line and hangs nobody up
end_of_another_member : wrong [] (
    codes "up tty0 -> tty0 noted"
    ∷ codes "0 open /dev/tty0 rw -> 0 ok 0"
    ∷ codes "0 fork -> 0 ok 2"
    ∷ codes "1 setsid -> 1 ok 2"
    ∷ codes "1 setctty 0 -> 1 ok 0"
    ∷ codes "1 sigset HUP catch -> 1 ok 0"
    ∷ codes "1 fork -> 1 ok 3"
    ∷ codes "2 exit 0 -> 2 ok 0"
    ∷ codes "1 sigtake -> 1 ok 0"
    ∷ codes "1 tcgetpgrp 0 -> 1 ok 2"
    ∷ codes "1 write 0 61 -> 1 ok 1"
    ∷ codes "take tty0 9 -> tty0 out 61"
    ∷ []) ≡ []
unfolding scenes_compute
end_of_another_member = refl

-- each member of the foreground group is hung up at its leader's exit, and nobody else
foreground_is_hung_up : wrong [] (
    codes "up tty0 -> tty0 noted"
    ∷ codes "0 open /dev/tty0 rw -> 0 ok 0"
    ∷ codes "0 fork -> 0 ok 2"
    ∷ codes "1 setsid -> 1 ok 2"
    ∷ codes "1 setctty 0 -> 1 ok 0"
    ∷ codes "1 sigset HUP catch -> 1 ok 0"
    ∷ codes "1 fork -> 1 ok 3"
    ∷ codes "2 setpgid 0 0 -> 2 ok 0"
    ∷ codes "1 fork -> 1 ok 4"
    ∷ codes "3 setpgid 0 3 -> 3 ok 0"
    ∷ codes "1 fork -> 1 ok 5"
    ∷ codes "1 tcsetpgrp 0 3 -> 1 ok 0"
    ∷ codes "1 exit 0 -> 1 ok 0"
    ∷ codes "2 sigtake -> 2 ok 1"
    ∷ codes "3 sigtake -> 3 ok 1"
    ∷ codes "4 sigtake -> 4 ok 0"
    ∷ codes "4 read 0 9 -> 4 bytes -"
    ∷ []) ≡ []
unfolding scenes_compute
foreground_is_hung_up = refl

-- sleepers of a revoked line are woken whatever they wait for, and a later byte is not theirs
sleepers_of_a_revoked_line : wrong [] (
    codes "up tty0 -> tty0 noted"
    ∷ codes "0 open /dev/tty0 rw -> 0 ok 0"
    ∷ codes "0 fork -> 0 ok 2"
    ∷ codes "0 fork -> 0 ok 3"
    ∷ codes "0 fork -> 0 ok 4"
    ∷ codes "0 fork -> 0 ok 5"
    ∷ (codes "0 write 0 " ++ times 512 (codes "61") ++ codes " -> 0 ok 512")
    ∷ (codes "0 write 0 " ++ times 512 (codes "61") ++ codes " -> 0 ok 512")
    ∷ (codes "0 write 0 " ++ times 512 (codes "61") ++ codes " -> 0 ok 512")
    ∷ (codes "0 write 0 " ++ times 512 (codes "61") ++ codes " -> 0 ok 512")
    ∷ (codes "0 write 0 " ++ times 512 (codes "61") ++ codes " -> 0 ok 512")
    ∷ (codes "0 write 0 " ++ times 512 (codes "61") ++ codes " -> 0 ok 512")
    ∷ (codes "0 write 0 " ++ times 512 (codes "61") ++ codes " -> 0 ok 512")
    ∷ (codes "0 write 0 " ++ times 512 (codes "61") ++ codes " -> 0 ok 512")
    ∷ codes "1 read 0 9 -> 1 sleep read"
    ∷ codes "2 write 0 62 -> 2 sleep write"
    ∷ codes "3 tcdrain 0 -> 3 sleep drain"
    ∷ codes "0 kill 5 STOP -> 0 ok 0"
    ∷ codes "4 read 0 9 -> 4 sleep stop"
    ∷ codes "0 revoke /dev/tty0 -> 0 ok 0 wake 1 2 3"
    ∷ codes "0 open /dev/tty0 rw -> 0 ok 1 wake 1 2 3"
    ∷ codes "in tty0 630a -> tty0 noted wake 1 2 3;tty0 noted wake 1 2 3"
    ∷ codes "3 again -> 3 err EIO dead wake 1 2"
    ∷ codes "2 again -> 2 err EIO dead wake 1"
    ∷ codes "1 again -> 1 bytes -"
    ∷ codes "4 again -> 4 sleep stop"
    ∷ codes "0 kill 5 CONT -> 0 ok 0 wake 4"
    ∷ codes "4 again -> 4 bytes -"
    ∷ codes "0 read 1 9 -> 0 bytes 630a"
    ∷ codes "take tty0 9 -> tty0 out 630d0a"
    ∷ []) ≡ []
unfolding scenes_compute
sleepers_of_a_revoked_line = refl

-- a dead file is no live one: its close is not the last, and leaves what a new one has
close_of_a_dead_file : wrong [] (
    codes "0 open /dev/tty7 rw -> 0 ok 0"
    ∷ codes "0 revoke /dev/tty7 -> 0 ok 0"
    ∷ codes "0 open /dev/tty7 rw n -> 0 ok 1"
    ∷ codes "in tty7 61 -> tty7 noted"
    ∷ codes "0 write 1 62 -> 0 ok 1"
    ∷ codes "0 close 0 -> 0 ok 0"
    ∷ codes "0 read 1 9 -> 0 bytes 61"
    ∷ codes "take tty7 9 -> tty7 out 62"
    ∷ codes "0 open /dev/tty7 rw n -> 0 ok 0"
    ∷ codes "0 write 0 63 -> 0 ok 1"
    ∷ codes "0 close 1 -> 0 ok 0"
    ∷ codes "take tty7 9 -> tty7 out 63"
    ∷ []) ≡ []
unfolding scenes_compute
close_of_a_dead_file = refl

-- and it keeps no line open: the queues go with the last file that is not dead
dead_file_keeps_no_line : wrong [] (
    codes "0 open /dev/tty7 rw -> 0 ok 0"
    ∷ codes "0 revoke /dev/tty7 -> 0 ok 0"
    ∷ codes "0 open /dev/tty7 rw n -> 0 ok 1"
    ∷ codes "in tty7 61 -> tty7 noted"
    ∷ codes "0 write 1 6f6c64 -> 0 ok 3"
    ∷ codes "0 close 1 -> 0 ok 0"
    ∷ codes "take tty7 9 -> tty7 out -"
    ∷ codes "in tty7 62 -> tty7 noted"
    ∷ codes "0 open /dev/tty7 rw n -> 0 ok 1"
    ∷ codes "0 read 1 9 -> 0 err EAGAIN not-ready"
    ∷ codes "take tty7 9 -> tty7 out -"
    ∷ []) ≡ []
unfolding scenes_compute
dead_file_keeps_no_line = refl

-- labels of a line are looked at again where the boot says so, at its own node
recheck_of_lines : wrong (codes "recheck on\n") (
    codes "0 open /dev/tty7 rw n -> 0 ok 0"
    ∷ codes "in tty7 61 -> tty7 noted"
    ∷ codes "0 setlabel /dev/tty7 mls/5 -> 0 ok 0"
    ∷ codes "0 setproclabel mls/4(low-high) -> 0 ok 0"
    ∷ codes "0 read 0 9 -> 0 err EACCES label-read"
    ∷ codes "0 read 0 0 -> 0 err EACCES label-read"
    ∷ codes "0 write 0 61 -> 0 ok 1"
    ∷ codes "0 setproclabel mls/6(low-high) -> 0 ok 0"
    ∷ codes "0 write 0 61 -> 0 err EACCES label-write"
    ∷ codes "0 write 0 - -> 0 err EACCES label-write"
    ∷ codes "0 read 0 9 -> 0 bytes 61"
    ∷ codes "0 revoke /dev/tty7 -> 0 err EACCES label-write"
    ∷ codes "0 setproclabel mls/4(low-high) -> 0 ok 0"
    ∷ codes "0 revoke /dev/tty7 -> 0 ok 0"
    ∷ codes "0 read 0 9 -> 0 bytes -"
    ∷ []) ≡ []
unfolding scenes_compute
recheck_of_lines = refl

-- a file and a pipe that are open keep no line open, and another line keeps neither
other_open_files : wrong [] (
    codes "0 open /tmp/f rw c -> 0 ok 0"
    ∷ codes "0 pipe -> 0 pair 1 2"
    ∷ codes "0 open /dev/tty6 rw n -> 0 ok 3"
    ∷ codes "0 open /dev/tty7 rw -> 0 ok 4"
    ∷ codes "in tty7 61 -> tty7 noted"
    ∷ codes "0 write 4 6f6c64 -> 0 ok 3"
    ∷ codes "0 close 4 -> 0 ok 0"
    ∷ codes "take tty7 9 -> tty7 out -"
    ∷ codes "0 open /dev/tty7 rw n -> 0 ok 4"
    ∷ codes "take tty7 9 -> tty7 out -"
    ∷ codes "0 read 4 9 -> 0 err EAGAIN not-ready"
    ∷ codes "0 write 4 6e -> 0 ok 1"
    ∷ codes "0 revoke /dev/tty6 -> 0 ok 0"
    ∷ codes "0 write 0 62 -> 0 ok 1"
    ∷ codes "0 write 2 63 -> 0 ok 1"
    ∷ codes "0 read 1 9 -> 0 bytes 63"
    ∷ codes "take tty7 9 -> tty7 out 6e"
    ∷ codes "0 write 3 64 -> 0 err EIO dead"
    ∷ []) ≡ []
unfolding scenes_compute
other_open_files = refl

-- a revoke is of its line alone: files of other lines, regular files and pipes stay
revoke_of_each_line : wrong [] (
    codes "0 open /tmp/f rw c -> 0 ok 0"
    ∷ codes "0 pipe -> 0 pair 1 2"
    ∷ codes "0 open /dev/tty0 rw n -> 0 ok 3"
    ∷ codes "0 open /dev/tty1 rw n -> 0 ok 4"
    ∷ codes "0 open /dev/tty2 rw n -> 0 ok 5"
    ∷ codes "0 open /dev/tty3 rw n -> 0 ok 6"
    ∷ codes "0 open /dev/tty4 rw n -> 0 ok 7"
    ∷ codes "0 open /dev/tty5 rw n -> 0 ok 8"
    ∷ codes "0 open /dev/tty6 rw n -> 0 ok 9"
    ∷ codes "0 open /dev/tty7 rw n -> 0 ok 10"
    ∷ codes "0 revoke /dev/tty0 -> 0 ok 0"
    ∷ codes "0 write 3 61 -> 0 err EIO dead"
    ∷ codes "0 write 4 61 -> 0 ok 1"
    ∷ codes "0 revoke /dev/tty1 -> 0 ok 0"
    ∷ codes "0 write 4 61 -> 0 err EIO dead"
    ∷ codes "0 write 5 61 -> 0 ok 1"
    ∷ codes "0 revoke /dev/tty2 -> 0 ok 0"
    ∷ codes "0 write 5 61 -> 0 err EIO dead"
    ∷ codes "0 write 6 61 -> 0 ok 1"
    ∷ codes "0 revoke /dev/tty3 -> 0 ok 0"
    ∷ codes "0 write 6 61 -> 0 err EIO dead"
    ∷ codes "0 write 7 61 -> 0 ok 1"
    ∷ codes "0 revoke /dev/tty4 -> 0 ok 0"
    ∷ codes "0 write 7 61 -> 0 err EIO dead"
    ∷ codes "0 write 8 61 -> 0 ok 1"
    ∷ codes "0 revoke /dev/tty5 -> 0 ok 0"
    ∷ codes "0 write 8 61 -> 0 err EIO dead"
    ∷ codes "0 write 9 61 -> 0 ok 1"
    ∷ codes "0 revoke /dev/tty6 -> 0 ok 0"
    ∷ codes "0 write 9 61 -> 0 err EIO dead"
    ∷ codes "0 write 10 61 -> 0 ok 1"
    ∷ codes "0 revoke /dev/tty7 -> 0 ok 0"
    ∷ codes "0 write 10 61 -> 0 err EIO dead"
    ∷ codes "0 write 0 61 -> 0 ok 1"
    ∷ codes "0 write 2 61 -> 0 ok 1"
    ∷ codes "0 read 1 9 -> 0 bytes 61"
    ∷ codes "0 open /tmp/f r -> 0 ok 11"
    ∷ codes "0 read 11 9 -> 0 bytes 61"
    ∷ []) ≡ []
unfolding scenes_compute
revoke_of_each_line = refl

-- a read and a change from the background stop the whole group, and no other
background_group : wrong [] (
    codes "up tty0 -> tty0 noted"
    ∷ codes "0 open /dev/tty0 rw -> 0 ok 0"
    ∷ codes "0 fork -> 0 ok 2"
    ∷ codes "1 setsid -> 1 ok 2"
    ∷ codes "1 setctty 0 -> 1 ok 0"
    ∷ codes "1 fork -> 1 ok 3"
    ∷ codes "2 setpgid 0 0 -> 2 ok 0"
    ∷ codes "2 fork -> 2 ok 4"
    ∷ codes "2 fork -> 2 ok 5"
    ∷ codes "4 setpgid 0 0 -> 4 ok 0"
    ∷ codes "2 read 0 9 -> 2 sleep stop"
    ∷ codes "3 sigtake -> 3 sleep stop"
    ∷ codes "4 sigtake -> 4 ok 0"
    ∷ codes "1 wait 3 u -> 1 child 3 stop 21"
    ∷ codes "1 kill g3 CONT -> 1 ok 0 wake 2 3"
    ∷ codes "3 again -> 3 ok 0 wake 2"
    ∷ codes "3 tcflush 0 in -> 3 sleep stop"
    ∷ codes "1 wait 3 u -> 1 child 3 stop 22"
    ∷ codes "1 sigtake -> 1 ok 0"
    ∷ codes "4 sigtake -> 4 ok 0"
    ∷ []) ≡ []
unfolding scenes_compute
background_group = refl
