-- The definitions compute the worked runs, from the bytes of a script to the bytes of its answers.
use Rattle.std.proofs.Common.{◌≡◌, [], refl}
use Rattle.std.specs.Prelude.{codes}
use Rattle.script_model.specs.Script.{script_out, bytes_and_status as writes}
use Rattle.script_model.proofs.Computing.{rows_compute}

empty_text : writes (script_out [] []) ≡ ([], 0)
unfolding rows_compute
empty_text = refl

first_run : writes (script_out []
    (codes "0 open /dev/tty7 rw\nin tty7 68\n0 read 0 100\n0 write 0 6869\nin tty7 79\n0 revoke /dev/tty7\n0 read 0 100\n0 write 0 7a\ntake tty7 100\n0 close 0\n"))
    ≡ (
      codes "0 ok 0\ntty7 noted\n0 bytes 68\n0 ok 2\ntty7 noted\n0 ok 0\n0 bytes -\n0 err EIO dead\ntty7 out -\n0 ok 0\n",
      0,
    )
unfolding rows_compute
first_run = refl

raw_line_refusals : writes (script_out []
    (codes "0 read 3 5\n0 open /dev/tty7 r n\n0 write 0 61\n0 read 0 513\n0 read 0 5\n1 close 0\n0 jump"))
    ≡ (
      codes "0 err EBADF bad-fd\n0 ok 0\n0 err EBADF fd-mode\n0 err EINVAL size\n0 err EAGAIN not-ready\n1 gone\nline 7\n",
      2,
    )
unfolding rows_compute
raw_line_refusals = refl

recheck_on : writes (script_out (codes "recheck on") (codes "0 open /dev/tty7 rw\nin tty7 68\n0 read 0 100\n"))
    ≡ (codes "0 ok 0\ntty7 noted\n0 bytes 68\n", 0)
unfolding rows_compute
recheck_on = refl

bad_boot : writes (script_out (codes "recheck on\nrecheck on\n") (codes "0 close 0\n")) ≡ (codes "boot line 2\n", 2)
unfolding rows_compute
bad_boot = refl

open_flags : writes (script_out []
    (codes "0 open /dev/tty7 r t\n0 open /dev/tty7 rw x\n0 open /dev/tty7 rw cx\n0 open /dev/tty7 rw n 600\n0 open /dev/tty6 rw\n0 jump\n"))
    ≡ (
      codes "0 err EINVAL flags\n0 err EINVAL flags\n0 err EEXIST exists\n0 ok 0\n0 sleep carrier\nline 6\n",
      2,
    )
unfolding rows_compute
open_flags = refl

tree_calls : writes (script_out []
    (codes "0 mkdir /tmp/d 700\n0 open /tmp/d/f rw c 640\n0 write 0 6162\n0 info /tmp/d/f\n0 rmdir /tmp/d\n0 unlink /tmp/d/f\n0 close 0\n0 unlink /tmp/d/f\n0 setcred 1001 100 -\n0 chmod /tmp/d 777\n0 list /tmp/d 0\n0 list /bin/../tmp 0\n"))
    ≡ (
      codes "0 ok 0\n0 ok 0\n0 ok 2\n0 text file:0:0:640:2\n0 err ENOTEMPTY not-empty\n0 err EBUSY in-use\n0 ok 0\n0 ok 0\n0 ok 0\n0 err EPERM owner\n0 err EACCES list\n0 text d\n",
      0,
    )
unfolding rows_compute
tree_calls = refl

-- labels at the opens of one process
labels_at_open : writes (script_out []
    (codes "0 open /tmp/low rw c 666\n0 setlabel /tmp/low mls/5:2\n0 setproclabel mls/10:2(5:2-20:2+3)\n0 open /tmp/low w\n0 open /tmp/low r\n0 setproclabel mls/5:2(5:2-20:2+3)\n0 open /tmp/low w\n0 setproclabel mls/equal\n"))
    ≡ (
      codes "0 ok 0\n0 ok 0\n0 ok 0\n0 err EACCES label-write\n0 ok 1\n0 ok 0\n0 ok 2\n0 err EPERM proclabel\n",
      0,
    )
unfolding rows_compute
labels_at_open = refl

recheck : writes (script_out (codes "recheck on\n")
    (codes "0 open /tmp/f rw c 644\n0 write 0 6162\n0 setlabel /tmp/f mls/5\n0 setproclabel mls/10(5-20)\n0 open /tmp/f r\n0 read 1 1\n0 setproclabel mls/5(5-20)\n0 write 0 63\n0 setproclabel mls/20(5-20)\n0 write 0 64\n0 read 1 9\n"))
    ≡ (
      codes "0 ok 0\n0 ok 2\n0 ok 0\n0 ok 0\n0 ok 1\n0 bytes 61\n0 ok 0\n0 ok 1\n0 ok 0\n0 err EACCES label-write\n0 bytes 6263\n",
      0,
    )
unfolding rows_compute
recheck = refl
