-- Reads and writes of regular files, and what is full.
use Rattle.std.proofs.Common.{◌≡◌, [], ◌∷◌, codes, refl}
use Rattle.system_rows.specs.Scenes.{wrong}
use Rattle.system_rows.proofs.Computing.{scenes_compute}

-- A file of grade 10 that a user of this grade has open, as number 0 to read and as number 1 to write.
-- Reads and writes at grade 10. Of the lines with a remark, here and below, a later rule would hold too.
-- That the number has no file.
-- Reads at a grade that may not read the file, where labels are looked at again.
-- The label.
-- That nothing is asked for.
-- Reads and writes at a grade that may not write the file, where labels are looked at again.
-- The label.
-- That there are no bytes.
each_read_and_write_is_denied_by_its_first_rule : wrong (codes "recheck on\n") (
    codes "0 setproclabel mls/10(low-high) -> 0 ok 0"
    ∷ codes "0 setcred 1001 100 - -> 0 ok 0"
    ∷ codes "0 open /tmp/ten r c -> 0 ok 0"
    ∷ codes "0 open /tmp/ten w -> 0 ok 1"
    ∷ codes "0 read 9 513 -> 0 err EINVAL size"
    ∷ codes "0 read 9 512 -> 0 err EBADF bad-fd"
    ∷ codes "0 read 255 0 -> 0 err EBADF bad-fd"
    ∷ codes "0 write 9 61 -> 0 err EBADF bad-fd"
    ∷ codes "0 close 9 -> 0 err EBADF bad-fd"
    ∷ codes "0 setproclabel mls/5(low-high) -> 0 ok 0"
    ∷ codes "0 read 1 512 -> 0 err EBADF fd-mode"
    ∷ codes "0 read 0 512 -> 0 err EACCES label-read"
    ∷ codes "0 read 0 0 -> 0 err EACCES label-read"
    ∷ codes "0 setproclabel mls/20(low-high) -> 0 ok 0"
    ∷ codes "0 read 0 512 -> 0 bytes -"
    ∷ codes "0 write 0 61 -> 0 err EBADF fd-mode"
    ∷ codes "0 write 1 61 -> 0 err EACCES label-write"
    ∷ codes "0 write 1 - -> 0 err EACCES label-write"
    ∷ []) ≡ []
unfolding scenes_compute
each_read_and_write_is_denied_by_its_first_rule = refl

-- That the number has no file.
-- The same where labels are looked at by the open alone.
labels_are_looked_at_again_only_with_recheck : wrong (codes "recheck off\n") (
    codes "0 setproclabel mls/10(low-high) -> 0 ok 0"
    ∷ codes "0 setcred 1001 100 - -> 0 ok 0"
    ∷ codes "0 open /tmp/ten r c -> 0 ok 0"
    ∷ codes "0 open /tmp/ten w -> 0 ok 1"
    ∷ codes "0 read 9 513 -> 0 err EINVAL size"
    ∷ codes "0 read 9 512 -> 0 err EBADF bad-fd"
    ∷ codes "0 read 255 0 -> 0 err EBADF bad-fd"
    ∷ codes "0 write 9 61 -> 0 err EBADF bad-fd"
    ∷ codes "0 close 9 -> 0 err EBADF bad-fd"
    ∷ codes "0 setproclabel mls/5(low-high) -> 0 ok 0"
    ∷ codes "0 read 0 0 -> 0 bytes -"
    ∷ codes "0 write 1 61 -> 0 ok 1"
    ∷ codes "0 setproclabel mls/20(low-high) -> 0 ok 0"
    ∷ codes "0 write 1 - -> 0 ok 0"
    ∷ codes "0 write 1 62 -> 0 ok 1"
    ∷ codes "0 read 0 512 -> 0 bytes 6162"
    ∷ []) ≡ []
unfolding scenes_compute
labels_are_looked_at_again_only_with_recheck = refl

-- A line of grade 10 is open to read as number 0 and to write as number 1. A dead file is known before labels are looked at,
-- and what a number was opened for before that.
a_dead_line_is_asked_before_its_label : wrong (codes "recheck on\n") (
    codes "0 setlabel /dev/tty7 mls/10 -> 0 ok 0"
    ∷ codes "0 setproclabel mls/10(low-high) -> 0 ok 0"
    ∷ codes "0 open /dev/tty7 r -> 0 ok 0"
    ∷ codes "0 open /dev/tty7 w -> 0 ok 1"
    ∷ codes "in tty7 41 -> tty7 noted"
    ∷ codes "0 setproclabel mls/5(low-high) -> 0 ok 0"
    ∷ codes "0 read 0 1 -> 0 err EACCES label-read"
    ∷ codes "0 setproclabel mls/20(low-high) -> 0 ok 0"
    ∷ codes "0 write 1 61 -> 0 err EACCES label-write"
    ∷ codes "0 setproclabel mls/10(low-high) -> 0 ok 0"
    ∷ codes "0 read 0 1 -> 0 bytes 41"
    ∷ codes "0 write 1 61 -> 0 ok 1"
    ∷ codes "0 revoke /dev/tty7 -> 0 ok 0"
    ∷ codes "0 setproclabel mls/5(low-high) -> 0 ok 0"
    ∷ codes "0 read 0 1 -> 0 bytes -"
    ∷ codes "0 read 1 1 -> 0 err EBADF fd-mode"
    ∷ codes "0 setproclabel mls/20(low-high) -> 0 ok 0"
    ∷ codes "0 write 1 61 -> 0 err EIO dead"
    ∷ codes "0 write 0 61 -> 0 err EBADF fd-mode"
    ∷ []) ≡ []
unfolding scenes_compute
a_dead_line_is_asked_before_its_label = refl

-- After 32 opens no number is free. The file keeps its bytes and the new one is not made; then the lowest number is given again.
-- The rules before fd-room.
no_number_is_free : wrong [] (
    codes "0 open /tmp/f rw c -> 0 ok 0"
    ∷ codes "0 open /tmp/f rw c -> 0 ok 1"
    ∷ codes "0 open /tmp/f rw c -> 0 ok 2"
    ∷ codes "0 open /tmp/f rw c -> 0 ok 3"
    ∷ codes "0 open /tmp/f rw c -> 0 ok 4"
    ∷ codes "0 open /tmp/f rw c -> 0 ok 5"
    ∷ codes "0 open /tmp/f rw c -> 0 ok 6"
    ∷ codes "0 open /tmp/f rw c -> 0 ok 7"
    ∷ codes "0 open /tmp/f rw c -> 0 ok 8"
    ∷ codes "0 open /tmp/f rw c -> 0 ok 9"
    ∷ codes "0 open /tmp/f rw c -> 0 ok 10"
    ∷ codes "0 open /tmp/f rw c -> 0 ok 11"
    ∷ codes "0 open /tmp/f rw c -> 0 ok 12"
    ∷ codes "0 open /tmp/f rw c -> 0 ok 13"
    ∷ codes "0 open /tmp/f rw c -> 0 ok 14"
    ∷ codes "0 open /tmp/f rw c -> 0 ok 15"
    ∷ codes "0 open /tmp/f rw c -> 0 ok 16"
    ∷ codes "0 open /tmp/f rw c -> 0 ok 17"
    ∷ codes "0 open /tmp/f rw c -> 0 ok 18"
    ∷ codes "0 open /tmp/f rw c -> 0 ok 19"
    ∷ codes "0 open /tmp/f rw c -> 0 ok 20"
    ∷ codes "0 open /tmp/f rw c -> 0 ok 21"
    ∷ codes "0 open /tmp/f rw c -> 0 ok 22"
    ∷ codes "0 open /tmp/f rw c -> 0 ok 23"
    ∷ codes "0 open /tmp/f rw c -> 0 ok 24"
    ∷ codes "0 open /tmp/f rw c -> 0 ok 25"
    ∷ codes "0 open /tmp/f rw c -> 0 ok 26"
    ∷ codes "0 open /tmp/f rw c -> 0 ok 27"
    ∷ codes "0 open /tmp/f rw c -> 0 ok 28"
    ∷ codes "0 open /tmp/f rw c -> 0 ok 29"
    ∷ codes "0 open /tmp/f rw c -> 0 ok 30"
    ∷ codes "0 open /tmp/f rw c -> 0 ok 31"
    ∷ codes "0 write 0 6b657074 -> 0 ok 4"
    ∷ codes "0 open /dev/tty r -> 0 err ENXIO no-tty"
    ∷ codes "0 open /tmp/f w t -> 0 err EMFILE fd-room"
    ∷ codes "0 open /tmp/x w c -> 0 err EMFILE fd-room"
    ∷ codes "0 open /dev/tty7 r -> 0 err EMFILE fd-room"
    ∷ codes "0 close 9 -> 0 ok 0"
    ∷ codes "0 close 5 -> 0 ok 0"
    ∷ codes "0 close 5 -> 0 err EBADF bad-fd"
    ∷ codes "0 open /tmp/x r -> 0 err ENOENT no-entry"
    ∷ codes "0 open /tmp/f r -> 0 ok 5"
    ∷ codes "0 read 5 512 -> 0 bytes 6b657074"
    ∷ []) ≡ []
unfolding scenes_compute
no_number_is_free = refl
