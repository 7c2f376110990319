-- The raw line: what it passes on, what it holds, and what a revoke leaves.
use Rattle.std.proofs.Common.{◌≡◌, [], ◌∷◌, ◌++◌, codes, refl}
use Rattle.system_rows.specs.Scenes.{wrong, times}
use Rattle.system_rows.proofs.Computing.{scenes_compute}

-- A null byte, the interrupt, newline and return, START and STOP, erase, and a byte with its high bit, in and out (termios(4)).
bytes_pass_a_raw_line_as_they_are : wrong [] (
    codes "0 open /dev/tty7 rw n -> 0 ok 0"
    ∷ codes "in tty7 00030a0d11137fff -> tty7 noted;tty7 noted;tty7 noted;tty7 noted;tty7 noted;tty7 noted;tty7 noted;tty7 noted"
    ∷ codes "0 read 0 512 -> 0 bytes 00030a0d11137fff"
    ∷ codes "take tty7 512 -> tty7 out -"
    ∷ codes "0 write 0 00030a0d11137fff -> 0 ok 8"
    ∷ codes "take tty7 512 -> tty7 out 00030a0d11137fff"
    ∷ []) ≡ []
unfolding scenes_compute
bytes_pass_a_raw_line_as_they_are = refl

-- What is not read yet stays, in order, and so does what is not taken yet.
reads_and_takings_in_parts : wrong [] (
    codes "0 open /dev/tty7 rw n -> 0 ok 0"
    ∷ codes "in tty7 6162636465 -> tty7 noted;tty7 noted;tty7 noted;tty7 noted;tty7 noted"
    ∷ codes "0 read 0 2 -> 0 bytes 6162"
    ∷ codes "0 read 0 1 -> 0 bytes 63"
    ∷ codes "in tty7 66 -> tty7 noted"
    ∷ codes "0 read 0 512 -> 0 bytes 646566"
    ∷ codes "0 write 0 6162636465 -> 0 ok 5"
    ∷ codes "take tty7 2 -> tty7 out 6162"
    ∷ codes "0 write 0 66 -> 0 ok 1"
    ∷ codes "take tty7 3 -> tty7 out 636465"
    ∷ codes "take tty7 3 -> tty7 out 66"
    ∷ codes "take tty7 3 -> tty7 out -"
    ∷ []) ≡ []
unfolding scenes_compute
reads_and_takings_in_parts = refl

-- 1,024 bytes are kept, and those that come then are not, until some are read.
a_full_input_drops_what_comes : wrong [] (
    codes "0 open /dev/tty7 rw n -> 0 ok 0"
    ∷ (codes "in tty7 " ++ times 512 (codes "61") ++ codes " -> " ++ times 511 (codes "tty7 noted;") ++ codes "tty7 noted")
    ∷ (codes "in tty7 " ++ times 512 (codes "62") ++ codes " -> " ++ times 511 (codes "tty7 noted;") ++ codes "tty7 noted")
    ∷ codes "in tty7 63 -> tty7 noted"
    ∷ (codes "0 read 0 512 -> 0 bytes " ++ times 512 (codes "61"))
    ∷ codes "in tty7 64 -> tty7 noted"
    ∷ (codes "0 read 0 512 -> 0 bytes " ++ times 512 (codes "62"))
    ∷ codes "0 read 0 512 -> 0 bytes 64"
    ∷ codes "0 read 0 512 -> 0 err EAGAIN not-ready"
    ∷ []) ≡ []
unfolding scenes_compute
a_full_input_drops_what_comes = refl

-- The output holds 4,096 bytes. A write puts as many as fit, and none where none fits; the label, and that there are no bytes, come
-- before that.
a_write_that_fits_in_part : wrong (codes "recheck on\n") (
    codes "0 setproclabel mls/10(low-high) -> 0 ok 0"
    ∷ codes "0 open /dev/tty7 rw n -> 0 ok 0"
    ∷ (codes "0 write 0 " ++ times 512 (codes "61") ++ codes " -> 0 ok 512")
    ∷ (codes "0 write 0 " ++ times 512 (codes "61") ++ codes " -> 0 ok 512")
    ∷ (codes "0 write 0 " ++ times 512 (codes "61") ++ codes " -> 0 ok 512")
    ∷ (codes "0 write 0 " ++ times 512 (codes "61") ++ codes " -> 0 ok 512")
    ∷ (codes "0 write 0 " ++ times 512 (codes "61") ++ codes " -> 0 ok 512")
    ∷ (codes "0 write 0 " ++ times 512 (codes "61") ++ codes " -> 0 ok 512")
    ∷ (codes "0 write 0 " ++ times 512 (codes "61") ++ codes " -> 0 ok 512")
    ∷ (codes "0 write 0 " ++ times 510 (codes "62") ++ codes " -> 0 ok 510")
    ∷ codes "0 write 0 63646566 -> 0 ok 2"
    ∷ codes "0 write 0 67 -> 0 err EAGAIN not-ready"
    ∷ codes "0 write 0 - -> 0 ok 0"
    ∷ codes "0 setlabel /dev/tty7 mls/5 -> 0 ok 0"
    ∷ codes "0 write 0 67 -> 0 err EACCES label-write"
    ∷ codes "0 write 0 - -> 0 err EACCES label-write"
    ∷ codes "0 setlabel /dev/tty7 mls/10 -> 0 ok 0"
    ∷ (codes "take tty7 512 -> tty7 out " ++ times 512 (codes "61"))
    ∷ (codes "take tty7 512 -> tty7 out " ++ times 512 (codes "61"))
    ∷ (codes "take tty7 512 -> tty7 out " ++ times 512 (codes "61"))
    ∷ (codes "take tty7 512 -> tty7 out " ++ times 512 (codes "61"))
    ∷ (codes "take tty7 512 -> tty7 out " ++ times 512 (codes "61"))
    ∷ (codes "take tty7 512 -> tty7 out " ++ times 512 (codes "61"))
    ∷ (codes "take tty7 512 -> tty7 out " ++ times 512 (codes "61"))
    ∷ (codes "take tty7 512 -> tty7 out " ++ times 510 (codes "62") ++ codes "6364")
    ∷ codes "0 write 0 67 -> 0 ok 1"
    ∷ codes "take tty7 512 -> tty7 out 67"
    ∷ []) ≡ []
unfolding scenes_compute
a_write_that_fits_in_part = refl

-- MAX 0 comes before that nothing has come in, and after the label and a dead file.
a_read_of_no_bytes_asks_for_none : wrong [] (
    codes "0 open /dev/tty7 rw n -> 0 ok 0"
    ∷ codes "0 read 0 0 -> 0 bytes -"
    ∷ codes "0 read 0 1 -> 0 err EAGAIN not-ready"
    ∷ codes "in tty7 61 -> tty7 noted"
    ∷ codes "0 read 0 0 -> 0 bytes -"
    ∷ codes "0 read 0 1 -> 0 bytes 61"
    ∷ codes "0 read 0 513 -> 0 err EINVAL size"
    ∷ []) ≡ []
unfolding scenes_compute
a_read_of_no_bytes_asks_for_none = refl

-- The files of the line are dead, what had come in is read by nobody, and what was to go out is gone. A regular file, the working
-- directory and the label stay as they were.
-- A second revoke takes the new file too.
what_a_revoke_leaves : wrong [] (
    codes "0 open /tmp/f rw c -> 0 ok 0"
    ∷ codes "0 open /dev/tty7 rw n -> 0 ok 1"
    ∷ codes "0 open /dev/tty7 r n -> 0 ok 2"
    ∷ codes "0 write 0 6162 -> 0 ok 2"
    ∷ codes "0 write 1 6f6c64 -> 0 ok 3"
    ∷ codes "in tty7 6f6c64 -> tty7 noted;tty7 noted;tty7 noted"
    ∷ codes "0 revoke /dev/tty7 -> 0 ok 0"
    ∷ codes "take tty7 512 -> tty7 out -"
    ∷ codes "0 write 0 6364 -> 0 ok 2"
    ∷ codes "0 read 1 512 -> 0 bytes -"
    ∷ codes "0 read 2 512 -> 0 bytes -"
    ∷ codes "0 write 1 78 -> 0 err EIO dead"
    ∷ codes "0 write 2 78 -> 0 err EBADF fd-mode"
    ∷ codes "in tty7 78 -> tty7 noted"
    ∷ codes "0 open /dev/tty7 rw n -> 0 ok 3"
    ∷ codes "0 read 3 512 -> 0 err EAGAIN not-ready"
    ∷ codes "take tty7 512 -> tty7 out -"
    ∷ codes "0 write 3 6e6577 -> 0 ok 3"
    ∷ codes "in tty7 6e -> tty7 noted"
    ∷ codes "0 read 1 512 -> 0 bytes -"
    ∷ codes "0 read 3 512 -> 0 bytes 6e"
    ∷ codes "take tty7 512 -> tty7 out 6e6577"
    ∷ codes "0 open /tmp/f r -> 0 ok 4"
    ∷ codes "0 read 4 512 -> 0 bytes 61626364"
    ∷ codes "0 close 1 -> 0 ok 0"
    ∷ codes "0 close 2 -> 0 ok 0"
    ∷ codes "0 write 3 61 -> 0 ok 1"
    ∷ codes "take tty7 512 -> tty7 out 61"
    ∷ codes "0 write 3 62 -> 0 ok 1"
    ∷ codes "0 revoke /dev/tty7 -> 0 ok 0"
    ∷ codes "0 read 3 512 -> 0 bytes -"
    ∷ codes "take tty7 512 -> tty7 out -"
    ∷ []) ≡ []
unfolding scenes_compute
what_a_revoke_leaves = refl

-- The queues are emptied where the last file of the line that is not dead is closed, and not before.
the_last_close_empties_the_line : wrong [] (
    codes "0 open /dev/tty7 rw n -> 0 ok 0"
    ∷ codes "0 open /dev/tty7 rw n -> 0 ok 1"
    ∷ codes "in tty7 61 -> tty7 noted"
    ∷ codes "0 write 0 62 -> 0 ok 1"
    ∷ codes "0 close 0 -> 0 ok 0"
    ∷ codes "0 read 1 512 -> 0 bytes 61"
    ∷ codes "in tty7 63 -> tty7 noted"
    ∷ codes "take tty7 512 -> tty7 out 62"
    ∷ codes "0 write 1 64 -> 0 ok 1"
    ∷ codes "0 close 1 -> 0 ok 0"
    ∷ codes "take tty7 512 -> tty7 out -"
    ∷ codes "in tty7 65 -> tty7 noted"
    ∷ codes "0 open /dev/tty7 rw n -> 0 ok 0"
    ∷ codes "0 read 0 512 -> 0 err EAGAIN not-ready"
    ∷ codes "take tty7 512 -> tty7 out -"
    ∷ []) ≡ []
unfolding scenes_compute
the_last_close_empties_the_line = refl
