-- Pipes: their room, their ends, and the signal to a writer without a reader.
use Rattle.std.proofs.Common.{◌≡◌, ℕ, [], ◌∷◌, ◌++◌, codes, refl}
use Rattle.system_model.specs.Keeping.{end_name}
use Rattle.system_model.specs.Parts.{read_end, write_end}
use Rattle.system_rows.specs.Scenes.{wrong, times}
use Rattle.system_rows.proofs.Computing.{scenes_compute}

-- the two ends of a pipe have two names
two_names : (k : ℕ) → (end_name (read_end k) ≡ 0) × (end_name (write_end k) ≡ 1)
two_names k = (refl, refl)

-- a pipe takes two numbers; each end does its own
ends : wrong [] (
    codes "0 pipe -> 0 pair 0 1"
    ∷ codes "0 write 0 61 -> 0 err EBADF fd-mode"
    ∷ codes "0 read 1 9 -> 0 err EBADF fd-mode"
    ∷ codes "0 read 0 513 -> 0 err EINVAL size"
    ∷ codes "0 write 1 6162 -> 0 ok 2"
    ∷ codes "0 read 0 0 -> 0 bytes -"
    ∷ codes "0 read 0 1 -> 0 bytes 61"
    ∷ codes "0 read 0 9 -> 0 bytes 62"
    ∷ codes "0 write 1 - -> 0 ok 0"
    ∷ codes "0 fdname 0 -> 0 text pipe"
    ∷ codes "0 fdname 1 -> 0 text pipe"
    ∷ codes "0 setctty 0 -> 0 err ENOTTY not-line"
    ∷ codes "0 tcgetattr 1 -> 0 err ENOTTY not-line"
    ∷ codes "0 close 1 -> 0 ok 0"
    ∷ codes "0 read 0 9 -> 0 bytes -"
    ∷ codes "0 close 0 -> 0 ok 0"
    ∷ codes "0 read 0 9 -> 0 err EBADF bad-fd"
    ∷ []) ≡ []
unfolding scenes_compute
ends = refl

-- the end of file comes when the last writer is closed, also by dup and by fork
last_writer : wrong [] (
    codes "0 pipe -> 0 pair 0 1"
    ∷ codes "0 dup 1 -> 0 ok 2"
    ∷ codes "0 fork -> 0 ok 2"
    ∷ codes "0 close 1 -> 0 ok 0"
    ∷ codes "0 read 0 9 -> 0 sleep read"
    ∷ codes "1 close 1 -> 1 ok 0"
    ∷ codes "1 close 2 -> 1 ok 0"
    ∷ codes "0 again -> 0 sleep read"
    ∷ codes "1 write 1 61 -> 1 err EBADF bad-fd"
    ∷ codes "1 exit 3 -> 1 ok 0"
    ∷ codes "0 again -> 0 sleep read"
    ∷ []) ≡ []
unfolding scenes_compute
last_writer = refl

-- a reader that sleeps wakes when the last writer ends
writer_ends : wrong [] (
    codes "0 pipe -> 0 pair 0 1"
    ∷ codes "0 fork -> 0 ok 2"
    ∷ codes "0 close 1 -> 0 ok 0"
    ∷ codes "0 read 0 9 -> 0 sleep read"
    ∷ codes "1 exit 3 -> 1 ok 0 wake 0"
    ∷ codes "0 again -> 0 bytes -"
    ∷ codes "0 wait 0 - -> 0 child 2 exit 3"
    ∷ []) ≡ []
unfolding scenes_compute
writer_ends = refl

-- a reader takes what is there, and a byte wakes the first and the second alike
two_readers : wrong [] (
    codes "0 pipe -> 0 pair 0 1"
    ∷ codes "0 fork -> 0 ok 2"
    ∷ codes "0 fork -> 0 ok 3"
    ∷ codes "1 read 0 9 -> 1 sleep read"
    ∷ codes "2 read 0 9 -> 2 sleep read"
    ∷ codes "0 write 1 616263 -> 0 ok 3 wake 1 2"
    ∷ codes "2 again -> 2 bytes 616263"
    ∷ codes "1 again -> 1 sleep read"
    ∷ codes "0 write 1 64 -> 0 ok 1 wake 1"
    ∷ codes "0 read 0 9 -> 0 bytes 64"
    ∷ []) ≡ []
unfolding scenes_compute
two_readers = refl

-- a write is whole or waits: 4,095 bytes leave room for one
room : wrong [] (
    codes "0 pipe -> 0 pair 0 1"
    ∷ (codes "0 write 1 " ++ times 512 (codes "61") ++ codes " -> 0 ok 512")
    ∷ (codes "0 write 1 " ++ times 512 (codes "61") ++ codes " -> 0 ok 512")
    ∷ (codes "0 write 1 " ++ times 512 (codes "61") ++ codes " -> 0 ok 512")
    ∷ (codes "0 write 1 " ++ times 512 (codes "61") ++ codes " -> 0 ok 512")
    ∷ (codes "0 write 1 " ++ times 512 (codes "61") ++ codes " -> 0 ok 512")
    ∷ (codes "0 write 1 " ++ times 512 (codes "61") ++ codes " -> 0 ok 512")
    ∷ (codes "0 write 1 " ++ times 512 (codes "61") ++ codes " -> 0 ok 512")
    ∷ (codes "0 write 1 " ++ times 511 (codes "61") ++ codes " -> 0 ok 511")
    ∷ codes "0 fork -> 0 ok 2"
    ∷ codes "1 write 1 6262 -> 1 sleep write"
    ∷ codes "0 write 1 63 -> 0 ok 1"
    ∷ codes "0 read 0 1 -> 0 bytes 61"
    ∷ codes "1 again -> 1 sleep write"
    ∷ codes "0 read 0 1 -> 0 bytes 61 wake 1"
    ∷ codes "1 again -> 1 ok 2"
    ∷ codes "0 write 1 64 -> 0 sleep write"
    ∷ (codes "1 read 0 512 -> 1 bytes " ++ times 512 (codes "61") ++ codes " wake 0")
    ∷ codes "0 again -> 0 ok 1"
    ∷ []) ≡ []
unfolding scenes_compute
room = refl

-- a writer without a reader gets PIPE and is refused; where it ignores the signal it is refused alone, and a catcher has it pending
no_reader : wrong [] (
    codes "0 pipe -> 0 pair 0 1"
    ∷ codes "0 close 0 -> 0 ok 0"
    ∷ codes "0 fork -> 0 ok 2"
    ∷ codes "0 fork -> 0 ok 3"
    ∷ codes "0 fork -> 0 ok 4"
    ∷ codes "1 sigset PIPE ignore -> 1 ok 0"
    ∷ codes "2 sigset PIPE catch -> 2 ok 0"
    ∷ codes "1 write 1 61 -> 1 err EPIPE no-reader"
    ∷ codes "1 sigtake -> 1 ok 0"
    ∷ codes "2 write 1 61 -> 2 err EPIPE no-reader"
    ∷ codes "2 sigtake -> 2 ok 13"
    ∷ codes "3 write 1 - -> 3 ok 0"
    ∷ codes "3 write 1 61 -> 3 err EPIPE no-reader"
    ∷ codes "3 write 1 61 -> 3 gone"
    ∷ codes "0 wait 0 - -> 0 child 4 signal 13"
    ∷ codes "0 write 1 61 -> 0 err EPIPE no-reader"
    ∷ codes "0 ident -> 0 text 1:0:0:-:mls/equal(low-high)"
    ∷ []) ≡ []
unfolding scenes_compute
no_reader = refl

-- a writer that sleeps is in the wakeup list when the last reader is closed
reader_closes : wrong [] (
    codes "0 pipe -> 0 pair 0 1"
    ∷ codes "0 fork -> 0 ok 2"
    ∷ codes "0 close 1 -> 0 ok 0"
    ∷ codes "1 close 0 -> 1 ok 0"
    ∷ (codes "1 write 1 " ++ times 512 (codes "61") ++ codes " -> 1 ok 512")
    ∷ (codes "1 write 1 " ++ times 512 (codes "61") ++ codes " -> 1 ok 512")
    ∷ (codes "1 write 1 " ++ times 512 (codes "61") ++ codes " -> 1 ok 512")
    ∷ (codes "1 write 1 " ++ times 512 (codes "61") ++ codes " -> 1 ok 512")
    ∷ (codes "1 write 1 " ++ times 512 (codes "61") ++ codes " -> 1 ok 512")
    ∷ (codes "1 write 1 " ++ times 512 (codes "61") ++ codes " -> 1 ok 512")
    ∷ (codes "1 write 1 " ++ times 512 (codes "61") ++ codes " -> 1 ok 512")
    ∷ (codes "1 write 1 " ++ times 512 (codes "61") ++ codes " -> 1 ok 512")
    ∷ codes "1 write 1 61 -> 1 sleep write"
    ∷ codes "0 close 0 -> 0 ok 0 wake 1"
    ∷ codes "1 again -> 1 err EPIPE no-reader"
    ∷ codes "1 again -> 1 gone"
    ∷ codes "0 wait 2 - -> 0 child 2 signal 13"
    ∷ []) ≡ []
unfolding scenes_compute
reader_closes = refl

-- labels are looked at again at each read and write of a pipe, whose element is its maker's; what is written is not read before
labels : wrong [] (
    codes "0 setproclabel mls/10(low-high) -> 0 ok 0"
    ∷ codes "0 pipe -> 0 pair 0 1"
    ∷ codes "0 write 1 6162 -> 0 ok 2"
    ∷ codes "0 setproclabel mls/5(low-high) -> 0 ok 0"
    ∷ codes "0 read 0 0 -> 0 err EACCES label-read"
    ∷ codes "0 read 0 513 -> 0 err EINVAL size"
    ∷ codes "0 read 1 5 -> 0 err EBADF fd-mode"
    ∷ codes "0 write 1 61 -> 0 ok 1"
    ∷ codes "0 setproclabel mls/20(low-high) -> 0 ok 0"
    ∷ codes "0 write 1 61 -> 0 err EACCES label-write"
    ∷ codes "0 write 1 - -> 0 err EACCES label-write"
    ∷ codes "0 read 0 9 -> 0 bytes 616261"
    ∷ codes "0 setlabel /tmp mls/1 -> 0 ok 0"
    ∷ codes "0 setproclabel mls/10(low-high) -> 0 ok 0"
    ∷ codes "0 read 0 9 -> 0 sleep read"
    ∷ []) ≡ []
unfolding scenes_compute
labels = refl

-- the label comes before that there is no reader
label_before_no_reader : wrong [] (
    codes "0 setproclabel mls/10(low-high) -> 0 ok 0"
    ∷ codes "0 pipe -> 0 pair 0 1"
    ∷ codes "0 close 0 -> 0 ok 0"
    ∷ codes "0 setproclabel mls/20(low-high) -> 0 ok 0"
    ∷ codes "0 write 1 61 -> 0 err EACCES label-write"
    ∷ []) ≡ []
unfolding scenes_compute
label_before_no_reader = refl

-- too few numbers, then too few open files, then too few blocks
numbers_first : wrong [] (
    codes "0 open /tmp/f rw c -> 0 ok 0"
    ∷ codes "0 dup 0 -> 0 ok 1"
    ∷ codes "0 fdname 1 -> 0 text file"
    ∷ codes "0 fdname 1 -> 0 text file"
    ∷ codes "0 fdname 1 -> 0 text file"
    ∷ codes "0 fdname 1 -> 0 text file"
    ∷ codes "0 fdname 1 -> 0 text file"
    ∷ codes "0 fdname 1 -> 0 text file"
    ∷ codes "0 fdname 1 -> 0 text file"
    ∷ codes "0 fdname 1 -> 0 text file"
    ∷ codes "0 fdname 1 -> 0 text file"
    ∷ codes "0 fdname 1 -> 0 text file"
    ∷ codes "0 fdname 1 -> 0 text file"
    ∷ codes "0 fdname 1 -> 0 text file"
    ∷ codes "0 fdname 1 -> 0 text file"
    ∷ codes "0 fdname 1 -> 0 text file"
    ∷ codes "0 fdname 1 -> 0 text file"
    ∷ codes "0 fdname 1 -> 0 text file"
    ∷ codes "0 fdname 1 -> 0 text file"
    ∷ codes "0 fdname 1 -> 0 text file"
    ∷ codes "0 fdname 1 -> 0 text file"
    ∷ codes "0 fdname 1 -> 0 text file"
    ∷ codes "0 fdname 1 -> 0 text file"
    ∷ codes "0 fdname 1 -> 0 text file"
    ∷ codes "0 fdname 1 -> 0 text file"
    ∷ codes "0 fdname 1 -> 0 text file"
    ∷ codes "0 fdname 1 -> 0 text file"
    ∷ codes "0 fdname 1 -> 0 text file"
    ∷ codes "0 fdname 1 -> 0 text file"
    ∷ codes "0 fdname 1 -> 0 text file"
    ∷ codes "0 fdname 1 -> 0 text file"
    ∷ codes "0 dup2 0 2 -> 0 ok 2"
    ∷ codes "0 dup2 0 3 -> 0 ok 3"
    ∷ codes "0 dup2 0 4 -> 0 ok 4"
    ∷ codes "0 dup2 0 5 -> 0 ok 5"
    ∷ codes "0 dup2 0 6 -> 0 ok 6"
    ∷ codes "0 dup2 0 7 -> 0 ok 7"
    ∷ codes "0 dup2 0 8 -> 0 ok 8"
    ∷ codes "0 dup2 0 9 -> 0 ok 9"
    ∷ codes "0 dup2 0 10 -> 0 ok 10"
    ∷ codes "0 dup2 0 11 -> 0 ok 11"
    ∷ codes "0 dup2 0 12 -> 0 ok 12"
    ∷ codes "0 dup2 0 13 -> 0 ok 13"
    ∷ codes "0 dup2 0 14 -> 0 ok 14"
    ∷ codes "0 dup2 0 15 -> 0 ok 15"
    ∷ codes "0 dup2 0 16 -> 0 ok 16"
    ∷ codes "0 dup2 0 17 -> 0 ok 17"
    ∷ codes "0 dup2 0 18 -> 0 ok 18"
    ∷ codes "0 dup2 0 19 -> 0 ok 19"
    ∷ codes "0 dup2 0 20 -> 0 ok 20"
    ∷ codes "0 dup2 0 21 -> 0 ok 21"
    ∷ codes "0 dup2 0 22 -> 0 ok 22"
    ∷ codes "0 dup2 0 23 -> 0 ok 23"
    ∷ codes "0 dup2 0 24 -> 0 ok 24"
    ∷ codes "0 dup2 0 25 -> 0 ok 25"
    ∷ codes "0 dup2 0 26 -> 0 ok 26"
    ∷ codes "0 dup2 0 27 -> 0 ok 27"
    ∷ codes "0 dup2 0 28 -> 0 ok 28"
    ∷ codes "0 dup2 0 29 -> 0 ok 29"
    ∷ codes "0 pipe -> 0 pair 30 31"
    ∷ codes "0 pipe -> 0 err EMFILE fd-room"
    ∷ codes "0 open /tmp/g rw c -> 0 err EMFILE fd-room"
    ∷ codes "0 info /tmp/g -> 0 err ENOENT no-entry"
    ∷ codes "0 dup 0 -> 0 err EMFILE fd-room"
    ∷ codes "0 dup 32 -> 0 err EBADF bad-fd"
    ∷ codes "0 dup2 0 32 -> 0 err EBADF bad-fd"
    ∷ codes "0 dup2 0 31 -> 0 ok 31"
    ∷ codes "0 close 31 -> 0 ok 0"
    ∷ codes "0 pipe -> 0 err EMFILE fd-room"
    ∷ codes "0 open /tmp/g rw c -> 0 ok 31"
    ∷ []) ≡ []
unfolding scenes_compute
numbers_first = refl

-- eight lines and six pipes take all blocks but none is left for a pipe
blocks : wrong [] (
    codes "0 open /dev/tty0 rw n -> 0 ok 0"
    ∷ codes "0 open /dev/tty1 rw n -> 0 ok 1"
    ∷ codes "0 open /dev/tty2 rw n -> 0 ok 2"
    ∷ codes "0 open /dev/tty3 rw n -> 0 ok 3"
    ∷ codes "0 open /dev/tty4 rw n -> 0 ok 4"
    ∷ codes "0 open /dev/tty5 rw n -> 0 ok 5"
    ∷ codes "0 open /dev/tty6 rw n -> 0 ok 6"
    ∷ codes "0 open /dev/tty7 rw n -> 0 ok 7"
    ∷ codes "0 pipe -> 0 pair 8 9"
    ∷ codes "0 pipe -> 0 pair 10 11"
    ∷ codes "0 pipe -> 0 pair 12 13"
    ∷ codes "0 pipe -> 0 pair 14 15"
    ∷ codes "0 pipe -> 0 pair 16 17"
    ∷ codes "0 pipe -> 0 pair 18 19"
    ∷ codes "0 pipe -> 0 err ENOBUFS pool"
    ∷ codes "0 close 18 -> 0 ok 0"
    ∷ codes "0 pipe -> 0 err ENOBUFS pool"
    ∷ codes "0 close 19 -> 0 ok 0"
    ∷ codes "0 pipe -> 0 pair 18 19"
    ∷ codes "0 close 7 -> 0 ok 0"
    ∷ codes "0 pipe -> 0 pair 7 20"
    ∷ codes "0 open /dev/tty7 rw -> 0 err ENOBUFS pool"
    ∷ codes "0 open /dev/tty6 rw n -> 0 ok 21"
    ∷ []) ≡ []
unfolding scenes_compute
blocks = refl

-- a pipe that is gone leaves its number to another, with nothing in it and an element of its own
another_pipe : wrong [] (
    codes "0 pipe -> 0 pair 0 1"
    ∷ codes "0 pipe -> 0 pair 2 3"
    ∷ codes "0 write 1 61 -> 0 ok 1"
    ∷ codes "0 write 3 62 -> 0 ok 1"
    ∷ codes "0 close 0 -> 0 ok 0"
    ∷ codes "0 close 1 -> 0 ok 0"
    ∷ codes "0 setproclabel mls/10(low-high) -> 0 ok 0"
    ∷ codes "0 pipe -> 0 pair 0 1"
    ∷ codes "0 read 0 9 -> 0 sleep read"
    ∷ []) ≡ []
unfolding scenes_compute
another_pipe = refl

-- dup2 closes an open number first, and what it was of goes with its last reference
dup2_closes : wrong [] (
    codes "0 pipe -> 0 pair 0 1"
    ∷ codes "0 open /tmp/f rw c -> 0 ok 2"
    ∷ codes "0 dup2 2 1 -> 0 ok 1"
    ∷ codes "0 read 0 9 -> 0 bytes -"
    ∷ codes "0 open /dev/tty7 rw n -> 0 ok 3"
    ∷ codes "in tty7 61 -> tty7 noted"
    ∷ codes "0 write 3 6f6c64 -> 0 ok 3"
    ∷ codes "0 dup2 2 3 -> 0 ok 3"
    ∷ codes "take tty7 9 -> tty7 out -"
    ∷ codes "0 open /dev/tty7 rw n -> 0 ok 4"
    ∷ codes "0 read 4 9 -> 0 err EAGAIN not-ready"
    ∷ codes "take tty7 9 -> tty7 out -"
    ∷ codes "0 write 1 62 -> 0 ok 1"
    ∷ codes "0 write 3 63 -> 0 ok 1"
    ∷ codes "0 info /tmp/f -> 0 text file:0:0:644:2"
    ∷ []) ≡ []
unfolding scenes_compute
dup2_closes = refl
