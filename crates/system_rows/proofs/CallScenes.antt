-- Short sessions of one process.
use Rattle.std.proofs.Common.{◌≡◌, [], ◌∷◌, codes, refl}
use Rattle.system_rows.specs.Scenes.{wrong}
use Rattle.system_rows.proofs.Computing.{scenes_compute}

-- Flags that do not go together, a file that is there and is wanted absent, and an open with all
-- of its words.
words_of_an_open : wrong [] (
    codes "0 open /dev/tty7 r t -> 0 err EINVAL flags"
    ∷ codes "0 open /dev/tty7 rw x -> 0 err EINVAL flags"
    ∷ codes "0 open /dev/tty7 rw cx -> 0 err EEXIST exists"
    ∷ codes "0 open /dev/tty7 rw n 600 -> 0 ok 0"
    ∷ []) ≡ []
unfolding scenes_compute
words_of_an_open = refl

-- Directories and files, their modes and who may change them.
tree_calls : wrong [] (
    codes "0 mkdir /tmp/d 700 -> 0 ok 0"
    ∷ codes "0 open /tmp/d/f rw c 640 -> 0 ok 0"
    ∷ codes "0 write 0 6162 -> 0 ok 2"
    ∷ codes "0 info /tmp/d/f -> 0 text file:0:0:640:2"
    ∷ codes "0 rmdir /tmp/d -> 0 err ENOTEMPTY not-empty"
    ∷ codes "0 unlink /tmp/d/f -> 0 err EBUSY in-use"
    ∷ codes "0 close 0 -> 0 ok 0"
    ∷ codes "0 unlink /tmp/d/f -> 0 ok 0"
    ∷ codes "0 setcred 1001 100 - -> 0 ok 0"
    ∷ codes "0 chmod /tmp/d 777 -> 0 err EPERM owner"
    ∷ codes "0 list /tmp/d 0 -> 0 err EACCES list"
    ∷ codes "0 list /bin/../tmp 0 -> 0 text d"
    ∷ []) ≡ []
unfolding scenes_compute
tree_calls = refl

-- Labels at opens, by one process.
labels_at_opens : wrong [] (
    codes "0 open /tmp/low rw c 666 -> 0 ok 0"
    ∷ codes "0 setlabel /tmp/low mls/5:2 -> 0 ok 0"
    ∷ codes "0 setproclabel mls/10:2(5:2-20:2+3) -> 0 ok 0"
    ∷ codes "0 open /tmp/low w -> 0 err EACCES label-write"
    ∷ codes "0 open /tmp/low r -> 0 ok 1"
    ∷ codes "0 setproclabel mls/5:2(5:2-20:2+3) -> 0 ok 0"
    ∷ codes "0 open /tmp/low w -> 0 ok 2"
    ∷ codes "0 setproclabel mls/equal -> 0 err EPERM proclabel"
    ∷ []) ≡ []
unfolding scenes_compute
labels_at_opens = refl

-- Lines and the devices: the tree has them.
devices : wrong [] (
    codes "0 open /dev/tty rw -> 0 err ENXIO no-tty"
    ∷ codes "0 open /dev/../dev/./tty7 rw -> 0 ok 0"
    ∷ codes "0 unlink /dev/tty7 -> 0 err EBUSY device"
    ∷ codes "0 info /dev/tty7 -> 0 text line:0:0:600:0"
    ∷ codes "0 open /dev r -> 0 err EISDIR is-dir"
    ∷ []) ≡ []
unfolding scenes_compute
devices = refl

-- Offsets, appends, gaps of zeros and truncation (open(2), read(2), write(2)).
offsets : wrong [] (
    codes "0 open /tmp/f rw c -> 0 ok 0"
    ∷ codes "0 open /tmp/f rw a -> 0 ok 1"
    ∷ codes "0 write 0 6162 -> 0 ok 2"
    ∷ codes "0 write 1 63 -> 0 ok 1"
    ∷ codes "0 read 1 9 -> 0 bytes -"
    ∷ codes "0 read 0 9 -> 0 bytes 63"
    ∷ codes "0 open /tmp/f w t -> 0 ok 2"
    ∷ codes "0 write 0 64 -> 0 ok 1"
    ∷ codes "0 open /tmp/f r -> 0 ok 3"
    ∷ codes "0 read 3 9 -> 0 bytes 00000064"
    ∷ codes "0 write 3 65 -> 0 err EBADF fd-mode"
    ∷ []) ≡ []
unfolding scenes_compute
offsets = refl

-- Lists, labels and callers as texts; the umask, and where a directory has a default list.
texts : wrong [] (
    codes "0 ident -> 0 text 1:0:0:-:mls/equal(low-high)"
    ∷ codes "0 umask 77 -> 0 ok 18"
    ∷ codes "0 umask 22 -> 0 ok 63"
    ∷ codes "0 mkdir /tmp/d 777 -> 0 ok 0"
    ∷ codes "0 setacl /tmp/d default user::rwx,group::r-x,other::--- -> 0 ok 0"
    ∷ codes "0 umask 777 -> 0 ok 18"
    ∷ codes "0 open /tmp/d/f w c 666 -> 0 ok 0"
    ∷ codes "0 getacl /tmp/d/f access -> 0 text user::rw-,group::r--,other::---"
    ∷ codes "0 getacl /tmp/d default -> 0 text user::rwx,group::r-x,other::---"
    ∷ codes "0 setacl /tmp/d default - -> 0 ok 0"
    ∷ codes "0 getacl /tmp/d default -> 0 text -"
    ∷ codes "0 getlabel /etc -> 0 text mls/low"
    ∷ codes "0 getacl /tmp/d/f default -> 0 err ENOTDIR not-dir"
    ∷ codes "0 setacl /tmp/d access - -> 0 err EINVAL acl-bad"
    ∷ []) ≡ []
unfolding scenes_compute
texts = refl

-- The first rule of two is named, also below a directory that may not be searched, and only the owner revokes.
first_rules : wrong [] (
    codes "0 mkdir /tmp/d 700 -> 0 ok 0"
    ∷ codes "0 open /dev/tty7 rw -> 0 ok 0"
    ∷ codes "0 setcred 1001 100 20+30 -> 0 ok 0"
    ∷ codes "0 revoke /dev/tty7 -> 0 err EPERM owner"
    ∷ codes "0 info /tmp/d/x -> 0 err EACCES search"
    ∷ codes "0 info /tmp/x -> 0 err ENOENT no-entry"
    ∷ codes "0 unlink /tmp/d/x/y -> 0 err EACCES search"
    ∷ codes "0 setcred 0 0 - -> 0 err EPERM super"
    ∷ codes "0 ident -> 0 text 1:1001:100:20+30:mls/equal(low-high)"
    ∷ codes "0 chdir /tmp/d -> 0 err EACCES search"
    ∷ codes "0 open /tmp/f r x -> 0 err EINVAL flags"
    ∷ []) ≡ []
unfolding scenes_compute
first_rules = refl

-- A label that was raised since the open stops a read only where labels are looked at again.
a_raised_label_with_recheck : wrong (codes "recheck on\n") (
    codes "0 open /tmp/f rw c 644 -> 0 ok 0"
    ∷ codes "0 write 0 6162 -> 0 ok 2"
    ∷ codes "0 setlabel /tmp/f mls/5 -> 0 ok 0"
    ∷ codes "0 open /tmp/f r -> 0 ok 1"
    ∷ codes "0 setlabel /tmp/f mls/15 -> 0 ok 0"
    ∷ codes "0 setproclabel mls/10(5-20) -> 0 ok 0"
    ∷ codes "0 read 1 9 -> 0 err EACCES label-read"
    ∷ codes "0 write 0 63 -> 0 ok 1"
    ∷ []) ≡ []
unfolding scenes_compute
a_raised_label_with_recheck = refl

a_raised_label_without_recheck : wrong [] (
    codes "0 open /tmp/f rw c 644 -> 0 ok 0"
    ∷ codes "0 write 0 6162 -> 0 ok 2"
    ∷ codes "0 setlabel /tmp/f mls/5 -> 0 ok 0"
    ∷ codes "0 open /tmp/f r -> 0 ok 1"
    ∷ codes "0 setlabel /tmp/f mls/15 -> 0 ok 0"
    ∷ codes "0 setproclabel mls/10(5-20) -> 0 ok 0"
    ∷ codes "0 read 1 9 -> 0 bytes 6162"
    ∷ codes "0 write 0 63 -> 0 ok 1"
    ∷ []) ≡ []
unfolding scenes_compute
a_raised_label_without_recheck = refl
