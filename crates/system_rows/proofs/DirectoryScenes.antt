-- The calls on directories, each denied by its first rule.
use Rattle.std.proofs.Common.{◌≡◌, [], ◌∷◌, codes, refl}
use Rattle.system_rows.specs.Scenes.{wrong}
use Rattle.system_rows.proofs.Computing.{scenes_compute}

-- Nodes of the superuser with the mode 755, some of a grade. `/tmp/f` and `/tmp/low` stay open. Then a user of grade 10 asks.
-- Of the lines with a remark a later rule would hold too.
-- The label of a file above would deny it too.
-- The list of the closed directory too.
-- The same for a listing.
-- The label of `/` would deny this too, and the list of `/bin` the next.
-- The label of `/`, the list of `/dev` and the list of `/bin` would deny these too.
-- The label of the node too, and that it is open.
-- That it is absent too.
-- The label of the directory above too, and its list.
-- The label of the node too, and that it has nodes.
-- It is the working directory too.
-- A new directory is its maker's until it goes.
each_call_on_directories_is_denied_by_its_first_rule : wrong [] (
    codes "0 mkdir /tmp/closed 700 -> 0 ok 0"
    ∷ codes "0 mkdir /tmp/secret 700 -> 0 ok 0"
    ∷ codes "0 mkdir /tmp/shut 777 -> 0 ok 0"
    ∷ codes "0 mkdir /tmp/shut/d 777 -> 0 ok 0"
    ∷ codes "0 mkdir /tmp/d 777 -> 0 ok 0"
    ∷ codes "0 mkdir /tmp/full 777 -> 0 ok 0"
    ∷ codes "0 mkdir /tmp/empty 777 -> 0 ok 0"
    ∷ codes "0 open /tmp/f r c 777 -> 0 ok 0"
    ∷ codes "0 open /tmp/low r c 777 -> 0 ok 1"
    ∷ codes "0 open /tmp/g r c 777 -> 0 ok 2"
    ∷ codes "0 open /tmp/high r c 777 -> 0 ok 3"
    ∷ codes "0 open /tmp/shut/low r c 777 -> 0 ok 4"
    ∷ codes "0 open /tmp/d/f r c 777 -> 0 ok 5"
    ∷ codes "0 open /tmp/full/f r c 777 -> 0 ok 6"
    ∷ codes "0 close 2 -> 0 ok 0"
    ∷ codes "0 close 3 -> 0 ok 0"
    ∷ codes "0 setlabel /tmp/secret mls/20 -> 0 ok 0"
    ∷ codes "0 setlabel /tmp/high mls/20 -> 0 ok 0"
    ∷ codes "0 setlabel /tmp/low mls/5 -> 0 ok 0"
    ∷ codes "0 setlabel /tmp/shut/low mls/5 -> 0 ok 0"
    ∷ codes "0 setlabel /tmp/shut/d mls/5 -> 0 ok 0"
    ∷ codes "0 setlabel /tmp/d/f mls/5 -> 0 ok 0"
    ∷ codes "0 setlabel /tmp/d mls/5 -> 0 ok 0"
    ∷ codes "0 setproclabel mls/10(low-high) -> 0 ok 0"
    ∷ codes "0 setcred 1001 100 - -> 0 ok 0"
    ∷ codes "0 chdir /tmp/x -> 0 err ENOENT no-entry"
    ∷ codes "0 chdir /tmp/high -> 0 err ENOTDIR not-dir"
    ∷ codes "0 chdir /tmp/secret -> 0 err EACCES label-read"
    ∷ codes "0 chdir /tmp/closed -> 0 err EACCES search"
    ∷ codes "0 chdir /tmp -> 0 ok 0"
    ∷ codes "0 list /tmp/x 0 -> 0 err ENOENT no-entry"
    ∷ codes "0 list /tmp/high 0 -> 0 err ENOTDIR not-dir"
    ∷ codes "0 list /tmp/secret 0 -> 0 err EACCES label-read"
    ∷ codes "0 list /tmp/closed 0 -> 0 err EACCES list"
    ∷ codes "0 info /tmp/x -> 0 err ENOENT no-entry"
    ∷ codes "0 info /tmp/high -> 0 err EACCES label-read"
    ∷ codes "0 info /tmp/closed -> 0 text dir:0:0:700:0"
    ∷ codes "0 mkdir /tmp/closed/x 770 -> 0 err EACCES search"
    ∷ codes "0 mkdir /bin 770 -> 0 err EEXIST exists"
    ∷ codes "0 mkdir /bin/x 770 -> 0 err EACCES label-write"
    ∷ codes "0 mkdir /dev/x 770 -> 0 err EACCES list"
    ∷ codes "0 unlink /bin -> 0 err EISDIR is-dir"
    ∷ codes "0 unlink /dev/tty0 -> 0 err EBUSY device"
    ∷ codes "0 unlink /dev/tty -> 0 err EBUSY device"
    ∷ codes "0 unlink /bin/cat -> 0 err EACCES label-write"
    ∷ codes "0 unlink /tmp/shut/low -> 0 err EACCES list"
    ∷ codes "0 unlink /tmp/low -> 0 err EACCES label-write"
    ∷ codes "0 unlink /tmp/f -> 0 err EBUSY in-use"
    ∷ codes "0 unlink /tmp/g -> 0 ok 0"
    ∷ codes "0 unlink /tmp/g -> 0 err ENOENT no-entry"
    ∷ codes "0 rmdir /tmp/closed/x -> 0 err EACCES search"
    ∷ codes "0 rmdir /tmp/x -> 0 err ENOENT no-entry"
    ∷ codes "0 rmdir /bin/cat -> 0 err ENOTDIR not-dir"
    ∷ codes "0 rmdir / -> 0 err EBUSY in-use"
    ∷ codes "0 rmdir /bin -> 0 err EACCES label-write"
    ∷ codes "0 rmdir /tmp/shut/d -> 0 err EACCES list"
    ∷ codes "0 rmdir /tmp/d -> 0 err EACCES label-write"
    ∷ codes "0 chdir /tmp/full -> 0 ok 0"
    ∷ codes "0 rmdir . -> 0 err ENOTEMPTY not-empty"
    ∷ codes "0 chdir /tmp/empty -> 0 ok 0"
    ∷ codes "0 rmdir . -> 0 err EBUSY in-use"
    ∷ codes "0 chdir .. -> 0 ok 0"
    ∷ codes "0 rmdir empty -> 0 ok 0"
    ∷ codes "0 info empty -> 0 err ENOENT no-entry"
    ∷ codes "0 mkdir /tmp/x 777 -> 0 ok 0"
    ∷ codes "0 info /tmp/x -> 0 text dir:1001:0:755:0"
    ∷ codes "0 getlabel /tmp/x -> 0 text mls/10"
    ∷ codes "0 list /tmp/x 0 -> 0 text -"
    ∷ codes "0 list /tmp/x 65535 -> 0 text -"
    ∷ codes "0 rmdir /tmp/x -> 0 ok 0"
    ∷ codes "0 info /tmp/x -> 0 err ENOENT no-entry"
    ∷ []) ≡ []
unfolding scenes_compute
each_call_on_directories_is_denied_by_its_first_rule = refl

-- Two directories and a file of the superuser, and a user who is another. A directory with x alone is searched, one with r alone is
-- listed, and a file with x alone is not read.
a_mode_with_x_and_without_r_is_passed_and_not_listed : wrong [] (
    codes "0 mkdir /tmp/x 311 -> 0 ok 0"
    ∷ codes "0 mkdir /tmp/r 744 -> 0 ok 0"
    ∷ codes "0 open /tmp/x/f r c 666 -> 0 ok 0"
    ∷ codes "0 open /tmp/r/f r c 666 -> 0 ok 1"
    ∷ codes "0 open /tmp/p r c 711 -> 0 ok 2"
    ∷ codes "0 info /tmp/x -> 0 text dir:0:0:311:0"
    ∷ codes "0 setcred 1001 100 - -> 0 ok 0"
    ∷ codes "0 list /tmp/x 0 -> 0 err EACCES list"
    ∷ codes "0 info /tmp/x/f -> 0 text file:0:0:644:0"
    ∷ codes "0 open /tmp/x/f r -> 0 ok 3"
    ∷ codes "0 chdir /tmp/x -> 0 ok 0"
    ∷ codes "0 list . 0 -> 0 err EACCES list"
    ∷ codes "0 list /tmp/r 0 -> 0 text f"
    ∷ codes "0 info /tmp/r/f -> 0 err EACCES search"
    ∷ codes "0 chdir /tmp/r -> 0 err EACCES search"
    ∷ codes "0 open /tmp/p r -> 0 err EACCES list"
    ∷ []) ≡ []
unfolding scenes_compute
a_mode_with_x_and_without_r_is_passed_and_not_listed = refl

-- Names come in the order of their bytes, from a number on.
names_are_listed_in_their_order : wrong [] (
    codes "0 mkdir /tmp/b 700 -> 0 ok 0"
    ∷ codes "0 mkdir /tmp/ab 700 -> 0 ok 0"
    ∷ codes "0 mkdir /tmp/a 700 -> 0 ok 0"
    ∷ codes "0 list /tmp 0 -> 0 text a/ab/b"
    ∷ codes "0 list /tmp 1 -> 0 text ab/b"
    ∷ codes "0 list /tmp 2 -> 0 text b"
    ∷ codes "0 list /tmp 3 -> 0 text -"
    ∷ codes "0 list /tmp 65535 -> 0 text -"
    ∷ []) ≡ []
unfolding scenes_compute
names_are_listed_in_their_order = refl
