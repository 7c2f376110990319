-- Opens, by each rule that denies one.
use Rattle.std.proofs.Common.{◌≡◌, [], ◌∷◌, codes, refl}
use Rattle.system_rows.specs.Scenes.{wrong}
use Rattle.system_rows.proofs.Computing.{scenes_compute}

-- Nodes of the superuser, some of a grade or of one with a compartment that grade 10 does not have. Then a user of grade 10 asks.
-- Lines and the line of the caller, by the superuser, whom no list denies them.
-- Of the lines with a remark a later rule would hold too.
-- The path.
-- That there is a node.
-- The label of `/bin`.
-- The list of `/bin`.
-- That it is a directory.
-- The label.
-- The list.
-- The label as of a write.
-- The list.
-- That the caller has no line.
-- That the line is not ready.
each_open_is_denied_by_its_first_rule : wrong [] (
    codes "0 umask 0 -> 0 ok 18"
    ∷ codes "0 mkdir /tmp/closed 700 -> 0 ok 0"
    ∷ codes "0 mkdir /tmp/secret 700 -> 0 ok 0"
    ∷ codes "0 open /tmp/f r c -> 0 ok 0"
    ∷ codes "0 open /tmp/shut r c 600 -> 0 ok 1"
    ∷ codes "0 open /tmp/high r c 600 -> 0 ok 2"
    ∷ codes "0 open /tmp/low r c 600 -> 0 ok 3"
    ∷ codes "0 open /tmp/side r c 666 -> 0 ok 4"
    ∷ codes "0 setlabel /tmp/secret mls/20 -> 0 ok 0"
    ∷ codes "0 setlabel /tmp/high mls/20 -> 0 ok 0"
    ∷ codes "0 setlabel /tmp/low mls/5 -> 0 ok 0"
    ∷ codes "0 setlabel /tmp/side mls/5:1 -> 0 ok 0"
    ∷ codes "0 setlabel /dev/tty7 mls/10 -> 0 ok 0"
    ∷ codes "0 chmod /dev/tty2 666 -> 0 ok 0"
    ∷ codes "0 chmod /dev/tty7 666 -> 0 ok 0"
    ∷ codes "0 umask 22 -> 0 ok 0"
    ∷ codes "0 open /dev/tty r -> 0 err ENXIO no-tty"
    ∷ codes "0 chmod /dev/tty 600 -> 0 ok 0"
    ∷ codes "0 setproclabel mls/10(low-high) -> 0 ok 0"
    ∷ codes "0 setcred 1001 100 - -> 0 ok 0"
    ∷ codes "0 open /tmp/f r t -> 0 err EINVAL flags"
    ∷ codes "0 open /tmp/f r a -> 0 err EINVAL flags"
    ∷ codes "0 open % w x -> 0 err EINVAL flags"
    ∷ codes "0 open % r -> 0 err ENOENT no-entry"
    ∷ codes "0 open /tmp/closed/.. r cx -> 0 err EACCES search"
    ∷ codes "0 open /tmp/x r -> 0 err ENOENT no-entry"
    ∷ codes "0 open /bin/x w -> 0 err ENOENT no-entry"
    ∷ codes "0 open /bin/x w c -> 0 err EACCES label-write"
    ∷ codes "0 open /dev/x w c -> 0 err EACCES list"
    ∷ codes "0 open /tmp/f r cx -> 0 err EEXIST exists"
    ∷ codes "0 open /tmp r cx -> 0 err EEXIST exists"
    ∷ codes "0 open /tmp r c -> 0 err EISDIR is-dir"
    ∷ codes "0 open /tmp/secret r -> 0 err EISDIR is-dir"
    ∷ codes "0 open /tmp/high r -> 0 err EACCES label-read"
    ∷ codes "0 open /tmp/side rw -> 0 err EACCES label-read"
    ∷ codes "0 open /tmp/side w -> 0 err EACCES label-write"
    ∷ codes "0 open /tmp/low w -> 0 err EACCES label-write"
    ∷ codes "0 open /tmp/shut r -> 0 err EACCES list"
    ∷ codes "0 open /dev/tty r -> 0 err EACCES list"
    ∷ codes "0 open /dev/tty3 r -> 0 err EACCES list"
    ∷ codes "0 open /dev/tty7 rw -> 0 ok 5"
    ∷ codes "0 open /tmp/f w ct -> 0 ok 6"
    ∷ codes "0 open /bin/cat r -> 0 ok 7"
    ∷ codes "0 open /tmp/x w cxta 666 -> 0 ok 8"
    ∷ codes "0 info /tmp/x -> 0 text file:1001:0:644:0"
    ∷ codes "0 getlabel /tmp/x -> 0 text mls/10"
    ∷ []) ≡ []
unfolding scenes_compute
each_open_is_denied_by_its_first_rule = refl

-- A file goes to its maker, who is of grade low, whatever the label and the list of its directory say of others.
a_new_file_goes_to_its_maker : wrong [] (
    codes "0 setproclabel mls/low(low-high) -> 0 ok 0"
    ∷ codes "0 open /bin/x w c -> 0 ok 0"
    ∷ codes "0 info /bin/x -> 0 text file:0:0:644:0"
    ∷ codes "0 setcred 1001 100 - -> 0 ok 0"
    ∷ codes "0 open /bin/y w c -> 0 err EACCES list"
    ∷ []) ≡ []
unfolding scenes_compute
a_new_file_goes_to_its_maker = refl

-- A default list is handed down, and the umask plays no part then; a new directory takes the list too.
a_default_list_is_handed_down : wrong [] (
    codes "0 mkdir /tmp/d 777 -> 0 ok 0"
    ∷ codes "0 setacl /tmp/d default user::rwx,group::rwx,other::rw- -> 0 ok 0"
    ∷ codes "0 open /tmp/d/f w c -> 0 ok 0"
    ∷ codes "0 getacl /tmp/d/f access -> 0 text user::rw-,group::rw-,other::rw-"
    ∷ codes "0 getacl /tmp/d/f default -> 0 err ENOTDIR not-dir"
    ∷ codes "0 mkdir /tmp/d/e 700 -> 0 ok 0"
    ∷ codes "0 getacl /tmp/d/e access -> 0 text user::rwx,group::---,other::---"
    ∷ codes "0 getacl /tmp/d/e default -> 0 text user::rwx,group::rwx,other::rw-"
    ∷ codes "0 open /tmp/g w c -> 0 ok 1"
    ∷ codes "0 getacl /tmp/g access -> 0 text user::rw-,group::r--,other::r--"
    ∷ []) ≡ []
unfolding scenes_compute
a_default_list_is_handed_down = refl
