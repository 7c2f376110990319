-- The nodes of a boot.
use Rattle.std.proofs.Common.{◌≡◌, [], ◌∷◌, codes, refl}
use Rattle.system_rows.specs.Scenes.{wrong}
use Rattle.system_rows.proofs.Computing.{scenes_compute}

-- Directories and their listings, and what is told of nodes. Grades above low may read all but `/dev` and `/tmp` alike.
a_boot_makes_the_standard_nodes : wrong [] (
    codes "0 list / 0 -> 0 text bin/dev/etc/home/tmp"
    ∷ codes "0 list /bin 0 -> 0 text cat/chmod/chown/echo/getfacl/getfmac/getty/halt/id/init/kill/login/ls/mkdir/ps/revoke/rm/setfacl/setfmac/sh/stty/tty"
    ∷ codes "0 list /etc 0 -> 0 text ttys/users"
    ∷ codes "0 list /home 0 -> 0 text -"
    ∷ codes "0 list /dev 0 -> 0 text tty/tty0/tty1/tty2/tty3/tty4/tty5/tty6/tty7"
    ∷ codes "0 list /tmp 0 -> 0 text -"
    ∷ codes "0 list / 3 -> 0 text home/tmp"
    ∷ codes "0 list / 5 -> 0 text -"
    ∷ codes "0 info / -> 0 text dir:0:0:755:0"
    ∷ codes "0 info /bin -> 0 text dir:0:0:755:0"
    ∷ codes "0 info /dev -> 0 text dir:0:0:755:0"
    ∷ codes "0 info /tmp -> 0 text dir:0:0:777:0"
    ∷ codes "0 info /bin/cat -> 0 text file:0:0:755:10"
    ∷ codes "0 info /bin/getfacl -> 0 text file:0:0:755:14"
    ∷ codes "0 info /etc/users -> 0 text file:0:0:600:0"
    ∷ codes "0 info /etc/ttys -> 0 text file:0:0:644:80"
    ∷ codes "0 info /dev/tty0 -> 0 text line:0:0:600:0"
    ∷ codes "0 info /dev/tty3 -> 0 text line:0:0:600:0"
    ∷ codes "0 info /dev/tty7 -> 0 text line:0:0:600:0"
    ∷ codes "0 info /dev/tty -> 0 text tty:0:0:666:0"
    ∷ codes "0 getlabel / -> 0 text mls/low"
    ∷ codes "0 getlabel /bin -> 0 text mls/low"
    ∷ codes "0 getlabel /bin/getfacl -> 0 text mls/low"
    ∷ codes "0 getlabel /etc/users -> 0 text mls/low"
    ∷ codes "0 getlabel /etc/ttys -> 0 text mls/low"
    ∷ codes "0 getlabel /dev -> 0 text mls/equal"
    ∷ codes "0 getlabel /dev/tty0 -> 0 text mls/equal"
    ∷ codes "0 getlabel /dev/tty7 -> 0 text mls/equal"
    ∷ codes "0 getlabel /dev/tty -> 0 text mls/equal"
    ∷ codes "0 getlabel /tmp -> 0 text mls/equal"
    ∷ codes "0 open /bin/cat r -> 0 ok 0"
    ∷ codes "0 read 0 512 -> 0 bytes 696d616765206361740a"
    ∷ []) ≡ []
unfolding scenes_compute
a_boot_makes_the_standard_nodes = refl

-- Empty parts and `.` are skipped, and `..` is the parent, of the root itself. A part that is absent may be the last one alone.
paths_lead_where_they_should : wrong [] (
    codes "0 info . -> 0 text dir:0:0:755:0"
    ∷ codes "0 info bin/cat -> 0 text file:0:0:755:10"
    ∷ codes "0 list .. 0 -> 0 text bin/dev/etc/home/tmp"
    ∷ codes "0 list /../../etc 0 -> 0 text ttys/users"
    ∷ codes "0 info //bin//cat/ -> 0 text file:0:0:755:10"
    ∷ codes "0 info /bin/./cat/. -> 0 text file:0:0:755:10"
    ∷ codes "0 info /bin/../tmp -> 0 text dir:0:0:777:0"
    ∷ codes "0 info % -> 0 err ENOENT no-entry"
    ∷ codes "0 info /dev/tty8 -> 0 err ENOENT no-entry"
    ∷ codes "0 mkdir /tmp/x/y 700 -> 0 err ENOENT no-entry"
    ∷ codes "0 mkdir /tmp/x/.. 700 -> 0 err ENOENT no-entry"
    ∷ codes "0 mkdir % 700 -> 0 err ENOENT no-entry"
    ∷ codes "0 mkdir /bin/cat/x 700 -> 0 err ENOTDIR not-dir"
    ∷ codes "0 info /bin/cat/.. -> 0 err ENOTDIR not-dir"
    ∷ codes "0 mkdir /tmp/a/ 700 -> 0 ok 0"
    ∷ codes "0 mkdir /tmp/b/. 700 -> 0 ok 0"
    ∷ codes "0 chdir /tmp/b -> 0 ok 0"
    ∷ codes "0 mkdir ../c 700 -> 0 ok 0"
    ∷ codes "0 list .. 0 -> 0 text a/b/c"
    ∷ []) ≡ []
unfolding scenes_compute
paths_lead_where_they_should = refl
