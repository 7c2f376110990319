-- Labels one way and the other: nodes below and above the label of who asks.
use Rattle.std.proofs.Common.{◌≡◌, [], ◌∷◌, codes, refl}
use Rattle.system_rows.specs.Scenes.{wrong}
use Rattle.system_rows.proofs.Computing.{scenes_compute}

-- A superuser of grade 10, whom no list refuses but that of a file without x. What is of grade 5 may be read, and what is of grade 20
-- written and changed. The last file is denied by the label's next rule.
each_call_asks_its_own_way : wrong [] (
    codes "0 open /tmp/low rw c -> 0 ok 0"
    ∷ codes "0 open /tmp/high rw c -> 0 ok 1"
    ∷ codes "0 mkdir /tmp/low_dir 755 -> 0 ok 0"
    ∷ codes "0 mkdir /tmp/high_dir 755 -> 0 ok 0"
    ∷ codes "0 setlabel /tmp/low mls/5 -> 0 ok 0"
    ∷ codes "0 setlabel /tmp/high mls/20 -> 0 ok 0"
    ∷ codes "0 setlabel /tmp/low_dir mls/5 -> 0 ok 0"
    ∷ codes "0 setlabel /tmp/high_dir mls/20 -> 0 ok 0"
    ∷ codes "0 setlabel /dev/tty1 mls/5 -> 0 ok 0"
    ∷ codes "0 setlabel /dev/tty2 mls/20 -> 0 ok 0"
    ∷ codes "0 setproclabel mls/10(5-20) -> 0 ok 0"
    ∷ codes "0 info /tmp/low -> 0 text file:0:0:644:0"
    ∷ codes "0 info /tmp/high -> 0 err EACCES label-read"
    ∷ codes "0 getacl /tmp/low access -> 0 text user::rw-,group::r--,other::r--"
    ∷ codes "0 getacl /tmp/high access -> 0 err EACCES label-read"
    ∷ codes "0 getlabel /tmp/low -> 0 text mls/5"
    ∷ codes "0 getlabel /tmp/high -> 0 err EACCES label-read"
    ∷ codes "0 list /tmp/low_dir 0 -> 0 text -"
    ∷ codes "0 list /tmp/high_dir 0 -> 0 err EACCES label-read"
    ∷ codes "0 chdir /tmp/high_dir -> 0 err EACCES label-read"
    ∷ codes "0 chdir /tmp/low_dir -> 0 ok 0"
    ∷ codes "0 open /tmp/low r -> 0 ok 2"
    ∷ codes "0 open /tmp/high r -> 0 err EACCES label-read"
    ∷ codes "0 open /tmp/low w -> 0 err EACCES label-write"
    ∷ codes "0 open /tmp/high w -> 0 ok 3"
    ∷ codes "0 exec /tmp/high - -> 0 err EACCES label-read"
    ∷ codes "0 exec /tmp/low - -> 0 err EACCES list"
    ∷ codes "0 chmod /tmp/low 755 -> 0 err EACCES label-write"
    ∷ codes "0 chmod /tmp/high 755 -> 0 ok 0"
    ∷ codes "0 chown /tmp/low 7 8 -> 0 err EACCES label-write"
    ∷ codes "0 chown /tmp/high 7 8 -> 0 ok 0"
    ∷ codes "0 setacl /tmp/low access user::rwx,group::r-x,other::--- -> 0 err EACCES label-write"
    ∷ codes "0 setacl /tmp/high access user::rwx,group::r-x,other::--- -> 0 ok 0"
    ∷ codes "0 mkdir /tmp/low_dir/x 755 -> 0 err EACCES label-write"
    ∷ codes "0 open /tmp/low_dir/x w c -> 0 err EACCES label-write"
    ∷ codes "0 revoke /dev/tty1 -> 0 err EACCES label-write"
    ∷ codes "0 revoke /dev/tty2 -> 0 ok 0"
    ∷ codes "0 rmdir /tmp/low_dir -> 0 err EACCES label-write"
    ∷ codes "0 rmdir /tmp/high_dir -> 0 ok 0"
    ∷ codes "0 unlink /tmp/low -> 0 err EACCES label-write"
    ∷ codes "0 unlink /tmp/high -> 0 err EBUSY in-use"
    ∷ []) ≡ []
unfolding scenes_compute
each_call_asks_its_own_way = refl
