-- Modes, owners, lists and labels, each call denied by its first rule.
use Rattle.std.proofs.Common.{◌≡◌, [], ◌∷◌, codes, refl}
use Rattle.system_rows.specs.Scenes.{wrong}
use Rattle.system_rows.proofs.Computing.{scenes_compute}

-- Nodes of the superuser and of a user, 1001. Those of `mls/10:3` neither dominate nor are dominated by `mls/10:2`, and are
-- outside the range of those who ask.
-- Of the superuser. Of the lines with a remark, here and below, a later rule would hold too.
-- Of the user.
-- The rules of the node too, here and below at each call.
-- The owner too.
-- That the user is no superuser too.
-- The owner too.
-- The range too.
-- Of the new element, and of the old one.
-- That the old element does not dominate the user's is no rule of this call.
-- The owner too, that it is a file, and the list.
-- That it is a file too, and the list.
-- The list too.
-- That it is a file too.
each_call_on_rights_is_denied_by_its_first_rule : wrong [] (
    codes "0 mkdir /tmp/closed 700 -> 0 ok 0"
    ∷ codes "0 mkdir /tmp/dir 777 -> 0 ok 0"
    ∷ codes "0 open /tmp/f r c 777 -> 0 ok 0"
    ∷ codes "0 open /tmp/apart r c 777 -> 0 ok 1"
    ∷ codes "0 open /tmp/closed/apart r c 777 -> 0 ok 2"
    ∷ codes "0 open /tmp/mine r c 777 -> 0 ok 3"
    ∷ codes "0 open /tmp/mine_low r c 777 -> 0 ok 4"
    ∷ codes "0 open /tmp/mine_apart r c 777 -> 0 ok 5"
    ∷ codes "0 open /tmp/his r c 777 -> 0 ok 6"
    ∷ codes "0 chown /tmp/dir 1001 0 -> 0 ok 0"
    ∷ codes "0 chown /tmp/mine 1001 0 -> 0 ok 0"
    ∷ codes "0 chown /tmp/mine_low 1001 0 -> 0 ok 0"
    ∷ codes "0 chown /tmp/mine_apart 1001 0 -> 0 ok 0"
    ∷ codes "0 chown /tmp/his 1001 0 -> 0 ok 0"
    ∷ codes "0 setlabel /tmp/dir mls/10:2 -> 0 ok 0"
    ∷ codes "0 setlabel /tmp/apart mls/10:3 -> 0 ok 0"
    ∷ codes "0 setlabel /tmp/closed/apart mls/10:3 -> 0 ok 0"
    ∷ codes "0 setlabel /tmp/mine mls/10:2 -> 0 ok 0"
    ∷ codes "0 setlabel /tmp/mine_low mls/5:2 -> 0 ok 0"
    ∷ codes "0 setlabel /tmp/mine_apart mls/10:3 -> 0 ok 0"
    ∷ codes "0 setlabel /tmp/his mls/10:2 -> 0 ok 0"
    ∷ codes "0 setlabel /dev/tty7 mls/10:3 -> 0 ok 0"
    ∷ codes "0 setproclabel mls/10:2(5:2-20:2+3) -> 0 ok 0"
    ∷ codes "0 chmod /tmp/apart 640 -> 0 err EACCES label-write"
    ∷ codes "0 chown /tmp/apart 7 8 -> 0 err EACCES label-write"
    ∷ codes "0 chmod /tmp/his 640 -> 0 ok 0"
    ∷ codes "0 chown /tmp/his 7 8 -> 0 ok 0"
    ∷ codes "0 revoke /dev/tty7 -> 0 err EACCES label-write"
    ∷ codes "0 setcred 1001 100 - -> 0 ok 0"
    ∷ codes "0 chmod /tmp/x 640 -> 0 err ENOENT no-entry"
    ∷ codes "0 chmod /tmp/closed/apart 640 -> 0 err EACCES search"
    ∷ codes "0 chmod /tmp/apart 640 -> 0 err EACCES label-write"
    ∷ codes "0 chmod /tmp/mine_low 640 -> 0 err EACCES label-write"
    ∷ codes "0 chmod /tmp/f 640 -> 0 err EPERM owner"
    ∷ codes "0 chmod /tmp/mine 640 -> 0 ok 0"
    ∷ codes "0 chown /tmp/x 7 8 -> 0 err ENOENT no-entry"
    ∷ codes "0 chown /tmp/closed/apart 7 8 -> 0 err EACCES search"
    ∷ codes "0 chown /tmp/apart 7 8 -> 0 err EACCES label-write"
    ∷ codes "0 chown /tmp/mine 7 8 -> 0 err EPERM super"
    ∷ codes "0 revoke /dev/tty7 -> 0 err EACCES label-write"
    ∷ codes "0 setlabel /tmp/x mls/10:3 -> 0 err ENOENT no-entry"
    ∷ codes "0 setlabel /tmp/closed/apart mls/10:3 -> 0 err EACCES search"
    ∷ codes "0 setlabel /tmp/apart mls/10:3 -> 0 err EPERM owner"
    ∷ codes "0 setlabel /tmp/mine mls/10:3 -> 0 err EPERM relabel"
    ∷ codes "0 setlabel /tmp/mine_apart mls/10:2 -> 0 err EPERM relabel"
    ∷ codes "0 setlabel /tmp/mine mls/equal -> 0 err EPERM relabel"
    ∷ codes "0 setlabel /tmp/mine_low mls/20:2+3 -> 0 ok 0"
    ∷ codes "0 getlabel /tmp/x -> 0 err ENOENT no-entry"
    ∷ codes "0 getlabel /tmp/closed/apart -> 0 err EACCES search"
    ∷ codes "0 getlabel /tmp/apart -> 0 err EACCES label-read"
    ∷ codes "0 setacl /tmp/closed/apart default user::rwx,group::r-x -> 0 err EACCES search"
    ∷ codes "0 setacl /tmp/apart default user::rwx,group::r-x -> 0 err EACCES label-write"
    ∷ codes "0 setacl /tmp/f default user::rwx,group::r-x -> 0 err EPERM owner"
    ∷ codes "0 setacl /tmp/mine default user::rwx,group::r-x -> 0 err ENOTDIR not-dir"
    ∷ codes "0 setacl /tmp/mine default - -> 0 err ENOTDIR not-dir"
    ∷ codes "0 setacl /tmp/dir default user::rwx,group::r-x -> 0 err EINVAL acl-bad"
    ∷ codes "0 setacl /tmp/dir access - -> 0 err EINVAL acl-bad"
    ∷ codes "0 setacl /tmp/mine access user::rwx,group::r-x,other::--- -> 0 ok 0"
    ∷ codes "0 getacl /tmp/closed/apart default -> 0 err EACCES search"
    ∷ codes "0 getacl /tmp/apart default -> 0 err EACCES label-read"
    ∷ codes "0 getacl /tmp/f default -> 0 err ENOTDIR not-dir"
    ∷ []) ≡ []
unfolding scenes_compute
each_call_on_rights_is_denied_by_its_first_rule = refl

-- A revoke below a directory that may not be searched. The owner would deny it too.
a_revoke_is_denied_by_the_way_to_the_line : wrong [] (
    codes "0 chmod /dev 700 -> 0 ok 0"
    ∷ codes "0 setcred 1001 100 - -> 0 ok 0"
    ∷ codes "0 revoke /dev/tty7 -> 0 err EACCES search"
    ∷ []) ≡ []
unfolding scenes_compute
a_revoke_is_denied_by_the_way_to_the_line = refl

-- Changes by a superuser, and what is told of the node after each. The texts of lists and labels have one order.
-- Where a list has a mask, the bits of the group are the mask's.
what_is_given_is_told : wrong [] (
    codes "0 open /tmp/mine r c 777 -> 0 ok 0"
    ∷ codes "0 getacl /tmp/mine access -> 0 text user::rwx,group::r-x,other::r-x"
    ∷ codes "0 setacl /tmp/mine access other::---,mask::r-x,user:1001:rwx,group::r--,user::rwx -> 0 ok 0"
    ∷ codes "0 getacl /tmp/mine access -> 0 text user::rwx,user:1001:rwx,group::r--,mask::r-x,other::---"
    ∷ codes "0 chmod /tmp/mine 640 -> 0 ok 0"
    ∷ codes "0 getacl /tmp/mine access -> 0 text user::rw-,user:1001:rwx,group::r--,mask::r--,other::---"
    ∷ codes "0 chown /tmp/mine 7 8 -> 0 ok 0"
    ∷ codes "0 info /tmp/mine -> 0 text file:7:8:640:0"
    ∷ codes "0 setlabel /tmp/mine mls/20:3+2 -> 0 ok 0"
    ∷ codes "0 getlabel /tmp/mine -> 0 text mls/20:2+3"
    ∷ codes "0 mkdir /tmp/dir 700 -> 0 ok 0"
    ∷ codes "0 getacl /tmp/dir default -> 0 text -"
    ∷ codes "0 setacl /tmp/dir default other::---,mask::r-x,user:1001:rwx,group::r--,user::rwx -> 0 ok 0"
    ∷ codes "0 getacl /tmp/dir default -> 0 text user::rwx,user:1001:rwx,group::r--,mask::r-x,other::---"
    ∷ codes "0 setacl /tmp/dir default - -> 0 ok 0"
    ∷ codes "0 getacl /tmp/dir default -> 0 text -"
    ∷ []) ≡ []
unfolding scenes_compute
what_is_given_is_told = refl

-- The groups stay in their order and with repeats; the mask before is told in decimal.
a_process_becomes_another : wrong [] (
    codes "0 setcred 0 0 - -> 0 ok 0"
    ∷ codes "0 ident -> 0 text 1:0:0:-:mls/equal(low-high)"
    ∷ codes "0 setproclabel mls/10:2(5:2-20:2+3) -> 0 ok 0"
    ∷ codes "0 setcred 1001 100 7+5+7 -> 0 ok 0"
    ∷ codes "0 ident -> 0 text 1:1001:100:7+5+7:mls/10:2(5:2-20:2+3)"
    ∷ codes "0 setcred 0 0 - -> 0 err EPERM super"
    ∷ codes "0 setproclabel mls/equal -> 0 err EPERM proclabel"
    ∷ codes "0 setproclabel mls/5:2(5:2-20:2+3) -> 0 ok 0"
    ∷ codes "0 umask 77 -> 0 ok 18"
    ∷ codes "0 umask 22 -> 0 ok 63"
    ∷ []) ≡ []
unfolding scenes_compute
a_process_becomes_another = refl
