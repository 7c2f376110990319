-- The rules of a path, part by part.
use Rattle.std.proofs.Common.{◌≡◌, [], ◌∷◌, ◌++◌, codes, refl}
use Rattle.system_rows.specs.Scenes.{wrong, times}
use Rattle.system_rows.proofs.Computing.{scenes_compute}

-- A directory that only its owner may search, and one of grade 20 that is closed too. Then the superuser is of grade 10.
-- Paths of a superuser: the answer relabel says that no rule denies the path.
-- The label binds the superuser too.
-- The same paths of a user: the answer owner says that no rule denies the path.
-- The directory is asked before what is absent in it, and on the way back up too.
-- The label is asked before the list.
-- An earlier part is asked before a later one.
each_path_is_denied_by_its_first_rule : wrong [] (
    codes "0 mkdir /tmp/closed 700 -> 0 ok 0"
    ∷ codes "0 mkdir /tmp/secret 700 -> 0 ok 0"
    ∷ codes "0 setlabel /tmp/secret mls/20 -> 0 ok 0"
    ∷ codes "0 setproclabel mls/10(low-high) -> 0 ok 0"
    ∷ codes "0 setlabel / mls/equal -> 0 err EPERM relabel"
    ∷ codes "0 setlabel tmp mls/equal -> 0 err EPERM relabel"
    ∷ codes "0 setlabel /bin/../tmp/closed/ mls/equal -> 0 err EPERM relabel"
    ∷ codes "0 setlabel /tmp/closed/. mls/equal -> 0 err EPERM relabel"
    ∷ codes "0 setlabel % mls/equal -> 0 err ENOENT no-entry"
    ∷ codes "0 setlabel /tmp/x mls/equal -> 0 err ENOENT no-entry"
    ∷ codes "0 setlabel /x/y mls/equal -> 0 err ENOENT no-entry"
    ∷ codes "0 setlabel /bin/cat/x mls/equal -> 0 err ENOTDIR not-dir"
    ∷ codes "0 setlabel /bin/cat/.. mls/equal -> 0 err ENOTDIR not-dir"
    ∷ codes "0 setlabel /tmp/closed/x mls/equal -> 0 err ENOENT no-entry"
    ∷ codes "0 setlabel /tmp/closed/x/y mls/equal -> 0 err ENOENT no-entry"
    ∷ codes "0 setlabel /tmp/closed/.. mls/equal -> 0 err EPERM relabel"
    ∷ codes "0 setlabel /tmp/secret mls/equal -> 0 err EPERM relabel"
    ∷ codes "0 setlabel /tmp/secret/x mls/equal -> 0 err EACCES label-read"
    ∷ codes "0 setlabel /tmp/secret/.. mls/equal -> 0 err EACCES label-read"
    ∷ codes "0 setlabel /x/../tmp/closed/x mls/equal -> 0 err ENOENT no-entry"
    ∷ codes "0 setlabel /tmp/closed/../secret/x mls/equal -> 0 err EACCES label-read"
    ∷ codes "0 setcred 1001 100 - -> 0 ok 0"
    ∷ codes "0 setlabel / mls/equal -> 0 err EPERM owner"
    ∷ codes "0 setlabel tmp mls/equal -> 0 err EPERM owner"
    ∷ codes "0 setlabel /bin/../tmp/closed/ mls/equal -> 0 err EPERM owner"
    ∷ codes "0 setlabel /tmp/closed/. mls/equal -> 0 err EPERM owner"
    ∷ codes "0 setlabel % mls/equal -> 0 err ENOENT no-entry"
    ∷ codes "0 setlabel /tmp/x mls/equal -> 0 err ENOENT no-entry"
    ∷ codes "0 setlabel /x/y mls/equal -> 0 err ENOENT no-entry"
    ∷ codes "0 setlabel /bin/cat/x mls/equal -> 0 err ENOTDIR not-dir"
    ∷ codes "0 setlabel /bin/cat/.. mls/equal -> 0 err ENOTDIR not-dir"
    ∷ codes "0 setlabel /tmp/closed/x mls/equal -> 0 err EACCES search"
    ∷ codes "0 setlabel /tmp/closed/x/y mls/equal -> 0 err EACCES search"
    ∷ codes "0 setlabel /tmp/closed/.. mls/equal -> 0 err EACCES search"
    ∷ codes "0 setlabel /tmp/secret mls/equal -> 0 err EPERM owner"
    ∷ codes "0 setlabel /tmp/secret/x mls/equal -> 0 err EACCES label-read"
    ∷ codes "0 setlabel /tmp/secret/.. mls/equal -> 0 err EACCES label-read"
    ∷ codes "0 setlabel /x/../tmp/closed/x mls/equal -> 0 err ENOENT no-entry"
    ∷ codes "0 setlabel /tmp/closed/../secret/x mls/equal -> 0 err EACCES search"
    ∷ []) ≡ []
unfolding scenes_compute
each_path_is_denied_by_its_first_rule = refl

-- Paths have at most 1,023 bytes and names at most 255.
-- The name is too long too, and the directory is closed.
-- The directories before it are asked first.
long_paths_and_names_are_denied_first : wrong [] (
    codes "0 mkdir /tmp/closed 700 -> 0 ok 0"
    ∷ codes "0 mkdir /tmp/secret 700 -> 0 ok 0"
    ∷ codes "0 setlabel /tmp/secret mls/20 -> 0 ok 0"
    ∷ codes "0 setproclabel mls/10(low-high) -> 0 ok 0"
    ∷ codes "0 setcred 1001 100 - -> 0 ok 0"
    ∷ (codes "0 info /tmp/closed/" ++ times 1012 (codes "n") ++ codes " -> 0 err ENAMETOOLONG path-long")
    ∷ (codes "0 info /tmp/closed/" ++ times 1011 (codes "n") ++ codes " -> 0 err ENAMETOOLONG name-long")
    ∷ (codes "0 info /tmp/closed/" ++ times 256 (codes "n") ++ codes " -> 0 err ENAMETOOLONG name-long")
    ∷ (codes "0 info /tmp/closed/" ++ times 255 (codes "n") ++ codes " -> 0 err EACCES search")
    ∷ (codes "0 info /tmp/closed/x/" ++ times 256 (codes "n") ++ codes " -> 0 err EACCES search")
    ∷ (codes "0 info /tmp/x/" ++ times 256 (codes "n") ++ codes " -> 0 err ENOENT no-entry")
    ∷ (codes "0 info /tmp/" ++ times 256 (codes "n") ++ codes " -> 0 err ENAMETOOLONG name-long")
    ∷ (codes "0 info /tmp/" ++ times 255 (codes "n") ++ codes " -> 0 err ENOENT no-entry")
    ∷ (codes "0 info " ++ times 1023 (codes "/") ++ codes " -> 0 text dir:0:0:755:0")
    ∷ (codes "0 info " ++ times 1024 (codes "/") ++ codes " -> 0 err ENAMETOOLONG path-long")
    ∷ (codes "0 info " ++ times 1022 (codes "/") ++ codes "n -> 0 err ENOENT no-entry")
    ∷ []) ≡ []
unfolding scenes_compute
long_paths_and_names_are_denied_first = refl
