-- The deciding class of a caller (draft POSIX.1e, 23.1.5).
use Rattle.std.specs.Prelude.{ℕ, Bool, false, not, ◌||◌, ◌==◌, List, [], ◌∷◌, map, if◌then◌else◌}
use Rattle.std.specs.List.{filter, list_any, list_all}
use Rattle.acl_core.specs.declared.perm.Perm.{Perm}
use Rattle.acl_core.specs.declared.entry.Tag.{Tag}
use Rattle.acl_core.specs.declared.entry.Tag.TheVariants.{UserObj, User, GroupObj, Group, Mask, Other}
use Rattle.acl_core.specs.declared.entry.Entry.{Entry}
use Rattle.acl_core.specs.declared.cred.Cred.{Cred}
use Rattle.acl_core.specs.Perm.{has_all, common}
use Rattle.acl_core.specs.Entry.{same_tag, has_tag, perms_at, perms_where}

-- the caller is in the group, by its gid or its set of groups
abbrev pub in_group : Cred → ℕ → Bool
in_group cred group = cred.gid == group || list_any (λ g. g == group) cred.groups.items

-- the tag is of a group that the caller is in: the file's group, or the one that it names
abbrev pub matches_group : Cred → ℕ → Tag → Bool
matches_group cred group GroupObj = in_group cred group
matches_group cred group (Group g) = in_group cred g
matches_group cred group _ = false

-- the permissions, each limited by the mask if there is one
abbrev pub limit_by : List Perm → List Perm → List Perm
limit_by [] perms = perms
limit_by (mask ∷ _) perms = map (λ p. common p mask) perms

-- the permissions that decide about a caller, by the first case that applies
abbrev pub deciding : List Entry → Cred → ℕ → ℕ → List Perm
deciding list cred owner group =
    if cred.uid == owner then perms_at UserObj list
    else (if has_tag (User cred.uid) list then limit_by (perms_at Mask list) (perms_at (User cred.uid) list)
    else (if list_any (λ e. matches_group cred group e.tag) list then limit_by (perms_at Mask list) (perms_where (matches_group cred group) list)
    else perms_at Other list))

-- one of the deciding permissions has all bits of want
unfoldable pub grants : List Entry → Cred → ℕ → ℕ → Perm → Bool
grants list cred owner group want = list_any (λ p. has_all p want) (deciding list cred owner group)

-- the mask, if there is one, has all bits of want
abbrev pub mask_has : List Entry → Perm → Bool
mask_has list want = list_all (λ p. has_all p want) (perms_at Mask list)

-- the list as if it had no mask
abbrev pub without_mask : List Entry → List Entry
without_mask list = filter (λ e. not (same_tag e.tag Mask)) list

-- some entry has x
unfoldable pub has_exec : List Entry → Bool
has_exec list = list_any (λ e. e.perm.exec) list
