-- Entries by their tags, and the order in which a list is printed.
use Rattle.std.specs.Prelude.{ℕ, ◌<◌, ◌^◌, ◌==◌, Bool, ◌&&◌, List, map}
use Rattle.std.specs.List.{filter, list_any}
use Rattle.std.specs.declared.cmp.Ordering.{Ordering}
use Rattle.std.specs.Ordering.{nat_cmp, ordering_then}
use Rattle.acl_core.specs.declared.perm.Perm.{Perm}
use Rattle.acl_core.specs.declared.entry.Tag.{Tag}
use Rattle.acl_core.specs.declared.entry.Tag.TheVariants.{UserObj, User, GroupObj, Group, Mask, Other}
use Rattle.acl_core.specs.declared.entry.Entry.{Entry}

-- where a kind of tag stands in the printed order
abbrev pub rank : Tag → ℕ
rank UserObj = 0
rank (User n) = 1
rank GroupObj = 2
rank (Group n) = 3
rank Mask = 4
rank Other = 5

-- the number of the user or group that a tag names, and 0 where it names none
abbrev pub qualifier : Tag → ℕ
qualifier (User n) = n
qualifier (Group n) = n
qualifier _ = 0

-- the printed order: user, users by number, group, groups by number, mask, other
abbrev pub tag_cmp : Tag → Tag → Ordering
tag_cmp s t = ordering_then (nat_cmp (rank s) (rank t)) (nat_cmp (qualifier s) (qualifier t))

-- the tags are one
abbrev pub same_tag : Tag → Tag → Bool
same_tag s t = (rank s == rank t) && (qualifier s == qualifier t)

-- some entry has the tag
abbrev pub has_tag : Tag → List Entry → Bool
has_tag tag list = list_any (λ e. same_tag e.tag tag) list

-- the permissions of the entries whose tag passes the test
abbrev pub perms_where : (Tag → Bool) → List Entry → List Perm
perms_where test list = map (λ e. e.perm) (filter (λ e. test e.tag) list)

-- the permissions of the entries with the tag
abbrev pub perms_at : Tag → List Entry → List Perm
perms_at tag list = perms_where (λ t. same_tag t tag) list

-- the entry names a number of 32 bits, if it names one
abbrev pub Fits : Entry → Type 0
Fits e = qualifier e.tag < 2 ^ 32
