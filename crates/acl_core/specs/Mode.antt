-- Lists and the nine bits of a file's mode (draft POSIX.1e, 23.1).
use Rattle.std.specs.Prelude.{ℕ, ◌+◌, ◌*◌, ◌/◌, ◌%◌, Bool, List, [], ◌∷◌, map, Option, Some, None, unwrap_or, if◌then◌else◌}
use Rattle.acl_core.specs.declared.perm.Perm.{Perm}
use Rattle.acl_core.specs.declared.entry.Tag.{Tag}
use Rattle.acl_core.specs.declared.entry.Tag.TheVariants.{UserObj, GroupObj, Mask, Other}
use Rattle.acl_core.specs.declared.entry.Entry.{Entry}
use Rattle.acl_core.specs.Perm.{digit_of, perm_of, common}
use Rattle.acl_core.specs.Entry.{same_tag, has_tag, perms_at}

-- the first octal digit of a mode is for the owner, the second for the group, the third for others
abbrev pub owner_bits : ℕ → Perm
owner_bits mode = perm_of (mode / 0o100)

abbrev pub group_bits : ℕ → Perm
group_bits mode = perm_of (mode / 0o10 % 0o10)

abbrev pub other_bits : ℕ → Perm
other_bits mode = perm_of (mode % 0o10)

-- the bits of a mode that are for a caller: the owner's, else the group's, else those of others
abbrev pub class_bits : ℕ → Bool → Bool → Perm
class_bits mode is_owner in_group = if is_owner then owner_bits mode else (if in_group then group_bits mode else other_bits mode)

-- the list of a mode alone
unfoldable pub minimal_list : ℕ → List Entry
minimal_list mode =
    record { tag = UserObj; perm = owner_bits mode }
    ∷ record { tag = GroupObj; perm = group_bits mode }
    ∷ record { tag = Other; perm = other_bits mode } ∷ []

-- the tag that the group digit of a mode speaks of: the mask where there is one
abbrev pub class_tag : List Entry → Tag
class_tag list = if has_tag Mask list then Mask else GroupObj

-- the digit of a permission that is alone
abbrev pub digit_of_one : List Perm → ℕ
digit_of_one [] = 0
digit_of_one (p ∷ _) = digit_of p

-- the mode of a list
unfoldable pub mode_of : List Entry → ℕ
mode_of list =
    digit_of_one (perms_at UserObj list) * 0o100 + digit_of_one (perms_at (class_tag list) list) * 0o10 + digit_of_one (perms_at Other list)

-- the bits of a mode that speak of a tag, if any do
abbrev pub bits_for : Tag → ℕ → Tag → Option Perm
bits_for class mode tag =
    if same_tag tag UserObj then Some (owner_bits mode)
    else (if same_tag tag class then Some (group_bits mode)
    else (if same_tag tag Other then Some (other_bits mode) else None))

-- the list with the bits of a mode in place of its own
unfoldable pub with_mode : List Entry → ℕ → List Entry
with_mode list mode = map (λ e. record { tag = e.tag; perm = unwrap_or (bits_for (class_tag list) mode e.tag) e.perm }) list

-- the permission limited by bits, if there are any
abbrev pub limit_to : Perm → Option Perm → Perm
limit_to perm (Some bits) = common perm bits
limit_to perm None = perm

-- the list limited by the bits of a mode
unfoldable pub inherited_list : List Entry → ℕ → List Entry
inherited_list list mode = map (λ e. record { tag = e.tag; perm = limit_to e.perm (bits_for (class_tag list) mode e.tag) }) list
