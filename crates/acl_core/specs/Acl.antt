-- Valid lists in the printed order (draft POSIX.1e, 23.1).
use Rattle.std.specs.Prelude.{◌≡◌, Bool, true, false, not, ◌&&◌, ◌||◌, List, [], ◌∷◌, length, map, nat_lt, Option, Some, None, Result, Ok, Err, if◌then◌else◌}
use Rattle.std.specs.List.{list_any}
use Rattle.std.specs.List.Sorted.{IsStrictlySortedBy}
use Rattle.std.specs.Ordering.{is_lt}
use Rattle.acl_core.specs.declared.entry.Tag.{Tag}
use Rattle.acl_core.specs.declared.entry.Tag.TheVariants.{UserObj, User, GroupObj, Group, Mask, Other}
use Rattle.acl_core.specs.declared.entry.Entry.{Entry}
use Rattle.acl_core.specs.declared.entry.TheConstants.{MOST_ENTRIES}
use Rattle.acl_core.specs.declared.valid.AclFault.{AclFault}
use Rattle.acl_core.specs.declared.valid.AclFault.TheVariants.{TooMany, Twice, Missing, NoMask}
use Rattle.acl_core.specs.Entry.{tag_cmp, has_tag}

-- a tag stands twice
abbrev pub has_twice : List Entry → Bool
has_twice [] = false
has_twice (e ∷ list) = has_tag e.tag list || has_twice list

-- the three entries that every list has
abbrev pub has_required : List Entry → Bool
has_required list = has_tag UserObj list && has_tag GroupObj list && has_tag Other list

-- the tag names a user or a group
abbrev pub is_named : Tag → Bool
is_named (User n) = true
is_named (Group n) = true
is_named _ = false

-- a user or a group is named
abbrev pub has_named : List Entry → Bool
has_named list = list_any (λ e. is_named e.tag) list

-- the first fault that the entries have
abbrev pub fault_of : List Entry → Option AclFault
fault_of list =
    if nat_lt MOST_ENTRIES (length list) then Some TooMany
    else (if has_twice list then Some Twice
    else (if not (has_required list) then Some Missing
    else (if has_named list && not (has_tag Mask list) then Some NoMask else None)))

-- the list with one more entry, in front of the first that does not come before it
abbrev pub put : Entry → List Entry → List Entry
put e [] = e ∷ []
put e (f ∷ list) = if is_lt (tag_cmp f.tag e.tag) then f ∷ put e list else e ∷ f ∷ list

-- the entries in the printed order
abbrev pub in_order : List Entry → List Entry
in_order [] = []
in_order (e ∷ list) = put e (in_order list)

-- the fault, or the list in order where there is none
abbrev pub list_or_fault : List Entry → Option AclFault → Result (List Entry) AclFault
list_or_fault list (Some fault) = Err fault
list_or_fault list None = Ok (in_order list)

-- the list that entries make, or their first fault
unfoldable pub acl_of : List Entry → Result (List Entry) AclFault
acl_of list = list_or_fault list (fault_of list)

-- a list without a fault, in the printed order
pub record IsAcl (list : List Entry) : Type 0 where
  pub valid : fault_of list ≡ None
  pub order : IsStrictlySortedBy tag_cmp (map (λ e. e.tag) list)
