-- The definitions of access lists on worked rows (draft POSIX.1e): what a list grants, how it goes with the nine bits of a mode, and
-- which rule denies a caller the access to a node, where a label and a list stand together.
use Rattle.std.proofs.Common.{◌≡◌, ℕ, ◌+◌, ◌*◌, [], ◌∷◌, List, refl}
use Rattle.std.specs.Prelude.{Bool, true, false, Option, Some, None, Err, map, replicate}
use Rattle.label_core.specs.declared.element.Element.{Element}
use Rattle.label_core.specs.declared.element.Element.TheVariants.{Low, Grade}
use Rattle.label_core.specs.Subject.{Parts}
use Rattle.acl_core.specs.declared.cred.Cred.{Cred}
use Rattle.acl_core.specs.declared.entry.Entry.{Entry}
use Rattle.acl_core.specs.declared.entry.Tag.{Tag}
use Rattle.acl_core.specs.declared.entry.Tag.TheVariants.{UserObj, User, GroupObj, Group, Mask, Other}
use Rattle.acl_core.specs.declared.valid.AclFault.TheVariants.{TooMany, Twice}
use Rattle.acl_core.specs.Acl.{acl_of}
use Rattle.acl_core.specs.Perm.{perm_of}
use Rattle.acl_core.specs.Deciding.{grants, has_exec}
use Rattle.acl_core.specs.Mode.{minimal_list, mode_of, with_mode, inherited_list}
use Rattle.access_rule.specs.declared.Attrs.{Attrs}
use Rattle.access_rule.specs.Access.{refusal}
use Rattle.sys_types.specs.declared.rules.Rule.{Rule}
use Rattle.sys_types.specs.declared.rules.Rule.TheVariants as rule
use Rattle.script_model.proofs.Computing.{rows_compute}

-- an entry with the permission of an octal digit
abbrev entry : Tag → ℕ → Entry
entry tag digit = record { tag = tag; perm = perm_of digit }

-- the list of three octal digits
abbrev digits_of : ℕ → ℕ → ℕ → List Entry
digits_of user group other = entry UserObj user ∷ entry GroupObj group ∷ entry Other other ∷ []

-- a mode of three octal digits
abbrev mode : ℕ → ℕ → ℕ → ℕ
mode user group other = 64 * user + 8 * group + other

-- a caller's uid, gid and groups
abbrev caller : ℕ → ℕ → List ℕ → Cred
caller uid gid groups = record { uid = uid; gid = gid; groups = record { items = groups } }

-- What lists of a file of user 7 and group 50 grant.

-- whether a list grants a caller the permission of an octal digit
abbrev is_granted : List Entry → Cred → ℕ → Bool
is_granted list cred digit = grants list cred 7 50 (perm_of digit)

-- a named user, and a mask
abbrev masked : List Entry
masked = entry UserObj 6 ∷ entry (User 1001) 6 ∷ entry GroupObj 4 ∷ entry Mask 4 ∷ entry Other 7 ∷ []

-- two named groups
abbrev grouped : List Entry
grouped = entry UserObj 7 ∷ entry GroupObj 0 ∷ entry (Group 20) 4 ∷ entry (Group 30) 2 ∷ entry Mask 7 ∷ entry Other 7 ∷ []

-- callers, an octal digit, and whether the list grants it
abbrev of_masked : List (Cred × ℕ × Bool)
of_masked =
    -- A named user is limited by the mask, and others' entry does not count.
    (caller 1001 9 [], 4, true) ∷
    (caller 1001 9 [], 2, false) ∷
    -- Groups do not widen a named user, nor does the file's group.
    (caller 1001 50 (20 ∷ []), 2, false) ∷
    -- The owner is not limited by the mask.
    (caller 7 9 [], 6, true) ∷
    (caller 7 9 [], 1, false) ∷
    -- The file's group is limited by the mask, through the gid or a supplementary group.
    (caller 8 50 [], 4, true) ∷
    (caller 8 9 (3 ∷ 50 ∷ []), 4, true) ∷
    (caller 8 50 [], 1, false) ∷
    (caller 8 9 [], 1, true) ∷
    []

masked_grants : map (λ row. is_granted masked row.0 row.1) of_masked ≡ map (λ row. row.2) of_masked
unfolding rows_compute
masked_grants = refl

-- callers, an octal digit, and whether the list grants it
abbrev of_grouped : List (Cred × ℕ × Bool)
of_grouped =
    -- One of the groups has to grant all bits by itself.
    (caller 1001 9 (20 ∷ 30 ∷ []), 4, true) ∷
    (caller 1001 9 (20 ∷ 30 ∷ []), 2, true) ∷
    (caller 1001 9 (20 ∷ 30 ∷ []), 6, false) ∷
    (caller 1001 9 (20 ∷ []), 1, false) ∷
    (caller 1001 9 [], 1, true) ∷
    (caller 1001 30 [], 2, true) ∷
    (caller 1001 50 [], 4, false) ∷
    (caller 1001 50 (20 ∷ []), 4, true) ∷
    (caller 7 9 (20 ∷ []), 1, true) ∷
    (caller 1001 50 [], 0, true) ∷
    []

grouped_grants : map (λ row. is_granted grouped row.0 row.1) of_grouped ≡ map (λ row. row.2) of_grouped
unfolding rows_compute
grouped_grants = refl

-- Lists and the nine bits of a mode. Where a list has a mask, the bits of the group are the mask's.

abbrev with_user : ℕ → ℕ → ℕ → ℕ → List Entry
with_user user group mask other = entry UserObj user ∷ entry (User 7) 7 ∷ entry GroupObj group ∷ entry Mask mask ∷ entry Other other ∷ []

abbrev mask_executes : List Entry
mask_executes = entry UserObj 6 ∷ entry GroupObj 4 ∷ entry Mask 1 ∷ entry Other 0 ∷ []

list_of_a_mode : minimal_list (mode 6 4 0) ≡ digits_of 6 4 0
unfolding rows_compute
list_of_a_mode = refl

modes_of_lists : map mode_of (digits_of 6 4 0 ∷ with_user 6 7 5 2 ∷ []) ≡ mode 6 4 0 ∷ mode 6 5 2 ∷ []
unfolding rows_compute
modes_of_lists = refl

lists_that_execute : map has_exec (digits_of 6 4 0 ∷ with_user 6 7 5 2 ∷ mask_executes ∷ []) ≡ false ∷ true ∷ true ∷ []
unfolding rows_compute
lists_that_execute = refl

mode_is_put : with_mode (digits_of 6 4 0) (mode 7 0 1) ≡ digits_of 7 0 1
unfolding rows_compute
mode_is_put = refl

mode_is_put_into_the_mask : with_mode (with_user 6 7 5 2) (mode 4 2 1) ≡ with_user 4 7 2 1
unfolding rows_compute
mode_is_put_into_the_mask = refl

list_is_handed_down : inherited_list (digits_of 6 4 0) (mode 4 2 6) ≡ digits_of 4 0 0
unfolding rows_compute
list_is_handed_down = refl

list_with_a_mask_is_handed_down : inherited_list (with_user 6 7 5 2) (mode 4 6 6) ≡ with_user 4 7 4 2
unfolding rows_compute
list_with_a_mask_is_handed_down = refl

-- A list has at most 64 entries.

entries_65_are_too_many : acl_of (replicate 65 (entry UserObj 0)) ≡ Err TooMany
unfolding rows_compute
entries_65_are_too_many = refl

entries_64_are_looked_at : acl_of (replicate 64 (entry UserObj 0)) ≡ Err Twice
unfolding rows_compute
entries_64_are_looked_at = refl

-- Which rule denies the access to a node of user 7 and group 7.

abbrev file : Element → List Entry → Attrs
file element list = record { element = element; owner = 7; group = 7; list = list; is_dir = false }

abbrev dir : Element → List Entry → Attrs
dir element list = record { element = element; owner = 7; group = 7; list = list; is_dir = true }

-- a caller of a uid; 9 is neither the owner nor in the group
abbrev by : ℕ → Cred
by uid = caller uid 100 []

-- a subject with one element for its three parts
abbrev at : Element → Parts
at element = record { active = element; low = element; high = element }

-- a caller and its label, a node, what is wanted as an octal digit, and the rule that denies it
abbrev wanted : List (Cred × Parts × Attrs × ℕ × Option Rule)
wanted =
    -- Reading down and writing up pass.
    (
      by 9,
      record { active = (Grade 10 (2 ∷ [])); low = (Grade 5 (2 ∷ [])); high = (Grade 20 (2 ∷ 3 ∷ [])) },
      file (Grade 5 (2 ∷ [])) (digits_of 7 7 7),
      4,
      None,
    )
    ∷ (
      by 9,
      record { active = (Grade 5 (2 ∷ [])); low = (Grade 5 (2 ∷ [])); high = (Grade 20 (2 ∷ 3 ∷ [])) },
      file (Grade 10 (2 ∷ [])) (digits_of 7 7 7),
      2,
      None,
    )
    ∷
    (by 9, record { active = (Grade 5 (2 ∷ [])); low = (Grade 5 (2 ∷ [])); high = (Grade 20 (2 ∷ 3 ∷ [])) }, file (Grade 5 (2 ∷ [])) (digits_of 7 7 7), 7, None)
    ∷
    -- Writing down, reading up and executing what is above do not.
    (by 9, at (Grade 10 (2 ∷ [])), file (Grade 5 (2 ∷ [])) (digits_of 7 7 7), 2, Some rule.LabelWrite) ∷
    (by 9, at (Grade 5 (2 ∷ [])), file (Grade 10 (2 ∷ [])) (digits_of 7 7 7), 4, Some rule.LabelRead) ∷
    (by 9, at (Grade 5 (2 ∷ [])), file (Grade 10 (2 ∷ [])) (digits_of 7 7 7), 1, Some rule.LabelRead) ∷
    -- Neither dominates the other: the read is named before the write.
    (by 9, at (Grade 5 (2 ∷ [])), file (Grade 5 (3 ∷ [])) (digits_of 7 7 7), 6, Some rule.LabelRead) ∷
    (by 9, at Low, file Low (digits_of 7 0 0), 4, Some rule.List) ∷
    (by 9, at Low, dir Low (digits_of 7 0 0), 1, Some rule.Search) ∷
    -- A superuser is refused no more than to execute a file without any x.
    (by 0, at Low, file Low (digits_of 7 0 0), 7, None) ∷
    (by 0, at Low, file Low (digits_of 6 6 6), 1, Some rule.List) ∷
    (by 0, at Low, dir Low (digits_of 6 6 6), 1, None) ∷
    -- The label before the list, and also of a superuser.
    (by 9, at (Grade 5 (2 ∷ [])), file (Grade 10 (2 ∷ [])) (digits_of 7 0 0), 4, Some rule.LabelRead) ∷
    (by 0, at (Grade 5 (2 ∷ [])), file (Grade 10 (2 ∷ [])) (digits_of 7 0 0), 4, Some rule.LabelRead) ∷
    []

-- what denies a wanted access
abbrev denied : Cred → Parts → Attrs → ℕ → Option Rule
denied cred label node digit = refusal cred label node (perm_of digit).read (perm_of digit).write (perm_of digit).exec

each_access_is_denied_by_its_first_rule : map (λ row. denied row.0 row.1 row.2 row.3) wanted ≡ map (λ row. row.4) wanted
unfolding rows_compute
each_access_is_denied_by_its_first_rule = refl
