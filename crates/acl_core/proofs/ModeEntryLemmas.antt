-- What a mode does to single entries of a list.
use Rattle.std.proofs.Common.{◌≡◌, ℕ, Bool, true, false, cond, List, Some, None, refl, ap, subst, ◌∙◌}
use Rattle.std.specs.Prelude.{map, unwrap_or, IsTrue}
use Rattle.std.specs.List.{Contains}
use Rattle.std.proofs.lemmas.List.{get_or-map, length-map}
use Rattle.acl_core.specs.declared.perm.Perm.{Perm}
use Rattle.acl_core.specs.declared.entry.Tag.{Tag}
use Rattle.acl_core.specs.declared.entry.Tag.TheVariants.{UserObj, User, GroupObj, Group, Mask, Other}
use Rattle.acl_core.specs.declared.entry.Entry.{Entry}
use Rattle.acl_core.specs.Perm.{common}
use Rattle.acl_core.specs.Entry.{has_tag}
use Rattle.acl_core.specs.Acl.{is_named}
use Rattle.acl_core.specs.Mode.{owner_bits, group_bits, other_bits, class_tag, bits_for, with_mode, limit_to, inherited_list}
use Rattle.acl_core.proofs.SameTagLemmas.{with_perm, tags}

-- each entry of a list stands in the changed list with its new permission
contains_with_perm : (perm : Entry → Perm) (list : List Entry) (e : Entry) → Contains list e → Contains (map (with_perm perm) list) (with_perm perm e)
contains_with_perm perm list e there =
    let below = there.1 in
    (there.0, rw (length-map list (with_perm perm)) below, get_or-map (with_perm perm) list there.0 e (with_perm perm e) below ∙ ap (with_perm perm) there.2)

-- the same with the permission said
stands_with : (perm : Entry → Perm) (list : List Entry) (e : Entry) (bits : Perm) → perm e ≡ bits → Contains list e
    → Contains (map (with_perm perm) list) (record { tag = e.tag; perm = bits })
stands_with perm list e bits is there =
    subst (λ p. Contains (map (with_perm perm) list) (record { tag = e.tag; perm = p })) is (contains_with_perm perm list e there)

-- no bits of a mode are for a named user or group, nor for the file's group under a mask
no_bits_named : (masked : Bool) (mode : ℕ) (tag : Tag) → IsTrue (is_named tag) → bits_for (cond masked Mask GroupObj) mode tag ≡ None
no_bits_named true mode (User n) named = refl
no_bits_named false mode (User n) named = refl
no_bits_named true mode (Group n) named = refl
no_bits_named false mode (Group n) named = refl
no_bits_named masked mode UserObj named = absurd cc
no_bits_named masked mode GroupObj named = absurd cc
no_bits_named masked mode Mask named = absurd cc
no_bits_named masked mode Other named = absurd cc

no_bits_under_mask : (masked : Bool) (mode : ℕ) (tag : Tag) → masked ≡ true → tag ≡ GroupObj → bits_for (cond masked Mask GroupObj) mode tag ≡ None
no_bits_under_mask masked mode tag is_masked is_group = rw (is_masked, is_group) refl

-- others' bits are for others, whatever the class of the group
other_bits_are : (masked : Bool) (mode : ℕ) → bits_for (cond masked Mask GroupObj) mode Other ≡ Some (other_bits mode)
other_bits_are true mode = refl
other_bits_are false mode = refl

-- ---- a mode that is given to a list

abbrev mode_perm : List Entry → ℕ → Entry → Perm
mode_perm list mode e = unwrap_or (bits_for (class_tag list) mode e.tag) e.perm

pub with_mode_tags : (list : List Entry) (mode : ℕ) → map (λ e. e.tag) (with_mode list mode) ≡ map (λ e. e.tag) list
unfolding with_mode
with_mode_tags list mode = tags (mode_perm list mode) list

pub with_mode_named : (list : List Entry) (mode : ℕ) (e : Entry) → IsTrue (is_named e.tag) → Contains list e → Contains (with_mode list mode) e
unfolding with_mode
with_mode_named list mode e named there =
    stands_with (mode_perm list mode) list e e.perm (ap (λ bits. unwrap_or bits e.perm) (no_bits_named (has_tag Mask list) mode e.tag named)) there

pub with_mode_group : (list : List Entry) (mode : ℕ) (e : Entry) → has_tag Mask list ≡ true → e.tag ≡ GroupObj → Contains list e
    → Contains (with_mode list mode) e
unfolding with_mode
with_mode_group list mode e masked is_group there =
    stands_with (mode_perm list mode) list e e.perm (ap (λ bits. unwrap_or bits e.perm) (no_bits_under_mask (has_tag Mask list) mode e.tag masked is_group))
    there

-- ---- a list that is inherited

abbrev common_perm : List Entry → ℕ → Entry → Perm
common_perm list mode e = limit_to e.perm (bits_for (class_tag list) mode e.tag)

pub inherited_tags : (list : List Entry) (mode : ℕ) → map (λ e. e.tag) (inherited_list list mode) ≡ map (λ e. e.tag) list
unfolding inherited_list
inherited_tags list mode = tags (common_perm list mode) list

pub inherited_owner : (list : List Entry) (mode : ℕ) (perm : Perm) → Contains list (record { tag = UserObj; perm = perm })
    → Contains (inherited_list list mode) (record { tag = UserObj; perm = common perm (owner_bits mode) })
unfolding inherited_list
inherited_owner list mode perm there =
    stands_with (common_perm list mode) list (record { tag = UserObj; perm = perm }) (common perm (owner_bits mode)) refl there

pub inherited_mask : (list : List Entry) (mode : ℕ) (perm : Perm) → has_tag Mask list ≡ true → Contains list (record { tag = Mask; perm = perm })
    → Contains (inherited_list list mode) (record { tag = Mask; perm = common perm (group_bits mode) })
unfolding inherited_list
inherited_mask list mode perm masked there =
    stands_with (common_perm list mode) list (record { tag = Mask; perm = perm }) (common perm (group_bits mode))
    (ap (λ b. limit_to perm (bits_for (cond b Mask GroupObj) mode Mask)) masked) there

pub inherited_group : (list : List Entry) (mode : ℕ) (perm : Perm) → has_tag Mask list ≡ false → Contains list (record { tag = GroupObj; perm = perm })
    → Contains (inherited_list list mode) (record { tag = GroupObj; perm = common perm (group_bits mode) })
unfolding inherited_list
inherited_group list mode perm bare there =
    stands_with (common_perm list mode) list (record { tag = GroupObj; perm = perm }) (common perm (group_bits mode))
    (ap (λ b. limit_to perm (bits_for (cond b Mask GroupObj) mode GroupObj)) bare) there

pub inherited_other : (list : List Entry) (mode : ℕ) (perm : Perm) → Contains list (record { tag = Other; perm = perm })
    → Contains (inherited_list list mode) (record { tag = Other; perm = common perm (other_bits mode) })
unfolding inherited_list
inherited_other list mode perm there =
    stands_with (common_perm list mode) list (record { tag = Other; perm = perm }) (common perm (other_bits mode))
    (ap (limit_to perm) (other_bits_are (has_tag Mask list) mode)) there

pub inherited_named : (list : List Entry) (mode : ℕ) (e : Entry) → IsTrue (is_named e.tag) → Contains list e → Contains (inherited_list list mode) e
unfolding inherited_list
inherited_named list mode e named there =
    stands_with (common_perm list mode) list e e.perm (ap (limit_to e.perm) (no_bits_named (has_tag Mask list) mode e.tag named)) there

pub inherited_under_mask : (list : List Entry) (mode : ℕ) (e : Entry) → has_tag Mask list ≡ true → e.tag ≡ GroupObj → Contains list e
    → Contains (inherited_list list mode) e
unfolding inherited_list
inherited_under_mask list mode e masked is_group there =
    stands_with (common_perm list mode) list e e.perm (ap (limit_to e.perm) (no_bits_under_mask (has_tag Mask list) mode e.tag masked is_group)) there
