-- Lists and modes.
use Rattle.std.proofs.Common.{◌≡◌, ℕ, ◌<◌, true, List, length, get_or, drop, refl, ◌∙◌}
use Rattle.std.proofs.lemmas.List.{at_drop_more}
use Rattle.acl_core.specs.declared.entry.Tag.{Tag}
use Rattle.acl_core.specs.declared.entry.Entry.{Entry}
use Rattle.acl_core.specs.Perm.{digit_of}
use Rattle.acl_core.specs.Entry.{same_tag, perms_at}
use Rattle.std.specs.Prelude.{unwrap_or}
use Rattle.acl_core.specs.Acl.{IsAcl}
use Rattle.std.specs.List.Sorted.{IsStrictlySortedBy}
use Rattle.acl_core.specs.Mode.{digit_of_one, minimal_list, bits_for, class_tag, with_mode, limit_to, inherited_list}
use Rattle.acl_core.proofs.SameTagLemmas.{with_perm_is_acl}

-- the digit of the next entry, where it has the tag
pub digit_of_next : (tag : Tag) (list : List Entry) (i : ℕ) (d : Entry) → i < length list → same_tag (get_or list i d).tag tag ≡ true
    → digit_of_one (perms_at tag (drop i list)) ≡ digit_of (get_or list i d).perm
digit_of_next tag list i d below same = at_drop_more (λ (xs : List Entry). digit_of_one (perms_at tag xs)) list i d below ∙ rw same refl

-- a valid list stays valid with the bits of a mode
pub with_mode_is_acl : (list : List Entry) (mode : ℕ) → IsAcl list → IsAcl (with_mode list mode)
unfolding with_mode
with_mode_is_acl list mode acl = with_perm_is_acl (λ e. unwrap_or (bits_for (class_tag list) mode e.tag) e.perm) list acl

-- a valid list stays valid when it is limited by a mode
pub inherited_is_acl : (list : List Entry) (mode : ℕ) → IsAcl list → IsAcl (inherited_list list mode)
unfolding inherited_list
inherited_is_acl list mode acl = with_perm_is_acl (λ e. limit_to e.perm (bits_for (class_tag list) mode e.tag)) list acl

-- the list of a mode is valid
pub minimal_is_acl : (mode : ℕ) → IsAcl (minimal_list mode)
unfolding IsStrictlySortedBy minimal_list
minimal_is_acl mode = record {
  valid = refl;
  order = ((refl, (refl, tt)), ((refl, tt), (tt, tt)));
}
