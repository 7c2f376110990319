-- A list with other permissions and the same tags.
use Rattle.std.proofs.Common.{◌≡◌, Bool, ◌||◌, List, [], ◌∷◌, length, suc, refl, sym, ap, subst, ◌∙◌}
use Rattle.std.specs.Prelude.{map}
use Rattle.std.specs.List.{list_any}
use Rattle.std.specs.List.Sorted.{IsStrictlySortedBy}
use Rattle.acl_core.specs.declared.perm.Perm.{Perm}
use Rattle.acl_core.specs.declared.entry.Tag.{Tag}
use Rattle.acl_core.specs.declared.entry.Tag.TheVariants.{UserObj, GroupObj, Mask, Other}
use Rattle.acl_core.specs.declared.entry.Entry.{Entry}
use Rattle.acl_core.specs.Entry.{tag_cmp, same_tag, has_tag}
use Rattle.acl_core.specs.Acl.{has_twice, is_named, has_named, fault_of, IsAcl}

module _ (perm : Entry → Perm) where
  -- the entry with the permission that perm gives it
  abbrev pub with_perm : Entry → Entry
  with_perm e = record { tag = e.tag; perm = perm e }

  -- the tags pass a test as before
  pub any_tag : (test : Tag → Bool) (list : List Entry) → list_any (λ e. test e.tag) (map with_perm list) ≡ list_any (λ e. test e.tag) list
  any_tag test [] = refl
  any_tag test (e ∷ list) = ap (λ b. test e.tag || b) (any_tag test list)

  -- a tag stands twice as before
  twice : (list : List Entry) → has_twice (map with_perm list) ≡ has_twice list
  twice [] = refl
  twice (e ∷ list) = ap (λ b. b || has_twice (map with_perm list)) (any_tag (λ t. same_tag t e.tag) list) ∙ ap (λ b. has_tag e.tag list || b) (twice list)

  -- as many entries as before
  len : (list : List Entry) → length (map with_perm list) ≡ length list
  len [] = refl
  len (e ∷ list) = ap suc (len list)

  -- the tags are as before
  pub tags : (list : List Entry) → map (λ e. e.tag) (map with_perm list) ≡ map (λ e. e.tag) list
  tags [] = refl
  tags (e ∷ list) = ap (λ others. e.tag ∷ others) (tags list)

  -- the fault is as before
  pub fault_of-changed : (list : List Entry) → fault_of (map with_perm list) ≡ fault_of list
  fault_of-changed list =
      let has : (tag : Tag) → has_tag tag (map with_perm list) ≡ has_tag tag list = λ tag. any_tag (λ t. same_tag t tag) list in
      let named : has_named (map with_perm list) ≡ has_named list = any_tag is_named list in
      rw (len list, twice list, has UserObj, has GroupObj, has Other, has Mask, named) refl

  -- a valid list stays valid
  pub with_perm_is_acl : (list : List Entry) → IsAcl list → IsAcl (map with_perm list)
  with_perm_is_acl list acl = record {
    valid = fault_of-changed list ∙ acl.valid;
    order = subst (IsStrictlySortedBy tag_cmp) (sym (tags list)) acl.order;
  }
