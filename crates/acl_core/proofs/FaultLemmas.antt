-- What a list without a fault is.
use Rattle.std.proofs.Common.{◌≡◌, ◌≤◌, Bool, true, false, cond, not, ◌&&◌, ltb, List, length, Option, Some, None, Ok, ◌⊎◌, inl, inr, refl, sym, ap, ◌∙◌, arith}
use Rattle.std.proofs.lemmas.List.Sorted.{length_permutation, list_any-IsPermutation, IsPermutation-sym, IsPermutation-trans}
use Rattle.std.specs.List.Sorted.{IsPermutation}
use Rattle.std.proofs.lemmas.Bool.{ltb-false, le-ltb, not-false, cases_Bool, both_ways}
use Rattle.acl_core.specs.declared.valid.AclFault.{AclFault}
use Rattle.acl_core.specs.declared.valid.AclFault.TheVariants.{TooMany, Twice, Missing, NoMask}
use Rattle.acl_core.specs.declared.entry.Entry.{Entry}
use Rattle.acl_core.specs.declared.entry.Tag.{Tag}
use Rattle.acl_core.specs.declared.entry.Tag.TheVariants.{UserObj, GroupObj, Mask, Other}
use Rattle.acl_core.specs.Entry.{same_tag, has_tag}
use Rattle.acl_core.specs.Acl.{has_twice, has_required, is_named, has_named, fault_of, in_order, list_or_fault, acl_of, IsAcl}
use Rattle.acl_core.proofs.OrderLemmas.{in_order_permutes, any_in_order, in_order_ordered, once_permutation, ordered_same, in_permutation, sorted_tags}

-- a test that found no fault
passed : (b : Bool) (fault : AclFault) (rest : Option AclFault) → cond b (Some fault) rest ≡ None → (b ≡ false) × (rest ≡ None)
passed true fault rest h = absurd cc
passed false fault rest h = (refl, h)

-- what a list without a fault is, part by part
pub record IsValid (list : List Entry) : Type 0 where
  pub most : length list ≤ 64
  pub once : has_twice list ≡ false
  pub required : has_required list ≡ true
  pub masked : (has_named list && not (has_tag Mask list)) ≡ false

-- a list without a fault is valid
pub valid_from_no_fault : (list : List Entry) → fault_of list ≡ None → IsValid list
valid_from_no_fault list h =
    let a =
    passed (ltb 64 (length list)) TooMany
    (cond (has_twice list) (Some Twice)
    (cond (not (has_required list)) (Some Missing) (cond (has_named list && not (has_tag Mask list)) (Some NoMask) None)))
    h in
    let b =
    passed (has_twice list) Twice (cond (not (has_required list)) (Some Missing) (cond (has_named list && not (has_tag Mask list)) (Some NoMask) None)) a.1 in
    let c = passed (not (has_required list)) Missing (cond (has_named list && not (has_tag Mask list)) (Some NoMask) None) b.1 in
    let d = passed (has_named list && not (has_tag Mask list)) NoMask None c.1 in
    record {
      most = ltb-false _ _ a.0;
      once = b.0;
      required = not-false _ c.0;
      masked = d.0;
    }

-- a valid list has no fault
pub no_fault : (list : List Entry) → IsValid list → fault_of list ≡ None
no_fault list v = rw (le-ltb 64 (length list) v.most, v.once, v.required, v.masked) refl

-- valid entries make a list that is valid and in order
pub in_order_is_acl : (list : List Entry) → fault_of list ≡ None → IsAcl (in_order list)
in_order_is_acl list h =
    let v = valid_from_no_fault list h in
    let permutes = in_order_permutes list in
    let has : (tag : Tag) → has_tag tag (in_order list) ≡ has_tag tag list = λ tag. any_in_order (λ e. same_tag e.tag tag) list in
    let named : has_named (in_order list) ≡ has_named list = any_in_order (λ e. is_named e.tag) list in
    record {
      valid = no_fault (in_order list) (record {
        most = omega (arith, length_permutation list (in_order list) permutes, v.most);
        once = once_permutation list (in_order list) permutes v.once;
        required = rw (has UserObj, has GroupObj, has Other) v.required;
        masked = rw (named, has Mask) v.masked;
      });
      order = sorted_tags (in_order list) (in_order_ordered list v.once);
    }

-- ---- the same entries in another order

-- a tag stands twice in both lists or in neither
same_once : (xs ys : List Entry) → IsPermutation xs ys → has_twice xs ≡ has_twice ys
same_once xs ys p =
    elim (cases_Bool (has_twice xs)) [
      | inr once ↦ once ∙ sym (once_permutation xs ys p once)
      | inl twice ↦ elim (cases_Bool (has_twice ys)) [
        | inl also ↦ twice ∙ sym also
        | inr once ↦ absurd (both_ways (has_twice xs) (once_permutation ys xs (IsPermutation-sym xs ys p) once) twice)
      ]
    ]

-- both lists have the same fault
same_fault : (xs ys : List Entry) → IsPermutation xs ys → fault_of xs ≡ fault_of ys
same_fault xs ys p =
    let len : length xs ≡ length ys = sym (length_permutation xs ys p) in
    let has : (tag : Tag) → has_tag tag xs ≡ has_tag tag ys = λ tag. list_any-IsPermutation (λ e. same_tag e.tag tag) xs ys p in
    let named : has_named xs ≡ has_named ys = list_any-IsPermutation (λ e. is_named e.tag) xs ys p in
    rw (len, same_once xs ys p, has UserObj, has GroupObj, has Other, has Mask, named) refl

-- both lists are one list when they are put in order
same_order : (xs ys : List Entry) → IsPermutation xs ys → has_twice xs ≡ false → in_order xs ≡ in_order ys
same_order xs ys p once =
    let across : IsPermutation (in_order xs) (in_order ys) =
    IsPermutation-trans (in_order xs) xs (in_order ys) (IsPermutation-sym xs (in_order xs) (in_order_permutes xs))
    (IsPermutation-trans xs ys (in_order ys) p (in_order_permutes ys)) in
    ordered_same (in_order xs) (in_order ys) (in_order_ordered xs once) (in_order_ordered ys (once_permutation xs ys p once))
    (in_permutation (in_order xs) (in_order ys) across)
    (in_permutation (in_order ys) (in_order xs) (IsPermutation-sym (in_order xs) (in_order ys) across))

-- a fault, or none
fault_or_none : (o : Option AclFault) → (o ≡ None) ⊎ ((fault : AclFault) × (o ≡ Some fault))
fault_or_none None = inl refl
fault_or_none (Some fault) = inr (fault, refl)

-- both lists make the same list, or have the same fault
pub same_acl : (xs ys : List Entry) → IsPermutation xs ys → acl_of xs ≡ acl_of ys
unfolding acl_of
same_acl xs ys p =
    let fault = same_fault xs ys p in
    elim (fault_or_none (fault_of xs)) [
      | inl none ↦
          let also : fault_of ys ≡ None = sym fault ∙ none in
          ap (list_or_fault xs) none ∙ ap (λ (list : List Entry). Ok list) (same_order xs ys p (valid_from_no_fault xs none).once)
          ∙ ap (list_or_fault ys) (sym also)
      | inr some ↦
          let also : fault_of ys ≡ Some some.0 = sym fault ∙ some.1 in
          ap (list_or_fault xs) some.1 ∙ ap (list_or_fault ys) (sym also)
    ]
