-- What the deciding class says of owners, users, groups and masks.
use Rattle.std.proofs.Common.{◌≡◌, ◌≢◌, ℕ, inl, inr, Bool, true, false, ◌&&◌, ◌||◌, eqb, List, [], ◌∷◌, refl, sym, ap, subst, ◌∙◌}
use Rattle.std.specs.List.{Contains, list_any}
use Rattle.std.proofs.lemmas.Bool.{cases_Bool, both_ways, and_parts, eq-eqb, ne_eqb}
use Rattle.std.proofs.Math.Bool.{or-false, and-true}
use Rattle.acl_core.specs.declared.perm.Perm.{Perm}
use Rattle.acl_core.specs.declared.cred.Cred.{Cred}
use Rattle.acl_core.specs.declared.entry.Tag.{Tag}
use Rattle.acl_core.specs.declared.entry.Tag.TheVariants.{UserObj, User, Mask, Other}
use Rattle.acl_core.specs.declared.entry.Entry.{Entry}
use Rattle.acl_core.specs.Perm.{has_all}
use Rattle.acl_core.specs.Entry.{same_tag, has_tag, perms_at, perms_where}
use Rattle.acl_core.specs.Acl.{has_twice, IsAcl}
use Rattle.acl_core.specs.Deciding.{matches_group, limit_by, mask_has, without_mask, grants}
use Rattle.acl_core.proofs.TagLemmas.{same_tag-true, same_tag-itself, entries_with, entries_with_once}
use Rattle.acl_core.proofs.OrderLemmas.{In, in_from_contains}
use Rattle.acl_core.proofs.FaultLemmas.{valid_from_no_fault}
use Rattle.acl_core.proofs.WalkLemmas.{any_limited}

-- an entry that is there has its tag there
in_has_tag : (e : Entry) (list : List Entry) → In e list → has_tag e.tag list ≡ true
in_has_tag e [] i = absurd i
in_has_tag e (f ∷ list) i =
    elim i [
      | inl here ↦
          let same : same_tag f.tag e.tag ≡ true = subst (λ (g : Entry). same_tag g.tag e.tag ≡ true) (sym here) (same_tag-itself e.tag) in rw same refl
      | inr there ↦ rw (in_has_tag e list there) (or_true (same_tag f.tag e.tag))
    ]
  where
    or_true : (b : Bool) → (b || true) ≡ true
    or_true true = refl
    or_true false = refl

-- an entry with a tag is among those with it
in_entries_with : (tag : Tag) (e : Entry) (list : List Entry) → same_tag e.tag tag ≡ true → In e list → In e (entries_with tag list)
in_entries_with tag e [] same i = absurd i
in_entries_with tag e (f ∷ list) same i =
    elim (cases_Bool (same_tag f.tag tag)) [
      | inl has ↦ elim i [
        | inl here ↦ rw has (inl here)
        | inr there ↦ rw has (inr (in_entries_with tag e list same there))
      ]
      | inr lacks ↦ elim i [
        | inl here ↦
            let has : same_tag f.tag tag ≡ true = subst (λ (g : Entry). same_tag g.tag tag ≡ true) (sym here) same in
            absurd (both_ways (same_tag f.tag tag) lacks has)
        | inr there ↦ rw lacks (in_entries_with tag e list same there)
      ]
    ]

-- an entry of a list without repeats is the one with its tag
entry_alone : (e : Entry) (list : List Entry) → has_twice list ≡ false → In e list → entries_with e.tag list ≡ e ∷ []
entry_alone e list once i =
    let found = in_entries_with e.tag e list (same_tag-itself e.tag) i in
    elim (entries_with_once e.tag list once) [
      | inl none ↦ absurd (subst (In e) none found)
      | inr one ↦ elim (subst (In e) one.1 found) [
        | inl same ↦ one.1 ∙ ap (λ (f : Entry). f ∷ []) same
        | inr never ↦ absurd never
      ]
    ]

-- permissions under the mask have the bits where the mask has them too
limited_is : (list : List Entry) (perms : List Perm) (want : Perm) → has_twice list ≡ false
    → list_any (λ p. has_all p want) (limit_by (perms_at Mask list) perms) ≡ (list_any (λ p. has_all p want) perms && mask_has list want)
limited_is list perms want once =
    elim (entries_with_once Mask list once) [
      | inl none ↦ rw none (sym (and-true (list_any (λ p. has_all p want) perms)))
      | inr one ↦ rw one.1 (any_limited one.0.perm want perms ∙ ap (λ b. list_any (λ p. has_all p want) perms && b) (sym (and-true (has_all one.0.perm want))))
    ]

-- no tag stands twice in a valid list
once : (list : List Entry) → IsAcl list → has_twice list ≡ false
once list acl = (valid_from_no_fault list acl.valid).once

-- the owner's entry decides alone
pub owner_alone : (list : List Entry) (cred : Cred) (owner group : ℕ) (perm want : Perm) → IsAcl list
    → cred.uid ≡ owner → Contains list (record { tag = UserObj; perm = perm }) → grants list cred owner group want ≡ has_all perm want
unfolding grants
owner_alone list cred owner group perm want acl is c =
    let e : Entry = record { tag = UserObj; perm = perm } in
    let alone : entries_with UserObj list ≡ e ∷ [] = entry_alone e list (once list acl) (in_from_contains e list c.0 c.1 c.2) in
    rw (eq-eqb cred.uid owner is, alone) (or-false (has_all perm want))

-- a user's entry decides alone, but for the mask
pub user_alone : (list : List Entry) (cred : Cred) (owner group : ℕ) (perm want : Perm) → IsAcl list
    → cred.uid ≢ owner → Contains list (record { tag = User cred.uid; perm = perm })
    → grants list cred owner group want ≡ (has_all perm want && mask_has list want)
unfolding grants
user_alone list cred owner group perm want acl other c =
    let e : Entry = record { tag = User cred.uid; perm = perm } in
    let i = in_from_contains e list c.0 c.1 c.2 in
    let alone : entries_with (User cred.uid) list ≡ e ∷ [] = entry_alone e list (once list acl) i in
    let has : has_tag (User cred.uid) list ≡ true = in_has_tag e list i in
    let not_owner : eqb cred.uid owner ≡ false = ne_eqb cred.uid owner other in
    rw (not_owner, has, alone) (limited_is list (perm ∷ []) want (once list acl) ∙ ap (λ b. b && mask_has list want) (or-false (has_all perm want)))

-- one of some permissions has the bits where one of their entries does
any_where : (test : Tag → Bool) (list : List Entry) (want : Perm)
    → list_any (λ p. has_all p want) (perms_where test list) ≡ list_any (λ e. test e.tag && has_all e.perm want) list
any_where test [] want = refl
any_where test (e ∷ list) want =
    elim (cases_Bool (test e.tag)) [
      | inl passes ↦ rw passes (ap (λ b. has_all e.perm want || b) (any_where test list want))
      | inr fails ↦ rw fails (any_where test list want)
    ]

-- one of the groups decides, but for the mask
pub groups_alone : (list : List Entry) (cred : Cred) (owner group : ℕ) (want : Perm) → IsAcl list
    → cred.uid ≢ owner → has_tag (User cred.uid) list ≡ false → list_any (λ e. matches_group cred group e.tag) list ≡ true
    → grants list cred owner group want ≡ (list_any (λ e. matches_group cred group e.tag && has_all e.perm want) list && mask_has list want)
unfolding grants
groups_alone list cred owner group want acl other no_user matches =
    let not_owner : eqb cred.uid owner ≡ false = ne_eqb cred.uid owner other in
    rw (not_owner, no_user, matches) (limited_is list (perms_where (matches_group cred group) list) want (once list acl)
    ∙ ap (λ b. b && mask_has list want) (any_where (matches_group cred group) list want))

-- others' entry decides alone
pub other_alone : (list : List Entry) (cred : Cred) (owner group : ℕ) (perm want : Perm) → IsAcl list
    → cred.uid ≢ owner → has_tag (User cred.uid) list ≡ false → list_any (λ e. matches_group cred group e.tag) list ≡ false
    → Contains list (record { tag = Other; perm = perm }) → grants list cred owner group want ≡ has_all perm want
unfolding grants
other_alone list cred owner group perm want acl other no_user no_group c =
    let e : Entry = record { tag = Other; perm = perm } in
    let alone : entries_with Other list ≡ e ∷ [] = entry_alone e list (once list acl) (in_from_contains e list c.0 c.1 c.2) in
    let not_owner : eqb cred.uid owner ≡ false = ne_eqb cred.uid owner other in
    rw (not_owner, no_user, no_group, alone) (or-false (has_all perm want))

-- ---- a list as if it had no mask

module _ (test : Tag → Bool) (no_mask : test Mask ≡ false) where
  -- a mask fails the test
  mask_fails : (e : Entry) → same_tag e.tag Mask ≡ true → test e.tag ≡ false
  mask_fails e is = ap test (same_tag-true e.tag Mask is) ∙ no_mask

  -- the permissions that pass are the same without the mask
  perms_without : (list : List Entry) → perms_where test (without_mask list) ≡ perms_where test list
  perms_without [] = refl
  perms_without (e ∷ list) =
      elim (cases_Bool (same_tag e.tag Mask)) [
        | inl is ↦ rw (is, mask_fails e is) (perms_without list)
        | inr other ↦ elim (cases_Bool (test e.tag)) [
          | inl passes ↦ rw (other, passes) (ap (λ perms. e.perm ∷ perms) (perms_without list))
          | inr fails ↦ rw (other, fails) (perms_without list)
        ]
      ]

  -- an entry passes without the mask where one does with it
  any_without : (list : List Entry) → list_any (λ e. test e.tag) (without_mask list) ≡ list_any (λ e. test e.tag) list
  any_without [] = refl
  any_without (e ∷ list) =
      elim (cases_Bool (same_tag e.tag Mask)) [
        | inl is ↦ rw (is, mask_fails e is) (any_without list)
        | inr other ↦ rw other (ap (λ b. test e.tag || b) (any_without list))
      ]

-- without its mask a list has no mask
no_mask_left : (list : List Entry) → perms_at Mask (without_mask list) ≡ []
no_mask_left [] = refl
no_mask_left (e ∷ list) =
    elim (cases_Bool (same_tag e.tag Mask)) [
      | inl is ↦ rw is (no_mask_left list)
      | inr other ↦ rw (other, other) (no_mask_left list)
    ]

-- what the mask limits has the bits before
unlimited : (masks perms : List Perm) (want : Perm) → list_any (λ p. has_all p want) (limit_by masks perms) ≡ true → list_any (λ p. has_all p want) perms ≡ true
unlimited [] perms want h = h
unlimited (mask ∷ masks) perms want h = (and_parts _ _ (sym (any_limited mask want perms) ∙ h)).0

-- what is granted with the mask is granted without it
pub mask_narrows : (list : List Entry) (cred : Cred) (owner group : ℕ) (want : Perm) → grants list cred owner group want ≡ true
    → grants (without_mask list) cred owner group want ≡ true
unfolding grants
mask_narrows list cred owner group want h =
    let user = λ (t : Tag). same_tag t (User cred.uid) in
    let owners : perms_at UserObj (without_mask list) ≡ perms_at UserObj list = perms_without (λ t. same_tag t UserObj) refl list in
    let users : perms_at (User cred.uid) (without_mask list) ≡ perms_at (User cred.uid) list = perms_without user refl list in
    let groups : perms_where (matches_group cred group) (without_mask list) ≡ perms_where (matches_group cred group) list =
    perms_without (matches_group cred group) refl list in
    let others : perms_at Other (without_mask list) ≡ perms_at Other list = perms_without (λ t. same_tag t Other) refl list in
    let has_user : has_tag (User cred.uid) (without_mask list) ≡ has_tag (User cred.uid) list = any_without user refl list in
    let has_group : list_any (λ e. matches_group cred group e.tag) (without_mask list) ≡ list_any (λ e. matches_group cred group e.tag) list =
    any_without (matches_group cred group) refl list in
    elim (cases_Bool (eqb cred.uid owner)) [
      | inl owns ↦ let h : list_any (λ p. has_all p want) (perms_at UserObj list) ≡ true = rw owns at h in rw (owns, owners) h
      | inr stranger ↦ elim (cases_Bool (has_tag (User cred.uid) list)) [
        | inl named ↦
            let h : list_any (λ p. has_all p want) (limit_by (perms_at Mask list) (perms_at (User cred.uid) list)) ≡ true = rw (stranger, named) at h in
            rw (stranger, has_user, named, no_mask_left list, users) (unlimited (perms_at Mask list) (perms_at (User cred.uid) list) want h)
        | inr unnamed ↦ elim (cases_Bool (list_any (λ e. matches_group cred group e.tag) list)) [
          | inl matches ↦
              let h : list_any (λ p. has_all p want) (limit_by (perms_at Mask list) (perms_where (matches_group cred group) list)) ≡ true =
              rw (stranger, unnamed, matches) at h in
              rw (stranger, has_user, unnamed, has_group, matches, no_mask_left list, groups)
              (unlimited (perms_at Mask list) (perms_where (matches_group cred group) list) want h)
          | inr none ↦
              let h : list_any (λ p. has_all p want) (perms_at Other list) ≡ true = rw (stranger, unnamed, none) at h in
              rw (stranger, has_user, unnamed, has_group, none, others) h
        ]
      ]
    ]
