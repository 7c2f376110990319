-- What lists and modes have to do with each other.
use Rattle.std.proofs.Common.{◌≡◌, ℕ, ◌+◌, ◌*◌, ◌/◌, ◌%◌, ◌<◌, ◌≤◌, inl, inr, Bool, true, false, cond, ◌||◌, eqb, List, [], ◌∷◌, Option, Some, None, refl, sym, ap, subst, ◌∙◌, arith}
use Rattle.std.specs.Prelude.{map, unwrap_or}
use Rattle.std.specs.List.{list_any}
use Rattle.std.proofs.lemmas.Bool.{cases_Bool, and_parts, and_from, or_cases, or_left, or_right, eqb-true, agree_below_at}
use Rattle.std.proofs.Math.Bool.{or-false}
use Rattle.acl_core.specs.declared.perm.Perm.{Perm}
use Rattle.acl_core.specs.declared.cred.Cred.{Cred}
use Rattle.acl_core.specs.declared.entry.Tag.{Tag}
use Rattle.acl_core.specs.declared.entry.Tag.TheVariants.{UserObj, User, GroupObj, Mask, Other}
use Rattle.acl_core.specs.declared.entry.Entry.{Entry}
use Rattle.acl_core.specs.Perm.{digit_of, perm_of, has_all, common}
use Rattle.acl_core.specs.Entry.{same_tag, has_tag, perms_at, perms_where}
use Rattle.acl_core.specs.Acl.{IsAcl}
use Rattle.acl_core.specs.Deciding.{in_group, matches_group, limit_by, grants}
use Rattle.acl_core.specs.Mode.{owner_bits, group_bits, other_bits, class_bits, minimal_list, class_tag, digit_of_one, mode_of, bits_for, with_mode, limit_to, inherited_list}
use Rattle.acl_core.proofs.TagLemmas.{same_tag-true, entries_with, entries_with_once, list_any_is, has_some}
use Rattle.acl_core.proofs.FaultLemmas.{valid_from_no_fault}
use Rattle.acl_core.proofs.WalkLemmas.{has_all-common}
use Rattle.acl_core.proofs.SameTagLemmas.{with_perm, any_tag}

-- ---- the nine bits

-- what three entries grant, by the class of the caller
nine_bits : (o g t want : Perm) (is_owner matches : Bool)
    → list_any (λ p. has_all p want)
    (cond is_owner (o ∷ [])
    (cond (matches || (false || false)) (map (λ (e : Entry). e.perm) (cond matches (record { tag = GroupObj; perm = g } ∷ []) [])) (t ∷ [])))
    ≡ has_all (cond is_owner o (cond matches g t)) want
nine_bits o g t want true matches = or-false (has_all o want)
nine_bits o g t want false true = or-false (has_all g want)
nine_bits o g t want false false = or-false (has_all t want)

-- the list of a mode grants what the bits of the class grant
pub minimal_grants : (mode : ℕ) (cred : Cred) (owner group : ℕ) (want : Perm)
    → grants (minimal_list mode) cred owner group want ≡ has_all (class_bits mode (eqb cred.uid owner) (in_group cred group)) want
unfolding grants minimal_list
minimal_grants mode cred owner group want = nine_bits (owner_bits mode) (group_bits mode) (other_bits mode) want (eqb cred.uid owner) (in_group cred group)

-- ---- the mode of a list

-- the permission of a digit has that digit
digit_kept : (n : ℕ) → n < 8 → digit_of (perm_of n) ≡ n
digit_kept n below = eqb-true _ _ (agree_below_at (λ n. eqb (digit_of (perm_of n)) n) (λ _. true) 8 n refl below)

-- a mode is its three digits
three_digits : (mode : ℕ) → mode ≤ 511 → digit_of (owner_bits mode) * 64 + digit_of (group_bits mode) * 8 + digit_of (other_bits mode) ≡ mode
three_digits mode most = rw (digit_kept (mode / 64) (omega arith), digit_kept (mode / 8 % 8) (omega arith), digit_kept (mode % 8) (omega arith)) (omega arith)

-- the list of a mode has it
pub minimal_mode : (mode : ℕ) → mode ≤ 511 → mode_of (minimal_list mode) ≡ mode
unfolding mode_of minimal_list
minimal_mode mode most = three_digits mode most

-- the one entry with a tag
one_with : (tag : Tag) (list : List Entry) → IsAcl list → has_tag tag list ≡ true → (e : Entry) × (entries_with tag list ≡ e ∷ [])
one_with tag list acl has =
    elim (entries_with_once tag list (valid_from_no_fault list acl.valid).once) [
      | inl none ↦
          let lacks : has_tag tag list ≡ false = list_any_is (λ e. same_tag e.tag tag) list ∙ ap has_some none in
          absurd cc
      | inr one ↦ one
    ]

-- the entries with a tag after a change are those before, changed
entries_with_perm : (perm : Entry → Perm) (tag : Tag) (list : List Entry)
    → entries_with tag (map (with_perm perm) list) ≡ map (with_perm perm) (entries_with tag list)
entries_with_perm perm tag [] = refl
entries_with_perm perm tag (e ∷ list) =
    elim (cases_Bool (same_tag e.tag tag)) [
      | inl has ↦ rw has (ap (λ others. with_perm perm e ∷ others) (entries_with_perm perm tag list))
      | inr lacks ↦ rw lacks (entries_with_perm perm tag list)
    ]

-- each entry with a tag has it
tags_are : (tag : Tag) (list : List Entry) (e : Entry) (rest : List Entry) → entries_with tag list ≡ e ∷ rest → e.tag ≡ tag
tags_are tag [] e rest is = absurd cc
tags_are tag (f ∷ list) e rest is =
    elim (cases_Bool (same_tag f.tag tag)) [
      | inl has ↦
          let here : f ∷ entries_with tag list ≡ e ∷ rest = rw has at is in
          let head : f ≡ e = cc in
          ap (λ (g : Entry). g.tag) (sym head) ∙ same_tag-true f.tag tag has
      | inr lacks ↦ let there : entries_with tag list ≡ e ∷ rest = rw lacks at is in tags_are tag list e rest there
    ]

-- the digit that an entry with a tag has after a change
with_perm_digit : (perm : Entry → Perm) (bits : Perm) (tag : Tag) (list : List Entry) → IsAcl list → has_tag tag list ≡ true
    → ((e : Entry) → e.tag ≡ tag → perm e ≡ bits)
    → digit_of_one (perms_at tag (map (with_perm perm) list)) ≡ digit_of bits
with_perm_digit perm bits tag list acl has gives =
    let one = one_with tag list acl has in
    let there : entries_with tag (map (with_perm perm) list) ≡ with_perm perm one.0 ∷ [] = entries_with_perm perm tag list ∙ ap (map (with_perm perm)) one.1 in
    rw there (ap digit_of (gives one.0 (tags_are tag list one.0 [] one.1)))

-- a change of permissions leaves the tag of the group digit
class_tag_changed : (perm : Entry → Perm) (list : List Entry) → class_tag (map (with_perm perm) list) ≡ class_tag list
class_tag_changed perm list = ap (λ b. cond b Mask GroupObj) (any_tag perm (λ t. same_tag t Mask) list)

-- a tag that the group digit may speak of is neither user nor other
abbrev pub IsClass : Tag → Type 0
IsClass tag = (same_tag tag UserObj ≡ false) × (same_tag Other tag ≡ false) × (same_tag tag tag ≡ true)

-- the tag of the group digit is such a tag, and stands in the list
class_is : (list : List Entry) → IsAcl list → IsClass (class_tag list) × (has_tag (class_tag list) list ≡ true)
class_is list acl =
    let v = valid_from_no_fault list acl.valid in
    elim (cases_Bool (has_tag Mask list)) [
      | inl masked ↦ let is : class_tag list ≡ Mask = rw masked refl in subst (λ t. IsClass t × (has_tag t list ≡ true)) (sym is) ((refl, refl, refl), masked)
      | inr bare ↦
          let is : class_tag list ≡ GroupObj = rw bare refl in
          let both = and_parts _ _ v.required in
          subst (λ t. IsClass t × (has_tag t list ≡ true)) (sym is) ((refl, refl, refl), (and_parts _ _ both.0).1)
    ]

-- a list that is given a mode has it
pub with_mode_mode : (list : List Entry) (mode : ℕ) → IsAcl list → mode ≤ 511 → mode_of (with_mode list mode) ≡ mode
unfolding mode_of with_mode
with_mode_mode list mode acl most =
    let v = valid_from_no_fault list acl.valid in
    let both = and_parts _ _ v.required in
    let class = class_tag list in
    let c = class_is list acl in
    let perm : Entry → Perm = λ e. unwrap_or (bits_for class mode e.tag) e.perm in
    let owner : digit_of_one (perms_at UserObj (with_mode list mode)) ≡ digit_of (owner_bits mode) =
    with_perm_digit perm (owner_bits mode) UserObj list acl (and_parts _ _ both.0).0 (λ e is. ap (λ t. unwrap_or (bits_for class mode t) e.perm) is) in
    let group : digit_of_one (perms_at class (with_mode list mode)) ≡ digit_of (group_bits mode) =
    with_perm_digit perm (group_bits mode) class list acl c.1 (λ e is. ap (λ t. unwrap_or (bits_for class mode t) e.perm) is ∙ rw (c.0.0, c.0.2) refl) in
    let other : digit_of_one (perms_at Other (with_mode list mode)) ≡ digit_of (other_bits mode) =
    with_perm_digit perm (other_bits mode) Other list acl both.1 (λ e is. ap (λ t. unwrap_or (bits_for class mode t) e.perm) is ∙ rw c.0.1 refl) in
    rw (owner, class_tag_changed perm list, group, other) (three_digits mode most)

-- ---- lists that grant no more

-- what q has, p has
abbrev pub Within : Perm → Perm → Type 0
Within q p = (want : Perm) → has_all q want ≡ true → has_all p want ≡ true

-- the same place by place
abbrev pub AllWithin : List Perm → List Perm → Type 0
AllWithin [] [] = Unit {0}
AllWithin [] (p ∷ perms) = ⊥
AllWithin (q ∷ narrow) [] = ⊥
AllWithin (q ∷ narrow) (p ∷ perms) = Within q p × AllWithin narrow perms

-- the bits that both have are within the first
common_within : (p q : Perm) → Within (common p q) p
common_within p q want h = (and_parts _ _ (sym (has_all-common p q want) ∙ h)).0

-- a permission limited by bits is within itself
limited_within : (p : Perm) (bits : Option Perm) → Within (limit_to p bits) p
limited_within p (Some bits) = common_within p bits
limited_within p None = λ want h. h

-- the bits that both have stay within, where both do
both_within : (q p m n : Perm) → Within q p → Within m n → Within (common q m) (common p n)
both_within q p m n first second want h =
    let parts = and_parts _ _ (sym (has_all-common q m want) ∙ h) in
    has_all-common p n want ∙ and_from _ _ (first want parts.0) (second want parts.1)

-- where one of the narrower permissions has the bits, one of the others has them
any_within : (narrow perms : List Perm) (want : Perm) → AllWithin narrow perms → list_any (λ p. has_all p want) narrow ≡ true
    → list_any (λ p. has_all p want) perms ≡ true
any_within [] perms want within h = absurd cc
any_within (q ∷ narrow) [] want within h = absurd within
any_within (q ∷ narrow) (p ∷ perms) want within h =
    elim (or_cases (has_all q want) (list_any (λ p. has_all p want) narrow) h) [
      | inl first ↦ or_left (has_all p want) (list_any (λ p. has_all p want) perms) (within.0 want first)
      | inr rest ↦ or_right (has_all p want) (list_any (λ p. has_all p want) perms) (any_within narrow perms want within.1 rest)
    ]

-- permissions under a narrower mask are narrower
masked_within : (mask : Perm) (other : Perm) (narrow perms : List Perm) → Within mask other → AllWithin narrow perms
    → AllWithin (map (λ p. common p mask) narrow) (map (λ p. common p other) perms)
masked_within mask other [] [] m within = tt
masked_within mask other [] (p ∷ perms) m within = absurd within
masked_within mask other (q ∷ narrow) [] m within = absurd within
masked_within mask other (q ∷ narrow) (p ∷ perms) m within = (both_within q p mask other within.0 m, masked_within mask other narrow perms m within.1)

-- permissions limited by narrower masks are narrower
limits_within : (masks others narrow perms : List Perm) → AllWithin masks others → AllWithin narrow perms
    → AllWithin (limit_by masks narrow) (limit_by others perms)
limits_within [] [] narrow perms m within = within
limits_within [] (other ∷ others) narrow perms m within = absurd m
limits_within (mask ∷ masks) [] narrow perms m within = absurd m
limits_within (mask ∷ masks) (other ∷ others) narrow perms m within = masked_within mask other narrow perms m.0 within

module _ (perm : Entry → Perm) (narrows : (e : Entry) → Within (perm e) e.perm) where
  -- a change that narrows each entry narrows those that pass a test
  perms_within : (test : Tag → Bool) (list : List Entry) → AllWithin (perms_where test (map (with_perm perm) list)) (perms_where test list)
  perms_within test [] = tt
  perms_within test (e ∷ list) =
      elim (cases_Bool (test e.tag)) [
        | inl passes ↦ rw passes (narrows e, perms_within test list)
        | inr fails ↦ rw fails (perms_within test list)
      ]

  -- what is granted after such a change was granted before
  with_perm_grants : (list : List Entry) (cred : Cred) (owner group : ℕ) (want : Perm) → grants (map (with_perm perm) list) cred owner group want ≡ true
      → grants list cred owner group want ≡ true
  unfolding grants
  with_perm_grants list cred owner group want h =
      let user = λ (t : Tag). same_tag t (User cred.uid) in
      let matches = matches_group cred group in
      let masks = perms_within (λ t. same_tag t Mask) list in
      let has_user : has_tag (User cred.uid) (map (with_perm perm) list) ≡ has_tag (User cred.uid) list = any_tag perm user list in
      let has_group : list_any (λ e. matches_group cred group e.tag) (map (with_perm perm) list) ≡ list_any (λ e. matches_group cred group e.tag) list =
      any_tag perm matches list in
      elim (cases_Bool (eqb cred.uid owner)) [
        | inl owns ↦
            let h : list_any (λ p. has_all p want) (perms_at UserObj (map (with_perm perm) list)) ≡ true = rw owns at h in
            rw owns (any_within (perms_at UserObj (map (with_perm perm) list)) (perms_at UserObj list) want (perms_within (λ t. same_tag t UserObj) list) h)
        | inr stranger ↦ elim (cases_Bool (has_tag (User cred.uid) list)) [
          | inl named ↦
              let narrow = limit_by (perms_at Mask (map (with_perm perm) list)) (perms_at (User cred.uid) (map (with_perm perm) list)) in
              let h : list_any (λ p. has_all p want) narrow ≡ true = rw (stranger, has_user, named) at h in
              rw (stranger, named) (any_within narrow (limit_by (perms_at Mask list) (perms_at (User cred.uid) list)) want
              (limits_within (perms_at Mask (map (with_perm perm) list)) (perms_at Mask list) (perms_at (User cred.uid) (map (with_perm perm) list))
              (perms_at (User cred.uid) list) masks (perms_within user list))
              h)
          | inr unnamed ↦ elim (cases_Bool (list_any (λ e. matches_group cred group e.tag) list)) [
            | inl some ↦
                let narrow = limit_by (perms_at Mask (map (with_perm perm) list)) (perms_where matches (map (with_perm perm) list)) in
                let h : list_any (λ p. has_all p want) narrow ≡ true = rw (stranger, has_user, unnamed, has_group, some) at h in
                rw (stranger, unnamed, some) (any_within narrow (limit_by (perms_at Mask list) (perms_where matches list)) want
                (limits_within (perms_at Mask (map (with_perm perm) list)) (perms_at Mask list) (perms_where matches (map (with_perm perm) list))
                (perms_where matches list) masks (perms_within matches list))
                h)
            | inr none ↦
                let h : list_any (λ p. has_all p want) (perms_at Other (map (with_perm perm) list)) ≡ true =
                rw (stranger, has_user, unnamed, has_group, none) at h in
                rw (stranger, unnamed, none)
                (any_within (perms_at Other (map (with_perm perm) list)) (perms_at Other list) want (perms_within (λ t. same_tag t Other) list) h)
          ]
        ]
      ]

-- what an inherited list grants, the default list grants
pub inherited_narrows : (list : List Entry) (cred : Cred) (owner group mode : ℕ) (want : Perm) → grants (inherited_list list mode) cred owner group want ≡ true
    → grants list cred owner group want ≡ true
unfolding inherited_list
inherited_narrows list cred owner group mode want h =
    with_perm_grants (λ e. limit_to e.perm (bits_for (class_tag list) mode e.tag)) (λ e. limited_within e.perm (bits_for (class_tag list) mode e.tag)) list cred
    owner group want h
