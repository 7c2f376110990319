-- Tags that are the same, and lists in which no tag stands twice.
use Rattle.std.proofs.Common.{◌≡◌, ℕ, ◌⊎◌, inl, inr, Bool, true, false, List, [], ◌∷◌, refl, ap, subst, arith}
use Rattle.std.specs.List.{list_any, filter}
use Rattle.std.proofs.lemmas.Bool.{eqb-true, eq-eqb, and_parts, and_from, or_parts, cases_Bool}
use Rattle.acl_core.specs.declared.entry.Tag.{Tag}
use Rattle.acl_core.specs.declared.entry.Tag.TheVariants.{UserObj, User, GroupObj, Group, Mask, Other}
use Rattle.acl_core.specs.declared.entry.Entry.{Entry}
use Rattle.acl_core.specs.Entry.{rank, qualifier, same_tag, has_tag}
use Rattle.acl_core.specs.Acl.{has_twice}

-- tags of one kind and one number are one
same_place : (s t : Tag) → rank s ≡ rank t → qualifier s ≡ qualifier t → s ≡ t
same_place UserObj UserObj r q = refl
same_place (User m) (User n) r q = ap (λ (k : ℕ). User k) q
same_place GroupObj GroupObj r q = refl
same_place (Group m) (Group n) r q = ap (λ (k : ℕ). Group k) q
same_place Mask Mask r q = refl
same_place Other Other r q = refl
same_place _ _ r q = absurd (omega arith)

-- tags that test as the same are one
pub same_tag-true : (s t : Tag) → same_tag s t ≡ true → s ≡ t
same_tag-true s t h =
    let both = and_parts _ _ h in
    same_place s t (eqb-true _ _ both.0) (eqb-true _ _ both.1)

-- a tag tests as the same as itself
pub same_tag-itself : (t : Tag) → same_tag t t ≡ true
same_tag-itself t = and_from _ _ (eq-eqb (rank t) (rank t) refl) (eq-eqb (qualifier t) (qualifier t) refl)

-- the entries with the tag
abbrev pub entries_with : Tag → List Entry → List Entry
entries_with tag list = filter (λ e. same_tag e.tag tag) list

-- a list is not empty
abbrev pub has_some : List Entry → Bool
has_some [] = false
has_some (e ∷ list) = true

-- an entry passes a test where some entries do
pub list_any_is : (test : Entry → Bool) (list : List Entry) → list_any test list ≡ has_some (filter test list)
list_any_is test [] = refl
list_any_is test (e ∷ list) =
    elim (cases_Bool (test e)) [
      | inl passes ↦ rw passes refl
      | inr fails ↦ rw fails (list_any_is test list)
    ]

-- no entries have a tag that is not there
pub entries_with_none : (tag : Tag) (list : List Entry) → has_tag tag list ≡ false → entries_with tag list ≡ []
entries_with_none tag [] h = refl
entries_with_none tag (e ∷ list) h =
    let parts = or_parts (same_tag e.tag tag) (has_tag tag list) h in
    rw parts.0 (entries_with_none tag list parts.1)

-- where no tag stands twice, one entry at most has a tag
pub entries_with_once : (tag : Tag) (list : List Entry) → has_twice list ≡ false
    → (entries_with tag list ≡ []) ⊎ ((e : Entry) × (entries_with tag list ≡ e ∷ []))
entries_with_once tag [] once = inl refl
entries_with_once tag (e ∷ list) once =
    let parts = or_parts (has_tag e.tag list) (has_twice list) once in
    elim (cases_Bool (same_tag e.tag tag)) [
      | inl same ↦
          let alone : has_tag tag list ≡ false = subst (λ t. has_tag t list ≡ false) (same_tag-true e.tag tag same) parts.0 in
          inr (e, rw same (ap (λ others. e ∷ others) (entries_with_none tag list alone)))
      | inr other ↦
          elim (entries_with_once tag list parts.1) [
            | inl none ↦ inl (rw other none)
            | inr one ↦ inr (one.0, rw other one.1)
          ]
    ]
