-- What a walk finds is what the definition by cases says.
use Rattle.std.proofs.Common.{◌≡◌, ℕ, ◌⊎◌, inl, inr, Bool, true, false, cond, not, ◌&&◌, ◌||◌, eqb, List, [], ◌∷◌, Option, Some, None, refl, sym, ap, ◌∙◌}
use Rattle.std.specs.Prelude.{map}
use Rattle.std.specs.List.{list_any, filter, fold}
use Rattle.std.proofs.lemmas.Bool.{cases_Bool}
use Rattle.std.proofs.Math.Bool.{or-false, and-true, or-and_distrib_right, and-or_distrib_right}
use Rattle.acl_core.specs.declared.perm.Perm.{Perm}
use Rattle.acl_core.specs.declared.cred.Cred.{Cred}
use Rattle.acl_core.specs.declared.entry.Tag.{Tag}
use Rattle.acl_core.specs.declared.entry.Tag.TheVariants.{UserObj, User, Mask, Other}
use Rattle.acl_core.specs.declared.entry.Entry.{Entry}
use Rattle.acl_core.specs.declared.walk.Findings.{Findings}
use Rattle.acl_core.specs.Perm.{has_all, common}
use Rattle.acl_core.specs.Entry.{same_tag, has_tag, perms_at}
use Rattle.acl_core.specs.Acl.{has_twice}
use Rattle.acl_core.specs.Deciding.{matches_group, limit_by, grants}
use Rattle.acl_core.specs.Walk.{either, with_entry, nothing_found, answer_of, answer}
use Rattle.acl_core.proofs.TagLemmas.{entries_with, has_some, list_any_is, entries_with_once}

-- what the last entry says, or else what was said before
abbrev pub last : {V : Type 0} → (Entry → V) → V → List Entry → V
last say o [] = o
last say o (e ∷ list) = last say (say e) list

-- the same of the entries that pass a test
abbrev pub last_where : {V : Type 0} → (Tag → Bool) → (Entry → V) → V → List Entry → V
last_where test say o [] = o
last_where test say o (e ∷ list) = last_where test say (cond (test e.tag) (say e) o) list

-- the last of those that pass is the last that passes
last_where_is : {V : Type 0} (test : Tag → Bool) (say : Entry → V) (o : V) (list : List Entry)
    → last_where test say o list ≡ last say o (filter (λ e. test e.tag) list)
last_where_is test say o [] = refl
last_where_is test say o (e ∷ list) =
    elim (cases_Bool (test e.tag)) [
      | inl passes ↦ rw passes (last_where_is test say (say e) list)
      | inr fails ↦ rw fails (last_where_is test say o list)
    ]

-- four tests in another order
and-and : (a b c d : Bool) → ((a && b) && (c && d)) ≡ ((a && c) && (b && d))
and-and true true c d = refl
and-and true false true d = refl
and-and true false false d = refl
and-and false b c d = refl

-- the bits of want that both have are those that each has
pub has_all-common : (p q want : Perm) → has_all (common p q) want ≡ (has_all p want && has_all q want)
has_all-common p q want =
    let r = not want.read in
    let w = not want.write in
    let x = not want.exec in
    ap (λ b. (b && ((p.write && q.write) || w)) && ((p.exec && q.exec) || x)) (or-and_distrib_right p.read q.read r)
    ∙ ap (λ b. (((p.read || r) && (q.read || r)) && b) && ((p.exec && q.exec) || x)) (or-and_distrib_right p.write q.write w)
    ∙ ap (λ b. (((p.read || r) && (q.read || r)) && ((p.write || w) && (q.write || w))) && b) (or-and_distrib_right p.exec q.exec x)
    ∙ ap (λ b. b && ((p.exec || x) && (q.exec || x))) (and-and (p.read || r) (q.read || r) (p.write || w) (q.write || w))
    ∙ and-and ((p.read || r) && (p.write || w)) ((q.read || r) && (q.write || w)) (p.exec || x) (q.exec || x)

-- permissions that the mask limits have the bits where the mask and one of them have them
pub any_limited : (mask want : Perm) (perms : List Perm)
    → list_any (λ p. has_all p want) (map (λ p. common p mask) perms) ≡ (list_any (λ p. has_all p want) perms && has_all mask want)
any_limited mask want [] = refl
any_limited mask want (p ∷ perms) =
    ap (λ b. b || list_any (λ p. has_all p want) (map (λ p. common p mask) perms)) (has_all-common p mask want)
    ∙ ap (λ b. (has_all p want && has_all mask want) || b) (any_limited mask want perms)
    ∙ sym (and-or_distrib_right (has_all p want) (list_any (λ p. has_all p want) perms) (has_all mask want))

module _ (cred : Cred) (group : ℕ) (want : Perm) where
  -- the entry has all bits of want
  abbrev pub covers : Entry → Bool
  covers e = has_all e.perm want

  -- what a walk finds from some findings on
  abbrev pub walked : Findings → List Entry → Findings
  walked found list = fold (with_entry cred group want) found list

  -- the owner's entry that is found last
  walked-owner : (found : Findings) (list : List Entry) → (walked found list).owner ≡ last_where (λ t. same_tag t UserObj) covers found.owner list
  walked-owner found [] = refl
  walked-owner found (e ∷ list) = walked-owner (with_entry cred group want found e) list

  -- the user's entry that is found last
  walked-user : (found : Findings) (list : List Entry)
      → (walked found list).user ≡ last_where (λ t. same_tag t (User cred.uid)) (λ e. Some (covers e)) found.user list
  walked-user found [] = refl
  walked-user found (e ∷ list) = walked-user (with_entry cred group want found e) list

  -- the mask that is found last
  walked-mask : (found : Findings) (list : List Entry) → (walked found list).mask ≡ last_where (λ t. same_tag t Mask) covers found.mask list
  walked-mask found [] = refl
  walked-mask found (e ∷ list) = walked-mask (with_entry cred group want found e) list

  -- others' entry that is found last
  walked-other : (found : Findings) (list : List Entry) → (walked found list).other ≡ last_where (λ t. same_tag t Other) covers found.other list
  walked-other found [] = refl
  walked-other found (e ∷ list) = walked-other (with_entry cred group want found e) list

  -- the groups so far, and those of the list
  abbrev pub groups_after : Option Bool → List Entry → Option Bool
  groups_after o [] = o
  groups_after o (e ∷ list) = groups_after (cond (matches_group cred group e.tag) (either o (covers e)) o) list

  -- the groups that are found, one after another
  walked-groups : (found : Findings) (list : List Entry) → (walked found list).groups ≡ groups_after found.groups list
  walked-groups found [] = refl
  walked-groups found (e ∷ list) = walked-groups (with_entry cred group want found e) list

  -- one of two groups, or one before them
  either-either : (o : Option Bool) (b c : Bool) → either (either o b) c ≡ either o (b || c)
  either-either None b c = refl
  either-either (Some true) b c = refl
  either-either (Some false) b c = refl

  -- one group alone
  either_last : (o : Option Bool) (b : Bool) → either o b ≡ either o (b || false)
  either_last o true = refl
  either_last o false = refl

  -- some groups after others
  abbrev pub groups_among : Option Bool → List Entry → Option Bool
  groups_among o [] = o
  groups_among o (e ∷ list) = groups_among (either o (covers e)) list

  -- the groups that are found are those that match
  groups_after_is : (o : Option Bool) (list : List Entry) → groups_after o list ≡ groups_among o (filter (λ e. matches_group cred group e.tag) list)
  groups_after_is o [] = refl
  groups_after_is o (e ∷ list) =
      elim (cases_Bool (matches_group cred group e.tag)) [
        | inl matches ↦ rw matches (groups_after_is (either o (covers e)) list)
        | inr differs ↦ rw differs (groups_after_is o list)
      ]

  -- one of the permissions has all bits of want
  abbrev pub any_has : List Perm → Bool
  any_has perms = list_any (λ p. has_all p want) perms

  -- the permissions of entries
  abbrev pub perms : List Entry → List Perm
  perms list = map (λ e. e.perm) list

  -- the groups together have the bits where one of them has
  groups_among_is : (o : Option Bool) (e : Entry) (list : List Entry) → groups_among o (e ∷ list) ≡ either o (any_has (perms (e ∷ list)))
  groups_among_is o e [] = either_last o (covers e)
  groups_among_is o e (f ∷ list) = groups_among_is (either o (covers e)) f list ∙ either-either o (covers e) (any_has (perms (f ∷ list)))

  module _ (list : List Entry) (once : has_twice list ≡ false) where
    abbrev pub found : Findings
    found = walked nothing_found list

    -- the one entry with a tag that every list has
    last_alone : (tag : Tag) → last covers false (entries_with tag list) ≡ any_has (perms_at tag list)
    last_alone tag =
        elim (entries_with_once tag list once) [
          | inl none ↦ rw none refl
          | inr one ↦ rw one.1 (sym (or-false (covers one.0)))
        ]

    -- permissions under the mask
    masked : (ps : List Perm) → any_has (limit_by (perms_at Mask list) ps) ≡ (any_has ps && last covers true (entries_with Mask list))
    masked ps =
        elim (entries_with_once Mask list once) [
          | inl none ↦ rw none (sym (and-true (any_has ps)))
          | inr one ↦ rw one.1 (any_limited one.0.perm want ps)
        ]

    found_mask : found.mask ≡ last covers true (entries_with Mask list)
    found_mask = walked-mask nothing_found list ∙ last_where_is (λ t. same_tag t Mask) covers true list

    found_user : found.user ≡ last (λ e. Some (covers e)) None (entries_with (User cred.uid) list)
    found_user = walked-user nothing_found list ∙ last_where_is (λ t. same_tag t (User cred.uid)) (λ e. Some (covers e)) None list

    abbrev pub matching : List Entry
    matching = filter (λ e. matches_group cred group e.tag) list

    found_groups : found.groups ≡ groups_among None matching
    found_groups = walked-groups nothing_found list ∙ groups_after_is None list

    found_other : found.other ≡ any_has (perms_at Other list)
    found_other = walked-other nothing_found list ∙ last_where_is (λ t. same_tag t Other) covers false list ∙ last_alone Other

    found_owner : found.owner ≡ any_has (perms_at UserObj list)
    found_owner = walked-owner nothing_found list ∙ last_where_is (λ t. same_tag t UserObj) covers false list ∙ last_alone UserObj

    -- the permissions that decide, where it is told whether the caller is the owner
    abbrev pub deciding_if : Bool → List Perm
    deciding_if is_owner =
        cond is_owner (perms_at UserObj list)
        (cond (has_tag (User cred.uid) list) (limit_by (perms_at Mask list) (perms_at (User cred.uid) list))
        (cond (list_any (λ e. matches_group cred group e.tag) list) (limit_by (perms_at Mask list) (perms matching))
        (perms_at Other list)))

    some_or_none : (xs : List Entry) → (xs ≡ []) ⊎ ((e : Entry) × (rest : List Entry) × (xs ≡ e ∷ rest))
    some_or_none [] = inl refl
    some_or_none (e ∷ rest) = inr (e, rest, refl)

    -- of others than the owner and the named user
    by_groups : answer_of None found.groups found ≡ any_has
        (cond (list_any (λ e. matches_group cred group e.tag) list) (limit_by (perms_at Mask list) (perms matching)) (perms_at Other list))
    by_groups =
        elim (some_or_none matching) [
          | inl none ↦
              let groups : found.groups ≡ None = found_groups ∙ ap (groups_among None) none in
              rw (groups, list_any_is (λ e. matches_group cred group e.tag) list, none) found_other
          | inr some ↦
              let groups : found.groups ≡ Some (any_has (perms matching)) =
              found_groups ∙ ap (groups_among None) some.2 ∙ groups_among_is None some.0 some.1 ∙ ap (λ xs. Some (any_has (perms xs))) (sym some.2) in
              rw (groups, list_any_is (λ e. matches_group cred group e.tag) list, ap has_some some.2)
              (ap (λ m. any_has (perms matching) && m) found_mask ∙ sym (masked (perms matching)))
        ]

    decided_is : (is_owner : Bool) → answer is_owner found ≡ any_has (deciding_if is_owner)
    decided_is true = found_owner
    decided_is false =
        elim (entries_with_once (User cred.uid) list once) [
          | inl none ↦
              let user : found.user ≡ None = found_user ∙ ap (last (λ e. Some (covers e)) None) none in
              rw (user, list_any_is (λ e. same_tag e.tag (User cred.uid)) list, ap has_some none) by_groups
          | inr one ↦
              let user : found.user ≡ Some (covers one.0) = found_user ∙ ap (last (λ e. Some (covers e)) None) one.1 in
              rw (user, list_any_is (λ e. same_tag e.tag (User cred.uid)) list, one.1)
              (ap (λ m. covers one.0 && m) found_mask ∙ ap (λ b. b && last covers true (entries_with Mask list)) (sym (or-false (covers one.0)))
              ∙ sym (masked (one.0.perm ∷ [])))
        ]

-- a walk over a list without repeats decides as the definition does
pub answer_grants : (cred : Cred) (owner group : ℕ) (want : Perm) (list : List Entry) → has_twice list ≡ false
    → answer (eqb cred.uid owner) (fold (with_entry cred group want) nothing_found list) ≡ grants list cred owner group want
unfolding grants
answer_grants cred owner group want list once = decided_is cred group want list once (eqb cred.uid owner)
