-- Histories that grow by the events of one number.
use Rattle.std.proofs.Common.{◌≡◌, ◌≢◌, ℕ, zero, suc, ◌+◌, ◌<◌, List, [], ◌∷◌, ◌++◌, length, drop, cond, eqb, refl, sym, ap, ◌∙◌, arith, eq-eqb, ne_eqb, append_assoc, append-nil}
use Rattle.std.specs.List.{sum_by, filter, range_with_len}
use mathlib.Core.List.{IsPrefix}
use Rattle.std.proofs.lemmas.List.{length-map, map-append}
use Rattle.std.proofs.lemmas.List.Sums.{sum_by-cons}
use Rattle.std.proofs.lemmas.List.Elements.{All-nil, All-cons, All-head, All-tail, All-append, filter-append}
use Rattle.turn_lock.specs.declared.rule.Entry.{Entry}
use Rattle.turn_lock.specs.declared.rule.Claim.{Claim}
use Rattle.turn_lock.specs.Histories.{entry, entries, events_of, events_by, AreBelow}
use Rattle.turn_lock.specs.Rule.{claim, numbers_of, ClaimsHold, fresh_claims}
use Rattle.turn_lock.proofs.SumLemmas.{at_only, at_only-here}

module _ {A : Type 0} where
  pub prefix_self : (xs : List A) → IsPrefix xs xs
  prefix_self xs = ([], append-nil xs)

  pub prefix_none : (xs : List A) → IsPrefix [] xs
  prefix_none xs = (xs, refl)

  pub prefix_trans : (xs ys zs : List A) → IsPrefix xs ys → IsPrefix ys zs → IsPrefix xs zs
  prefix_trans xs ys zs p q = (p.0 ++ q.0, sym (append_assoc xs p.0 q.0) ∙ (ap (λ w. w ++ q.0) p.1 ∙ q.1))

  pub prefix_more : (xs ys zs : List A) → IsPrefix xs ys → IsPrefix xs (ys ++ zs)
  prefix_more xs ys zs p = prefix_trans xs ys (ys ++ zs) p (zs, refl)

  pub drop-append : (xs ys : List A) → drop (length xs) (xs ++ ys) ≡ ys
  drop-append [] ys = refl
  drop-append (x ∷ xs) ys = drop-append xs ys

module _ {E : Type 0} where
  pub events_of-append : (xs ys : List (Entry E)) → events_of (xs ++ ys) ≡ events_of xs ++ events_of ys
  events_of-append xs ys = map-append (λ (e : Entry E). e.event) xs ys

  pub events_of-entries : (number : ℕ) (events : List E) → events_of (entries number events) ≡ events
  events_of-entries number [] = refl
  events_of-entries number (e ∷ es) = ap (λ l. e ∷ l) (events_of-entries number es)

  pub length-entries : (number : ℕ) (events : List E) → length (entries number events) ≡ length events
  length-entries number events = length-map events (entry number)

  pub length-events_of : (history : List (Entry E)) → length (events_of history) ≡ length history
  length-events_of history = length-map history (λ (e : Entry E). e.event)

  pub events_by-append : (number : ℕ) (xs ys : List (Entry E)) → events_by number (xs ++ ys) ≡ events_by number xs ++ events_by number ys
  events_by-append number xs ys =
      let of_number = λ (e : Entry E). eqb e.number number in
      ap events_of (filter-append of_number xs ys) ∙ events_of-append (filter of_number xs) (filter of_number ys)

  -- what is kept of the entries of one number
  abbrev those_of : ℕ → ℕ → List E → List (Entry E)
  those_of number other events = filter (λ (e : Entry E). eqb e.number other) (entries number events)

  pub events_by-entries : (number : ℕ) (events : List E) → events_by number (entries number events) ≡ events
  events_by-entries number [] = refl
  events_by-entries number (e ∷ es) =
      ap (λ b. events_of (cond b (entry number e ∷ those_of number number es) (those_of number number es))) (eq-eqb number number refl)
      ∙ ap (λ l. e ∷ l) (events_by-entries number es)

  pub events_by-others : (number other : ℕ) (events : List E) → number ≢ other → events_by other (entries number events) ≡ []
  events_by-others number other [] apart = refl
  events_by-others number other (e ∷ es) apart =
      ap (λ b. events_of (cond b (entry number e ∷ those_of number other es) (those_of number other es))) (ne_eqb number other apart)
      ∙ events_by-others number other es apart

  pub below-append : (passes : ℕ) (xs ys : List (Entry E)) → AreBelow passes xs → AreBelow passes ys → AreBelow passes (xs ++ ys)
  below-append passes = All-append (λ e. e.number < passes)

  pub below-entries : (passes number : ℕ) (events : List E) → number < passes → AreBelow passes (entries number events)
  below-entries passes number [] below = All-nil (λ e. e.number < passes)
  below-entries passes number (e ∷ es) below =
      All-cons (λ (x : Entry E). x.number < passes) (entry number e) (entries number es) below (below-entries passes number es below)

  pub claims-nil : (history : List (Entry E)) → ClaimsHold history []
  claims-nil history = All-nil (λ c. events_by c.number history ≡ c.mine)

  pub claims-cons : (history : List (Entry E)) (c : Claim E) (cs : List (Claim E)) → events_by c.number history ≡ c.mine
      → ClaimsHold history cs → ClaimsHold history (c ∷ cs)
  claims-cons history = All-cons (λ c. events_by c.number history ≡ c.mine)

  pub claims-head : (history : List (Entry E)) (c : Claim E) (cs : List (Claim E)) → ClaimsHold history (c ∷ cs)
      → events_by c.number history ≡ c.mine
  claims-head history = All-head (λ c. events_by c.number history ≡ c.mine)

  pub claims-tail : (history : List (Entry E)) (c : Claim E) (cs : List (Claim E)) → ClaimsHold history (c ∷ cs) → ClaimsHold history cs
  claims-tail history = All-tail (λ c. events_by c.number history ≡ c.mine)

  pub claims-append : (history : List (Entry E)) (cs ds : List (Claim E)) → ClaimsHold history cs → ClaimsHold history ds
      → ClaimsHold history (cs ++ ds)
  claims-append history = All-append (λ c. events_by c.number history ≡ c.mine)

  -- what a number claims, once it entered more
  pub claim_more : (history : List (Entry E)) (number : ℕ) (mine events : List E) → events_by number history ≡ mine
      → events_by number (history ++ entries number events) ≡ mine ++ events
  claim_more history number mine events is =
      events_by-append number history (entries number events)
      ∙ (ap (λ l. l ++ events_by number (entries number events)) is ∙ ap (λ l. mine ++ l) (events_by-entries number events))

  -- what another number claims stays so
  claim_stays : (history : List (Entry E)) (number other : ℕ) (mine events : List E) → number ≢ other → events_by other history ≡ mine
      → events_by other (history ++ entries number events) ≡ mine
  claim_stays history number other mine events apart is =
      events_by-append other history (entries number events)
      ∙ (ap (λ l. l ++ events_by other (entries number events)) is
      ∙ (ap (λ l. mine ++ l) (events_by-others number other events apart) ∙ append-nil mine))

  pub claims_stay : (history : List (Entry E)) (number : ℕ) (events : List E) (claims : List (Claim E))
      → sum_by (at_only number) (numbers_of claims) ≡ 0 → ClaimsHold history claims → ClaimsHold (history ++ entries number events) claims
  claims_stay history number events [] none all = claims-nil (history ++ entries number events)
  claims_stay history number events (c ∷ cs) none all =
      let sum = sum_by-cons (at_only number) c.number (numbers_of cs) in
      let apart : number ≢ c.number = λ e. let here = ap (λ k. at_only number k) (sym e) ∙ at_only-here number in omega arith in
      claims-cons (history ++ entries number events) c cs
      (claim_stays history number c.number c.mine events apart (claims-head history c cs all))
      (claims_stay history number events cs (omega arith) (claims-tail history c cs all))

pub claims-fresh : (E : Type 0) (first count : ℕ) → ClaimsHold {E = E} [] (fresh_claims first count)
claims-fresh E first zero = claims-nil []
claims-fresh E first (suc count) = claims-cons [] (claim first []) (fresh_claims (first + 1) count) refl (claims-fresh E (first + 1) count)

pub numbers-fresh : (E : Type 0) (first count : ℕ) → numbers_of (fresh_claims {E = E} first count) ≡ range_with_len first count
numbers-fresh E first zero = refl
numbers-fresh E first (suc count) = ap (λ l. first ∷ l) (numbers-fresh E (first + 1) count)
