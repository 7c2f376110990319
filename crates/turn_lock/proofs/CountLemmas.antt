-- Each event of a history is entered by one of its numbers.
use Rattle.std.proofs.Common.{◌≡◌, ℕ, ◌+◌, ◌<◌, List, [], ◌∷◌, length, cond, eqb, Bool, true, false, refl, ap, ◌∙◌, arith}
use Rattle.std.specs.List.{All, sum_by, filter, range_with_len}
use Rattle.std.proofs.lemmas.List.Sums.{sum_by-cons}
use Rattle.std.proofs.lemmas.List.Elements.{All-head, All-tail}
use Rattle.trail_core.specs.Trail.{Trail}
use Rattle.turn_lock.specs.declared.rule.Entry.{Entry}
use Rattle.turn_lock.specs.Histories.{events_of, events_by, AreBelow}
use Rattle.turn_lock.specs.Passes.{LockView, PassView, AreAllPasses, Fits, IsHistory}
use Rattle.turn_lock.proofs.SumLemmas.{at_only, just_one, sum-zero, sum-both, sum-of-map}
use Rattle.turn_lock.proofs.HistoryLemmas.{length-events_of}

module _ {E : Type 0} where
  length-cond : (b : Bool) (e : Entry E) (es : List (Entry E)) → length (events_of (cond b (e ∷ es) es)) ≡ cond b 1 0 + length (events_of es)
  length-cond true e es = omega arith
  length-cond false e es = omega arith

  -- how many events a number entered
  abbrev pub count_by : List (Entry E) → ℕ → ℕ
  count_by history number = length (events_by number history)

  count_by-cons : (e : Entry E) (history : List (Entry E)) (number : ℕ)
      → count_by (e ∷ history) number ≡ at_only e.number number + count_by history number
  count_by-cons e history number =
      length-cond (eqb e.number number) e (filter (λ (x : Entry E). eqb x.number number) history)

  -- all numbers together entered all events
  sum-count_by : (passes : ℕ) (history : List (Entry E)) → AreBelow passes history
      → sum_by (count_by history) (range_with_len 0 passes) ≡ length history
  sum-count_by passes [] below = sum-zero (range_with_len 0 passes)
  sum-count_by passes (e ∷ history) below =
      let numbers : List ℕ = range_with_len 0 passes in
      let parts : sum_by (count_by (e ∷ history)) numbers ≡ sum_by (λ n. at_only e.number n + count_by history n) numbers =
      ap (λ f. sum_by f numbers) (λ j n. (count_by-cons e history n) j) in
      let both = sum-both (at_only e.number) (count_by history) numbers in
      let is_below : e.number < passes = All-head (λ (x : Entry E). x.number < passes) e history below in
      let one = just_one e.number 0 passes (omega arith) (omega arith) in
      let rest = sum-count_by passes history (All-tail (λ (x : Entry E). x.number < passes) e history below) in
      omega arith

module _ {Root E : Type 0} where
  sum-mine : (history : List (Entry E)) (passes : List (PassView Root E)) → All (Fits history) passes
      → sum_by (λ p. length p.mine) passes ≡ sum_by (λ p. count_by history p.number) passes
  sum-mine history [] all = refl
  sum-mine history (p ∷ ps) all =
      let first = ap length (All-head (Fits history) p ps all).mine in
      let rest = sum-mine history ps (All-tail (Fits history) p ps all) in
      let left = sum_by-cons (λ (q : PassView Root E). length q.mine) p ps in
      let right = sum_by-cons (λ (q : PassView Root E). count_by history q.number) p ps in omega arith

  -- so a closed lock has as many events as its passes entered
  pub length-events : (lock : LockView Root) (machine : Trail Root E) (passes : List (PassView Root E)) → AreAllPasses lock passes
      → IsHistory lock machine passes → length machine.events ≡ sum_by (λ p. length p.mine) passes
  length-events lock machine passes are h =
      let events = ap (λ (m : Trail Root E). length m.events) h.machine_is ∙ length-events_of h.history in
      let mine = sum-mine h.history passes h.fit in
      let by_number = sum-of-map (count_by h.history) (λ (p : PassView Root E). p.number) passes in
      let numbers = ap (sum_by (count_by h.history)) are.numbers in
      let all = sum-count_by lock.passes h.history h.numbers in
      omega arith
