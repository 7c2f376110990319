-- The list of those to be ended, worked to its end.
use Rattle.std.proofs.Common.{◌≡◌, ℕ, zero, suc, ◌+◌, ◌-◌, ◌<◌, true, false, cond, List, [], ◌∷◌, ◌++◌, length, drop, refl, sym, ap, ◌∙◌, subst, arith}
use Rattle.std.specs.Prelude.{◌==◌, None, slice_get}
use Rattle.sys_types.specs.declared.limits.TheConstants.{SLOTS}
use Rattle.call_words.specs.declared.event.How.{How}
use Rattle.proc_table.specs.Processes.{Processes}
use Rattle.system_model.specs.State.{View}
use Rattle.system_model.specs.ProcessEffects.{clear_ending, change_processes}
use Rattle.system_model.specs.Effects.{on_processes, change, change_all}
use Rattle.system_model.specs.Endings.{end_next, endings, endings_of}
use Rattle.system_model.specs.Tables.{Tables, view_of}
use Rattle.proc_calls.specs.Ends.{AreRunning}
use Rattle.proc_calls.proofs.Leaving.{change_both}

none-behind : (ending : List (ℕ × How)) (place : ℕ) → slice_get ending place ≡ None → drop (suc place) ending ≡ []
none-behind [] place is = refl
none-behind (e ∷ ending) zero is = absurd cc
none-behind (e ∷ ending) (suc place) is = none-behind ending place is

-- behind the end of the list nobody is to be ended
pub none_runs : (t : Processes ℕ) (ending : List (ℕ × How)) (place : ℕ) → slice_get ending place ≡ None → AreRunning t (drop (place + 1) ending)
none_runs t ending place is =
    let next : suc place ≡ place + 1 = omega arith in
    subst (λ k. AreRunning t (drop k ending)) next (subst (AreRunning t) (sym (none-behind ending place is)) tt)

pub ending_of_view : (t : Tables) → (view_of t).ending ≡ t.ending
unfolding view_of
ending_of_view t = refl

one-more : (fuel place : ℕ) (v : View)
    → endings (suc fuel) place v
    ≡ end_next v (slice_get v.ending place) ++ endings fuel (place + 1) (change_all v (end_next v (slice_get v.ending place)))
unfolding endings
one-more fuel place v = refl

-- the next entry
pub worked_step : (v w : View) (place : ℕ) → place < SLOTS → w ≡ change_all v (end_next v (slice_get v.ending place))
    → change_all w (endings (SLOTS - (place + 1)) (place + 1) w) ≡ change_all v (endings (SLOTS - place) place v)
worked_step v w place below is =
    let now = end_next v (slice_get v.ending place) in
    let fuel = SLOTS - (place + 1) in
    let count : SLOTS - place ≡ suc fuel = omega (arith, below) in
    ap (λ u. change_all u (endings fuel (place + 1) u)) is
    ∙ sym (change_both v now (endings fuel (place + 1) (change_all v now)))
    ∙ ap (change_all v) (sym (ap (λ n. endings n place v) count ∙ one-more fuel place v))

no-more : (place : ℕ) (v : View) → change_all v (endings 0 place v) ≡ v
unfolding endings
no-more place v = refl

clear-seen : (t : Tables) → view_of (record t { ending = [] }) ≡ change (view_of t) (on_processes clear_ending)
unfolding view_of change_processes
clear-seen t = refl

-- the list is worked, and empty
pub worked_all : (v : View) (t : Tables) (place : ℕ) → place ≡ SLOTS → (length v.ending == 0) ≡ false
    → change_all (view_of t) (endings (SLOTS - place) place (view_of t)) ≡ change_all v (endings SLOTS 0 v)
    → view_of (record t { ending = [] }) ≡ change_all v (endings_of v)
worked_all v t place last some is =
    let done : SLOTS - place ≡ 0 = omega (arith, last) in
    clear-seen t
    ∙ ap (λ u. change u (on_processes clear_ending))
    (sym (ap (λ n. change_all (view_of t) (endings n place (view_of t))) done ∙ no-more place (view_of t)) ∙ is)
    ∙ sym (change_both v (endings SLOTS 0 v) (on_processes clear_ending ∷ []))
    ∙ ap (λ b. change_all v (cond b [] (endings SLOTS 0 v ++ on_processes clear_ending ∷ []))) (sym some)

-- there is nothing to be ended
pub worked_none : (v : View) → (length v.ending == 0) ≡ true → v ≡ change_all v (endings_of v)
worked_none v none = ap (λ b. change_all v (cond b [] (endings SLOTS 0 v ++ on_processes clear_ending ∷ []))) (sym none)
