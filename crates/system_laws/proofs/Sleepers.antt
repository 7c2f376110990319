-- Who sleeps at a revoke of its file's line wakes: its file stays dead, and the next try of its call is answered so.
use Rattle.std.proofs.Common.{◌≡◌, inl, inr, ℕ, zero, suc, ◌+◌, ◌≤◌, true, List, [], ◌∷◌, ◌++◌, Some, None, refl, sym, ap, subst, ◌∙◌, arith}
use Rattle.std.specs.Prelude.{is_some}
use Rattle.call_words.specs.declared.call.Call.{Call}
use Rattle.call_words.specs.declared.event.Event.{Event}
use Rattle.call_words.specs.declared.event.Event.TheVariants as event
use Rattle.user_db.specs.declared.boot.Boot.{Boot}
use Rattle.proc_table.specs.Processes.{running_at, pending_at}
use Rattle.system_model.specs.State.{State, View, view, boot}
use Rattle.system_model.specs.ProcessEffects.{set_pending, change_processes}
use Rattle.system_model.specs.Effects.{Effect, on_processes, change, change_all}
use Rattle.system_model.specs.Rows.{first, effects_by, done}
use Rattle.system_model.specs.Endings.{endings_of}
use Rattle.system_model.specs.Step.{call_row, row, effects_of, step}
use Rattle.system_model.specs.Run.{state_after}
use Rattle.system_laws.specs.Laws.{fd_of, is_dead_at, CanRun, SleepsAtRevoke, StillWaits, WakesSleepers}
use Rattle.system_laws.proofs.Revocations.{retried, dead_call, dead-effects, dead_answers, dead_wakes}
use Rattle.system_laws.proofs.Runs.{no-endings, view-ending, step_seen}
use Rattle.system_laws.proofs.OpenRuns.{Next, over, further, next, within_at}
use Rattle.system_laws.proofs.SlotFiles.{HasDead}
use Rattle.system_laws.proofs.RevokedFiles.{sleeps_dead}
use Rattle.system_laws.proofs.SleeperEvents.{IsSleeper, event_sleeps}

-- ---- from one moment to another

-- the slot sleeps at a dead file after so many events
abbrev SleepsAfter : Boot → List Event → ℕ → ℕ → ℕ → Type 0
SleepsAfter says es slot fd n = IsSleeper slot fd (view (state_after says es n))

after-next : (says : Boot) (es : List Event) (slot fd : ℕ) (c : Call) (n : ℕ) → pending_at (view (state_after says es n)).processes slot ≡ Some c
    → fd_of c ≡ Some fd → SleepsAfter says es slot fd n → Next (boot says) 1 es n → SleepsAfter says es slot fd (suc n)
after-next says es slot fd c n pends number sleeper (over same) = subst (λ (s : State). IsSleeper slot fd (view s)) (sym same) sleeper
after-next says es slot fd c n pends number sleeper (further e at is) =
    let s = state_after says es n in
    let one : 1 + n ≡ n + 1 = omega arith in
    let after : state_after says es (suc n) ≡ (step s (n + 1) e).0 = is ∙ ap (λ q. (step s q e).0) one in
    subst (IsSleeper slot fd) (sym (ap view after ∙ step_seen s n e (within_at says es n))) (event_sleeps slot fd (view s) c e pends number sleeper)

-- as long as the call is pending
still-sleeps : (says : Boot) (es : List Event) (slot fd : ℕ) (c : Call) (n k : ℕ)
    → ((j : ℕ) → j ≤ k → pending_at (view (state_after says es (n + j))).processes slot ≡ Some c) → fd_of c ≡ Some fd
    → SleepsAfter says es slot fd n → SleepsAfter says es slot fd (n + k)
still-sleeps says es slot fd c n zero pends number sleeper =
    let same : n ≡ n + 0 = omega arith in
    subst (SleepsAfter says es slot fd) same sleeper
still-sleeps says es slot fd c n (suc k) pends number sleeper =
    let same : suc (n + k) ≡ n + suc k = omega arith in
    subst (SleepsAfter says es slot fd) same
    (after-next says es slot fd c (n + k) (pends k (omega arith)) number
    (still-sleeps says es slot fd c n k (λ j below. pends j (omega (arith, below))) number sleeper) (next es (boot says) 1 (n + k)))

-- ---- the next try

dead-by : (slot fd : ℕ) (v : View) → CanRun v slot → IsSleeper slot fd v → HasDead slot fd v.descriptors
dead-by slot fd v able (inl dead) = dead
dead-by slot fd v able (inr rest) = (let some : is_some (running_at v.processes slot) ≡ true = ap is_some able.runs in absurd cc)

-- its file is dead
waits-dead : (says : Boot) (es : List Event) (q k slot : ℕ) (c : Call) → SleepsAtRevoke says es q slot c → StillWaits says es q k slot c
    → is_dead_at (view (state_after says es (q + 1 + k))) slot (fd_of c) ≡ true
waits-dead says es q k slot c sleeps waits =
    let v = view (state_after says es (q + 1 + k)) in
    let w = sleeps.waits in
    ap (is_dead_at v slot) w.number
    ∙ dead-by slot w.fd v waits.able
    (still-sleeps says es slot w.fd c (q + 1) k waits.pends w.number (inl (sleeps_dead says es q slot c sleeps)))

waits-pends : (says : Boot) (es : List Event) (q k slot : ℕ) (c : Call) → StillWaits says es q k slot c
    → pending_at (view (state_after says es (q + 1 + k))).processes slot ≡ Some c
waits-pends says es q k slot c waits = waits.pends k (omega arith)

taken-ending : (v : View) (slot : ℕ) → (change v (on_processes (set_pending slot None))).ending ≡ v.ending
unfolding change_processes
taken-ending v slot = refl

-- a try at a dead file takes the pending call away, and nothing ends by it
taken-away : (v : View) (slot : ℕ) (c : Call) → v.ending ≡ [] → pending_at v.processes slot ≡ Some c → CanRun v slot
    → is_dead_at v slot (fd_of c) ≡ true → effects_of v (event.Again slot) ≡ on_processes (set_pending slot None) ∷ []
taken-away v slot c nobody pends able dead =
    let wakes = on_processes (set_pending slot None) ∷ [] in
    let r = row v (event.Again slot) in
    let does : done r ≡ wakes =
    ap (λ o. effects_by o r.effects) (retried v slot c able pends)
    ∙ dead-effects c (first (call_row v slot c).checks) [] wakes r.effects (dead_call v slot c dead)
    in
    let none : endings_of (change_all v wakes) ≡ [] = no-endings (change_all v wakes) (taken-ending v slot ∙ nobody) in
    ap (λ (es : List Effect). es ++ endings_of (change_all v es)) does ∙ ap (λ (es : List Effect). wakes ++ es) none

-- the law of sleepers, of every run from a boot
pub wakes_sleepers : (says : Boot) (es : List Event) → WakesSleepers says es
wakes_sleepers says es = record {
  listed = λ q slot c sleeps able. (
      let v = view (state_after says es (q + 1)) in
      let w = sleeps.waits in
      dead_wakes v slot c w.pends able (ap (is_dead_at v slot) w.number ∙ sleeps_dead says es q slot c sleeps));
  still_listed = λ q k slot c sleeps waits.
      dead_wakes (view (state_after says es (q + 1 + k))) slot c (waits-pends says es q k slot c waits) waits.able
      (waits-dead says es q k slot c sleeps waits);
  answered = λ q k slot c sleeps waits tried.
      dead_answers (view (state_after says es (q + 1 + k))) (event.Again slot) slot c (refl, waits-pends says es q k slot c waits) waits.able
      (waits-dead says es q k slot c sleeps waits);
  moves_nothing = λ q k slot c sleeps waits tried. (
      let s = state_after says es (q + 1 + k) in
      taken-away (view s) slot c (view-ending s ∙ (within_at says es (q + 1 + k)).ending) (waits-pends says es q k slot c waits) waits.able
      (waits-dead says es q k slot c sleeps waits));
}
