-- The run of a list of events, one event after another.
use Rattle.std.proofs.Common.{◌≡◌, ℕ, suc, ◌+◌, List, [], ◌∷◌, ◌++◌, length, length-append, sym, ap, subst, ◌∙◌, arith}
use Rattle.call_words.specs.declared.event.Event.{Event}
use Rattle.call_words.specs.declared.event.Decision.{Decision}
use Rattle.user_db.specs.declared.boot.Boot.{Boot}
use Rattle.system_model.specs.State.{State, view, boot}
use Rattle.system_model.specs.Step.{step, view_after}
use Rattle.system_model.specs.Run.{state_from}
use Rattle.system_model.specs.Tables.{Tables, view_of}
use Rattle.system_laws.specs.Stands.{Stands, Within}
use Rattle.system_laws.proofs.Runs.{step_seen, step_within, boot_within}
use Rattle.kern_core.specs.Bounds.{IsAfter}
use Rattle.kern_core.specs.Trails.{StandsFor, state_of}

-- the state after one event more
from-last : (s : State) (p : ℕ) (es : List Event) (e : Event) → state_from s p (es ++ e ∷ []) ≡ (step (state_from s p es) (p + length es) e).0
from-last s p [] e = ap (λ q. (step s q e).0) (none p)
  where
    none : (p : ℕ) → p ≡ p + 0
    none p = omega arith
from-last s p (f ∷ es) e = from-last (step s p f).0 (p + 1) es e ∙ ap (λ q. (step (state_from (step s p f).0 (p + 1) es) q e).0) (one p (length es))
  where
    one : (p n : ℕ) → p + 1 + n ≡ p + suc n
    one p n = omega arith

next-position : (n : ℕ) → 1 + n ≡ n + 1
next-position n = omega arith

pub state_more : (says : Boot) (es : List Event) (e : Event) → state_of says (es ++ e ∷ []) ≡ (step (state_of says es) (length es + 1) e).0
state_more says es e = from-last (boot says) 1 es e ∙ ap (λ q. (step (state_of says es) q e).0) (next-position (length es))

-- no position is after the events
within-from : (s : State) (n : ℕ) (es : List Event) → Within n s → Within (n + length es) (state_from s (n + 1) es)
within-from s n [] within = subst (λ m. Within m s) (none n) within
  where
    none : (n : ℕ) → n ≡ n + 0
    none n = omega arith
within-from s n (e ∷ es) within =
    subst (λ m. Within m (state_from s (n + 1) (e ∷ es))) (one n (length es)) (within-from (step s (n + 1) e).0 (n + 1) es (step_within s n e within))
  where
    one : (n m : ℕ) → n + 1 + m ≡ n + suc m
    one n m = omega arith

pub run_within : (says : Boot) (es : List Event) → Within (length es) (state_of says es)
run_within says es = subst (λ n. Within n (state_of says es)) (none (length es)) (within-from (boot says) 0 es (boot_within says))
  where
    none : (n : ℕ) → 0 + n ≡ n
    none n = omega arith

-- what calls see after one event more
pub seen_more : (says : Boot) (es : List Event) (e : Event) → view (state_of says (es ++ e ∷ [])) ≡ view_after (view (state_of says es)) e
seen_more says es e = ap view (state_more says es e) ∙ step_seen (state_of says es) (length es) e (run_within says es)

-- a kernel that stood for some events stands for these and the one that it took
pub stands_more : (says : Boot) (old new : Tables) (e : Event) (d : Decision)
    → ((n : ℕ) (s : State) → Stands (view_of old) n s → Stands (view_of new) (n + 1) (step s (n + 1) e).0 × (d ≡ (step s (n + 1) e).1))
    → ((n : ℕ) → IsAfter n old → IsAfter (n + 1) new) → (es : List Event) → StandsFor (record { says = says; tables = old }) es
    → StandsFor (record { says = says; tables = new }) (es ++ e ∷ [])
stands_more says old new e d stands after es before =
    let count : length (es ++ e ∷ []) ≡ length es + 1 = length-append es (e ∷ []) in
    record {
      state = subst (λ n. Stands (view_of new) n (state_of says (es ++ e ∷ []))) (sym count)
          (subst (λ s. Stands (view_of new) (length es + 1) s) (sym (state_more says es e)) (stands (length es) (state_of says es) before.state).0);
      after = subst (λ n. IsAfter n new) (sym count) (after (length es) before.after);
    }
