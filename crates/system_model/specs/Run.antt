-- Runs of the machine from boot.
use Rattle.std.specs.Prelude.{ℕ, ◌+◌, List, [], ◌∷◌, take}
use Rattle.call_words.specs.declared.event.Event.{Event}
use Rattle.call_words.specs.declared.event.Decision.{Decision}
use Rattle.user_db.specs.declared.boot.Boot.{Boot}
use Rattle.system_model.specs.State.{State, boot}
use Rattle.system_model.specs.Step.{step}

-- the decisions of events, of which the first is at position p
abbrev pub decisions_from : State → ℕ → List Event → List Decision
decisions_from s p [] = []
decisions_from s p (e ∷ es) = (step s p e).1 ∷ decisions_from (step s p e).0 (p + 1) es

abbrev pub decisions : Boot → List Event → List Decision
decisions says es = decisions_from (boot says) 1 es

-- the state after events, of which the first is at position p
abbrev pub state_from : State → ℕ → List Event → State
state_from s p [] = s
state_from s p (e ∷ es) = state_from (step s p e).0 (p + 1) es

-- the state of a run from a boot after its first n events
abbrev pub state_after : Boot → List Event → ℕ → State
state_after says es n = state_from (boot says) 1 (take n es)

-- what holds of each event of a run, with the state before it and its position
abbrev pub Throughout : (State → ℕ → Event → Type 0) → State → ℕ → List Event → Type 0
Throughout P s p [] = Unit {0}
Throughout P s p (e ∷ es) = P s p e × Throughout P (step s p e).0 (p + 1) es
