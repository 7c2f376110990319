-- What an event that a pass enters comes to, at its turn in the history.
use Rattle.std.specs.Prelude.{◌≡◌, ◌<◌, List, [], ◌∷◌, ◌++◌, length}
use mathlib.Core.List.{IsPrefix}
use Rattle.trail_core.specs.Trail.{Trail}
use Rattle.turn_lock.specs.declared.rule.Entry.{Entry}
use Rattle.turn_lock.specs.declared.turn.Turn.{Turn}
use Rattle.turn_lock.specs.declared.turn.Turn.TheVariants.{Done, StillWaiting, Full, NoMemory}
use Rattle.turn_lock.specs.Histories.{entries}
use Rattle.turn_lock.specs.Passes.{LockView, PassView, machine_at}

module _ {M E D W Root : Type 0} where
  -- the events that are new after an answer: the event where it is entered, and else none
  abbrev pub new_events : E → Turn M E D W Root → List E
  new_events event (Done decision wakes) = event ∷ []
  new_events event StillWaiting = []
  new_events event (Full back) = []
  new_events event (NoMemory back) = []

-- of a machine: its decisions, its wakeup lists, which events are idle, and which need no memory
module _ {M E D W Root : Type 0} (decision : Root → List E → E → D) (wakeups : Root → List E → E → W)
    (is_idle : Root → List E → E → Type 0) (needs_no_memory : E → Type 0) where
  -- the answer to an event of a machine; since no two of the cases hold together, each comes exactly where it says
  abbrev pub Answers : Trail Root E → E → Turn M E D W Root → Type 0
  Answers machine event (Full back) = (length machine.events ≡ machine.most) × (back ≡ event)
  Answers machine event StillWaiting = (length machine.events < machine.most) × is_idle machine.root machine.events event
  Answers machine event (NoMemory back) =
      (length machine.events < machine.most) × (¬ is_idle machine.root machine.events event) × (¬ needs_no_memory event)
      × (back ≡ event)
  Answers machine event (Done d w) =
      (length machine.events < machine.most) × (¬ is_idle machine.root machine.events event)
      × (d ≡ decision machine.root machine.events event) × (w ≡ wakeups machine.root machine.events event)

  -- an event that a pass enters meets a history, of which the pass had seen a prefix, and is answered by the machine there;
  -- then the pass has seen that history, with the event at its end where it is entered, and its number entered that alone
  pub record TakesTurn (lock : LockView Root) (old new : PassView Root E) (event : E) (turn : Turn M E D W Root) : Type 0 where
    pub history : List (Entry E)
    pub had_seen : IsPrefix old.seen history
    pub answer : Answers (machine_at lock history) event turn
    pub seen : new.seen ≡ history ++ entries old.number (new_events event turn)
    pub mine : new.mine ≡ old.mine ++ new_events event turn
