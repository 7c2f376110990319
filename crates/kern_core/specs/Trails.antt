-- For which lists of events a kernel stands, and what it makes of the next one: a run of the machine from its boot.
use Rattle.std.specs.Prelude.{◌≡◌, ◌+◌, true, is_some, List, [], length}
use Rattle.call_words.specs.declared.call.Call.{Call}
use Rattle.call_words.specs.declared.call.Call.TheVariants as call
use Rattle.call_words.specs.declared.event.Event.{Event}
use Rattle.call_words.specs.declared.event.Event.TheVariants as event
use Rattle.call_words.specs.declared.event.Decision.{Decision}
use Rattle.call_words.specs.declared.event.Wakes.{Wakes}
use Rattle.call_words.specs.Events.{WakeList}
use Rattle.user_db.specs.declared.boot.Boot.{Boot}
use Rattle.system_model.specs.State.{State, view, boot}
use Rattle.system_model.specs.Step.{step, wakes, waits}
use Rattle.system_model.specs.Run.{state_from}
use Rattle.system_model.specs.Tables.{Tables, view_of}
use Rattle.system_laws.specs.Memory.{finds_no_memory}
use Rattle.system_laws.specs.Stands.{Stands}
use Rattle.kern_core.specs.Bounds.{IsAfter}

-- a kernel: the boot that it was made of, and its tables
pub record Booted : Type 0 where
  pub says : Boot
  pub tables : Tables

-- the state of the machine after events from a boot
abbrev pub state_of : Boot → List Event → State
state_of says es = state_from (boot says) 1 es

-- A kernel stands for these events: it stands for the state after them, and its numbers are within what they can make of them.
pub record StandsFor (k : Booted) (es : List Event) : Type 0 where
  pub state : Stands (view_of k.tables) (length es) (state_of k.says es)
  pub after : IsAfter (length es) k.tables

-- the decision of the next event
abbrev pub decision_after : Boot → List Event → Event → Decision
decision_after says es e = (step (state_of says es) (length es + 1) e).1

-- who can go on then
abbrev pub wakes_after : Boot → List Event → Event → WakeList
wakes_after says es e = wakes (view (step (state_of says es) (length es + 1) e).0)

-- a wakeup list as a kernel writes it down
abbrev pub wakes_of : WakeList → Wakes
wakes_of w = record { slots = record { items = w.slots }; lines = record { items = w.lines } }

abbrev pub nobody : Wakes
nobody = wakes_of (record { slots = []; lines = [] })

-- Each event but a write, and an `again`, which may try one.
abbrev pub IsWrite : Call → Type 0
IsWrite (call.Write fd bytes) = Unit {0}
IsWrite other = ⊥

abbrev pub NeedsNoMemory : Event → Type 0
NeedsNoMemory (event.Call slot c) = ¬ IsWrite c
NeedsNoMemory (event.Again slot) = ⊥
NeedsNoMemory other = Unit {0}

-- memory may run out at a write to a regular file that nothing denies
abbrev pub MayRunOut : Boot → List Event → Event → Type 0
MayRunOut says es e = finds_no_memory (view (state_of says es)) e ≡ true

-- another try of a call is idle: it would sleep and change nothing
abbrev pub IsIdle : Boot → List Event → Event → Type 0
IsIdle says es (event.Again slot) = is_some (waits (view (state_of says es)) slot) ≡ true
IsIdle says es other = ⊥
