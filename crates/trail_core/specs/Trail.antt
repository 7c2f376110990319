-- A machine with the trail of its events.
use Rattle.std.specs.Prelude.{ℕ, ◌≤◌, List, length}
use Rattle.trail_core.specs.declared.machine.TheConstants.{MOST_EVENTS}
use Rattle.trail_core.specs.declared.recorded.Refused.{Refused}
use Rattle.trail_core.specs.declared.recorded.Refused.TheVariants.{Full, NoMemory}

-- what contracts see of it: the machine's root, how many events it takes at most, and those that it took
pub record Trail (Root Event : Type 0) : Type 0 where
  pub root : Root
  pub most : ℕ
  pub events : List Event

-- the machine stands for the events, which are at most so many, and there is room for all of these
pub record KeepsTrail {Event : Type 0} (stands : List Event → Type 0) (most room : ℕ) (events : List Event) : Type 0 where
  pub stands_for : stands events
  pub within : length events ≤ most
  pub has_room : most ≤ room
  pub bound : most ≤ MOST_EVENTS

-- the event that a refusal hands back
abbrev pub event_of : {Event : Type 0} → Refused Event → Event
event_of (Full event) = event
event_of (NoMemory event) = event
