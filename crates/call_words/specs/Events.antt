-- The conditions of events, and who can go on after one.
use Rattle.std.specs.Prelude.{ℕ, ◌<◌, ◌≤◌, List, codes}
use Rattle.sys_types.specs.declared.limits.TheConstants.{SLOTS, LINES, PIECE_BYTES}
use Rattle.call_words.specs.Calls.{HasFitMode}
use Rattle.call_words.specs.declared.event.Event.{Event}
use Rattle.call_words.specs.declared.event.Event.TheVariants as event
use Rattle.call_words.specs.declared.event.Reason.{Reason}
use Rattle.call_words.specs.declared.event.Reason.TheVariants as reason
use Rattle.call_words.specs.declared.event.Wakes.{Wakes}

-- the conditions of every use of an event
abbrev pub MayBeUsed : Event → Type 0
MayBeUsed (event.Call slot call) = (slot < SLOTS) × HasFitMode call
MayBeUsed (event.Again slot) = slot < SLOTS
MayBeUsed (event.Byte line b) = line < LINES
MayBeUsed (event.Carrier line up) = line < LINES
MayBeUsed (event.Take line max) = (line < LINES) × (1 ≤ max) × (max ≤ PIECE_BYTES)
MayBeUsed (event.Ended line) = line < LINES

-- the words of the reasons for which a call sleeps
abbrev pub reason_word : Reason → List ℕ
reason_word reason.Read = codes "read"
reason_word reason.Write = codes "write"
reason_word reason.Carrier = codes "carrier"
reason_word reason.Child = codes "child"
reason_word reason.Pause = codes "pause"
reason_word reason.Drain = codes "drain"
reason_word reason.Stop = codes "stop"
reason_word reason.Begin = codes "begin"

-- the wakeup list: the slots whose pending call another try would not leave waiting, and the
-- lines of which a taking of 512 bytes would give one
pub record WakeList : Type 0 where
  pub slots : List ℕ
  pub lines : List ℕ

-- the same, as a kernel writes it down
abbrev pub wake_list : Wakes → WakeList
wake_list w = record { slots = w.slots.items; lines = w.lines.items }
