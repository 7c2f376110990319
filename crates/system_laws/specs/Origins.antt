-- The origin of a number of a slot: the event that made the open file which the number stands for, as events, their decisions and the processes tell
-- it; no table of descriptors is looked at.
use Rattle.std.specs.Prelude.{ℕ, ◌+◌, ◌==◌, ◌&&◌, Bool, List, [], ◌∷◌, take, Option, Some, None, option_map, is_none, if◌then◌else◌}
use Rattle.call_words.specs.declared.call.Call.{Call}
use Rattle.call_words.specs.declared.call.Call.TheVariants as call
use Rattle.call_words.specs.declared.event.Event.{Event}
use Rattle.call_words.specs.declared.event.Event.TheVariants as event
use Rattle.call_words.specs.declared.event.Reply.TheVariants.{Num, Pair}
use Rattle.call_words.specs.declared.event.Decision.{Decision}
use Rattle.call_words.specs.declared.event.Decision.TheVariants.{Answer}
use Rattle.user_db.specs.declared.boot.Boot.{Boot}
use Rattle.proc_table.specs.Processes.{Processes, process_at, pending_at, holds}
use Rattle.system_model.specs.Parts.{Path}
use Rattle.system_model.specs.State.{State, boot}
use Rattle.system_model.specs.Step.{step}

-- for each slot and number the position of the event that made what the number stands for
abbrev pub Origins : Type 0
Origins = ℕ → ℕ → Option ℕ

-- before all events there is none
abbrev pub no_origins : Origins
no_origins = λ slot fd. None

-- the number of the slot has this origin from now on
abbrev pub put_origin : Origins → ℕ → ℕ → Option ℕ → Origins
put_origin before slot number origin = λ other fd. if other == slot && fd == number then origin else before other fd

-- the child that a fork answered stands in the slot: no process stood there before, and now the one with this pid does
abbrev pub is_child_at : Processes Path → Processes Path → ℕ → ℕ → Bool
is_child_at before after pid slot = is_none (process_at before slot) && holds (λ p. p.pid == pid) (process_at after slot)

-- each number of the child's slot has the origin that it has in the parent's
abbrev pub fork_origins : Origins → ℕ → (ℕ → Bool) → Origins
fork_origins before parent is_child = λ other fd. if is_child other then before parent fd else before other fd

-- What the event at position p makes that asks this call of a slot and is decided so (open(2), pipe(2), dup(2), fork(2)): an open and a pipe are the
-- origin of the numbers that they answer, a copy has the origin of the number that was copied, and a child those of its parent.
abbrev pub origins_by : Processes Path → Processes Path → ℕ → ℕ → Call → Decision → Origins → Origins
origins_by before after p slot (call.Open path access flags mode) (Answer (Num n)) o = put_origin o slot n (Some p)
origins_by before after p slot call.Pipe (Answer (Pair r w)) o = put_origin (put_origin o slot r (Some p)) slot w (Some p)
origins_by before after p slot (call.Dup fd) (Answer (Num n)) o = put_origin o slot n (o slot fd)
origins_by before after p slot (call.Dup2 fd into) (Answer (Num n)) o = put_origin o slot into (o slot fd)
origins_by before after p slot (call.Fork note) (Answer (Num pid)) o = fork_origins o slot (is_child_at before after pid)
origins_by before after p slot _ _ o = o

-- the call that an event asks, with its slot: its own, or the pending one that it tries again
abbrev pub asked_by : Processes Path → Event → Option (ℕ × Call)
asked_by t (event.Call slot c) = Some (slot, c)
asked_by t (event.Again slot) = option_map (λ c. (slot, c)) (pending_at t slot)
asked_by t _ = None

abbrev pub origins_of : Processes Path → Processes Path → ℕ → Option (ℕ × Call) → Decision → Origins → Origins
origins_of before after p None d o = o
origins_of before after p (Some asked) d o = origins_by before after p asked.0 asked.1 d o

-- the origins after an event at position p, by the processes before and after it, the event, and its decision
abbrev pub next_origins : Processes Path → Processes Path → ℕ → Event → Decision → Origins → Origins
next_origins before after p e d o = origins_of before after p (asked_by before e) d o

-- the origins after events, of which the first is at position p
abbrev pub origins_from : State → ℕ → List Event → Origins → Origins
origins_from s p [] o = o
origins_from s p (e ∷ es) o =
    let after = (step s p e).0 in
    origins_from after (p + 1) es (next_origins s.parts.processes after.parts.processes p e (step s p e).1 o)

-- the origins in a run from a boot after its first n events
abbrev pub origins_after : Boot → List Event → ℕ → Origins
origins_after says es n = origins_from (boot says) 1 (take n es) no_origins
