-- How a script ends.
use Rattle.std.specs.Prelude.{◌≡◌, ◌⊎◌, ℕ, List, Option}
use Rattle.edge_io.specs.Outside.{Appended}
use Rattle.script_model.specs.Script.{Output}
use Rattle.tty_host.specs.Outputs.{Began, StoppedAt}
use Rattle.tty_host.specs.declared.run.Stop.{Stop}
use Rattle.tty_host.specs.declared.run.Stop.TheVariants as stop
use Rattle.tty_host.specs.declared.status.Status.{Status}
use Rattle.tty_host.specs.declared.status.Status.TheVariants.{Done, Usage, Input, ReadFault, WriteFault, Memory, Full, NoWorker}

abbrev pub code_of : Status → ℕ
code_of Done = 0
code_of Usage = 1
code_of Input = 2
code_of ReadFault = 3
code_of WriteFault = 4
code_of Memory = 5
code_of Full = 6
code_of NoWorker = 8

-- The statuses with which a script ends. It needs no worker.
abbrev pub IsScriptStatus : Status → Type 0
IsScriptStatus Done = Unit {0}
IsScriptStatus Usage = ⊥
IsScriptStatus Input = Unit {0}
IsScriptStatus ReadFault = Unit {0}
IsScriptStatus WriteFault = Unit {0}
IsScriptStatus Memory = Unit {0}
IsScriptStatus Full = Unit {0}
IsScriptStatus NoWorker = ⊥

-- the status of a run that ends before its text does
abbrev pub stop_status : Stop → Status
stop_status stop.BadLine = Input
stop_status stop.Full = Full
stop_status stop.Failed = WriteFault
stop_status stop.NoMemory = Memory

-- all of the output was written, and the status is the output's
pub record WroteAll (status : Status) (out : Output) (before after : Option (List ℕ)) : Type 0 where
  pub appended : Appended before after out.bytes
  pub code : out.status ≡ code_of status

-- What a script wrote, by the status with which it ended: all of the machine's output; after a fault the front of it; and where
-- memory ran out nothing, or all answers before a write. No script ends in another way.
abbrev pub Writes : Status → Output → Option (List ℕ) → Option (List ℕ) → Type 0
Writes Done out before after = WroteAll Done out before after
Writes Usage out before after = ⊥
Writes Input out before after = WroteAll Input out before after
Writes ReadFault out before after = Began before out.bytes after
Writes WriteFault out before after = Began before out.bytes after
Writes Memory out before after = (after ≡ before) ⊎ StoppedAt before out.stops after
Writes Full out before after = WroteAll Full out before after
Writes NoWorker out before after = ⊥
