-- The calls that slots wait in.
use Rattle.std.specs.Prelude.{ℕ, Option, Some, None}
use Rattle.call_words.specs.declared.call.Call.{Call}
use Rattle.call_words.specs.Calls.{HasFitMode}
use Rattle.proc_table.specs.Processes.{Processes, pending_at}

-- a call, if there is one, has a mode of at most 777 in octal
abbrev pub IsFitCall : Option Call → Type 0
IsFitCall None = Unit {0}
IsFitCall (Some c) = HasFitMode c

-- so has each call that a slot waits in
pub record AreFitCalls {D : Type 0} (t : Processes D) : Type 0 where
  pub each : (slot : ℕ) → IsFitCall (pending_at t slot)
