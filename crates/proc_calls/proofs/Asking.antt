-- A process that asks runs.
use Rattle.std.proofs.Common.{◌≡◌, ℕ, true, Option, Some, None, refl}
use Rattle.std.specs.Prelude.{is_some}
use Rattle.proc_table.specs.Processes.{Process, Processes, running_at}
use Rattle.system_model.specs.Fit.{IsCaller}

pub record Runs (o : Option (Process ℕ)) : Type 0 where
  pub process : Process ℕ
  pub runs : o ≡ Some process

runs_there : (o : Option (Process ℕ)) → is_some o ≡ true → Runs o
runs_there None never = absurd cc
runs_there (Some p) is = record { process = p; runs = refl }

pub who_asks : (t : Processes ℕ) (slot : ℕ) → IsCaller t slot → Runs (running_at t slot)
who_asks t slot caller = runs_there (running_at t slot) caller.running
