-- What holds of the processes at each moment: no two have one pid, and no pid is used again.
use Rattle.std.specs.Prelude.{◌≡◌, ℕ, ◌<◌, ◌≤◌, Option, Some, option_map}
use Rattle.proc_table.specs.Processes.{Processes, process_at}

-- the pid of a slot's process, a zombie's too
abbrev pub pid_at : {D : Type 0} → Processes D → ℕ → Option ℕ
pid_at t slot = option_map (λ p. p.pid) (process_at t slot)

-- each pid is below the next one and not 0, and only one slot has it
pub record HasPidsOnce {D : Type 0} (t : Processes D) : Type 0 where
  pub next : 1 ≤ t.next_pid
  pub low : (slot pid : ℕ) → pid_at t slot ≡ Some pid → 1 ≤ pid
  pub high : (slot pid : ℕ) → pid_at t slot ≡ Some pid → pid < t.next_pid
  pub once : (slot other pid : ℕ) → pid_at t slot ≡ Some pid → pid_at t other ≡ Some pid → slot ≡ other

-- no process has come: each that is there now was there, in the same slot
pub record HasNoMore {D : Type 0} (before after : Processes D) : Type 0 where
  pub next_pid : after.next_pid ≡ before.next_pid
  pub pids : (slot pid : ℕ) → pid_at after slot ≡ Some pid → pid_at before slot ≡ Some pid
