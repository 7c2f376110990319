-- What bounds the numbers of a kernel: how often lines were revoked, and the next pid. No run has more events than these bear.
use Rattle.std.specs.Prelude.{◌≡◌, ℕ, ◌+◌, ◌-◌, ◌^◌, ◌<◌, ◌≤◌, length}
use Rattle.trail_core.specs.declared.machine.TheConstants.{MOST_EVENTS}
use Rattle.system_model.specs.Fit.{AreRevokedAtMost}
use Rattle.system_model.specs.Tables.{Tables}
use Rattle.system_laws.specs.PendingCalls.{AreFitCalls}

-- no bound on the revokes of lines rises
abbrev pub RevokesNone : Tables → Tables → Type 0
RevokesNone old new = (most : ℕ) → AreRevokedAtMost most old.pool old.lines → AreRevokedAtMost most new.pool new.lines

-- a bound rises by one at the most
abbrev pub RevokesOnce : Tables → Tables → Type 0
RevokesOnce old new = (most : ℕ) → AreRevokedAtMost most old.pool old.lines → AreRevokedAtMost (most + 1) new.pool new.lines

-- no line's generation and no pid passes its type in the next event
pub record HasRoom (t : Tables) : Type 0 where
  pub revokes : AreRevokedAtMost (2 ^ 63 - 1) t.pool t.lines
  pub pids : t.processes.next_pid + 1 < 2 ^ 32

-- These may be the tables after n events: no line was revoked more often, the next pid is at most 2 above that, the calls that slots wait in have
-- modes of at most 777 in octal, and nobody is still to be ended.
pub record IsAfter (n : ℕ) (t : Tables) : Type 0 where
  pub revokes : AreRevokedAtMost n t.pool t.lines
  pub pids : t.processes.next_pid ≤ n + 2
  pub calls : AreFitCalls t.processes
  pub ending : length t.ending ≡ 0

-- one event more may come: a trail has at most 2,147,483,648
pub record HasEventLeft (t : Tables) : Type 0 where
  pub most : ℕ
  pub after : IsAfter most t
  pub left : most < MOST_EVENTS
