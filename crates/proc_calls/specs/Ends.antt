-- The list of those to be ended, in the tables of a kernel (_exit(2)).
use Rattle.std.specs.Prelude.{◌≡◌, ℕ, ◌<◌, Bool, true, List, [], ◌∷◌, ◌++◌, Option, Some, None, is_some}
use Rattle.sys_types.specs.declared.limits.TheConstants.{LINES}
use Rattle.sys_types.specs.declared.sig.Sig.TheVariants as sig
use Rattle.call_words.specs.declared.event.How.{How}
use Rattle.call_words.specs.declared.signal.To.TheVariants.{Group}
use Rattle.block_pool.specs.Pool.{PoolState}
use Rattle.line_disc.specs.Lines.{line_at}
use Rattle.proc_table.specs.Processes.{Processes, running_at}
use Rattle.proc_table.specs.Posts.{IsEndingList}
use Rattle.tty_dev.specs.Line.{LineState}
use Rattle.tty_dev.specs.Table.{devices}
use Rattle.system_model.specs.LineEffects.{revoke_line}
use Rattle.system_model.specs.ProcessEffects.{post}
use Rattle.system_model.specs.Effects.{Effect, on_lines, on_processes}

-- the process of each entry runs
abbrev pub AreRunning : Processes ℕ → List (ℕ × How) → Type 0
AreRunning t [] = Unit {0}
AreRunning t (e ∷ es) = (is_some (running_at t e.0) ≡ true) × AreRunning t es

-- Those that are to be ended: each slot is below 32, stands on the list once, and has a running process.
pub record AreToEnd (t : Processes ℕ) (ending : List (ℕ × How)) : Type 0 where
  pub list : IsEndingList ending
  pub running : AreRunning t ending

-- What posts and an ending leave: who runs, by slots, and a list with more behind it, each of which runs.
pub record IsJoined (runs : ℕ → Bool) (t : Processes ℕ) (before after : List (ℕ × How)) : Type 0 where
  pub run : (slot : ℕ) → is_some (running_at t slot) ≡ runs slot
  pub more : List (ℕ × How)
  pub list : after ≡ before ++ more
  pub running : AreRunning t more

-- the line that is left, with the group in its foreground, if one is
abbrev pub leave_by : Option (ℕ × ℕ) → List Effect
leave_by None = []
leave_by (Some left) = on_processes (post sig.HUP (Group left.1)) ∷ on_lines (revoke_line left.0) ∷ []

-- a line that there is has a session
pub record HasSession (pool : PoolState) (lines : List LineState) (n : ℕ) : Type 0 where
  pub below : n < LINES
  pub session : is_some (line_at (devices pool lines) n).session ≡ true
