-- The line that a number of a slot refers to.
use Rattle.std.specs.Prelude.{◌≡◌, ℕ, Some, None}
use Rattle.system_model.specs.State.{View}
use Rattle.system_model.specs.Rows.{first}
use Rattle.system_model.specs.TtyCalls.{tty_checks, tty_at}

-- No rule denies the call on it.
pub record IsLineOf (v : View) (slot fd n : ℕ) : Type 0 where
  pub allowed : first (tty_checks v slot fd) ≡ None
  pub line : tty_at v slot fd ≡ Some n
