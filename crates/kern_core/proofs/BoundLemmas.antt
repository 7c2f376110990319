-- What bounds the revokes of lines.
use Rattle.std.proofs.Common.{ℕ, ◌+◌, ◌≤◌, arith}
use Rattle.system_model.specs.Tables.{Tables}
use Rattle.kern_core.specs.Bounds.{RevokesNone, RevokesOnce}

more : (a b : ℕ) → a ≤ b → a ≤ b + 1
more a b le = omega arith

-- what raises no bound raises it by one at the most
pub none_once : (old new : Tables) → RevokesNone old new → RevokesOnce old new
none_once old new none most fit = record { each = λ n. more _ most ((none most fit).each n) }
