use Rattle.std.proofs.Common.{◌≡◌, vec_len}
use Rattle.edge_io.proofs.park_bells.ParkBells.new.Given as goal

-- so many slots have a bell
abbrev pub invariant-loop : goal.invariant-loop
invariant-loop l = vec_len l.slots ≡ l.counter
