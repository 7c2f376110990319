use Rattle.std.proofs.Common.{◌≡◌, replicate, vec_len}
use Rattle.std.specs.Vec.{vec_capacity}
use Rattle.proc_table.specs.Processes.{empty_slot}
use Rattle.proc_table.proofs.table.empty_places.Given as goal

abbrev pub invariant-loop-slot : goal.invariant-loop-slot
invariant-loop-slot l = (l.places.items ≡ replicate l._slot empty_slot) × (vec_len l.places ≡ l._slot) × (vec_capacity l.places ≡ 32)
