use Rattle.std.proofs.Common.{◌≡◌, None, replicate, vec_len}
use Rattle.std.specs.Vec.{vec_capacity}
use Rattle.fd_table.proofs.rows.Rows.new.Given as goal

abbrev pub invariant-loop-slot : goal.invariant-loop-slot
invariant-loop-slot l = (l.rows.items ≡ replicate l._slot (replicate 32 None)) × (vec_len l.rows ≡ l._slot) × (vec_capacity l.rows ≡ 32)
