use Rattle.std.proofs.Common.{◌≡◌, None, replicate, vec_len}
use Rattle.std.specs.Vec.{vec_capacity}
use Rattle.fd_table.proofs.files.all_none.Given as goal

abbrev pub invariant-loop-place : goal.invariant-loop-place
invariant-loop-place g l = (l.all.items ≡ replicate l._place None) × (vec_len l.all ≡ l._place) × (vec_capacity l.all ≡ l.places)
