-- What the loop over the places keeps.
use Rattle.std.proofs.Common.{◌≡◌, ◌≤◌, None, replicate}
use Rattle.std.specs.Vec.{vec_capacity}
use Rattle.vnode_tree.proofs.places.free_places.Given as goal

abbrev pub invariant-loop-place : goal.invariant-loop-place
invariant-loop-place l = (l.entries.items ≡ replicate l._place None) × (1024 ≤ vec_capacity l.entries)
