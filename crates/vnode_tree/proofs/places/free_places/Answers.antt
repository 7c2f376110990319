-- All places are made.
use Rattle.std.proofs.Common.{◌≡◌, ◌∙◌, ℕ, None, Option, ap, replicate, arith}
use Rattle.vnode_tree.specs.declared.entry.Entry.{Entry}
use Rattle.vnode_tree.proofs.places.free_places.Goals as goal

pub returns : goal.returns
returns c =
    let last : c.loop-place._place ≡ 1024 = omega (arith, c.loop-place-test.false, c.loop-place.auto) in
    c.loop-place.invariant.0 ∙ ap (λ (n : ℕ). replicate {A = Option Entry} n None) last
