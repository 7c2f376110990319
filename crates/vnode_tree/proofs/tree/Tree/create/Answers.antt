use Rattle.std.proofs.Common.{ℕ, List, length, ap, arith}
use Rattle.vnode_tree.proofs.Files.{space_is}
use Rattle.vnode_tree.proofs.tree.Tree.create.Goals as goal

pub make-requires-clause-room : goal.make-requires-clause-room
make-requires-clause-room c =
    omega (
      arith,
      ap (λ (xs : List ℕ). length xs) c.no_contents-contents.ensures,
      space_is c.self.inside.entries c.args.self.now c.self.view_is c.self.invariant,
      c.self.invariant.space,
    )
