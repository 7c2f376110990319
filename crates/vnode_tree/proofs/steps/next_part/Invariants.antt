use Rattle.std.proofs.Common.{◌≡◌, option_copied}
use Rattle.vnode_tree.specs.Walks.{steps_after, bytes_after}
use Rattle.vnode_tree.proofs.steps.next_part.Given as goal

abbrev pub invariant-loop-left : goal.invariant-loop-left
invariant-loop-left l = steps_after (option_copied l.left) ≡ steps_after (option_copied l.path)

abbrev pub decreases-loop-left : goal.decreases-loop-left
decreases-loop-left l = bytes_after (option_copied l.left)
