use Rattle.std.proofs.Common.{◌≡◌, ◌≤◌, ◌*◌, length}
use Rattle.std.specs.Prelude.{flat_map}
use Rattle.std.specs.List.{range_with_len}
use Rattle.vnode_tree.specs.Standard.{tty_text}
use Rattle.vnode_tree.proofs.standard.ttys_text.Given as goal

abbrev pub invariant-loop-number : goal.invariant-loop-number
invariant-loop-number l = (l.text ≡ flat_map (tty_text l.on) (range_with_len 0 l.number)) × (length l.text ≤ 10 * l.number)
