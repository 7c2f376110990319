use Rattle.std.proofs.Common.{◌≡◌, ◌+◌, ◌≤◌, length}
use Rattle.turn_lock.proofs.tests.add_ones.Given as goal

abbrev pub invariant-loop-i : goal.invariant-loop-i
invariant-loop-i g l =
    (l.count ≤ l.i) × (length l.pass.mine ≡ length l.initial.pass.mine + l.count)
    × (l.pass.lock ≡ l.initial.pass.lock) × (l.pass.number ≡ l.initial.pass.number)
