use Rattle.std.proofs.Common.{length}
use Rattle.turn_lock.proofs.PassLemmas.{Gathers}
use Rattle.turn_lock.proofs.lock.TurnLock.gather.Given as goal

abbrev pub invariant-loop-pass : goal.invariant-loop-pass
invariant-loop-pass g l = Gathers l.self l.initial.keeper l.keeper l.initial.passes.items l.passes.items

abbrev pub decreases-loop-pass : goal.decreases-loop-pass
decreases-loop-pass g l = length l.passes.items
