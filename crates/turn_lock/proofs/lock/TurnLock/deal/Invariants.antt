use Rattle.std.proofs.Common.{◌≤◌, vec_capacity}
use Rattle.turn_lock.proofs.PassLemmas.{Deals}
use Rattle.turn_lock.proofs.lock.TurnLock.deal.Given as goal

abbrev pub invariant-loop-number : goal.invariant-loop-number
invariant-loop-number g l = Deals l.self l.initial.seat l.seat l.number l.all.items × (l.passes ≤ vec_capacity l.all)
