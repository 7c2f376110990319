use Rattle.std.proofs.Common.{sym, subst}
use mathlib.Core.List.{IsPrefix}
use Rattle.turn_lock.proofs.HistoryLemmas.{prefix_trans}
use Rattle.turn_lock.proofs.lock.TurnLock.meet.Goals as goal

pub returns-clause-own_seen : goal.returns-clause-own_seen
returns-clause-own_seen g c =
    let first = c.tell.ensures.seen in
    let second = c.tell-2.ensures.seen in
    (prefix_trans _ _ _ first.0 second.0, subst (λ p. IsPrefix c.args.other.now.seen p.seen) (sym c.tell-2.ensures.from) first.1)

pub returns-clause-other_seen : goal.returns-clause-other_seen
returns-clause-other_seen g c =
    let first = c.tell.ensures.seen in
    let second = c.tell-2.ensures.seen in
    (prefix_trans _ _ _ first.1 second.0, subst (λ p. IsPrefix c.args.pass.now.seen p.seen) (sym c.tell-2.ensures.from) first.0)
