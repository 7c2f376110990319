use Rattle.turn_lock.proofs.SeatLemmas.{takes_out}
use Rattle.turn_lock.proofs.lock.TurnLock.take.Goals as goal

pub returns-clause-seen : goal.returns-clause-seen
returns-clause-seen g c =
    let drew = c.draw-ticket.ensures.ticket in
    (takes_out _ _ c.args.seat.now.me.0 drew.0 _ _ c.requires.lock drew.2 c.wait.ensures.takes).0

pub returns-clause-claims : goal.returns-clause-claims
returns-clause-claims g c =
    let drew = c.draw-ticket.ensures.ticket in
    (takes_out _ _ c.args.seat.now.me.0 drew.0 _ _ c.requires.lock drew.2 c.wait.ensures.takes).1

pub returns-clause-seat : goal.returns-clause-seat
returns-clause-seat g c =
    let drew = c.draw-ticket.ensures.ticket in
    (drew.0, (takes_out _ _ c.args.seat.now.me.0 drew.0 _ _ c.requires.lock drew.2 c.wait.ensures.takes).2)
