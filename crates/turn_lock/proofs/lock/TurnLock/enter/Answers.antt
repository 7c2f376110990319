use Rattle.std.proofs.Common.{rules, ap}
use Rattle.turn_lock.proofs.TurnLemmas.{steps, sees_mine, takes_turn}
use Rattle.turn_lock.proofs.lock.TurnLock.enter.Goals as goal

pub ask-turn-requires-clause-turn : goal.ask-turn-requires-clause-turn
ask-turn-requires-clause-turn g c = search rules

pub returns-clause-turn : goal.returns-clause-turn
returns-clause-turn g c =
    let t = steps c.pass.inside.seat.me.0 c.take.new.seat.me.0 _ _ _ _ c.pass.invariant.one_number c.take.ensures.claims
    (ap (λ m. m.0) c.take.ensures.seat.1) c.ask-turn.ensures.seat.0 (ap (λ m. m.0) c.pass_turn.ensures.seat) in
    takes_turn _ _ _ _ c.args.self.now c.args.pass.now c.args.event c.ask-turn.result c.pass.inside.seat c.pass_turn.new.seat _
    c.pass.view_is c.take.ensures.seen c.ask-turn.ensures.answer t

pub returns-clause-mine : goal.returns-clause-mine
returns-clause-mine g c =
    let t = steps c.pass.inside.seat.me.0 c.take.new.seat.me.0 _ _ _ _ c.pass.invariant.one_number c.take.ensures.claims
    (ap (λ m. m.0) c.take.ensures.seat.1) c.ask-turn.ensures.seat.0 (ap (λ m. m.0) c.pass_turn.ensures.seat) in
    sees_mine c.pass_turn.new.seat _ _ _ t
