use Rattle.std.proofs.Common.{rules, ap, ◌∙◌, ◌++◌}
use Rattle.std.specs.Option.{option_to_list}
use Rattle.turn_lock.proofs.SeatLemmas.{same_table}
use Rattle.turn_lock.proofs.PassLemmas.{gathers_none, last_lock, gathers_one, gathers_all}
use Rattle.turn_lock.proofs.lock.TurnLock.gather.Goals as goal

pub absorb-requires-clause-lock : goal.absorb-requires-clause-lock
absorb-requires-clause-lock g c =
    let turn = c.loop-pass in
    let front = c.pop.new.self.items in
    let left = c.pop.ensures.items ∙ ap (λ o. front ++ option_to_list o) c.in-Some.is in
    let of_lock = last_lock c.args.self.now c.args.keeper turn.keeper c.args.passes.items turn.passes.items front c.in-Some.pass
    turn.invariant c.requires.passes left in (
      turn.invariant.same_table ∙ c.requires.lock,
      same_table _ _ _ (ap (λ p. p.lock) c.pass.view_is ∙ of_lock),
    )

pub loop-pass-preserved : goal.loop-pass-preserved
loop-pass-preserved g c =
    let turn = c.loop-pass in
    let front = c.pop.new.self.items in
    let left = c.pop.ensures.items ∙ ap (λ o. front ++ option_to_list o) c.in-Some.is in
    let e = c.absorb.ensures in
    gathers_one c.args.self.now c.args.keeper turn.keeper c.absorb.new.seat c.pass.inside.seat c.args.passes.items turn.passes.items front
    c.in-Some.pass turn.invariant left e.same.0 e.same.1 c.pass.view_is c.pass.invariant.one_number e.seen.0 e.seen.1 e.seat

pub loop-pass-init : goal.loop-pass-init
loop-pass-init g c = gathers_none c.args.self.now c.args.keeper c.args.passes.items c.requires.keeper.0 c.requires.keeper.1

pub returns-clause-covers : goal.returns-clause-covers
returns-clause-covers g c = gathers_all _ _ _ _ _ c.loop-pass.invariant (search rules)
