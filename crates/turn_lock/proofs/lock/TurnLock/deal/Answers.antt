use Rattle.std.proofs.Common.{rules, sym, subst, ◌+◌}
use Rattle.turn_lock.proofs.PassLemmas.{Deals, deals_one}
use Rattle.turn_lock.proofs.lock.TurnLock.deal.Goals as goal

pub loop-number-preserved : goal.loop-number-preserved
loop-number-preserved g c =
    let turn = c.loop-number in
    let split = c.split-pass.ensures in (
      subst (Deals c.args.self.now c.args.seat c.split-pass.new.seat (turn.number + 1)) (sym c.push_reserved.ensures.items)
          (deals_one c.args.self.now c.args.seat turn.seat c.split-pass.new.seat turn.number turn.all.items c.split-pass.result
          turn.invariant.0 (search rules) split.same.0 split.seat split.pass),
      search rules,
    )
