use Rattle.std.proofs.Common.{rules, subst, arith}
use Rattle.turn_lock.specs.Answers.{Answers, new_events}
use Rattle.turn_lock.proofs.SeatLemmas.{in_table, first_slot, has_asked, old_machine, counts_new, turn_goes_on}
use Rattle.turn_lock.proofs.lock.TurnLock.ask.Goals as goal

pub slot_mut-machine-requires : goal.slot_mut-machine-requires
slot_mut-machine-requires g c = (
  in_table _ _ _ _ c.self.inside.table.shared.key c.requires.lock c.self.view_is,
  first_slot _ _ c.requires.turn.slot,
)

pub fetch_add-requires : goal.fetch_add-requires
fetch_add-requires g c =
    let asked = has_asked c.args.self.now c.args.seat.now.me _ c.decide-turn.new.machine (new_events c.args.event c.decide-turn.result)
    c.requires.turn c.slot_mut-machine.ensures.value c.decide-turn.ensures.trail in (
      in_table _ _ _ _ c.self.inside.table.shared.key c.requires.lock c.self.view_is,
      search rules,
      counts_new _ _ _ _ c.args.seat.now.me _ c.decide-turn.new.machine _ _ _ _ asked
          c.len-before.ensures.len c.len.ensures.len c.from.ensures
          (let after = c.len.ensures.len in let small = c.len.type_inv in omega arith),
    )

pub returns-clause-answer : goal.returns-clause-answer
returns-clause-answer g c =
    let asked = has_asked c.args.self.now c.args.seat.now.me _ c.decide-turn.new.machine (new_events c.args.event c.decide-turn.result)
    c.requires.turn c.slot_mut-machine.ensures.value c.decide-turn.ensures.trail in
    subst
    (λ machine. Answers g.M.Machine.decision g.M.Machine.wakeups g.M.Machine.is_idle g.M.Machine.needs_no_memory
    machine c.args.event c.decide-turn.result)
    (old_machine _ _ _ _ _ asked) c.decide-turn.ensures.answer

pub returns-clause-seat : goal.returns-clause-seat
returns-clause-seat g c =
    let asked = has_asked c.args.self.now c.args.seat.now.me _ c.decide-turn.new.machine (new_events c.args.event c.decide-turn.result)
    c.requires.turn c.slot_mut-machine.ensures.value c.decide-turn.ensures.trail in
    turn_goes_on _ _ _ _ _ _ asked c.fetch_add.ensures.2
