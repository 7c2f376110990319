use Rattle.std.proofs.Common.{rules, ap, ◌∙◌}
use Rattle.turn_lock.proofs.StepLemmas.{looks}
use Rattle.turn_lock.proofs.SeatLemmas.{in_table}
use Rattle.turn_lock.proofs.lock.TurnLock.wait.Goals as goal

pub load-serving-requires : goal.load-serving-requires
load-serving-requires g c =
    let same = c.loop.invariant in
    let ticket = c.requires.ticket in (
      same.0.0 ∙ in_table _ _ _ _ c.self.inside.table.shared.key c.requires.lock c.self.view_is,
      search rules,
      looks _ _ _ _ ticket.0 (ap (λ m. m.0.tickets) same.1 ∙ ticket.2) (ap (λ m. m.0.has_machine) same.1 ∙ c.requires.machine),
    )

pub returns-then-serving-ticket-clause-takes : goal.returns-then-serving-ticket-clause-takes
returns-then-serving-ticket-clause-takes g c = search rules
