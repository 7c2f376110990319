use Rattle.std.proofs.Common.{rules, ap, ◌∙◌}
use Rattle.turn_lock.proofs.TableLemmas.{tells}
use Rattle.turn_lock.proofs.SeatLemmas.{in_table}
use Rattle.turn_lock.proofs.lock.TurnLock.tell.Goals as goal

pub split_seat-note-requires : goal.split_seat-note-requires
split_seat-note-requires g c =
    let free = c.from.invariant.free in (
      in_table _ _ _ _ c.self.inside.table.shared.key (ap (λ p. p.lock) c.from.view_is ∙ c.requires.lock.0) c.self.view_is,
      search rules,
      tells _ _ _ free.no_ticket free.no_machine,
    )
