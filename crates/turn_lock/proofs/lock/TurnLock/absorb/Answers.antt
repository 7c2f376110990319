use Rattle.std.proofs.Common.{rules, sym, ap, ◌∙◌}
use Rattle.turn_lock.proofs.TableLemmas.{joins, sees}
use Rattle.turn_lock.proofs.lock.TurnLock.absorb.Goals as goal

pub join_seat-requires : goal.join_seat-requires
join_seat-requires g c =
    let r = c.requires in
    let here = sym (ap (λ l. l.table) c.self.view_is) in (
      r.lock.0 ∙ here,
      r.lock.1 ∙ here,
      r.other.no_slot,
      search rules,
      joins _ _ _ _ _ r.seat.0 r.other.no_ticket r.other.no_machine,
    )

pub load-requires : goal.load-requires
load-requires g c =
    let r = c.requires in
    let here = sym (ap (λ l. l.table) c.self.view_is) in (
      c.join_seat.ensures.0 ∙ (r.lock.0 ∙ here),
      search rules,
      sees _ _ _ _ (ap (λ m. m.0.has_machine) c.join_seat.ensures.2 ∙ r.seat.0),
    )
