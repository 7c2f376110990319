use Rattle.std.proofs.Common.{rules}
use Rattle.turn_lock.proofs.TableLemmas.{splits}
use Rattle.turn_lock.proofs.SeatLemmas.{in_table}
use Rattle.turn_lock.proofs.lock.TurnLock.split.Goals as goal

pub split_seat-seat-requires : goal.split_seat-seat-requires
split_seat-seat-requires g c =
    let free = c.requires.free in (
      in_table _ _ _ _ c.self.inside.table.shared.key c.requires.lock c.self.view_is,
      search rules,
      splits _ _ _ free.no_ticket free.no_machine,
    )
