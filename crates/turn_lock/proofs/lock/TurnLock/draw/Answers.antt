use Rattle.std.proofs.Common.{rules}
use Rattle.turn_lock.proofs.StepLemmas.{draws}
use Rattle.turn_lock.proofs.SeatLemmas.{in_table}
use Rattle.turn_lock.proofs.lock.TurnLock.draw.Goals as goal

pub fetch_add-requires : goal.fetch_add-requires
fetch_add-requires g c =
    let rests = c.requires.rests in (
      in_table _ _ _ _ c.self.inside.table.shared.key c.requires.lock c.self.view_is,
      search rules,
      draws _ _ _ _ rests.free.no_ticket rests.free.no_machine rests.one_number,
    )
