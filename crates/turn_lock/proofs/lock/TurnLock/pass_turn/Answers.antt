use Rattle.std.proofs.Common.{rules}
use Rattle.turn_lock.proofs.SeatLemmas.{in_table, passes_turn}
use Rattle.turn_lock.proofs.lock.TurnLock.pass_turn.Goals as goal

pub fetch_add-requires : goal.fetch_add-requires
fetch_add-requires g c = (
  in_table _ _ _ _ c.self.inside.table.shared.key c.requires.lock c.self.view_is,
  search rules,
  passes_turn _ _ _ _ _ _ c.requires.lock c.requires.turn,
)
