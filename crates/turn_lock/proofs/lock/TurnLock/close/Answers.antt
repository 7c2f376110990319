use Rattle.std.proofs.Common.{arith}
use Rattle.turn_lock.proofs.TableLemmas.{comes}
use Rattle.turn_lock.proofs.PassLemmas.{closes}
use Rattle.turn_lock.proofs.CountLemmas.{length-events}
use Rattle.turn_lock.proofs.lock.TurnLock.close.Goals as goal

pub load_new_seat-keeper-requires : goal.load_new_seat-keeper-requires
load_new_seat-keeper-requires g c = let i = c.self.invariant in (omega arith, comes _ _)

pub take-machine-requires : goal.take-machine-requires
take-machine-requires g c =
    let counts = c.close_with-closed.ensures.counts in
    let i = c.self.invariant in
    (omega arith, c.close_with-closed.ensures.values.1 0 (omega arith) (omega arith))

pub returns-clause-history : goal.returns-clause-history
returns-clause-history g c =
    let k = c.gather-keeper in
    closes c.self.inside.table.shared.key _ c.args.self k.result.id k.result.me.0 _ _ c.take-machine.result c.args.passes.items
    c.self.view_is c.requires k.ensures.keeper.0 k.ensures.keeper.1 k.ensures.covers c.close_with-closed.ensures.values.2 c.take-machine.ensures.value

pub returns-clause-count : goal.returns-clause-count
returns-clause-count g c =
    let k = c.gather-keeper in
    length-events _ _ _ c.requires
    (closes c.self.inside.table.shared.key _ c.args.self k.result.id k.result.me.0 _ _ c.take-machine.result c.args.passes.items
    c.self.view_is c.requires k.ensures.keeper.0 k.ensures.keeper.1 k.ensures.covers c.close_with-closed.ensures.values.2 c.take-machine.ensures.value)
