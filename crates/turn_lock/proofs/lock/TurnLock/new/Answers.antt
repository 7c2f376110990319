use Rattle.std.proofs.Common.{rules}
use Rattle.turn_lock.proofs.TableLemmas.{opens_with}
use Rattle.turn_lock.proofs.lock.TurnLock.new.Goals as goal

pub new-requires : goal.new-requires
new-requires g c =
    opens_with (record { machine = c.of.result; passes = c.args.passes }) c.args.inner c.in_ok-slots.slots.items _ c.push_reserved.ensures.items
    c.in_ok-slots.ensures.items c.of.ensures c.requires.fresh (search rules)
