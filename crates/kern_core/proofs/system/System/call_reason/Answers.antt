use Rattle.std.proofs.Common.{sym}
use Rattle.system_model.specs.Tables.{view_of}
use Rattle.system_laws.proofs.OtherCalls.{others_do_not_wait}
use Rattle.kern_core.proofs.WakeLemmas.{no_waiter}
use Rattle.kern_core.proofs.system.System.call_reason.Goals as goal

pub returns-in_default : goal.returns-in_default
returns-in_default c =
    let d = c.in_default in
    sym
    (others_do_not_wait (view_of c.args.self.now) c.args.slot c.args.call.now
    (no_waiter c.args.call.now d.not-Open d.not-Read d.not-Write d.not-Wait d.not-Pause d.not-TcDrain))
