use Rattle.std.proofs.Common.{refl}
use Rattle.kern_core.proofs.system.System.sigset.Goals as goal

pub returns-clause-does : goal.returns-clause-does
returns-clause-does c = rw (← c.self.view_is) (c.do_sigset.ensures.does _ refl)
