use Rattle.std.proofs.Common.{refl}
use Rattle.std.proofs.lemmas.Result.{err_from_is_err_and}
use Rattle.kern_core.proofs.RegularFiles.{regular_seen}
use Rattle.kern_core.proofs.system.System.write.Goals as goal

pub returns-clause-does : goal.returns-clause-does
returns-clause-does c = rw (← c.self.view_is) (c.in_ok-decision.ensures.does _ refl refl refl refl refl refl refl refl)

pub returns-in_err-decision-clause-memory : goal.returns-in_err-decision-clause-memory
returns-in_err-decision-clause-memory c =
    let same = err_from_is_err_and c.from_residual.result c.from_residual.ensures.1 in
    rw (same.1, ← c.self.view_is) (regular_seen _ c.args.slot c.args.fd c.in_err-decision.ensures.regular)
