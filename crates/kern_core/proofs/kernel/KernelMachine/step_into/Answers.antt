use Rattle.std.proofs.Common.{sym, subst}
use Rattle.kern_core.specs.Trails.{StandsFor}
use Rattle.kern_core.proofs.TrailLemmas.{stands_more}
use Rattle.kern_core.proofs.kernel.KernelMachine.step_into.Goals as goal

pub returns-clause-stands : goal.returns-clause-stands
returns-clause-stands c = λ es stands at.
    stands_more _ _ _ c.args.event.now c.step.new.decision c.in_ok-step.ensures.stands c.in_ok-step.ensures.after es
    (subst (λ k. StandsFor k es) (sym c.self.view_is) stands)
