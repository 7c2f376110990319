use Rattle.kern_core.proofs.kernel.KernelMachine.step.Goals as goal

pub returns-clause-stands : goal.returns-clause-stands
returns-clause-stands c = λ es stands at. c.in_ok-step_into.ensures.stands es stands at
