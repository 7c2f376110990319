use Rattle.system_model.specs.Step.{answer_to}
use Rattle.kern_core.proofs.StepLemmas.{row_leaves, step_seen, step_stands, after_one}
use Rattle.kern_core.proofs.system.System.step.Goals as goal

pub work_endings-requires-clause-running : goal.work_endings-requires-clause-running
work_endings-requires-clause-running c =
    row_leaves c.args.self.now c.do_event.new.self c.args.event.now c.requires.left.after.ending c.in_ok-do_event.ensures.does.state

pub returns-clause-seen : goal.returns-clause-seen
returns-clause-seen c = step_seen _ _ _ c.args.event.now c.in_ok-do_event.ensures.does.state c.work_endings.ensures.does

pub returns-clause-answer : goal.returns-clause-answer
unfolding answer_to
returns-clause-answer c = c.in_ok-do_event.ensures.does.answer

pub returns-clause-stands : goal.returns-clause-stands
returns-clause-stands c =
    step_stands _ _ c.args.event.now c.do_event.new.decision (returns-clause-seen c) (returns-clause-answer c)

pub returns-clause-after : goal.returns-clause-after
returns-clause-after c =
    after_one c.args.self.now c.do_event.new.self c.work_endings.new.self c.args.event.now c.requires.used c.do_event.ensures.revokes
    c.work_endings.ensures.revokes c.work_endings.ensures.list (returns-clause-seen c)
