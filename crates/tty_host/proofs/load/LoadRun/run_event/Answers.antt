use Rattle.std.proofs.Common.{◌∙◌, ap}
use Rattle.script_text.specs.Answers.{answer_line}
use Rattle.call_words.specs.Events.{wake_list}
use Rattle.tty_host.proofs.LoadLemmas.{are_few, summed-more}
use Rattle.tty_host.proofs.TrailEvents.{Took, last-taken}
use Rattle.tty_host.proofs.load.LoadRun.run_event.Goals as goal

pub add-requires : goal.add-requires
add-requires c = are_few c.args.self.now c.requires.summed c.requires.room

pub returns-clause-summed : goal.returns-clause-summed
returns-clause-summed c =
    let old = c.args.self.now in
    let took : Took old.trail c.apply.new.self c.args.event c.in-Ok.decision c.apply.new.wakes =
    record { decision = c.in-Ok.ensures.decision; wakeups = c.in-Ok.ensures.wakeups; trail = c.in-Ok.ensures.trail } in
    let last = last-taken old.trail c.apply.new.self c.args.event c.index-events-events.result took.trail
    (rw c.events-events.ensures at c.index-events-events.is) in
    let printed = c.as_slice.ensures.value ∙ c.print_answer.ensures ∙ ap (λ e. answer_line e c.in-Ok.decision (wake_list c.apply.new.wakes)) last in
    summed-more old _ c.args.event c.in-Ok.decision c.apply.new.wakes c.as_slice.result.now c.requires.summed took c.add.ensures.counts
    c.add.ensures.most printed (c.update.ensures _ c.requires.summed.digest)
