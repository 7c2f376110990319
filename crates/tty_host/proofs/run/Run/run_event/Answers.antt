use Rattle.std.proofs.Common.{◌∷◌, ◌∙◌, ap, sym, subst}
use Rattle.call_words.specs.declared.event.Event.{Event}
use Rattle.user_db.specs.declared.boot.Boot.{Boot}
use Rattle.trail_core.specs.Trail.{Trail}
use Rattle.script_model.specs.Seen.{out_seen}
use Rattle.script_text.specs.Answers.{answer_line}
use Rattle.call_words.specs.Events.{wake_list}
use Rattle.tty_host.specs.Outputs.{behind, Goes}
use Rattle.tty_host.proofs.OneEvent.{stops-at, full, script_of}
use Rattle.tty_host.proofs.OutputLemmas.{goes-at}
use Rattle.tty_host.proofs.TrailEvents.{Took, seen, left, last-taken, is-full, none-left, room-ok, room-memory, is-memory, trail-next}
use Rattle.tty_host.proofs.run.Run.run_event.Goals as goal

pub returns-in-Err-Full-clause-goes : goal.returns-in-Err-Full-clause-goes
returns-in-Err-Full-clause-goes g c = λ es bad.
    let self = c.args.self.now in
    let filled = is-full c.apply_into.result c.in-Err-Full.field-0 c.in-Err-Full.field-0-0 c.args.event _ _ c.in-Err-Full.is c.in-Err-Full.field-0-is
    c.in-Err-Full.ensures.event c.apply_into.ensures.full in
    goes-at _ _ _ _ _ _ (ap (λ out. behind self.output.items out) (full _ _ c.args.event es bad (none-left _ _ filled self.most))) (c.stop_full.ensures.goes _)

pub returns-in-Err-NoMemory-clause-goes : goal.returns-in-Err-NoMemory-clause-goes
returns-in-Err-NoMemory-clause-goes g c = λ es bad.
    let self = c.args.self.now in
    let lost = c.in-Err-NoMemory in
    let some = room-memory c.apply_into.result lost.field-0 lost.field-0-0 c.args.event _ _ lost.is lost.field-0-is c.apply_into.ensures.full self.most self.fits in
    let wants = c.apply_into.ensures.wants (is-memory c.apply_into.result lost.field-0 lost.field-0-0 c.args.event lost.is lost.field-0-is lost.ensures.event) in
    c.stop_memory.ensures.goes _ _ (stops-at _ _ _ es bad some wants)

pub returns-clause-goes : goal.returns-clause-goes
returns-clause-goes g c = λ es bad.
    let self = c.args.self.now in
    let took : Took self.trail c.apply_into.new.self c.args.event c.apply_into.new.into c.apply_into.new.wakes =
    record { decision = c.in-Ok.ensures.decision; wakeups = c.in-Ok.ensures.wakeups; trail = c.in-Ok.ensures.trail } in
    let last = last-taken self.trail c.apply_into.new.self c.args.event c.index-events-events.result took.trail (rw c.events-events.ensures at c.index-events-events.is) in
    let printed = c.print_answer.ensures ∙ ap (λ e. answer_line e c.apply_into.new.into (wake_list c.apply_into.new.wakes)) last in
    let before = behind self.output.items (out_seen (seen self.trail) (left self.trail) (script_of (c.args.event ∷ es) bad)) in
    let more = out_seen (seen c.apply_into.new.self) (left c.apply_into.new.self) (script_of es bad) in
    let next = trail-next self.trail c.apply_into.new.self c.args.event c.apply_into.new.into c.apply_into.new.wakes es bad _ took printed
    (room-ok c.apply_into.result c.in-Ok.field-0 c.args.event _ _ c.in-Ok.is c.apply_into.ensures.full self.most self.fits) in
    subst
    (λ (t : Trail Boot Event). Goes c.gather.result (g.K.Sink.written c.args.out.now) before (g.K.Sink.written c.gather.new.out)
    (behind c.gather.new.self.output.items (out_seen (seen t) (left t) (script_of es bad))))
    (sym c.gather.ensures.trail)
    (goes-at _ _ _ _ _ _ (ap (λ out. behind self.output.items out) next) (c.gather.ensures.goes (seen self.trail) c.args.event more))
