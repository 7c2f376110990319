use Rattle.std.proofs.Common.{◌≡◌, ◌+◌, [], ◌∷◌, ap, sym, ◌∙◌}
use Rattle.script_model.specs.Reading.{reads_from}
use Rattle.script_model.specs.Seen.{out_seen}
use Rattle.script_text.specs.Reading.{arrivals, events_of_line}
use Rattle.std.specs.Prelude.{Some}
use Rattle.tty_host.specs.Come.{seen_so_far, events_left}
use Rattle.tty_host.specs.Outputs.{behind}
use Rattle.tty_host.proofs.OutputLemmas.{goes-at, goes-to}
use Rattle.tty_host.proofs.LinesCome.{good-line, bad-line}
use Rattle.tty_host.proofs.run.Run.run_line.Goals as goal

pub returns-in-None-clause-goes : goal.returns-in-None-clause-goes
returns-in-None-clause-goes g c = λ ls.
    goes-at _ _ _ _ _ _
    (ap (λ out. behind c.args.self.now.output.items out) (bad-line _ _ _ _ ls (c.in-None.ensures.events ∙ ap events_of_line c.as_slice.ensures.value)))
    (c.stop_at_line.ensures.goes _)

pub returns-in-Some-Event-clause-goes : goal.returns-in-Some-Event-clause-goes
returns-in-Some-Event-clause-goes g c = λ ls.
    let self = c.args.self.now in
    let new = c.run_event.new.self in
    let next = reads_from (self.number + 1) ls in
    let says : Some (c.read_event_line_into.new.event ∷ []) ≡ events_of_line c.as_slice.result.now =
    rw c.in-Some-Event.field-0-is at c.in-Some-Event.ensures.events in
    let said = says ∙ ap events_of_line c.as_slice.ensures.value in
    goes-to _ _ _ _ _ _
    (ap (λ n. behind new.output.items (out_seen (seen_so_far new) (events_left new) (reads_from (n + 1) ls))) (sym c.run_event.ensures.number))
    (goes-at _ _ _ _ _ _ (ap (λ out. behind self.output.items out) (good-line _ _ _ _ ls _ said)) (c.run_event.ensures.goes next.events next.bad))

pub returns-in-Some-Input-clause-goes : goal.returns-in-Some-Input-clause-goes
returns-in-Some-Input-clause-goes g c = λ ls.
    let self = c.args.self.now in
    let new = c.run_input.new.self in
    let next = reads_from (self.number + 1) ls in
    let kind = c.in-Some-Input in
    let says : Some (arrivals kind.line kind.bytes) ≡ events_of_line c.as_slice.result.now = rw kind.field-0-is at kind.ensures.events in
    let said = ap (λ bytes. Some (arrivals kind.line bytes)) c.as_slice-input.ensures.bytes ∙ says ∙ ap events_of_line c.as_slice.ensures.value in
    goes-to _ _ _ _ _ _
    (ap (λ n. behind new.output.items (out_seen (seen_so_far new) (events_left new) (reads_from (n + 1) ls))) (sym c.run_input.ensures.number))
    (goes-at _ _ _ _ _ _ (ap (λ out. behind self.output.items out) (good-line _ _ _ _ ls _ said)) (c.run_input.ensures.goes next.events next.bad))
