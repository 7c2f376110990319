use Rattle.std.proofs.Common.{◌≡◌, ◌<◌, ◌++◌, ◌∷◌, [], true, length, ap, ◌∙◌, sym, arith, length-append, append_assoc, refl}
use Rattle.std.proofs.lemmas.List.Folds.{list_all-append}
use Rattle.user_db.specs.Lines.{lines}
use Rattle.tty_host.specs.Come.{lines_come, to_come, seen_so_far, events_left}
use Rattle.tty_host.specs.Outputs.{behind}
use Rattle.tty_host.specs.OneLine.{is_one_line}
use Rattle.tty_host.proofs.OutputLemmas.{goes-at}
use Rattle.tty_host.proofs.LinesCome.{long-line}
use Rattle.tty_host.proofs.run.Run.feed_line.Goals as goal

pub returns-then-remaining_capacity-line-clause-goes : goal.returns-then-remaining_capacity-line-clause-goes
returns-then-remaining_capacity-line-clause-goes g c = λ text.
    let self = c.args.self.now in
    let line = self.line.items ++ c.args.line.now in
    let long : 4096 < length line = omega (arith, length-append self.line.items c.args.line.now) in
    let one : is_one_line line ≡ true = rw (list_all-append, self.one_line, c.requires) refl in
    goes-at _ _ _ _ _ _
    (ap (λ bs. lines_come self (lines bs)) (sym (append_assoc self.line.items c.args.line.now (10 ∷ text)))
    ∙ ap (λ out. behind self.output.items out) (long-line (seen_so_far self) (events_left self) self.number line (10 ∷ text) one long))
    (c.stop_at_line.ensures.goes _)

pub returns-clause-goes : goal.returns-clause-goes
returns-clause-goes g c = λ text.
    let self = c.args.self.now in
    goes-at _ _ _ _ _ _ (ap (λ bs. lines_come self (lines bs)) (sym (append_assoc self.line.items c.args.line.now (10 ∷ text))))
    (rw c.push_bytes.ensures.bytes at (c.feed.ensures.goes text))
