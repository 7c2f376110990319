use Rattle.std.proofs.Common.{◌≡◌, ◌<◌, ◌++◌, ◌∷◌, [], length, ap, ◌∙◌, sym, arith, length-append, eqb-true, append_assoc}
use Rattle.user_db.specs.Lines.{lines}
use Rattle.tty_host.specs.Come.{lines_come, seen_so_far, events_left}
use Rattle.tty_host.specs.Outputs.{behind}
use Rattle.tty_host.proofs.OutputLemmas.{goes-at, goes-ok, keeps-same}
use Rattle.tty_host.proofs.LinesCome.{lines-newline, one_line-byte, long-line, goes-emptied}
use Rattle.tty_host.proofs.run.Run.feed.Goals as goal

pub returns-then-byte-eq10-clause-goes : goal.returns-then-byte-eq10-clause-goes
returns-then-byte-eq10-clause-goes g c = λ text.
    let self = c.args.self.now in
    let cut = lines-newline self.line.items text c.args.byte self.one_line c.if-byte-eq10.true in
    goes-at _ _ _ _ _ _ (ap (λ ls. lines_come self ls) cut)
    (goes-emptied c.end_line.result _ _ _ (λ ls. lines_come c.end_line.new.self ls) _ text c.end_line.ensures.line (c.end_line.ensures.goes (lines text)))

pub returns-then-is_full-clause-goes : goal.returns-then-is_full-clause-goes
returns-then-is_full-clause-goes g c = λ text.
    let self = c.args.self.now in
    let line = self.line.items ++ c.args.byte ∷ [] in
    let full : length self.line.items ≡ 4096 = eqb-true _ _ (sym c.if-is_full.ensures.value) in
    let long : 4096 < length line = omega (arith, full, length-append self.line.items (c.args.byte ∷ [])) in
    let one = one_line-byte self.line.items c.args.byte self.one_line c.if-byte-eq10.false in
    goes-at _ _ _ _ _ _
    (ap (λ bs. lines_come self (lines bs)) (sym (append_assoc self.line.items (c.args.byte ∷ []) text))
    ∙ ap (λ out. behind self.output.items out) (long-line (seen_so_far self) (events_left self) self.number line text one long))
    (c.stop_at_line.ensures.goes _)

pub returns-clause-goes : goal.returns-clause-goes
returns-clause-goes g c = λ text.
    let self = c.args.self.now in
    goes-at _ _ _ _ _ _ (ap (λ bs. lines_come self (lines bs)) (sym (append_assoc self.line.items (c.args.byte ∷ []) text)))
    (goes-ok _ _ _ _ (rw c.push.ensures.items (keeps-same _ _)))
