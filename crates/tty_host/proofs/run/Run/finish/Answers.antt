use Rattle.std.proofs.Common.{◌<◌, [], length, ap, ◌∙◌, arith, sym, eqb-true}
use Rattle.std.proofs.lemmas.Bool.{eqb-false}
use Rattle.std.proofs.lemmas.Result.{err_from_is_err_and}
use Rattle.tty_host.specs.Come.{lines_come, seen_so_far, events_left}
use Rattle.tty_host.specs.Outputs.{behind, status_alone}
use Rattle.tty_host.proofs.OutputLemmas.{goes-at, goes-more, goes-nothing, goes-stop, keeps-at, keeps-ok}
use Rattle.tty_host.proofs.LinesCome.{lines-none, lines-end, none-come}
use Rattle.tty_host.proofs.run.Run.finish.Goals as goal

pub returns-then-is_empty-clause-goes : goal.returns-then-is_empty-clause-goes
returns-then-is_empty-clause-goes g c =
    let self = c.args.self.now in
    let none = lines-none self.line.items self.one_line (eqb-true _ _ (sym c.if-is_empty.ensures)) in
    goes-at _ _ _ _ _ _
    (ap (λ ls. lines_come self ls) none ∙ ap (λ out. behind self.output.items out) (sym (none-come (seen_so_far self) (events_left self) self.number)))
    (goes-nothing _ _ _ _ _ _ c.flush.ensures.none (c.flush.ensures.goes (status_alone 0)))

pub returns-in_err-end_line-clause-goes : goal.returns-in_err-end_line-clause-goes
returns-in_err-end_line-clause-goes g c =
    let self = c.args.self.now in
    let some = eqb-false _ _ (sym c.if-is_empty.ensures) in
    let long : 0 < length self.line.items = omega arith in
    let same = err_from_is_err_and c.from_residual.result c.from_residual.ensures.1 in
    rw (same.1, same.2)
    (goes-stop _ _ _ _ _ _
    (goes-at _ _ _ _ _ _ (ap (λ ls. lines_come self ls) (lines-end self.line.items self.one_line long)) (c.in_err-end_line.ensures.goes [])))

pub returns-clause-goes : goal.returns-clause-goes
returns-clause-goes g c =
    let self = c.args.self.now in
    let new = c.end_line.new.self in
    let some = eqb-false _ _ (sym c.if-is_empty.ensures) in
    let long : 0 < length self.line.items = omega arith in
    goes-more _ _ _ _ _ _ _
    (keeps-at _ _ _ _ _ (ap (λ ls. lines_come self ls) (lines-end self.line.items self.one_line long)) (keeps-ok _ _ _ _ _ (c.in_ok-end_line.ensures.goes [])))
    (goes-at _ _ _ _ _ _ (ap (λ out. behind new.output.items out) (sym (none-come (seen_so_far new) (events_left new) new.number)))
    (goes-nothing _ _ _ _ _ _ c.flush-2.ensures.none (c.flush-2.ensures.goes (status_alone 0))))
