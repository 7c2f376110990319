use Rattle.std.proofs.Common.{◌++◌, ◌∙◌, ap}
use Rattle.std.proofs.lemmas.Result.{err_from_is_err_and}
use Rattle.script_model.specs.Seen.{with_line}
use Rattle.tty_host.proofs.OutputLemmas.{goes-ok, goes-stop, keeps-ok, keeps-more, keeps-line}
use Rattle.tty_host.proofs.run.Run.gather.Goals as goal

pub returns-in_err-make_room-clause-goes : goal.returns-in_err-make_room-clause-goes
returns-in_err-make_room-clause-goes g c = λ v e more.
    let same = err_from_is_err_and c.from_residual.result c.from_residual.ensures.1 in
    rw (same.1, same.2) (goes-stop _ _ _ _ _ _ (c.in_err-make_room.ensures.goes (with_line v e c.args.self.now.answer.items more)))

pub returns-clause-goes : goal.returns-clause-goes
returns-clause-goes g c = λ v e more.
    let answer = c.args.self.now.answer.items in
    let room = c.in_ok-make_room.ensures in
    goes-ok _ _ _ _
    (keeps-more _ _ _ _ _ _ (keeps-ok _ _ _ _ _ (room.goes (with_line v e answer more)))
    (keeps-line _ c.make_room.new.self.output.items _ v e answer more
    (c.push_bytes.ensures.bytes ∙ ap (λ line. c.make_room.new.self.output.items ++ line) (c.as_slice.ensures.value ∙ ap (λ a. a.items) room.answer))))
