use Rattle.std.proofs.Common.{sym, ap, ◌∙◌}
use Rattle.std.specs.Result.{result_err}
use Rattle.std.proofs.lemmas.Result.{err_from_is_err_and}
use Rattle.vnode_tree.proofs.Ways.{denied_on_the_way, leads}
use Rattle.vnode_tree.proofs.tree.Tree.find.Goals as goal

pub returns-in_err-may_search : goal.returns-in_err-may_search
returns-in_err-may_search c =
    let same = err_from_is_err_and c.from_residual.result c.from_residual.ensures.1 in
    rw (same.1, same.2)
    (denied_on_the_way c.args.self.now c.args.cred.now c.args.label.now c.args.cwd c.args.path.now c.walk-walk.result c.in_err-may_search.field-0.0
    c.walk-walk.ensures.by_walk
    (rw (← c.as_slice.ensures.value) (sym (ap result_err c.in_err-may_search.was) ∙ c.may_search.ensures)))

pub returns : goal.returns
returns c =
    leads c.args.self.now c.args.cred.now c.args.label.now c.args.cwd c.args.path.now c.walk-walk.result c.place_of.result c.walk-walk.ensures.by_walk
    (rw (← c.as_slice.ensures.value) (sym (ap result_err c.in_ok-may_search.was) ∙ c.may_search.ensures))
    (c.place_of.ensures.place c.args.self.now)
    (c.place_of.ensures.live c.args.self.now c.walk-walk.ensures.live_end)
    (c.place_of.ensures.denied c.args.self.now)
