use Rattle.std.proofs.Common.{sym, ap, ◌∙◌}
use Rattle.std.specs.Result.{result_err}
use Rattle.std.proofs.lemmas.Result.{err_from_is_err_and}
use Rattle.tree_model.specs.Paths.{search_rule}
use Rattle.tree_model.specs.Tree.{at_path, nodes_from}
use Rattle.vnode_tree.specs.Nodes.{path_of}
use Rattle.vnode_tree.proofs.Ways.{closed_here, open_here}
use Rattle.vnode_tree.proofs.tree.Tree.may_search.Goals as goal

pub returns-in_err-may_access : goal.returns-in_err-may_access
returns-in_err-may_access c =
    let same = err_from_is_err_and c.from_residual.result c.from_residual.ensures.1 in
    let nodes = c.args.self.now in
    let closed =
    closed_here (at_path (nodes_from nodes)) c.args.cred.now c.args.label.now (path_of nodes) c.args.dirs.now c.loop-dir.dir-index c.dir-item.result
    c.in_err-may_access.field-0.0 c.loop-dir-test.true c.dir-item.is
    (ap (search_rule c.args.cred.now c.args.label.now) (sym c.may_access.ensures.map)
    ∙ sym c.may_access.ensures.denied ∙ ap result_err c.in_err-may_access.was) in
    rw (same.1, same.2) (sym closed ∙ c.loop-dir.invariant)

pub loop-dir-preserved : goal.loop-dir-preserved
loop-dir-preserved c =
    let nodes = c.args.self.now in
    let free =
    open_here (at_path (nodes_from nodes)) c.args.cred.now c.args.label.now (path_of nodes) c.args.dirs.now c.loop-dir.dir-index c.dir-item.result
    c.loop-dir-test.true c.dir-item.is
    (ap (search_rule c.args.cred.now c.args.label.now) (sym c.may_access.ensures.map)
    ∙ sym c.may_access.ensures.denied ∙ ap result_err c.in_ok-may_access.was) in
    sym free ∙ c.loop-dir.invariant
