use Rattle.std.proofs.Common.{ap, ◌∙◌}
use Rattle.std.specs.Result.{result_err}
use Rattle.proc_table.specs.Processes.{running_at}
use Rattle.proc_table.specs.Procs.{process_of}
use Rattle.vnode_tree.specs.Nodes.{path_of}
use Rattle.system_model.specs.Tables.{view_of}
use Rattle.open_calls.proofs.RowLooks.{make_seen, create_checks}
use Rattle.open_calls.proofs.openings.may_create.Goals as goal

pub returns-clause-denied : goal.returns-clause-denied
returns-clause-denied c = λ t nodes processes.
    create_checks (view_of t) c.args.slot (path_of c.args.tree.now c.args.dir) c.args.flags.create (result_err c.may_make.result) c.if-not-flags.false
    (make_seen t c.args.tree.now c.args.slot (process_of c.caller-who.result.now) c.args.dir (result_err c.may_make.result) nodes
    (ap (λ ps. running_at ps c.args.slot) processes ∙ c.caller-who.ensures) c.may_make.ensures.dir c.may_make.ensures.denied)
