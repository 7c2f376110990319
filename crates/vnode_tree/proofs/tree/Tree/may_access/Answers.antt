use Rattle.std.proofs.Common.{ap, ◌∙◌, sym}
use Rattle.std.specs.Result.{result_err}
use Rattle.vnode_tree.specs.Nodes.{record_of}
use Rattle.vnode_tree.proofs.AccessRules.{access_is, rule_told}
use Rattle.vnode_tree.proofs.tree.Tree.may_access.Goals as goal

pub returns-clause-denied : goal.returns-clause-denied
returns-clause-denied c =
    ap result_err c.may.ensures ∙ rule_told _
    ∙ sym
    (access_is (record_of c.args.self.now c.args.node) c.args.cred.now c.args.label.now c.attrs.result.now c.args.read c.args.write c.args.exec
    c.attrs.ensures.attrs)
