use Rattle.std.proofs.Common.{ap, ◌∙◌}
use Rattle.tree_model.specs.Tree.{is_dir, is_dir_record}
use Rattle.vnode_tree.proofs.Children.{root_at}
use Rattle.vnode_tree.proofs.Looks.{record_is}
use Rattle.vnode_tree.proofs.tree.Tree.root.Goals as goal

pub returns-clause-live : goal.returns-clause-live
returns-clause-live c = (root_at c.self.inside.entries c.args.self.now c.self.view_is c.self.invariant).live

pub returns-clause-path : goal.returns-clause-path
returns-clause-path c = (root_at c.self.inside.entries c.args.self.now c.self.view_is c.self.invariant).here

pub returns-clause-directory : goal.returns-clause-directory
returns-clause-directory c =
    let root = c.self.invariant.root in
    ap is_dir_record (record_is c.self.inside.entries c.args.self.now 0 root.0 c.self.view_is c.self.invariant root.1) ∙ ap is_dir root.3
