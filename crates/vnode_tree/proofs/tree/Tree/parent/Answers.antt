use Rattle.std.proofs.Common.{sym, ◌∙◌}
use Rattle.vnode_tree.proofs.Looks.{live_entry}
use Rattle.vnode_tree.proofs.Children.{root_dir, dir_of}
use Rattle.vnode_tree.proofs.tree.Tree.parent.Goals as goal

pub entry_of-requires : goal.entry_of-requires
entry_of-requires c = live_entry c.self.inside.entries c.args.self.now c.args.node c.self.view_is c.requires

pub returns-then-number-eq0 : goal.returns-then-number-eq0
returns-then-number-eq0 c =
    root_dir c.self.inside.entries c.args.self.now c.args.node c.self.view_is c.self.invariant (sym c.number.ensures ∙ c.if-number-eq0.true)

pub returns : goal.returns
returns c =
    rw c.of.ensures
    (dir_of c.self.inside.entries c.args.self.now c.args.node c.entry_of.result.now c.self.view_is c.self.invariant c.entry_of.ensures
    (λ zero_is. c.if-number-eq0.false (c.number.ensures ∙ zero_is)))
