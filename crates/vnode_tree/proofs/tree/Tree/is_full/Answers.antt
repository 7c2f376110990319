use Rattle.std.proofs.Common.{ap, sym, ◌∙◌}
use Rattle.std.specs.Prelude.{is_none}
use Rattle.vnode_tree.proofs.Devices.{full_seen}
use Rattle.vnode_tree.proofs.tree.Tree.is_full.Goals as goal

pub returns-in-Some : goal.returns-in-Some
returns-in-Some c =
    ap is_none (sym c.in-Some.is ∙ c.free_place.ensures)
    ∙ full_seen c.self.inside.entries c.args.self.now c.self.view_is c.self.invariant

pub returns-in-None : goal.returns-in-None
returns-in-None c =
    ap is_none (sym c.in-None.is ∙ c.free_place.ensures)
    ∙ full_seen c.self.inside.entries c.args.self.now c.self.view_is c.self.invariant
