use Rattle.std.proofs.Common.{◌∷◌, [], List, ℕ, sym, ◌∙◌, subst}
use Rattle.tree_model.specs.Tree.{walk_from, name_long, not_dir, found}
use Rattle.vnode_tree.specs.Nodes.{path_of, tree_of}
use Rattle.vnode_tree.proofs.WalkSteps.{walk_long, walk_not_dir, walk_done}
use Rattle.vnode_tree.proofs.Walking.{Walking, walk_ends, walk_takes, goes_up, goes_down, lacks}
use Rattle.vnode_tree.proofs.tree.Tree.walk_from.Goals as goal

pub returns-then-part-gt-NAME_BYTES-clause-passes : goal.returns-then-part-gt-NAME_BYTES-clause-passes
returns-then-part-gt-NAME_BYTES-clause-passes c =
    walk_ends c.args.self.now (walk_from (tree_of c.args.self.now) (path_of c.args.self.now c.args.from) c.args.steps.now) c.args.passed.now.items
    c.loop-part.here (c.in-Some.part.now ∷ c.next.new.self) c.loop-part.passed.items name_long
    (walk_takes c.args.self.now (walk_from (tree_of c.args.self.now) (path_of c.args.self.now c.args.from) c.args.steps.now) c.args.passed.now.items
    c.loop-part.here c.loop-part.steps c.next.new.self c.in-Some.part.now c.loop-part.passed.items c.loop-part.invariant c.in-Some.ensures.next)
    (walk_long (tree_of c.args.self.now) (path_of c.args.self.now c.loop-part.here) c.in-Some.part.now c.next.new.self c.if-part-gt-NAME_BYTES.true)

pub returns-then-not-is_dir-clause-passes : goal.returns-then-not-is_dir-clause-passes
returns-then-not-is_dir-clause-passes c =
    walk_ends c.args.self.now (walk_from (tree_of c.args.self.now) (path_of c.args.self.now c.args.from) c.args.steps.now) c.args.passed.now.items
    c.loop-part.here (c.in-Some.part.now ∷ c.next.new.self) c.loop-part.passed.items not_dir
    (walk_takes c.args.self.now (walk_from (tree_of c.args.self.now) (path_of c.args.self.now c.args.from) c.args.steps.now) c.args.passed.now.items
    c.loop-part.here c.loop-part.steps c.next.new.self c.in-Some.part.now c.loop-part.passed.items c.loop-part.invariant c.in-Some.ensures.next)
    (walk_not_dir (tree_of c.args.self.now) (path_of c.args.self.now c.loop-part.here) c.in-Some.part.now c.next.new.self c.if-part-gt-NAME_BYTES.false
    (sym c.is_dir.ensures.there ∙ c.if-not-is_dir.true))

pub loop-part-preserved-then-is_parent : goal.loop-part-preserved-then-is_parent
loop-part-preserved-then-is_parent c =
    rw c.push.ensures.items
    (goes_up c.args.self.now (walk_from (tree_of c.args.self.now) (path_of c.args.self.now c.args.from) c.args.steps.now) c.args.passed.now.items
    c.loop-part.here c.parent-here.result c.in-Some.part.now c.next.new.self c.loop-part.passed.items
    (walk_takes c.args.self.now (walk_from (tree_of c.args.self.now) (path_of c.args.self.now c.args.from) c.args.steps.now) c.args.passed.now.items
    c.loop-part.here c.loop-part.steps c.next.new.self c.in-Some.part.now c.loop-part.passed.items c.loop-part.invariant c.in-Some.ensures.next)
    c.if-part-gt-NAME_BYTES.false (sym c.is_dir.ensures.there ∙ c.if-not-is_dir.false) (sym c.is_parent.ensures ∙ c.if-is_parent.true)
    c.parent-here.ensures)

pub loop-part-preserved : goal.loop-part-preserved
loop-part-preserved c =
    rw c.push.ensures.items
    (goes_down c.args.self.now (walk_from (tree_of c.args.self.now) (path_of c.args.self.now c.args.from) c.args.steps.now) c.args.passed.now.items
    c.loop-part.here c.in-Some-child.node c.in-Some.part.now c.next.new.self c.loop-part.passed.items
    (walk_takes c.args.self.now (walk_from (tree_of c.args.self.now) (path_of c.args.self.now c.args.from) c.args.steps.now) c.args.passed.now.items
    c.loop-part.here c.loop-part.steps c.next.new.self c.in-Some.part.now c.loop-part.passed.items c.loop-part.invariant c.in-Some.ensures.next)
    c.if-part-gt-NAME_BYTES.false (sym c.is_dir.ensures.there ∙ c.if-not-is_dir.false) (sym c.is_parent.ensures ∙ c.if-is_parent.false)
    c.in-Some-child.ensures)

pub returns-in-None-clause-passes : goal.returns-in-None-clause-passes
returns-in-None-clause-passes c =
    rw (c.push.ensures.items, c.absent_end.ensures.end c.args.self.now)
    (lacks c.args.self.now (walk_from (tree_of c.args.self.now) (path_of c.args.self.now c.args.from) c.args.steps.now) c.args.passed.now.items
    c.loop-part.here c.in-Some.part.now c.next.new.self c.loop-part.passed.items
    (walk_takes c.args.self.now (walk_from (tree_of c.args.self.now) (path_of c.args.self.now c.args.from) c.args.steps.now) c.args.passed.now.items
    c.loop-part.here c.loop-part.steps c.next.new.self c.in-Some.part.now c.loop-part.passed.items c.loop-part.invariant c.in-Some.ensures.next)
    c.if-part-gt-NAME_BYTES.false (sym c.is_dir.ensures.there ∙ c.if-not-is_dir.false) (sym c.is_parent.ensures ∙ c.if-is_parent.false)
    c.in-None.ensures)

pub returns-clause-passes : goal.returns-clause-passes
returns-clause-passes c =
    let done =
    subst
    (λ (s : List (List ℕ)). Walking c.args.self.now (walk_from (tree_of c.args.self.now) (path_of c.args.self.now c.args.from) c.args.steps.now)
    c.args.passed.now.items c.loop-part.here s c.loop-part.passed.items)
    c.in_default.ensures.next.0 c.loop-part.invariant in
    walk_ends c.args.self.now (walk_from (tree_of c.args.self.now) (path_of c.args.self.now c.args.from) c.args.steps.now) c.args.passed.now.items
    c.loop-part.here [] c.loop-part.passed.items (found (path_of c.args.self.now c.loop-part.here)) done
    (walk_done (tree_of c.args.self.now) (path_of c.args.self.now c.loop-part.here))
