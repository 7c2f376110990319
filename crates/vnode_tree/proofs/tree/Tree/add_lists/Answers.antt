use Rattle.std.proofs.Common.{◌∷◌, ◌++◌, ◌≤◌, ℕ, List, [], length, ap, arith, subst}
use Rattle.std.specs.Prelude.{codes}
use Rattle.label_core.specs.declared.element.Element.TheVariants as element
use Rattle.sys_types.specs.declared.node.Kind.TheVariants as kind
use Rattle.vnode_tree.specs.Nodes.{NodeAt}
use Rattle.vnode_tree.specs.Standard.{IsMapOf, with_lines, etc_node, super_node, mode_600, mode_644}
use Rattle.vnode_tree.proofs.Maps.{held}
use Rattle.vnode_tree.proofs.Standards.{adds, users_fits, ttys_fits}
use Rattle.vnode_tree.proofs.tree.Tree.add_lists.Goals as goal

abbrev users : NodeAt
users = super_node (codes "etc" ∷ codes "users" ∷ []) kind.File mode_600 element.Low []

pub add_super-requires-clause-room : goal.add_super-requires-clause-room
add_super-requires-clause-room c =
    let none : length c.empty-users.result ≤ 0 = omega (arith, ap (λ (xs : List ℕ). length xs) c.empty-users.ensures) in
    adds c.args.self.now with_lines etc_node c.args.etc (codes "users") 0 (length c.empty-users.result) c.requires.map c.requires.etc none users_fits

pub add_super-requires-2-clause-room : goal.add_super-requires-2-clause-room
add_super-requires-2-clause-room c =
    adds c.add_super.new.self (with_lines ++ users ∷ []) etc_node c.args.etc (codes "ttys") 80 (length c.in_ok-ttys.ttys)
    (subst
    (λ (t : List ℕ). IsMapOf c.add_super.new.self (with_lines ++ super_node (codes "etc" ∷ codes "users" ∷ []) kind.File mode_600 element.Low t ∷ []))
    c.empty-users.ensures (c.add_super.ensures.grows etc_node with_lines c.requires.etc c.requires.map))
    (held c.args.self.now c.add_super.new.self c.args.etc etc_node c.add_super.ensures.keeps c.requires.etc) c.in_ok-ttys.ensures.most
    (ttys_fits c.args.on.now)

pub returns-clause-map : goal.returns-clause-map
returns-clause-map c =
    let users_there : IsMapOf c.add_super.new.self (with_lines ++ users ∷ []) =
    subst (λ (t : List ℕ). IsMapOf c.add_super.new.self (with_lines ++ super_node (codes "etc" ∷ codes "users" ∷ []) kind.File mode_600 element.Low t ∷ []))
    c.empty-users.ensures (c.add_super.ensures.grows etc_node with_lines c.requires.etc c.requires.map) in
    let etc_there = held c.args.self.now c.add_super.new.self c.args.etc etc_node c.add_super.ensures.keeps c.requires.etc in
    let grown : IsMapOf c.add_super-2.new.self
    ((with_lines ++ users ∷ []) ++ super_node (codes "etc" ∷ codes "ttys" ∷ []) kind.File mode_644 element.Low c.in_ok-ttys.ttys ∷ []) =
    c.add_super-2.ensures.grows etc_node (with_lines ++ users ∷ []) etc_there users_there in
    subst
    (λ (t : List ℕ). IsMapOf c.add_super-2.new.self
    ((with_lines ++ users ∷ []) ++ super_node (codes "etc" ∷ codes "ttys" ∷ []) kind.File mode_644 element.Low t ∷ []))
    c.in_ok-ttys.ensures.text grown
