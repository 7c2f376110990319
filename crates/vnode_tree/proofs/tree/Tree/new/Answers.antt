use Rattle.std.proofs.Common.{◌≡◌, ◌++◌, [], List, map, sym, ap, ◌∙◌, subst}
use Rattle.std.proofs.lemmas.List.{append-nil}
use Rattle.user_db.proofs.NoUsers.{no_users}
use Rattle.vnode_tree.specs.Nodes.{NodeAt}
use Rattle.vnode_tree.specs.Standard.{IsMapOf, standard, with_lines, list_nodes, home_node}
use Rattle.vnode_tree.proofs.Finite.{standard_nodes}
use Rattle.vnode_tree.proofs.OwnPlaces.{at_paths}
use Rattle.vnode_tree.proofs.tree.Tree.new.Goals as goal

pub returns-clause-map : goal.returns-clause-map
unfolding standard
returns-clause-map c =
    let none : c.args.boot.now.users ≡ [] = no_users c.args.boot.now (record { text = c.requires.text; says = c.requires.says }) in
    let homes : map home_node c.args.boot.now.users ≡ [] = ap (map home_node) none in
    let whole : (with_lines ++ list_nodes c.args.boot.now.on) ++ map home_node c.args.boot.now.users ≡ with_lines ++ list_nodes c.args.boot.now.on =
    ap (λ (xs : List NodeAt). (with_lines ++ list_nodes c.args.boot.now.on) ++ xs) homes ∙ append-nil (with_lines ++ list_nodes c.args.boot.now.on) in
    subst (IsMapOf c.add_lists.new.self) (sym whole) c.in_ok-add_lists.ensures.map

pub returns-clause-nodes : goal.returns-clause-nodes
returns-clause-nodes c = standard_nodes _ c.args.boot.now (returns-clause-map c)

pub returns-clause-places : goal.returns-clause-places
returns-clause-places c = at_paths c.tree-2.inside.entries _ c.tree-2.view_is c.tree-2.invariant
