-- The tree of a boot: its root, and a node for each terminal line and for no other.
use Rattle.std.proofs.Common.{◌≡◌, ℕ, zero, suc, ◌<◌, Bool, true, false, cond, List, [], ◌∷◌, map, Option, Some, None, option_map, refl, sym, ap, ◌∙◌, arith}
use Rattle.std.specs.Prelude.{is_some, nat_lt, ◌&&◌}
use Rattle.std.specs.List.{list_all}
use Rattle.std.proofs.lemmas.Bool.Decides.{nat_tests}
use Rattle.sys_types.specs.declared.node.Kind.{Kind}
use Rattle.sys_types.specs.declared.node.Kind.TheVariants as kind
use Rattle.user_db.specs.declared.boot.Boot.{Boot}
use Rattle.user_db.specs.declared.user.User.{User}
use Rattle.tree_model.specs.Tree.{NodeAt, NodeRecord, at_path, nodes_from, is_dir_record}
use Rattle.tree_model.specs.Numbers.{node_at, path_in, path_of, record_of}
use Rattle.tree_model.specs.Standard.{standard, standard_tree, root_node, home_node}
use Rattle.vnode_tree.specs.Nodes.{tree_of, same_path}
use Rattle.vnode_tree.specs.Standard.{AreAtPaths}
use Rattle.vnode_tree.proofs.Finite.{at_path_is}
use Rattle.system_model.specs.Looks.{tty_path}
use Rattle.system_model.specs.Fit.{kind_of, HasRoot, FitTree}

-- a node that is a line is one of a line that there is
fine-kind : Kind → Bool
fine-kind (kind.Line k) = nat_lt k 8
fine-kind other = true

is-fine : NodeAt → Bool
is-fine n = fine-kind n.node.kind

homes-fine : (users : List User) → list_all is-fine (map home_node users) ≡ true
unfolding is-fine fine-kind
homes-fine [] = refl
homes-fine (u ∷ users) = homes-fine users

standard-fine : (says : Boot) → list_all is-fine (standard says) ≡ true
unfolding standard is-fine fine-kind
standard-fine says = homes-fine says.users

fine-below : (k : Kind) (line : ℕ) → fine-kind k ≡ true → Some k ≡ Some (kind.Line line) → line < 8
unfolding fine-kind
fine-below (kind.Line n) line fine is = let same : n ≡ line = cc in grind (arith, nat_tests, fine, same)
fine-below kind.Dir line fine is = absurd cc
fine-below kind.File line fine is = absurd cc
fine-below kind.Tty line fine is = absurd cc

both-parts : (a b : Bool) → (a && b) ≡ true → (a ≡ true) × (b ≡ true)
both-parts true b is = (refl, is)
both-parts false b is = absurd cc

first-line : (b : Bool) (n : NodeAt) (others : Option NodeRecord) (line : ℕ) → is-fine n ≡ true
    → (kind_of others ≡ Some (kind.Line line) → line < 8) → kind_of (cond b (Some n.node) others) ≡ Some (kind.Line line) → line < 8
unfolding is-fine
first-line true n others line fine later here = fine-below n.node.kind line fine here
first-line false n others line fine later is = later is

only-lines : (ns : List NodeAt) (path : List (List ℕ)) (line : ℕ) → list_all is-fine ns ≡ true
    → kind_of (tree_of (map (λ n. Some n) ns) path) ≡ Some (kind.Line line) → line < 8
unfolding tree_of
only-lines [] path line fine is = absurd cc
only-lines (n ∷ ns) path line fine is =
    let both = both-parts (is-fine n) (list_all is-fine ns) fine in
    first-line (same_path path n.path) n (tree_of (map (λ n. Some n) ns) path) line both.0 (λ more. only-lines ns path line both.1 more) is

line-there : (says : Boot) (n : ℕ) → n < 8 → kind_of (tree_of (map (λ n. Some n) (standard says)) (tty_path n)) ≡ Some (kind.Line n)
unfolding standard tree_of
line-there says zero less = refl
line-there says (suc zero) less = refl
line-there says (suc (suc zero)) less = refl
line-there says (suc (suc (suc zero))) less = refl
line-there says (suc (suc (suc (suc zero)))) less = refl
line-there says (suc (suc (suc (suc (suc zero))))) less = refl
line-there says (suc (suc (suc (suc (suc (suc zero)))))) less = refl
line-there says (suc (suc (suc (suc (suc (suc (suc zero))))))) less = refl
line-there says (suc (suc (suc (suc (suc (suc (suc (suc n)))))))) less = absurd (omega (arith, less))

found-at : (says : Boot) (nodes : List (Option NodeAt)) (path : List (List ℕ)) → nodes_from nodes ≡ standard_tree says
    → at_path (nodes_from nodes) path ≡ tree_of (map (λ n. Some n) (standard says)) path
unfolding standard_tree
found-at says nodes path is = ap (λ ns. at_path ns path) is ∙ at_path_is (map (λ n. Some n) (standard says)) path

lines-below : (says : Boot) (nodes : List (Option NodeAt)) (number line : ℕ) (o : Option NodeAt) → nodes_from nodes ≡ standard_tree says → AreAtPaths nodes
    → node_at nodes number ≡ o → kind_of (record_of nodes number) ≡ Some (kind.Line line) → line < 8
lines-below says nodes number line None tree places at is = absurd (never (ap (λ o. kind_of (option_map (λ (n : NodeAt). n.node) o)) at) is)
  where
    never : {o : Option Kind} → o ≡ None → o ≡ Some (kind.Line line) → ⊥
    never none some = cc
lines-below says nodes number line (Some n) tree places at is =
    only-lines (standard says) (path_of nodes number) line (standard-fine says)
    (ap kind_of (sym (places.each number (ap is_some at) ∙ found-at says nodes (path_of nodes number) tree)) ∙ is)

pub boot_tree : (says : Boot) (nodes : List (Option NodeAt)) → nodes_from nodes ≡ standard_tree says → AreAtPaths nodes → FitTree nodes
boot_tree says nodes tree places = record {
  lines = λ line less. ap kind_of (found-at says nodes (tty_path line) tree) ∙ line-there says line less;
  names = λ number line is. lines-below says nodes number line (node_at nodes number) tree places refl is;
}

pub boot_root : (nodes : List (Option NodeAt)) → node_at nodes 0 ≡ Some root_node → HasRoot nodes
boot_root nodes at = record { path = ap path_in at; directory = ap (λ o. is_dir_record (option_map (λ (n : NodeAt). n.node) o)) at }
