-- What is at a path after a change of the tree at one place.
use Rattle.std.proofs.Common.{◌≡◌, Bool, true, false, cond, refl, ap, sym, ◌∙◌}
use Rattle.std.specs.Prelude.{not, Option, Some, None}
use Rattle.std.specs.declared.cmp.Ordering.{Ordering}
use Rattle.std.specs.declared.cmp.Ordering.TheVariants.{Less, Equal, Greater}
use Rattle.std.specs.Ordering.{eq_by_cmp, is_eq}
use Rattle.std.specs.Cmp.{IsTotalOrder}
use Rattle.std.specs.FinMap.{nat_cmp-IsAntisymmetric, slice_cmp-IsAntisymmetric}
use Rattle.std.specs.FinMap.Entries.{find, find-put, find-where_key}
use Rattle.std.proofs.lemmas.Cmp.{nat_list_cmp_total, lists_total, alike_right, eq_by_cmp_equiv, tied_itself}
use Rattle.tree_model.specs.Tree.{NodeRecord, Nodes, path_cmp, at_path, with_node_at}
use Rattle.system_model.specs.Parts.{Path}

path-total : IsTotalOrder path_cmp
path-total = lists_total nat_list_cmp_total

equal-tied : (o : Ordering) → is_eq o ≡ true → o ≡ Equal
equal-tied Less is = cc
equal-tied Equal is = refl
equal-tied Greater is = cc

-- only a path itself ties with it
pub one_place : (p q : Path) → eq_by_cmp path_cmp p q ≡ true → p ≡ q
one_place p q is = slice_cmp-IsAntisymmetric (slice_cmp-IsAntisymmetric nat_cmp-IsAntisymmetric) p q (equal-tied (path_cmp p q) is)

turned : {A : Type 0} (b : Bool) (x y : A) → cond (not b) x y ≡ cond b y x
turned true x y = refl
turned false x y = refl

pub at_placed : (nodes : Nodes) (place path : Path) (now : Option NodeRecord)
    → at_path (with_node_at nodes place now) path ≡ cond (eq_by_cmp path_cmp path place) now (at_path nodes path)
unfolding at_path with_node_at
at_placed nodes place path (Some what) = find-put path_cmp path-total path place what nodes
at_placed nodes place path None =
    find-where_key path_cmp (λ p. not (eq_by_cmp path_cmp place p)) path
    (λ p tied. ap (λ r. not (is_eq r)) (sym (alike_right path-total path p place tied))) nodes
    ∙ turned (eq_by_cmp path_cmp place path) (find path_cmp path nodes) None
    ∙ ap (λ b. cond b None (find path_cmp path nodes)) ((eq_by_cmp_equiv path-total).symm place path)

-- what was put at a place is there
pub placed_here : (nodes : Nodes) (place : Path) (now : Option NodeRecord) → at_path (with_node_at nodes place now) place ≡ now
placed_here nodes place now =
    at_placed nodes place place now ∙ ap (λ r. cond (is_eq r) now (at_path nodes place)) (tied_itself path-total place)
