-- At a boot each terminal line has its own node and no other.
use Rattle.std.proofs.Common.{◌≡◌, ℕ, zero, suc, ◌<◌, Bool, true, false, cond, List, [], ◌∷◌, ◌++◌, map, refl, ap, sym, ◌∙◌, arith}
use Rattle.std.specs.Prelude.{Option, Some, None}
use Rattle.std.specs.Ordering.{eq_by_cmp}
use Rattle.sys_types.specs.declared.limits.TheConstants.{LINES}
use Rattle.user_db.specs.declared.boot.Boot.{Boot}
use Rattle.tree_model.specs.Tree.{NodeAt, NodeRecord, path_cmp, at_path, nodes_from}
use Rattle.tree_model.specs.Standard.{standard_dirs, image_node, with_images, line_node, tty_node, with_lines, list_nodes, home_node, standard, standard_tree}
use Rattle.std.specs.List.{range_with_len}
use Rattle.sys_types.specs.declared.image.Image.{Image}
use Rattle.sys_types.specs.Images.{images}
use Rattle.user_db.specs.declared.user.User.{User}
use Rattle.system_model.specs.Parts.{Path}
use Rattle.system_model.specs.State.{view, boot}
use Rattle.system_model.specs.Looks.{tty_path}
use Rattle.system_model.specs.TtyCalls.{tty_of_node}
use Rattle.system_laws.proofs.NodePlaces.{at_placed, one_place}
use Rattle.system_laws.proofs.LineNodes.{HasDevices}

-- the first of some nodes at a path
first-at : List NodeAt → Path → Option NodeRecord
first-at [] path = None
first-at (x ∷ xs) path = cond (eq_by_cmp path_cmp path x.path) (Some x.node) (first-at xs path)

chosen : (t : Bool) (x : NodeRecord) (a b : Option NodeRecord) (what : NodeRecord) → (a ≡ Some what → b ≡ Some what) → cond t (Some x) a ≡ Some what
    → cond t (Some x) b ≡ Some what
chosen true x a b what more is = is
chosen false x a b what more is = more is

at-first : (xs ys : List NodeAt) (path : Path) (what : NodeRecord) → first-at xs path ≡ Some what
    → at_path (nodes_from (map (λ n. Some n) (xs ++ ys))) path ≡ Some what
unfolding nodes_from first-at
at-first [] ys path what is = cc
at-first (x ∷ xs) ys path what is =
    at_placed (nodes_from (map (λ n. Some n) (xs ++ ys))) x.path path (Some x.node)
    ∙ chosen (eq_by_cmp path_cmp path x.path) x.node (first-at xs path) (at_path (nodes_from (map (λ n. Some n) (xs ++ ys))) path) what
    (at-first xs ys path what) is

first-line : (on : List Bool) (n : ℕ) → n < LINES → first-at (with_lines ++ list_nodes on) (tty_path n) ≡ Some (line_node n).node
unfolding first-at
first-line on zero below = refl
first-line on (suc zero) below = refl
first-line on (suc (suc zero)) below = refl
first-line on (suc (suc (suc zero))) below = refl
first-line on (suc (suc (suc (suc zero)))) below = refl
first-line on (suc (suc (suc (suc (suc zero))))) below = refl
first-line on (suc (suc (suc (suc (suc (suc zero)))))) below = refl
first-line on (suc (suc (suc (suc (suc (suc (suc zero))))))) below = refl
first-line on (suc (suc (suc (suc (suc (suc (suc (suc n)))))))) below = absurd (omega arith)

-- each of some nodes that is of a line stands at the line's path
ArePlaced : List NodeAt → Type 0
ArePlaced [] = Unit {0}
ArePlaced (x ∷ xs) = ((n : ℕ) → tty_of_node (Some x.node) ≡ Some n → x.path ≡ tty_path n) × ArePlaced xs

placed-append : (xs ys : List NodeAt) → ArePlaced xs → ArePlaced ys → ArePlaced (xs ++ ys)
unfolding ArePlaced
placed-append [] ys first second = second
placed-append (x ∷ xs) ys first second = (first.0, placed-append xs ys first.1 second)

placed-images : (images : List Image) → ArePlaced (map image_node images)
unfolding ArePlaced
placed-images [] = tt
placed-images (image ∷ more) = (λ n is. cc, placed-images more)

placed-homes : (users : List User) → ArePlaced (map home_node users)
unfolding ArePlaced
placed-homes [] = tt
placed-homes (user ∷ more) = (λ n is. cc, placed-homes more)

same-number : (m n : ℕ) → Some m ≡ Some n → m ≡ n
same-number m n is = cc

placed-lines : (numbers : List ℕ) → ArePlaced (map line_node numbers)
unfolding ArePlaced
placed-lines [] = tt
placed-lines (m ∷ more) = (λ n is. ap tty_path (same-number m n is), placed-lines more)

placed-dirs : ArePlaced standard_dirs
unfolding ArePlaced
placed-dirs = (λ n is. cc, (λ n is. cc, (λ n is. cc, (λ n is. cc, (λ n is. cc, (λ n is. cc, tt))))))

placed-lists : (on : List Bool) → ArePlaced (list_nodes on)
unfolding ArePlaced
placed-lists on = (λ n is. cc, (λ n is. cc, tt))

placed-own : ArePlaced (tty_node ∷ [])
unfolding ArePlaced
placed-own = (λ n is. cc, tt)

placed-standard : (says : Boot) → ArePlaced (standard says)
unfolding standard
placed-standard says =
    placed-append (with_lines ++ list_nodes says.on) (map home_node says.users)
    (placed-append with_lines (list_nodes says.on)
    (placed-append (with_images ++ map line_node (range_with_len 0 8)) (tty_node ∷ [])
    (placed-append with_images (map line_node (range_with_len 0 8)) (placed-append standard_dirs (map image_node images) placed-dirs (placed-images images))
    (placed-lines (range_with_len 0 8)))
    placed-own)
    (placed-lists says.on))
    (placed-homes says.users)

placed-first : (t : Bool) (x : NodeAt) (place : Path) (n : ℕ) (rest : Option NodeRecord) → eq_by_cmp path_cmp place x.path ≡ t
    → (tty_of_node (Some x.node) ≡ Some n → x.path ≡ tty_path n) → (tty_of_node rest ≡ Some n → place ≡ tty_path n)
    → tty_of_node (cond t (Some x.node) rest) ≡ Some n → place ≡ tty_path n
placed-first true x place n rest same own more is = one_place place x.path same ∙ own is
placed-first false x place n rest same own more is = more is

-- so a node of a line stands nowhere else
only-there : (xs : List NodeAt) (place : Path) (n : ℕ) → ArePlaced xs → tty_of_node (at_path (nodes_from (map (λ x. Some x) xs)) place) ≡ Some n
    → place ≡ tty_path n
unfolding nodes_from at_path ArePlaced
only-there [] place n are is = cc
only-there (x ∷ xs) place n are is =
    let rest = nodes_from (map (λ x. Some x) xs) in
    placed-first (eq_by_cmp path_cmp place x.path) x place n (at_path rest place) refl (are.0 n) (only-there xs place n are.1)
    (sym (ap tty_of_node (at_placed rest x.path place (Some x.node))) ∙ is)

pub devices_boot : (says : Boot) → HasDevices (view (boot says))
unfolding view boot standard_tree standard
devices_boot says = record {
  lines = refl;
  pipes = refl;
  places = λ place n is. only-there (standard says) place n (placed-standard says) is;
  nodes = λ n below.
      ap tty_of_node
      (at-first (with_lines ++ list_nodes says.on) (map home_node says.users) (tty_path n) (line_node n).node (first-line says.on n below));
}
