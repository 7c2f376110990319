-- The standard nodes, one after another.
use Rattle.std.proofs.Common.{◌≡◌, ℕ, zero, suc, ◌+◌, ◌<◌, ◌≤◌, Bool, true, false, List, [], ◌∷◌, ◌++◌, map, take, get_or, Option, Some, refl, sym, ap, ◌∙◌}
use Rattle.std.proofs.Common.{arith, leb-true, le-leb, append_assoc}
use Rattle.std.proofs.lemmas.Bool.{cases_eq}
use Rattle.std.proofs.Common.{inl, inr}
use Rattle.std.specs.Prelude.{IsTrue, ◌&&◌, nat_le, codes, flat_map}
use Rattle.std.specs.List.{range_with_len}
use Rattle.std.proofs.lemmas.List.{take_more, map-append, append-nil, map-id}
use Rattle.std.proofs.lemmas.List.Concat.{flat_map-append}
use Rattle.std.proofs.lemmas.List.FromFn.{map-range_with_len_more}
use Rattle.sys_types.specs.declared.image.Image.TheVariants as image
use Rattle.sys_types.specs.declared.image.Image.{Image}
use Rattle.sys_types.specs.Images.{images, image_name}
use Rattle.vnode_tree.specs.Nodes.{NodeAt, node_at, tree_of}
use Rattle.vnode_tree.specs.Contents.{space_of}
use Rattle.vnode_tree.specs.Standard.{IsMapOf, can_add, standard_dirs, image_node, bin_node, dev_node, etc_node, line_name, line_node, with_images, with_lines}
use Rattle.vnode_tree.specs.Standard.{list_nodes, tty_text}
use Rattle.vnode_tree.proofs.Maps.{all_some, can_join, can_add_is, both_true}

both : (a b : Bool) → a ≡ true → b ≡ true → (a && b) ≡ true
both true b p q = q
both false b p q = absurd cc

-- what fits with more bytes fits with fewer
join_fewer : (nodes : List NodeAt) (parent : NodeAt) (name : List ℕ) (more size : ℕ) → size ≤ more → can_join nodes parent name more ≡ true
    → can_join nodes parent name size ≡ true
join_fewer nodes parent name more size fewer e =
    let parts = both_true _ (nat_le (space_of (all_some nodes) + more) 4194304) e in
    both _ (nat_le (space_of (all_some nodes) + size) 4194304) parts.0
    (le-leb (space_of (all_some nodes) + size) 4194304 (omega (arith, leb-true (space_of (all_some nodes) + more) 4194304 parts.1, fewer)))

pub adds : (table : List (Option NodeAt)) (nodes : List NodeAt) (parent : NodeAt) (dir : ℕ) (name : List ℕ) (more size : ℕ) → IsMapOf table nodes
    → node_at table dir ≡ Some parent → size ≤ more → can_join nodes parent name more ≡ true → IsTrue (can_add table dir name size)
adds table nodes parent dir name more size m at fewer e = can_add_is table nodes parent dir name size m at (join_fewer nodes parent name more size fewer e)

-- a test of each number below a bound
below : (ℕ → Bool) → ℕ → Bool
below test zero = true
below test (suc n) = test n && below test n

below_at : (test : ℕ → Bool) (n k : ℕ) → below test n ≡ true → k < n → test k ≡ true
unfolding below
below_at test zero k e less = absurd (omega (arith, less))
below_at test (suc n) k e less =
    let parts = both_true (test n) (below test n) e in
    elim (cases_eq k n) [
      | inl same ↦ ap test same ∙ parts.0
      | inr other ↦ below_at test n k parts.1 (omega (arith, less, other))
    ]

abbrev pub image_at : ℕ → Image
image_at i = get_or images i image.Init

image_test : ℕ → Bool
image_test i = can_join (standard_dirs ++ map image_node (take i images)) bin_node (image_name (image_at i)) 20

images_tested : below image_test 22 ≡ true
unfolding below image_test tree_of
images_tested = refl

pub image_fits : (i : ℕ) → i < 22 → can_join (standard_dirs ++ map image_node (take i images)) bin_node (image_name (image_at i)) 20 ≡ true
unfolding image_test
image_fits i less = below_at image_test 22 i images_tested less

pub images_more : (i : ℕ) → i < 22
    → (standard_dirs ++ map image_node (take i images)) ++ image_node (image_at i) ∷ [] ≡ standard_dirs ++ map image_node (take (i + 1) images)
images_more i less =
    let more : map image_node (take (i + 1) images) ≡ map image_node (take i images) ++ image_node (image_at i) ∷ [] =
    ap (map image_node) (take_more images i image.Init less) ∙ map-append image_node (take i images) (image_at i ∷ []) in
    append_assoc standard_dirs (map image_node (take i images)) (image_node (image_at i) ∷ []) ∙ ap (λ ns. standard_dirs ++ ns) (sym more)

line_test : ℕ → Bool
line_test i = can_join (with_images ++ map line_node (range_with_len 0 i)) dev_node (line_name i) 0

lines_tested : below line_test 8 ≡ true
unfolding below line_test tree_of
lines_tested = refl

pub line_fits : (i : ℕ) → i < 8 → can_join (with_images ++ map line_node (range_with_len 0 i)) dev_node (line_name i) 0 ≡ true
unfolding line_test
line_fits i less = below_at line_test 8 i lines_tested less

pub lines_more : (i : ℕ) → (with_images ++ map line_node (range_with_len 0 i)) ++ line_node i ∷ [] ≡ with_images ++ map line_node (range_with_len 0 (i + 1))
lines_more i =
    append_assoc with_images (map line_node (range_with_len 0 i)) (line_node i ∷ [])
    ∙ ap (λ ns. with_images ++ ns) (sym (map-range_with_len_more line_node 0 i i (omega arith)))

pub tty_fits : can_join (with_images ++ map line_node (range_with_len 0 8)) dev_node (codes "tty") 0 ≡ true
unfolding tree_of
tty_fits = refl

pub users_fits : can_join with_lines etc_node (codes "users") 0 ≡ true
unfolding tree_of
users_fits = refl

pub ttys_fits : (on : List Bool) → can_join (with_lines ++ get_or (list_nodes on) 0 etc_node ∷ []) etc_node (codes "ttys") 80 ≡ true
unfolding tree_of
ttys_fits on = refl

range_more : (n : ℕ) → range_with_len 0 (n + 1) ≡ range_with_len 0 n ++ n ∷ []
range_more n =
    sym (map-id (range_with_len 0 (n + 1))) ∙ map-range_with_len_more (λ (x : ℕ). x) 0 n n (omega arith) ∙ ap (λ xs. xs ++ n ∷ []) (map-id (range_with_len 0 n))

pub ttys_more : (on : List Bool) (i : ℕ) → flat_map (tty_text on) (range_with_len 0 (i + 1)) ≡ flat_map (tty_text on) (range_with_len 0 i) ++ tty_text on i
ttys_more on i =
    let range : range_with_len 0 (i + 1) ≡ range_with_len 0 i ++ i ∷ [] = range_more i in
    ap (flat_map (tty_text on)) range ∙ flat_map-append (tty_text on) (range_with_len 0 i) (i ∷ [])
    ∙ ap (λ xs. flat_map (tty_text on) (range_with_len 0 i) ++ xs) (append-nil (tty_text on i))
