-- What contracts see of a tree: its nodes by their names of one number, each with its path and with what it is. The finite
-- map from paths to nodes is read off it.
use Rattle.std.specs.Prelude.{◌≡◌, ◌≢◌, ℕ, Bool, true, false, ◌&&◌, List, [], ◌∷◌, ◌++◌, Option, Some, None, is_some, count_by, slice_set, not, if◌then◌else◌}
use Rattle.std.specs.Prelude.{option_map}
use Rattle.std.specs.List.{list_all}
use Rattle.std.specs.Str.{bytes_eq}
use Rattle.access_rule.specs.declared.Attrs.{Attrs}
use Rattle.tree_model.specs.Tree.{NodeRecord, Tree, is_skipped, is_parent, is_slash}
pub use Rattle.tree_model.specs.Tree.{NodeAt, new_node}
pub use Rattle.tree_model.specs.Attributes.{with_default}
pub use Rattle.tree_model.specs.Contents.{with_contents}
pub use Rattle.tree_model.specs.Numbers.{node_at, IsLive, path_in, path_of, record_of, is_file_record, IsFile}

abbrev pub same_path : List (List ℕ) → List (List ℕ) → Bool
same_path [] [] = true
same_path [] (y ∷ ys) = false
same_path (x ∷ xs) [] = false
same_path (x ∷ xs) (y ∷ ys) = bytes_eq x y && same_path xs ys

-- what is at a path
unfoldable pub tree_of : List (Option NodeAt) → Tree
tree_of [] path = None
tree_of (None ∷ nodes) path = tree_of nodes path
tree_of (Some node ∷ nodes) path = if same_path path node.path then Some node.node else tree_of nodes path

-- the nodes with another in the place of a number, or with none
abbrev pub with_node : List (Option NodeAt) → ℕ → Option NodeAt → List (Option NodeAt)
with_node nodes number node = slice_set nodes number node

-- a node at the same path with a change of what it is
abbrev pub with_change : (NodeRecord → NodeRecord) → NodeAt → NodeAt
with_change change node = record { path = node.path; node = change node.node }

-- the nodes with a change of what one of them is
abbrev pub with_record : (NodeRecord → NodeRecord) → List (Option NodeAt) → ℕ → List (Option NodeAt)
with_record change nodes number = with_node nodes number (option_map (with_change change) (node_at nodes number))

abbrev pub with_attrs : Attrs → NodeRecord → NodeRecord
with_attrs attrs node = record node { attrs = attrs }

-- a name that a node may have: no dots alone, and no slash
abbrev pub is_name : List ℕ → Bool
is_name name = not (is_skipped name) && not (is_parent name) && list_all (λ b. not (is_slash b)) name

-- how many nodes there are
abbrev pub count_of : List (Option NodeAt) → ℕ
count_of nodes = count_by is_some nodes

-- what is at one path has changed, and what is at every other path has not
pub record ChangesAt (path : List (List ℕ)) (now : Option NodeRecord) (old new : List (Option NodeAt)) : Type 0 where
  pub only : (other : List (List ℕ)) → tree_of new other ≡ (if same_path other path then now else tree_of old other)

-- the node of a number is at a path
pub record IsAt (nodes : List (Option NodeAt)) (path : List (List ℕ)) (number : ℕ) : Type 0 where
  pub live : IsLive nodes number
  pub here : path_of nodes number ≡ path
  pub some : is_some (tree_of nodes path) ≡ true

-- no name leads on from a path
abbrev pub IsLeaf : List (Option NodeAt) → List (List ℕ) → Type 0
IsLeaf nodes path = (name : List ℕ) → tree_of nodes (path ++ name ∷ []) ≡ None

-- a node may go: no name leads on from it, and it is not the root
pub record IsRemovable (nodes : List (Option NodeAt)) (number : ℕ) : Type 0 where
  pub below : path_of nodes number ≢ []
  pub leaf : IsLeaf nodes (path_of nodes number)

-- some name leads on from a path
abbrev pub HasChild : List (Option NodeAt) → List (List ℕ) → Type 0
HasChild nodes path = (name : List ℕ) × (is_some (tree_of nodes (path ++ name ∷ [])) ≡ true)
