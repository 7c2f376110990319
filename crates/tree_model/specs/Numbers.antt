-- Nodes by their numbers, as a kernel keeps them: each number's node with its path.
use Rattle.std.specs.Prelude.{◌≡◌, ℕ, Bool, true, false, List, [], Option, Some, None, IsSome, slice_index_or, option_map}
use Rattle.tree_model.specs.Tree.{NodeAt, NodeRecord, is_file}

-- what there is of a node of a number, if there is such a node
abbrev pub node_at : List (Option NodeAt) → ℕ → Option NodeAt
node_at nodes number = slice_index_or nodes number None

-- there is a node of the number
abbrev pub IsLive : List (Option NodeAt) → ℕ → Type 0
IsLive nodes number = IsSome (node_at nodes number)

abbrev pub path_in : Option NodeAt → List (List ℕ)
path_in None = []
path_in (Some node) = node.path

-- the path of a node
abbrev pub path_of : List (Option NodeAt) → ℕ → List (List ℕ)
path_of nodes number = path_in (node_at nodes number)

-- what a node is
abbrev pub record_of : List (Option NodeAt) → ℕ → Option NodeRecord
record_of nodes number = option_map (λ node. node.node) (node_at nodes number)

abbrev pub is_file_record : Option NodeRecord → Bool
is_file_record None = false
is_file_record (Some node) = is_file node.kind

-- there is a file of the number
abbrev pub IsFile : List (Option NodeAt) → ℕ → Type 0
IsFile nodes number = is_file_record (record_of nodes number) ≡ true
