-- How much files hold.
use Rattle.std.specs.Prelude.{ℕ, List, length, Option, Some, None, sum_by}
use Rattle.tree_model.specs.Tree.{NodeAt}
pub use Rattle.tree_model.specs.Contents.{bytes_at, bytes_up_to, with_write}
unfoldable pub use Rattle.tree_model.specs.Contents.{after_write}

abbrev pub size_of : Option NodeAt → ℕ
size_of None = 0
size_of (Some node) = length node.node.contents

-- how many bytes all files hold
abbrev pub space_of : List (Option NodeAt) → ℕ
space_of nodes = sum_by size_of nodes
