-- What a table of nodes keeps.
use Rattle.std.specs.Prelude.{◌≡◌, ℕ, true, ◌≤◌, ◌≢◌, List, [], length, Option, Some, None, IsSome, sum_by}
use Rattle.tree_model.specs.Tree.{is_dir}
use Rattle.sys_types.specs.declared.node.Kind.TheVariants as kind
use Rattle.sys_types.specs.declared.limits.TheConstants.{NODES, FILE_SPACE, NAME_BYTES}
use Rattle.vnode_tree.specs.declared.entry.Entry.{Entry}
use Rattle.vnode_tree.specs.Nodes.{is_name}
use Rattle.vnode_tree.specs.Links.{entry_at, path_up}

-- how many bytes a node holds
abbrev pub size_in : Option Entry → ℕ
size_in None = 0
size_in (Some entry) = length entry.contents

-- there is a directory of the number
pub record IsDirAt (entries : List (Option Entry)) (number : ℕ) : Type 0 where
  pub entry : Entry
  pub here : entry_at entries number ≡ Some entry
  pub directory : is_dir entry.kind ≡ true

-- a name that a node may have, of at most 255 bytes
abbrev pub IsProper : List ℕ → Type 0
IsProper name = (is_name name ≡ true) × (length name ≤ NAME_BYTES)

-- The table has its size; the root is a directory of the empty name, and all others have a proper name and are in a directory; each
-- node has a path; no directory has two nodes of one name; what access depends on knows directories; and the files have room.
pub record IsKept (entries : List (Option Entry)) : Type 0 where
  pub size : length entries ≡ NODES
  pub root : (root : Entry) × (entry_at entries 0 ≡ Some root) × (root.name ≡ []) × (root.kind ≡ kind.Dir)
  pub names : (number : ℕ) (entry : Entry) → entry_at entries number ≡ Some entry → number ≢ 0 → IsProper entry.name
  pub above : (number : ℕ) (entry : Entry) → entry_at entries number ≡ Some entry → number ≢ 0 → IsDirAt entries entry.dir
  pub paths : (number : ℕ) → IsSome (entry_at entries number) → IsSome (path_up (length entries) entries number)
  pub apart : (number other : ℕ) (entry like : Entry) → entry_at entries number ≡ Some entry → entry_at entries other ≡ Some like → entry.dir ≡ like.dir
      → entry.name ≡ like.name → number ≡ other
  pub kinds : (number : ℕ) (entry : Entry) → entry_at entries number ≡ Some entry → entry.attrs.is_dir ≡ is_dir entry.kind
  pub space : sum_by size_in entries ≤ FILE_SPACE
