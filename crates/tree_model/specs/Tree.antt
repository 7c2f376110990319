-- The file tree: a finite map from paths to what their nodes are, and the walk of a path through it, after
-- path_resolution of POSIX.1, 4.13, and hier(7).
use Rattle.std.specs.Prelude.{ℕ, Bool, true, false, not, ◌||◌, ◌==◌, List, [], ◌∷◌, ◌++◌, length, take, nat_lt, sum_by, Option, Some, None, is_some, if◌then◌else◌, codes, filter, ◌-◌}
use Rattle.std.specs.List.{slice_split}
use Rattle.std.specs.Str.{byte, bytes_eq}
use Rattle.std.specs.declared.cmp.Ordering.{Ordering}
use Rattle.std.specs.Ordering.{nat_cmp, eq_by_cmp}
use Rattle.std.specs.Cmp.Lexicographic.{slice_cmp}
use Rattle.std.specs.FinMap.Entries.{find, put, where_key}
use Rattle.acl_core.specs.declared.entry.Entry.{Entry}
use Rattle.sys_types.specs.declared.node.Kind.{Kind}
use Rattle.sys_types.specs.declared.node.Kind.TheVariants as kind
use Rattle.access_rule.specs.declared.Attrs.{Attrs}

-- what a node is: its kind, what access to it depends on, the list that a directory gives to new nodes, and what a
-- file holds
pub record NodeRecord : Type 0 where
  pub kind : Kind
  pub attrs : Attrs
  pub default : Option (List Entry)
  pub contents : List ℕ

-- a tree: what is at a path, which is the list of names from the root down
abbrev pub Tree : Type 0
Tree = List (List ℕ) → Option NodeRecord

-- a node: its path, which is the list of names from the root down to it, and what it is
pub record NodeAt : Type 0 where
  pub path : List (List ℕ)
  pub node : NodeRecord

abbrev pub new_node : Kind → Attrs → Option (List Entry) → List ℕ → NodeRecord
new_node kind attrs default contents = record { kind = kind; attrs = attrs; default = default; contents = contents }

-- paths have an order: name by name, and names byte by byte
abbrev pub path_cmp : List (List ℕ) → List (List ℕ) → Ordering
path_cmp = slice_cmp (slice_cmp nat_cmp)

-- the same tree as a value: the paths that have a node, in their order, each with what it is
abbrev pub Nodes : Type 0
Nodes = List (List (List ℕ) × NodeRecord)

-- what is at a path
unfoldable pub at_path : Nodes → Tree
at_path nodes path = find path_cmp path nodes

-- with this at a path, and all else as it was; or with nothing there
unfoldable pub with_node_at : Nodes → List (List ℕ) → Option NodeRecord → Nodes
with_node_at nodes path (Some node) = put path_cmp path node nodes
with_node_at nodes path None = where_key path_cmp (λ other. not (eq_by_cmp path_cmp path other)) nodes

-- a tree of some nodes; of two at one path it has the first
unfoldable pub nodes_from : List (Option NodeAt) → Nodes
nodes_from [] = []
nodes_from (None ∷ more) = nodes_from more
nodes_from (Some node ∷ more) = with_node_at (nodes_from more) node.path (Some node.node)

-- how many bytes all files hold
unfoldable pub bytes_in : Nodes → ℕ
bytes_in nodes = sum_by (λ n. length n.1.contents) nodes

abbrev pub is_dir : Kind → Bool
is_dir kind.Dir = true
is_dir kind.File = false
is_dir (kind.Line n) = false
is_dir kind.Tty = false

abbrev pub is_file : Kind → Bool
is_file kind.File = true
is_file kind.Dir = false
is_file (kind.Line n) = false
is_file kind.Tty = false

abbrev pub is_dir_record : Option NodeRecord → Bool
is_dir_record None = false
is_dir_record (Some node) = is_dir node.kind

-- where a walk ends: at a node, at a name that its directory does not have, or at the first part that fails
pub data WalkEnd : Type 0 where
  found : List (List ℕ) → WalkEnd
  absent : List (List ℕ) → List ℕ → WalkEnd
  missing : WalkEnd
  not_dir : WalkEnd
  name_long : WalkEnd
  path_long : WalkEnd

-- the directories in which a part was looked for, in order, and the end
pub record PathWalk : Type 0 where
  pub passed : List (List (List ℕ))
  pub end : WalkEnd

abbrev pub is_slash : ℕ → Bool
is_slash b = b == byte "/"

-- an empty part and `.` do nothing
abbrev pub is_skipped : List ℕ → Bool
is_skipped part = length part == 0 || bytes_eq part (codes ".")

abbrev pub is_parent : List ℕ → Bool
is_parent part = bytes_eq part (codes "..")

-- the parts of a path that do something
unfoldable pub steps : List ℕ → List (List ℕ)
steps text = filter (λ part. not (is_skipped part)) (slice_split is_slash text)

-- the directory of a path; the root's is the root
abbrev pub parent_of : List (List ℕ) → List (List ℕ)
parent_of path = take (length path - 1) path

abbrev pub walk_ending : WalkEnd → PathWalk
walk_ending end = record { passed = []; end = end }

abbrev pub walk_past : List (List ℕ) → PathWalk → PathWalk
walk_past here by_walk = record { passed = here ∷ by_walk.passed; end = by_walk.end }

-- only the last part may be absent
abbrev pub absent_end : List (List ℕ) → List ℕ → List (List ℕ) → WalkEnd
absent_end here part [] = absent here part
absent_end here part (next ∷ more) = missing

-- a walk from a directory through parts
unfoldable pub walk_from : Tree → List (List ℕ) → List (List ℕ) → PathWalk
walk_from tree here [] = walk_ending (found here)
walk_from tree here (part ∷ parts) =
    if nat_lt 255 (length part) then walk_ending name_long
    else (if not (is_dir_record (tree here)) then walk_ending not_dir
    else walk_past here (
    if is_parent part then walk_from tree (parent_of here) parts
    else (if is_some (tree (here ++ part ∷ [])) then walk_from tree (here ++ part ∷ []) parts
    else walk_ending (absent_end here part parts))))

-- where a path begins: at the root where its first byte is a slash
abbrev pub begin_at : List (List ℕ) → List ℕ → List (List ℕ)
begin_at here [] = here
begin_at here (b ∷ rest) = if is_slash b then [] else here

-- the walk of a path's text from a directory
unfoldable pub walk : Tree → List (List ℕ) → List ℕ → PathWalk
walk tree here text =
    if nat_lt 1023 (length text) then walk_ending path_long
    else (if length text == 0 then walk_ending missing
    else walk_from tree (begin_at here text) (steps text))
