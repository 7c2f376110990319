-- How the table keeps the tree: each node names its directory.
use Rattle.std.specs.Prelude.{ℕ, Bool, false, not, ◌&&◌, zero, suc, ◌==◌, List, [], ◌∷◌, ◌++◌, length, map, Option, Some, None, slice_index_or, slice_set}
use Rattle.std.specs.Prelude.{if◌then◌else◌, option_map}
use Rattle.std.specs.List.{range_with_len}
use Rattle.std.specs.Str.{bytes_eq}
use Rattle.acl_core.specs.declared.entry.Entry.{Entry as ListEntry}
use Rattle.access_rule.specs.declared.Attrs.{Attrs}
use Rattle.tree_model.specs.Tree.{NodeRecord}
use Rattle.vnode_tree.specs.declared.entry.Entry.{Entry}
use Rattle.vnode_tree.specs.Nodes.{NodeAt}

abbrev pub entry_at : List (Option Entry) → ℕ → Option Entry
entry_at entries number = slice_index_or entries number None

-- the directory that an entry names
abbrev pub dir_in : Option Entry → ℕ
dir_in None = 0
dir_in (Some entry) = entry.dir

-- a path from the path of its directory; the root, of number 0, has the empty one
abbrev pub path_above : Option Entry → ℕ → Option (List (List ℕ)) → Option (List (List ℕ))
path_above None number above = None
path_above (Some entry) number above = if number == 0 then Some [] else option_map (λ path. path ++ entry.name ∷ []) above

-- the path of a node that is below at most so many others, found from directory to directory
unfoldable pub path_up : ℕ → List (Option Entry) → ℕ → Option (List (List ℕ))
path_up zero entries number = None
path_up (suc more) entries number = path_above (entry_at entries number) number (path_up more entries (dir_in (entry_at entries number)))

-- what a node is
abbrev pub record_in : Entry → NodeRecord
record_in entry = record { kind = entry.kind; attrs = entry.attrs; default = entry.default; contents = entry.contents }

abbrev pub node_from : Option Entry → Option (List (List ℕ)) → Option NodeAt
node_from None path = None
node_from (Some entry) None = None
node_from (Some entry) (Some path) = Some (record { path = path; node = record_in entry })

-- a node with its path
unfoldable pub node_of : List (Option Entry) → ℕ → Option NodeAt
node_of entries number = node_from (entry_at entries number) (path_up (length entries) entries number)

-- all nodes
unfoldable pub nodes_of : List (Option Entry) → List (Option NodeAt)
nodes_of entries = map (node_of entries) (range_with_len 0 (length entries))

-- an entry is of that name in that directory
abbrev pub is_child : ℕ → List ℕ → Option Entry → Bool
is_child dir name None = false
is_child dir name (Some entry) = entry.dir == dir && bytes_eq entry.name name

-- the table with a change of an entry, where there is one
abbrev pub with_entry : (Entry → Entry) → List (Option Entry) → ℕ → List (Option Entry)
with_entry change entries number = slice_set entries number (option_map change (entry_at entries number))

abbrev pub entry_with_attrs : Attrs → Entry → Entry
entry_with_attrs attrs entry = record entry { attrs = attrs }

abbrev pub entry_with_default : Option (List ListEntry) → Entry → Entry
entry_with_default list entry = record entry { default = list }

abbrev pub entry_with_contents : (List ℕ → List ℕ) → Entry → Entry
entry_with_contents change entry = record entry { contents = change entry.contents }

-- an entry is in that directory; the root, which has no name, is in none
abbrev pub is_in : ℕ → Option Entry → Bool
is_in dir None = false
is_in dir (Some entry) = entry.dir == dir && not (length entry.name == 0)
