-- The children of a directory in the table.
use Rattle.std.specs.Prelude.{ℕ, Bool, false, ◌&&◌, ◌==◌, List, [], ◌∷◌, length, nat_lt, Option, Some, None, if◌then◌else◌}
use Rattle.std.specs.List.{filter, range_with_len}
use Rattle.std.specs.Str.{byte}
use Rattle.vnode_tree.specs.declared.entry.Entry.{Entry}
use Rattle.vnode_tree.specs.Links.{entry_at}
use Rattle.vnode_tree.specs.Names.{comes_before}

abbrev pub name_in : Option Entry → List ℕ
name_in None = []
name_in (Some entry) = entry.name

-- the name of a node
abbrev pub name_at : List (Option Entry) → ℕ → List ℕ
name_at entries number = name_in (entry_at entries number)

abbrev pub is_named_in : ℕ → Option Entry → Bool
is_named_in dir None = false
is_named_in dir (Some entry) = entry.dir == dir

-- an entry at a place is in a directory; the root is in none
abbrev pub is_inside : ℕ → ℕ → Option Entry → Bool
is_inside dir number entry = nat_lt 0 number && is_named_in dir entry

-- the nodes in a directory, by their numbers
unfoldable pub children_of : List (Option Entry) → ℕ → List ℕ
children_of entries dir = filter (λ number. is_inside dir number (entry_at entries number)) (range_with_len 0 (length entries))

-- a node's name comes before another's
abbrev pub named_before : List (Option Entry) → ℕ → ℕ → Bool
named_before entries number other = comes_before (name_at entries number) (name_at entries other)

-- what stands before a name, of which 0 is the first
abbrev pub before_name : ℕ → List ℕ
before_name number = if number == 0 then [] else byte "/" ∷ []
