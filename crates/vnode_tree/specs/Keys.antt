-- What a search of the table looks at before it looks at a node.
use Rattle.std.specs.Prelude.{◌≡◌, ℕ, ◌+◌, ◌*◌, ◌%◌, ◌^◌, Bool, false, ◌&&◌, ◌==◌, nat_lt, List, length, map, Option, Some, None, slice_index_or, sum_by}
use Rattle.std.specs.List.{fold, filter, range_with_len}
use Rattle.vnode_tree.specs.declared.entry.Entry.{Entry}
use Rattle.vnode_tree.specs.declared.key.Key.{Key}
use Rattle.vnode_tree.specs.Kept.{size_in}

-- a sum of the bytes of a name
unfoldable pub name_sum : List ℕ → ℕ
name_sum name = fold (λ sum byte. ((sum * 31) % 2 ^ 16 + byte) % 2 ^ 16) 0 name

abbrev pub key_of : ℕ → List ℕ → Key
key_of dir name = record { dir = dir; sum = name_sum name }

-- the key of a place
abbrev pub key_in : Option Entry → Option Key
key_in None = None
key_in (Some entry) = Some (key_of entry.dir entry.name)

abbrev pub has_key : Key → Option Key → Bool
has_key wanted None = false
has_key wanted (Some key) = key.dir == wanted.dir && key.sum == wanted.sum

abbrev pub is_key_below : ℕ → Option Key → Bool
is_key_below dir None = false
is_key_below dir (Some key) = key.dir == dir

-- the key at a place is of a node in a directory; the root is in none
abbrev pub is_key_inside : ℕ → ℕ → Option Key → Bool
is_key_inside dir number key = nat_lt 0 number && is_key_below dir key

-- the places whose keys are of nodes in a directory
unfoldable pub keyed_inside : List (Option Key) → ℕ → List ℕ
keyed_inside keys dir = filter (λ number. is_key_inside dir number (slice_index_or keys number None)) (range_with_len 0 (length keys))

-- each place has the key of its entry, and the total is of all that the entries hold
pub record IsIndexed (entries : List (Option Entry)) (keys : List (Option Key)) (total : ℕ) : Type 0 where
  pub keys_are : keys ≡ map key_in entries
  pub total_is : total ≡ sum_by size_in entries
