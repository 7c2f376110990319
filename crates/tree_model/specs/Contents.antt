-- What files hold, after read(2) and write(2).
use Rattle.std.specs.Prelude.{ℕ, ◌+◌, ◌-◌, ◌==◌, List, ◌++◌, length, take, drop, replicate, if◌then◌else◌}
use Rattle.tree_model.specs.Tree.{NodeRecord}

-- at most so many bytes from a place on
abbrev pub bytes_at : ℕ → ℕ → List ℕ → List ℕ
bytes_at at max bytes = take max (drop at bytes)

-- bytes up to a place, of which those past the end are 0
abbrev pub bytes_up_to : ℕ → List ℕ → List ℕ
bytes_up_to at bytes = take at (bytes ++ replicate (at - length bytes) 0)

-- after a write at a place; a write of no bytes changes nothing
unfoldable pub after_write : List ℕ → ℕ → List ℕ → List ℕ
after_write old at bytes = if length bytes == 0 then old else bytes_up_to at old ++ bytes ++ drop (at + length bytes) old

abbrev pub with_contents : List ℕ → NodeRecord → NodeRecord
with_contents bytes node = record node { contents = bytes }

-- a node after a write
abbrev pub with_write : ℕ → List ℕ → NodeRecord → NodeRecord
with_write at bytes node = with_contents (after_write node.contents at bytes) node
