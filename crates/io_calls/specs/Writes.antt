-- Where a write(2) puts its bytes, and that there is room for them.
use Rattle.std.specs.Prelude.{◌≡◌, ◌≤◌, ◌+◌, ℕ, Bool, true, false, List, length, Option, Some, None, option_map, if◌then◌else◌}
use Rattle.sys_types.specs.declared.limits.TheConstants.{FILE_SPACE, PIPE_BYTES}
use Rattle.block_pool.specs.Chain.{ChainState, holds}
use Rattle.block_pool.specs.Pool.{PoolState}
use Rattle.fd_table.specs.declared.open.Open.{Open}
use Rattle.fd_table.specs.declared.open.Target.{Target}
use Rattle.fd_table.specs.declared.open.Target.TheVariants as target
use Rattle.pipe_core.specs.Pipes.{Pipes, contents_at}
use Rattle.tree_model.specs.Contents.{with_write}
use Rattle.tree_model.specs.Numbers.{path_of, record_of}
use Rattle.tree_model.specs.Tree.{NodeAt, NodeRecord, at_path, bytes_in, nodes_from, with_node_at}
use Rattle.system_model.specs.IoCalls.{contents_of}

-- the place in a regular file: its end where it was opened to append, and else the offset
abbrev pub place_in : List (Option NodeAt) → Open → ℕ → ℕ
place_in nodes f n = if f.append then length (contents_of (record_of nodes n)) else f.offset

-- how many bytes all files hold after a write at a place of one that is this
abbrev pub bytes_with : List (Option NodeAt) → ℕ → ℕ → List ℕ → Option NodeRecord → ℕ
bytes_with nodes n place bs what = bytes_in (with_node_at (nodes_from nodes) (path_of nodes n) (option_map (with_write place bs) what))

abbrev pub bytes_then : List (Option NodeAt) → Open → ℕ → List ℕ → Option NodeRecord → ℕ
bytes_then nodes f n bs what = bytes_with nodes n (if f.append then length (contents_of what) else f.offset) bs what

-- there is room in the files, or in the pipe
abbrev pub HasRoom : List (Option NodeAt) → PoolState → Pipes ChainState → List ℕ → Open → Target → Type 0
HasRoom nodes pool pipes bs f (target.File n) = bytes_then nodes f n bs (at_path (nodes_from nodes) (path_of nodes n)) ≤ FILE_SPACE
HasRoom nodes pool pipes bs f (target.PipeRead k) = Unit {0}
HasRoom nodes pool pipes bs f (target.PipeWrite k) = (c : ChainState) → contents_at pipes k ≡ Some c → length (holds pool c) + length bs ≤ PIPE_BYTES
HasRoom nodes pool pipes bs f (target.Line n opened) = Unit {0}

-- what an open file is of is a regular file
abbrev pub is_regular : Target → Bool
is_regular (target.File n) = true
is_regular (target.PipeRead k) = false
is_regular (target.PipeWrite k) = false
is_regular (target.Line n opened) = false

abbrev pub is_of_file : Option Open → Bool
is_of_file None = false
is_of_file (Some f) = is_regular f.target
