-- What open files are of.
use Rattle.std.specs.Prelude.{◌≡◌, ◌<◌, true, List, Option}
use Rattle.sys_types.specs.declared.limits.TheConstants.{LINES}
use Rattle.block_pool.specs.Chain.{ChainState}
use Rattle.fd_table.specs.declared.open.Target.{Target}
use Rattle.fd_table.specs.declared.open.Target.TheVariants as target
use Rattle.pipe_core.specs.Pipes.{Pipes, is_there}
use Rattle.tree_model.specs.Tree.{NodeAt}
use Rattle.tree_model.specs.Numbers.{IsFile}

-- what an open file is of is there
abbrev pub IsThere : List (Option NodeAt) → Pipes ChainState → Target → Type 0
IsThere nodes pipes (target.File number) = IsFile nodes number
IsThere nodes pipes (target.PipeRead k) = is_there pipes k ≡ true
IsThere nodes pipes (target.PipeWrite k) = is_there pipes k ≡ true
IsThere nodes pipes (target.Line line opened) = line < LINES
