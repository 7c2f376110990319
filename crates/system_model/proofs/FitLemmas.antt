-- What follows where the tables of a kernel fit.
use Rattle.std.proofs.Common.{◌≡◌, ℕ, true, List, Option, Some, None, option_map, refl}
use Rattle.std.specs.Prelude.{IsSome}
use Rattle.tree_model.specs.Tree.{NodeAt, is_dir_record}
use Rattle.tree_model.specs.Numbers.{node_at, record_of, IsLive}
use Rattle.proc_table.specs.Processes.{Process, Processes, process_at, running_at}
use Rattle.proc_table.proofs.ChangeLemmas.{running-process}
use Rattle.system_model.specs.Fit.{FitDirectories}

-- a running process is there
pub running_there : {D : Type 0} (t : Processes D) (slot : ℕ) (p : Process D) → running_at t slot ≡ Some p → process_at t slot ≡ Some p
running_there t slot p is = running-process (process_at t slot) p is

-- what is a directory is there
pub directory_there : (nodes : List (Option NodeAt)) (number : ℕ) → is_dir_record (record_of nodes number) ≡ true → IsLive nodes number
directory_there nodes number is = by_node (node_at nodes number) is
  where
    by_node : (o : Option NodeAt) → is_dir_record (option_map (λ node. node.node) o) ≡ true → IsSome o
    by_node None never = cc
    by_node (Some node) is = refl

-- the working directory of a running process is there
pub directory_live : (nodes : List (Option NodeAt)) (t : Processes ℕ) (slot : ℕ) (p : Process ℕ) → FitDirectories nodes t → running_at t slot ≡ Some p
    → IsLive nodes p.directory
directory_live nodes t slot p fit is = directory_there nodes p.directory (fit.live slot p (running_there t slot p is))
