-- An open file of a node is seen as a regular one.
use Rattle.std.proofs.Common.{◌≡◌, ℕ, true, List, Option, Some, None, option_map, refl, ap, ◌∙◌}
use Rattle.tree_model.specs.Tree.{NodeAt}
use Rattle.fd_table.specs.declared.open.Open.{Open}
use Rattle.fd_table.specs.declared.open.Target as kept
use Rattle.fd_table.specs.declared.open.Target.TheVariants.{File as FileOf, PipeRead, PipeWrite, Line}
use Rattle.fd_table.specs.Shared as shared
use Rattle.io_calls.specs.Writes as writes
use Rattle.io_calls.specs.Writes.{is_of_file}
use Rattle.system_model.specs.Looks.{file_at}
use Rattle.system_model.specs.Memory.{is_node, is_regular}
use Rattle.system_model.specs.Tables.{Tables, generations, seen_target, seen_open, view_of}
use Rattle.system_model.proofs.FileLooks.{file_at_seen}
use Rattle.tty_dev.specs.Table.{counts_of}

target-seen : (nodes : List (Option NodeAt)) (target : kept.Target) → is_node (seen_target nodes target) ≡ writes.is_regular target
target-seen nodes (FileOf number) = refl
target-seen nodes (PipeRead k) = refl
target-seen nodes (PipeWrite k) = refl
target-seen nodes (Line line opened) = refl

file-seen : (nodes : List (Option NodeAt)) (revokes : List ℕ) (o : Option Open) → is_regular (option_map (seen_open nodes revokes) o) ≡ is_of_file o
file-seen nodes revokes None = refl
file-seen nodes revokes (Some f) = target-seen nodes f.target

pub regular_seen : (t : Tables) (slot fd : ℕ) → is_of_file (shared.file_at t.descriptors slot fd) ≡ true → is_regular (file_at (view_of t) slot fd) ≡ true
regular_seen t slot fd is =
    ap is_regular (file_at_seen t slot fd) ∙ file-seen t.nodes (generations (counts_of t.lines)) (shared.file_at t.descriptors slot fd) ∙ is
