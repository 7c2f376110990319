-- Groups and sessions, as calls see them.
use Rattle.std.proofs.Common.{◌≡◌, ℕ, ap, ◌∙◌}
use Rattle.tree_model.specs.Numbers.{path_of}
use Rattle.proc_table.specs.Processes.{Processes, has_member}
use Rattle.proc_table.proofs.MapLemmas.{has_member-map}
use Rattle.system_model.specs.Parts.{Path}
use Rattle.system_model.specs.Tables.{Tables, view_of}
use Rattle.proc_calls.proofs.Changes.{processes_as}

pub member_seen : (t : Tables) (old : Processes ℕ) (group : ℕ) → t.processes ≡ old → has_member (view_of t).processes group ≡ has_member old group
member_seen t old group processes =
    ap (λ (ps : Processes Path). has_member ps group) (processes_as t)
    ∙ has_member-map (path_of t.nodes) t.processes group
    ∙ ap (λ (ps : Processes ℕ). has_member ps group) processes
