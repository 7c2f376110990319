use Rattle.std.proofs.Common.{◌≡◌, drop, eqb, ◌&&◌}
use Rattle.std.specs.List.{list_any}
use Rattle.proc_table.specs.Processes.{holds, is_running, has_parent_near}
use Rattle.proc_table.proofs.table.ProcTable.any_anchored.Given as goal

-- one is among those to come, if there is one
abbrev pub invariant-loop-place : goal.invariant-loop-place
invariant-loop-place l =
    list_any (λ s. holds (λ p. is_running p && (eqb p.group l.group && has_parent_near l.self p)) s.process) (drop l.place-index l.places)
    ≡ list_any (λ s. holds (λ p. is_running p && (eqb p.group l.group && has_parent_near l.self p)) s.process) l.places
