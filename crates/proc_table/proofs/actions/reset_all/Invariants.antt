use Rattle.std.proofs.Common.{◌≡◌, ◌++◌, take, drop, map}
use Rattle.proc_table.specs.Changes.{reset_action}
use Rattle.proc_table.proofs.actions.reset_all.Given as goal

-- the actions so far are reset
abbrev pub invariant-loop-action : goal.invariant-loop-action
invariant-loop-action l = l.actions ≡ map reset_action (take l.action-index l.fn.actions) ++ drop l.action-index l.fn.actions
