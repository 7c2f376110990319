use Rattle.std.proofs.Common.{◌≡◌, ◌≤◌}
use Rattle.std.specs.Prelude.{filter}
use Rattle.std.specs.List.{range_with_len}
use Rattle.arrayvec.specs.ArrayVec.{array_vec_len}
use Rattle.system_model.specs.Step.{can_go_on}
use Rattle.system_model.specs.Tables.{view_of}
use Rattle.kern_core.proofs.system.System.slots_to_wake.Given as goal

-- those so far
abbrev pub invariant-loop-slot : goal.invariant-loop-slot
invariant-loop-slot l = record {
  chosen : l.slots.items ≡ filter (can_go_on (view_of l.self)) (range_with_len 0 l.slot);
  len : array_vec_len l.slots ≤ l.slot;
}
