use Rattle.std.proofs.Common.{◌≡◌, ◌+◌, ◌*◌, ◌≤◌, ◌++◌, length, take}
use Rattle.std.specs.Prelude.{flat_map, codes}
use Rattle.std.specs.Fmt.{decimal}
use Rattle.script_text.proofs.print.push_wakes.Given as goal

-- the slots so far are written
abbrev pub invariant-loop-slot : goal.invariant-loop-slot
invariant-loop-slot l = record {
  bytes : l.out.items ≡ l.initial.out.items ++ flat_map (λ slot. codes " " ++ decimal slot) (take l.slot-index l.slots);
  len : length l.out.items ≤ length l.initial.out.items + 11 * l.slot-index;
}
