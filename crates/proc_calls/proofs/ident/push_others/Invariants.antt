use Rattle.std.proofs.Common.{◌≡◌, ◌+◌, ◌*◌, ◌≤◌, ◌++◌, length, take}
use Rattle.std.specs.Prelude.{codes}
use Rattle.std.specs.Fmt.{decimal}
use Rattle.std.specs.List.{flat_map}
use Rattle.proc_calls.proofs.ident.push_others.Given as goal

-- the groups so far are there
abbrev pub invariant-loop-group : goal.invariant-loop-group
invariant-loop-group l = record {
  bytes : l.out.items ≡ l.fn.out.items ++ flat_map (λ group. codes "+" ++ decimal group) (take l.group-index l.groups);
  len : length l.out.items ≤ length l.fn.out.items + 11 * l.group-index;
}
