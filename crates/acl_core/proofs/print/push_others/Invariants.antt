use Rattle.std.proofs.Common.{◌≡◌, ◌+◌, ◌*◌, ◌≤◌, ◌++◌, length, take}
use Rattle.std.specs.List.{flat_map}
use Rattle.acl_core.specs.Text.{next_text}
use Rattle.acl_core.proofs.print.push_others.Given as goal

-- the entries so far are printed
abbrev pub invariant-loop-entry : goal.invariant-loop-entry
invariant-loop-entry l = record {
  text : l.out.items ≡ l.fn.out.items ++ flat_map next_text (take l.entry-index l.entries);
  len : length l.out.items ≤ length l.fn.out.items + 21 * l.entry-index;
}
