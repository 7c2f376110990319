use Rattle.std.proofs.Common.{◌≡◌, take}
use Rattle.std.specs.List.{fold}
use Rattle.acl_core.specs.Walk.{with_entry, nothing_found}
use Rattle.acl_core.proofs.walk.Findings.of.Given as goal

abbrev pub invariant-loop-entry : goal.invariant-loop-entry
invariant-loop-entry l = l.found ≡ fold (with_entry l.cred l.group l.want) nothing_found (take l.entry-index l.entries)
