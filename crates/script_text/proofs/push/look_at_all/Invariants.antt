use Rattle.std.proofs.Common.{take}
use Rattle.std.specs.List.{AllByRecursion}
use Rattle.acl_core.specs.Entry.{Fits}
use Rattle.script_text.proofs.push.look_at_all.Given as goal

-- the entries so far fit
abbrev pub invariant-loop-entry : goal.invariant-loop-entry
invariant-loop-entry l = AllByRecursion Fits (take l.entry-index l.entries)
