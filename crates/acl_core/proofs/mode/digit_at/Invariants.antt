use Rattle.std.proofs.Common.{◌≡◌, drop}
use Rattle.acl_core.specs.Entry.{perms_at}
use Rattle.acl_core.specs.Mode.{digit_of_one}
use Rattle.acl_core.proofs.mode.digit_at.Given as goal

-- no entry so far has the tag
abbrev pub invariant-loop-entry : goal.invariant-loop-entry
invariant-loop-entry l = digit_of_one (perms_at l.tag (drop l.entry-index l.entries)) ≡ digit_of_one (perms_at l.tag l.entries)
