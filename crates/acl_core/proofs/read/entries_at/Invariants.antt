use Rattle.std.proofs.Common.{◌≡◌, ◌-◌, ◌≤◌, length}
use Rattle.acl_core.specs.Reading.{more_at, entries_at}
use Rattle.acl_core.proofs.EntryLoopLemmas.{after}
use Rattle.acl_core.proofs.read.entries_at.Given as goal

-- the entries so far and those to come
abbrev pub invariant-loop-rest : goal.invariant-loop-rest
invariant-loop-rest l = record {
  all : after l.entries.items (more_at (64 - length l.entries.items) l.rest) ≡ entries_at l.bytes;
  most : length l.entries.items ≤ 64;
}

abbrev pub decreases-loop-rest : goal.decreases-loop-rest
decreases-loop-rest l = 64 - length l.entries.items
