use Rattle.std.proofs.Common.{◌≤◌, length}
use Rattle.sh_text.specs.Reading.{items_at}
use Rattle.sh_text.proofs.ItemLoopLemmas.{ItemsLeft}
use Rattle.sh_text.proofs.command.items.Given as goal

-- the bytes that are left go on with the command so far
abbrev pub invariant-loop-alloc : goal.invariant-loop-alloc
invariant-loop-alloc l = record {
  value : ItemsLeft (items_at l.bytes) l.command l.rest;
  shorter : length l.rest ≤ length l.bytes;
}

abbrev pub decreases-loop-alloc : goal.decreases-loop-alloc
decreases-loop-alloc l = length l.rest
