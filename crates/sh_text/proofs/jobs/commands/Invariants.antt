use Rattle.std.proofs.Common.{◌≡◌, ◌≤◌, length}
use Rattle.sh_text.specs.Reading.{commands_within, commands_at}
use Rattle.sh_text.proofs.jobs.commands.Given as goal

-- the bytes that are left go on with the commands so far
abbrev pub invariant-loop-commands : goal.invariant-loop-commands
invariant-loop-commands l = record {
  value : commands_within l.more l.commands l.rest ≡ commands_at l.bytes;
  shorter : length l.rest ≤ length l.bytes;
}

abbrev pub decreases-loop-commands : goal.decreases-loop-commands
decreases-loop-commands l = l.more
