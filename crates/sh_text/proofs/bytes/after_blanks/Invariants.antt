use Rattle.std.proofs.Common.{◌≡◌, ◌≤◌, length}
use Rattle.sh_text.specs.Bytes.{after_blanks}
use Rattle.sh_text.proofs.bytes.after_blanks.Given as goal

-- the bytes that are left have the same end
abbrev pub invariant-loop-rest : goal.invariant-loop-rest
invariant-loop-rest l = record {
  value : after_blanks l.rest ≡ after_blanks l.bytes;
  shorter : length l.rest ≤ length l.bytes;
}

abbrev pub decreases-loop-rest : goal.decreases-loop-rest
decreases-loop-rest l = length l.rest
