use Rattle.std.proofs.Common.{◌≤◌, length}
use Rattle.sh_text.specs.Reading.{jobs_at}
use Rattle.sh_text.proofs.JobLoopLemmas.{JobsLeft}
use Rattle.sh_text.proofs.jobs.jobs.Given as goal

-- the bytes that are left go on with the jobs so far
abbrev pub invariant-loop-rest : goal.invariant-loop-rest
invariant-loop-rest l = record {
  value : JobsLeft (jobs_at l.bytes) l.jobs l.rest;
  shorter : length l.rest ≤ length l.bytes;
}

abbrev pub decreases-loop-rest : goal.decreases-loop-rest
decreases-loop-rest l = length l.rest
