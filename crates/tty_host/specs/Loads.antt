-- What a run of a load has counted so far.
use Rattle.std.specs.Prelude.{◌≡◌, ◌+◌, ◌*◌, ◌<◌, ◌≤◌, List, length, count_by, sum_by, if◌then◌else◌}
use Rattle.sha2.specs.Hashers.{Holds256}
use Rattle.sys_types.specs.declared.limits.TheConstants.{TRAIL_EVENTS, PIECE_BYTES}
use Rattle.call_words.specs.declared.event.Decision.{Decision}
use Rattle.system_model.specs.Run.{decisions}
use Rattle.script_model.specs.Script.{answers}
use Rattle.script_model.specs.Load.{standard_boot, is_denied, is_sleep, bytes_moved}
use Rattle.tty_host.specs.declared.load.Counts.{Counts}
use Rattle.tty_host.specs.declared.load.LoadRun.{LoadRun}

-- what these decisions come to
abbrev pub counts_of : List Decision → Counts
counts_of ds = record { denied = count_by is_denied ds; slept = count_by is_sleep ds; moved = sum_by bytes_moved ds }

-- with one decision more
abbrev pub with_decision : Counts → Decision → Counts
with_decision c d = record {
  denied = c.denied + (if is_denied d then 1 else 0);
  slept = c.slept + (if is_sleep d then 1 else 0);
  moved = c.moved + bytes_moved d;
}

-- the counts are of fewer events than a trail has, each with at most 512 bytes
pub record AreFew (c : Counts) : Type 0 where
  pub denied : c.denied < TRAIL_EVENTS
  pub slept : c.slept < TRAIL_EVENTS
  pub moved : c.moved ≤ TRAIL_EVENTS * PIECE_BYTES

-- The run is over the standard boot, and has counted what its events came to, and their answer lines.
pub record IsSummed (run : LoadRun) : Type 0 where
  pub root : run.trail.root ≡ standard_boot
  pub most : run.trail.most ≡ TRAIL_EVENTS
  pub counts : run.counts ≡ counts_of (decisions standard_boot run.trail.events)
  pub few : run.counts.moved ≤ length run.trail.events * PIECE_BYTES
  pub digest : Holds256 run.digest (answers standard_boot run.trail.events)
