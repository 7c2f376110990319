-- The row of pipe(2).
use Rattle.std.specs.Prelude.{ℕ, true, false, [], ◌∷◌, nat_lt}
use Rattle.sys_types.specs.declared.limits.TheConstants.{PIPE_BLOCKS}
use Rattle.sys_types.specs.declared.rules.Rule.TheVariants.{Pool}
use Rattle.fd_table.specs.Shared.{lowest_number}
use Rattle.fd_table.specs.Calls.{room_rule}
use Rattle.pipe_core.specs.Pipes.{lowest_free}
use Rattle.system_model.specs.Parts.{Target, read_end, write_end, File}
use Rattle.system_model.specs.State.{View}
use Rattle.system_model.specs.FileEffects.{open_file}
use Rattle.system_model.specs.PipeEffects.{add_pipe}
use Rattle.system_model.specs.Effects.{Effect, on_files, on_pipes, change}
use Rattle.system_model.specs.Rows.{Row, deny, deny_by, pair}
use Rattle.system_model.specs.Looks.{caller_of, free_blocks}

-- an end of a new pipe
abbrev pub pipe_file : Target → File
pipe_file (read_end k) = record { target = read_end k; readable = true; writable = false; append = false; nonblock = false; offset = 0 }
pipe_file target = record { target = target; readable = false; writable = true; append = false; nonblock = false; offset = 0 }

abbrev pub open_end : ℕ → Target → Effect
open_end slot target = on_files (open_file slot (pipe_file target) false)

-- the lowest number that is free once the end that is read has its own
abbrev pub second_number : View → ℕ → ℕ
second_number v slot = lowest_number (change v (open_end slot (read_end (lowest_free v.pipes)))).descriptors.table slot

-- the two lowest numbers: first the end that is read, then the one that is written
abbrev pub pipe_row : View → ℕ → Row
pipe_row v slot = record {
  checks = deny_by (room_rule v.descriptors slot 2)
      ∷ deny (nat_lt (free_blocks v) PIPE_BLOCKS) Pool
      ∷ [];
  effects = on_pipes (add_pipe (caller_of v slot).label.active)
      ∷ open_end slot (read_end (lowest_free v.pipes))
      ∷ open_end slot (write_end (lowest_free v.pipes))
      ∷ [];
  answer = pair (lowest_number v.descriptors.table slot) (second_number v slot);
}
