-- What events change of descriptors and open files (open(2), dup(2), fork(2), close(2), lseek(2)).
use Rattle.std.specs.Prelude.{ℕ, Bool, ◌==◌, Option, Some, None, if◌then◌else◌}
use Rattle.fd_table.specs.Shared.{copy, fork, drop_number, last_file, change_file, count_files}
use Rattle.fd_table.specs.Calls.{open_lowest}
use Rattle.pipe_core.specs.Pipes.{remove}
use Rattle.line_disc.specs.Device.{close_last}
use Rattle.system_model.specs.Parts.{Target, node, read_end, write_end, tty, File, Parts}
use Rattle.system_model.specs.Keeping.{Keeping, is_end_of, is_live_of}
use Rattle.line_disc.specs.Lines.{change_line}

pub data FileEffect : Type 0 where
  -- a file is opened at the lowest free number of a slot, which is closed on exec or not
  open_file : ℕ → File → Bool → FileEffect
  -- another number of a slot refers to the file of this one
  copy_fd : ℕ → ℕ → ℕ → FileEffect
  -- a number of a slot is closed
  close_fd : ℕ → ℕ → FileEffect
  -- each number of a slot refers to the file of that of another
  fork_fds : ℕ → ℕ → FileEffect
  -- the file of a number of a slot has this offset
  set_offset : ℕ → ℕ → ℕ → FileEffect

-- a pipe goes with its last end
abbrev pub release_pipe : {F C : Type 0} → Keeping F C → Parts F C → ℕ → Parts F C
release_pipe keeping m k = if count_files (is_end_of keeping k) m.descriptors == 0 then record m { pipes = remove m.pipes k } else m

-- a line is closed with its last live file
abbrev pub release_line : {F C : Type 0} → Keeping F C → Parts F C → ℕ → Parts F C
release_line keeping m n =
    if count_files (is_live_of keeping n) m.descriptors == 0 then record m { lines = change_line close_last m.lines n } else m

-- what becomes of that which a file is of that goes, dead or not
abbrev pub release_target : {F C : Type 0} → Keeping F C → Parts F C → Bool → Target → Parts F C
release_target keeping m dead (node path) = m
release_target keeping m dead (read_end k) = release_pipe keeping m k
release_target keeping m dead (write_end k) = release_pipe keeping m k
release_target keeping m dead (tty n) = if dead then m else release_line keeping m n

abbrev pub release : {F C : Type 0} → Keeping F C → Parts F C → Option F → Parts F C
release keeping m None = m
release keeping m (Some f) = release_target keeping m (keeping.is_dead f) (keeping.file f).target

abbrev pub at_offset : ℕ → File → File
at_offset offset file = record file { offset = offset }

unfoldable pub change_files : {F C : Type 0} → Keeping F C → Parts F C → FileEffect → Parts F C
change_files keeping m (open_file slot file on_exec) = record m { descriptors = (open_lowest m.descriptors slot (keeping.make file) on_exec).0 }
change_files keeping m (copy_fd slot from into) = record m { descriptors = copy m.descriptors slot from into }
change_files keeping m (close_fd slot number) =
    release keeping (record m { descriptors = drop_number m.descriptors slot number }) (last_file m.descriptors slot number)
change_files keeping m (fork_fds from into) = record m { descriptors = fork m.descriptors from into }
change_files keeping m (set_offset slot number offset) =
    record m { descriptors = change_file (keeping.change (at_offset offset)) m.descriptors slot number }
