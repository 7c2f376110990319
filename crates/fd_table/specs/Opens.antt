-- Open files of the kernel, by what they were opened for.
use Rattle.std.specs.Prelude.{ℕ, Bool, false, ◌==◌, ◌&&◌}
use Rattle.fd_table.specs.declared.open.Target.{Target}
use Rattle.fd_table.specs.declared.open.Target.TheVariants as target
use Rattle.fd_table.specs.declared.open.Open.{Open}

-- two targets are the same: a line only where it is the same opening of the line
abbrev pub same_target : Target → Target → Bool
same_target (target.File a) (target.File b) = a == b
same_target (target.PipeRead a) (target.PipeRead b) = a == b
same_target (target.PipeWrite a) (target.PipeWrite b) = a == b
same_target (target.Line a opened) (target.Line b other) = a == b && opened == other
same_target a b = false

abbrev pub is_of : Target → Open → Bool
is_of target file = same_target file.target target

abbrev pub at_offset : ℕ → Open → Open
at_offset offset file = record file { offset = offset }
