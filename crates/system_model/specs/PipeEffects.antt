-- What events change of pipes (pipe(2)).
use Rattle.std.specs.Prelude.{ℕ, List, [], map}
use Rattle.label_core.specs.declared.element.Element.{Element}
use Rattle.pipe_core.specs.Pipes.{add, put, take_front}
use Rattle.system_model.specs.Parts.{Parts}
use Rattle.system_model.specs.Keeping.{Keeping}

pub data PipeEffect : Type 0 where
  -- an empty pipe of this element joins, with the lowest free number
  add_pipe : Element → PipeEffect
  -- these bytes are put behind those that a pipe holds
  put_pipe : ℕ → List ℕ → PipeEffect
  -- at most so many bytes are taken from the front of a pipe
  take_pipe : ℕ → ℕ → PipeEffect

unfoldable pub change_pipes : {F C : Type 0} → Keeping F C → Parts F C → PipeEffect → Parts F C
change_pipes keeping m (add_pipe element) = record m { pipes = add m.pipes [] element }
change_pipes keeping m (put_pipe k bytes) = record m { pipes = put m.pipes k (map keeping.cells.made bytes) }
change_pipes keeping m (take_pipe k max) = record m { pipes = take_front m.pipes k max }
