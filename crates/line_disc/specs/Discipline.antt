-- The line discipline: what has come in at a line and is not read yet, and what is to go out (termios(4)).
--
-- The queues hold cells, and a cell has a byte. In a device a cell is its byte. Where it matters from which event a byte
-- came, cells hold that too: each definition is for any type of cell.
use Rattle.std.specs.Prelude.{ℕ, ◌+◌, Bool, false, List, [], ◌++◌, length, map, sum_by, if◌then◌else◌}
use Rattle.std.specs.List.{flat_map}
use Rattle.termios_core.specs.declared.termios.Termios.{Termios}

-- what a cell is: the byte that it has, and the cell that is made for a byte now
pub record Cells (C : Type 0) : Type 0 where
  pub byte : C → ℕ
  pub made : ℕ → C

-- a byte is its own cell
abbrev pub bytes : Cells ℕ
bytes = record { byte = λ b. b; made = λ b. b }

-- a line of input that may be read: its cells, with the newline or EOL that ended it, and whether EOF ended it
pub record ReadyLine (C : Type 0) : Type 0 where
  pub cells : List C
  pub marked : Bool

-- the input: the ready lines in the order in which they came, and the current line, which may still be edited
-- (termios(4), "Canonical Mode Input Processing")
pub record Input (C : Type 0) : Type 0 where
  pub ready : List (ReadyLine C)
  pub current : List C

-- a line's settings, its input, its output, and whether STOP has stopped the output
pub record Discipline (C : Type 0) : Type 0 where
  pub termios : Termios
  pub input : Input C
  pub output : List C
  pub stopped : Bool

-- nothing has come in
abbrev pub no_input : {C : Type 0} → Input C
no_input = record { ready = []; current = [] }

-- a line as its first open finds it
abbrev pub fresh : {C : Type 0} → Termios → Discipline C
fresh t = record { termios = t; input = no_input; output = []; stopped = false }

-- how many places of the input a ready line takes: one for each byte, and one for an end of file
abbrev pub line_places : {C : Type 0} → ReadyLine C → ℕ
line_places line = length line.cells + (if line.marked then 1 else 0)

-- how many places of the input are taken
abbrev pub places : {C : Type 0} → Input C → ℕ
places input = sum_by line_places input.ready + length input.current

-- all cells that have come in, without the ends of lines
abbrev pub all_cells : {C : Type 0} → Input C → List C
all_cells input = flat_map (λ line. line.cells) input.ready ++ input.current

-- the same, with something else for each cell
abbrev pub map_ready : {B C : Type 0} → (B → C) → ReadyLine B → ReadyLine C
map_ready f line = record { cells = map f line.cells; marked = line.marked }

abbrev pub map_input : {B C : Type 0} → (B → C) → Input B → Input C
map_input f input = record { ready = map (map_ready f) input.ready; current = map f input.current }

abbrev pub map_discipline : {B C : Type 0} → (B → C) → Discipline B → Discipline C
map_discipline f d = record { termios = d.termios; input = map_input f d.input; output = map f d.output; stopped = d.stopped }
