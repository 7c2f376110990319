-- The parts of the machine: open files that descriptors share, pipes, terminal lines, the file tree, processes.
--
-- What is kept of an open file, F, and of a byte in a queue, C, may be one thing in a state of the machine and another in what calls
-- see of it; all else is the same in both.
use Rattle.std.specs.Prelude.{ℕ, Bool, List, map}
use Rattle.call_words.specs.declared.event.How.{How}
use Rattle.fd_table.specs.Shared.{Shared, map_files}
use Rattle.pipe_core.specs.Pipes.{Pipes, map_pipes}
use Rattle.line_disc.specs.Device.{Device, map_device}
use Rattle.tree_model.specs.Tree.{Nodes}
use Rattle.proc_table.specs.Processes.{Processes}

-- a path: the names from the root down
abbrev pub Path : Type 0
Path = List (List ℕ)

-- what an open file is of (open(2), pipe(2)): the node at a path, an end of a pipe, or a terminal line
pub data Target : Type 0 where
  node : Path → Target
  read_end : ℕ → Target
  write_end : ℕ → Target
  tty : ℕ → Target

-- an open file: what it is of, what it was opened for, whether each write goes to the end (O_APPEND), whether a call that would wait
-- is denied (O_NONBLOCK), and the offset in a regular file
pub record File : Type 0 where
  pub target : Target
  pub readable : Bool
  pub writable : Bool
  pub append : Bool
  pub nonblock : Bool
  pub offset : ℕ

-- The open files; for each number of a pipe what it holds; the terminal lines; the tree; the processes; those that are still to be
-- ended, in order, which is none between events; whether labels are looked at again at each read and write; and whether the system
-- was halted.
pub record Parts (F C : Type 0) : Type 0 where
  pub descriptors : Shared F
  pub pipes : Pipes (List C)
  pub lines : List (Device C)
  pub tree : Nodes
  pub processes : Processes Path
  pub ending : List (ℕ × How)
  pub recheck : Bool
  pub halted : Bool

-- the same, with something else kept of each file and of each byte
abbrev pub map_parts : {F G C D : Type 0} → (F → G) → (C → D) → Parts F C → Parts G D
map_parts f g m = record {
  descriptors = map_files f m.descriptors;
  pipes = map_pipes (map g) m.pipes;
  lines = map (map_device g) m.lines;
  tree = m.tree;
  processes = m.processes;
  ending = m.ending;
  recheck = m.recheck;
  halted = m.halted;
}
