-- The tables of a kernel, and what calls see of them: open files, working directories and paths are named by the numbers of nodes in the tables, and by
-- paths in what calls see; bytes lie in blocks of a pool; a file of a line keeps the generation of its open.
use Rattle.std.specs.Prelude.{ℕ, Bool, false, List, map, nat_lt, Option, option_map, slice_index_or}
use Rattle.call_words.specs.declared.event.How.{How}
use Rattle.block_pool.specs.Pool.{PoolState}
use Rattle.block_pool.specs.Chain.{ChainState}
use Rattle.fd_table.specs.declared.open.Open.{Open}
use Rattle.fd_table.specs.declared.open.Target as kept
use Rattle.fd_table.specs.declared.open.Target.TheVariants.{File as FileOf, PipeRead, PipeWrite, Line}
use Rattle.fd_table.specs.Shared.{Shared}
use Rattle.pipe_core.specs.Pipes.{Pipes}
use Rattle.pipe_core.specs.Chains.{bytes_of}
use Rattle.tty_dev.specs.Line.{LineState}
use Rattle.tty_dev.specs.History.{Counts}
use Rattle.tty_dev.specs.Table.{devices, counts_of}
use Rattle.proc_table.specs.Processes.{Process, Slot, Processes, map_process, map_slot}
use Rattle.tree_model.specs.Tree.{NodeAt, nodes_from}
use Rattle.tree_model.specs.Numbers.{path_of}
use Rattle.system_model.specs.Parts.{Path, Target, node, read_end, write_end, tty}
use Rattle.system_model.specs.State.{OpenFile, View}

pub record Tables : Type 0 where
  pub nodes : List (Option NodeAt)
  pub descriptors : Shared Open
  pub pipes : Pipes ChainState
  pub processes : Processes ℕ
  pub pool : PoolState
  pub lines : List LineState
  pub ending : List (ℕ × How)
  pub recheck : Bool
  pub halted : Bool

-- how often each line was revoked
unfoldable pub generations : List Counts → List ℕ
generations counts = map (λ c. c.generation) counts

abbrev pub generation_at : List ℕ → ℕ → ℕ
generation_at revokes line = slice_index_or revokes line 0

-- what an open file is of
abbrev pub seen_target : List (Option NodeAt) → kept.Target → Target
seen_target nodes (FileOf number) = node (path_of nodes number)
seen_target nodes (PipeRead k) = read_end k
seen_target nodes (PipeWrite k) = write_end k
seen_target nodes (Line line opened) = tty line

-- a file of a line is dead where the line was revoked since its open
abbrev pub is_dead_target : List ℕ → kept.Target → Bool
is_dead_target revokes (FileOf number) = false
is_dead_target revokes (PipeRead k) = false
is_dead_target revokes (PipeWrite k) = false
is_dead_target revokes (Line line opened) = nat_lt opened (generation_at revokes line)

abbrev pub seen_open : List (Option NodeAt) → List ℕ → Open → OpenFile
seen_open nodes revokes f = record {
  file = record {
    target = seen_target nodes f.target;
    readable = f.readable;
    writable = f.writable;
    append = f.append;
    nonblock = f.nonblock;
    offset = f.offset;
  };
  dead = is_dead_target revokes f.target;
}

-- The lists stay shut: a lemma says what each change of a table makes of them.

unfoldable pub seen_entries : List (Option NodeAt) → List ℕ → List (Option Open) → List (Option OpenFile)
seen_entries nodes revokes files = map (option_map (seen_open nodes revokes)) files

abbrev pub seen_files : List (Option NodeAt) → List ℕ → Shared Open → Shared OpenFile
seen_files nodes revokes d = record { table = d.table; files = seen_entries nodes revokes d.files }

abbrev pub seen_process : List (Option NodeAt) → Process ℕ → Process Path
seen_process nodes p = map_process (path_of nodes) p

unfoldable pub seen_slots : List (Option NodeAt) → List (Slot ℕ) → List (Slot Path)
seen_slots nodes slots = map (map_slot (path_of nodes)) slots

abbrev pub seen_processes : List (Option NodeAt) → Processes ℕ → Processes Path
seen_processes nodes t = record { slots = seen_slots nodes t.slots; next_pid = t.next_pid }

unfoldable pub seen_pipes : PoolState → Pipes ChainState → Pipes (List ℕ)
seen_pipes pool pipes = bytes_of pool pipes

-- what calls see of all tables; above the calls it stays shut
unfoldable pub view_of : Tables → View
view_of t = record {
  descriptors = seen_files t.nodes (generations (counts_of t.lines)) t.descriptors;
  pipes = seen_pipes t.pool t.pipes;
  lines = devices t.pool t.lines;
  tree = nodes_from t.nodes;
  processes = seen_processes t.nodes t.processes;
  ending = t.ending;
  recheck = t.recheck;
  halted = t.halted;
}
