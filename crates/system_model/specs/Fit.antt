-- When the tables of a kernel fit together. Each call and each event keeps this.
use Rattle.std.specs.List.{All}
use Rattle.std.specs.Prelude.{◌≡◌, ℕ, ◌+◌, if◌then◌else◌, ◌≤◌, ◌<◌, Bool, true, false, not, ◌==◌}
use Rattle.std.specs.Prelude.{◌&&◌, List, [], ◌++◌, length, Option, Some, is_some, option_map, slice_index_or}
use Rattle.sys_types.specs.declared.limits.TheConstants.{SLOTS, LINES, RAW_LINE, PIPES, POOL_BLOCKS}
use Rattle.sys_types.specs.declared.node.Kind.{Kind}
use Rattle.sys_types.specs.declared.node.Kind.TheVariants as kind
use Rattle.block_pool.specs.Pool.{PoolState, AreOf, AreAllOf}
use Rattle.block_pool.specs.Chain.{ChainState}
use Rattle.fd_table.specs.declared.open.Open.{Open}
use Rattle.fd_table.specs.declared.open.Target as kept
use Rattle.fd_table.specs.declared.open.Target.TheVariants.{File as FileOf, PipeRead, PipeWrite, Line}
use Rattle.fd_table.specs.declared.open.Descriptor.{Descriptor}
use Rattle.fd_table.specs.Shared.{Shared, descriptor_at, entry_at, count_files}
use Rattle.line_disc.specs.Lines.{line_at}
use Rattle.pipe_core.specs.Pipes.{Pipes, is_there}
use Rattle.pipe_core.specs.Chains as pipe
use Rattle.pipe_core.specs.Chains.{blocks_of}
use Rattle.tty_dev.specs.Line.{LineState}
use Rattle.tty_dev.specs.History.{Counts}
use Rattle.tty_dev.specs.Table as line
use Rattle.tty_dev.specs.Table.{counts_of, boots_of, count_at, lines_held}
use Rattle.proc_table.specs.Processes.{Process, Processes, is_running, process_at, running_at}
use Rattle.tree_model.specs.Tree.{NodeAt, NodeRecord, at_path, nodes_from, is_dir_record}
use Rattle.tree_model.specs.Numbers.{IsFile, path_of, record_of}
use Rattle.system_model.specs.Looks.{tty_path}
use Rattle.system_model.specs.Tables.{Tables, generations, generation_at, is_dead_target}

abbrev pub kind_of : Option NodeRecord → Option Kind
kind_of what = option_map (λ n. n.kind) what

-- Each open file of a node is of a live regular file.
pub record FitFiles (nodes : List (Option NodeAt)) (d : Shared Open) : Type 0 where
  pub live : (entry number : ℕ) (f : Open) → entry_at d.files entry ≡ Some f → f.target ≡ FileOf number → IsFile nodes number

-- The node of number 0 is the root.
pub record HasRoot (nodes : List (Option NodeAt)) : Type 0 where
  pub path : path_of nodes 0 ≡ []
  pub directory : is_dir_record (record_of nodes 0) ≡ true

-- Each process's working directory is a live directory, and that of a zombie is the root.
pub record FitDirectories (nodes : List (Option NodeAt)) (processes : Processes ℕ) : Type 0 where
  pub live : (slot : ℕ) (p : Process ℕ) → process_at processes slot ≡ Some p → is_dir_record (record_of nodes p.directory) ≡ true
  pub root : HasRoot nodes
  pub zombies : (slot : ℕ) (p : Process ℕ) → process_at processes slot ≡ Some p → is_running p ≡ false → p.directory ≡ 0

-- Each line's own node is there, and each node that is a line is one of a line that there is.
pub record FitTree (nodes : List (Option NodeAt)) : Type 0 where
  pub lines : (line : ℕ) → line < LINES → kind_of (at_path (nodes_from nodes) (tty_path line)) ≡ Some (kind.Line line)
  pub names : (number line : ℕ) → kind_of (record_of nodes number) ≡ Some (kind.Line line) → line < LINES

-- the slot has a running process, which may ask
pub record IsCaller (processes : Processes ℕ) (slot : ℕ) : Type 0 where
  pub below : slot < SLOTS
  pub running : is_some (running_at processes slot) ≡ true

-- Only slots with a running process have descriptors.
pub record FitSlots (files : Shared Open) (processes : Processes ℕ) : Type 0 where
  pub running : (slot number : ℕ) (d : Descriptor) → descriptor_at files.table slot number ≡ Some d → is_some (running_at processes slot) ≡ true

-- an open file is an end of a pipe
abbrev pub is_end_of : ℕ → kept.Target → Bool
is_end_of k (FileOf number) = false
is_end_of k (PipeRead other) = other == k
is_end_of k (PipeWrite other) = other == k
is_end_of k (Line line opened) = false

-- A pipe is there exactly where an open file is one of its ends.
pub record FitPipes (files : Shared Open) (pipes : Pipes ChainState) : Type 0 where
  pub places : length pipes ≡ PIPES
  pub ends : (k : ℕ) → is_there pipes k ≡ not (count_files (λ f. is_end_of k f.target) files == 0)

-- an open file is one of a line, and not dead
abbrev pub is_live_file : List ℕ → ℕ → kept.Target → Bool
is_live_file revokes n (FileOf number) = false
is_live_file revokes n (PipeRead k) = false
is_live_file revokes n (PipeWrite k) = false
is_live_file revokes n (Line line opened) = not (is_dead_target revokes (Line line opened)) && line == n

-- There are 8 lines; each counts its open files that are not dead; no file of a line has a generation above the line's; and the boot gives all but the
-- last the settings `cooked`.
pub record FitLines (d : Shared Open) (counts : List Counts) (boots : List Bool) : Type 0 where
  pub lines : length counts ≡ LINES
  pub live : (n : ℕ) → n < LINES → (count_at counts n).live ≡ count_files (λ f. is_live_file (generations counts) n f.target) d
  pub there : (entry n opened : ℕ) (f : Open) → entry_at d.files entry ≡ Some f → f.target ≡ Line n opened → n < LINES
  pub early : (entry n opened : ℕ) (f : Open) → entry_at d.files entry ≡ Some f → f.target ≡ Line n opened → opened ≤ generation_at (generations counts) n
  pub cooked : (n : ℕ) → n < LINES → slice_index_or boots n false ≡ not (n == RAW_LINE)

-- The pipes have 32 blocks each, and the lines with a live file 40, of a pool of 512; no block is held twice, and every other block is free.
pub record FitBlocks (pool : PoolState) (queues : Pipes ChainState) (devices : List LineState) : Type 0 where
  pub size : length pool.blocks ≡ POOL_BLOCKS
  pub all : AreAllOf pool (lines_held devices ++ blocks_of queues)
  pub lines : All line.HoldsBlocks devices
  pub pipes : All pipe.HoldsBlocks queues

pub record Fit (t : Tables) : Type 0 where
  pub files : FitFiles t.nodes t.descriptors
  pub directories : FitDirectories t.nodes t.processes
  pub tree : FitTree t.nodes
  pub slots : FitSlots t.descriptors t.processes
  pub pipes : FitPipes t.descriptors t.pipes
  pub lines : FitLines t.descriptors (counts_of t.lines) (boots_of t.lines)
  pub blocks : FitBlocks t.pool t.pipes t.lines

-- How often each line was revoked, with the revoke that the end of its session's leader may yet bring, is at most this: so no counter overflows.
pub record AreRevokedAtMost (most : ℕ) (pool : PoolState) (devices : List LineState) : Type 0 where
  pub each : (n : ℕ) → (count_at (counts_of devices) n).generation + (if is_some (line_at (line.devices pool devices) n).session then 1 else 0) ≤ most

-- The pipes have their blocks of a pool of 512, whatever the lines have.
pub record FitPool (pool : PoolState) (queues : Pipes ChainState) : Type 0 where
  pub size : length pool.blocks ≡ POOL_BLOCKS
  pub of_pool : AreOf pool (blocks_of queues)
  pub pipes : All pipe.HoldsBlocks queues
