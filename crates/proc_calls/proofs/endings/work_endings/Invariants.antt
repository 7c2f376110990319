use Rattle.std.specs.Prelude.{◌≡◌, ℕ, ◌-◌, List, Option, drop}
use Rattle.sys_types.specs.declared.limits.TheConstants.{SLOTS}
use Rattle.proc_table.specs.Posts.{IsEndingList}
use Rattle.tree_model.specs.Tree.{NodeAt}
use Rattle.tty_dev.specs.Table.{counts_of, boots_of}
use Rattle.proc_calls.specs.Ends.{AreRunning}
use Rattle.system_model.specs.Effects.{change_all}
use Rattle.system_model.specs.Endings.{endings}
use Rattle.system_model.specs.Fit.{HasRoot, FitFiles, FitDirectories, FitSlots, FitPipes, FitLines, FitBlocks, AreRevokedAtMost}
use Rattle.system_model.specs.Tables.{Tables, view_of}
use Rattle.proc_calls.proofs.endings.work_endings.Given as goal

-- the entries from the place on are still to be ended
abbrev pub invariant-loop-place : goal.invariant-loop-place
invariant-loop-place l = record {
  list : IsEndingList l.ending.items;
  running : AreRunning l.procs (drop l.place l.ending.items);
  files : (nodes : List (Option NodeAt)) → FitFiles nodes l.fn.fds → FitFiles nodes l.fds;
  directories : (nodes : List (Option NodeAt)) → FitDirectories nodes l.fn.procs → FitDirectories nodes l.procs;
  slots : FitSlots l.fds l.procs;
  pipes : FitPipes l.fds l.pipes;
  lines : FitLines l.fds (counts_of l.lines) (boots_of l.lines);
  blocks : FitBlocks l.pool l.pipes l.lines;
  revokes : (most : ℕ) → AreRevokedAtMost most l.fn.pool l.fn.lines → AreRevokedAtMost most l.pool l.lines;
  does : (t : Tables) → t.descriptors ≡ l.fn.fds → t.pipes ≡ l.fn.pipes → t.processes ≡ l.fn.procs → t.pool ≡ l.fn.pool → t.lines ≡ l.fn.lines →
      t.ending ≡ l.fn.ending.items → HasRoot t.nodes →
      (let v = view_of (record t { descriptors = l.fds; pipes = l.pipes; processes = l.procs; pool = l.pool; lines = l.lines; ending = l.ending.items }) in
      change_all v (endings (SLOTS - l.place) l.place v) ≡ change_all (view_of t) (endings SLOTS 0 (view_of t)));
}
