use Rattle.std.specs.Prelude.{◌≡◌, ◌<◌, ◌≤◌, false, ℕ, List, Option, length, ◌-◌}
use Rattle.sys_types.specs.declared.limits.TheConstants.{DESCRIPTORS}
use Rattle.fd_table.specs.Shared.{descriptor_at, row_of}
use Rattle.proc_table.specs.Processes.{Processes}
use Rattle.tree_model.specs.Tree.{NodeAt}
use Rattle.tty_dev.specs.Table.{counts_of, boots_of}
use Rattle.proc_calls.specs.CloseNumbers.{is_one_of, numbers_from}
use Rattle.system_model.specs.Effects.{change_all}
use Rattle.system_model.specs.Fit.{FitFiles, FitSlots, FitPipes, FitLines, FitBlocks, AreRevokedAtMost}
use Rattle.system_model.specs.ProcCalls.{close_fds}
use Rattle.system_model.specs.Tables.{Tables, view_of}
use Rattle.proc_calls.proofs.closing.close_numbers.Given as goal

-- the numbers below are closed, and those above are as they were
abbrev pub invariant-loop-fd : goal.invariant-loop-fd
invariant-loop-fd l = record {
  pipes : FitPipes l.fds l.pipes;
  lines : FitLines l.fds (counts_of l.lines) (boots_of l.lines);
  blocks : FitBlocks l.pool l.pipes l.lines;
  files : (nodes : List (Option NodeAt)) → FitFiles nodes l.fn.fds → FitFiles nodes l.fds;
  slots : (processes : Processes ℕ) → FitSlots l.fn.fds processes → FitSlots l.fds processes;
  revokes : (most : ℕ) → AreRevokedAtMost most l.fn.pool l.fn.lines → AreRevokedAtMost most l.pool l.lines;
  above : (number : ℕ) → l.fd ≤ number → descriptor_at l.fds.table l.slot number ≡ descriptor_at l.fn.fds.table l.slot number;
  below : (number : ℕ) → number < l.fd → is_one_of l.numbers (descriptor_at l.fds.table l.slot number) ≡ false;
  row : 0 < l.fd → length (row_of l.fds.table l.slot) ≡ DESCRIPTORS;
  does : (t : Tables) → t.descriptors ≡ l.fn.fds → t.pipes ≡ l.fn.pipes → t.pool ≡ l.fn.pool → t.lines ≡ l.fn.lines →
      change_all (view_of (record t { descriptors = l.fds; pipes = l.pipes; pool = l.pool; lines = l.lines }))
      (close_fds l.slot (numbers_from l.numbers l.fn.fds.table l.slot l.fd (DESCRIPTORS - l.fd)))
      ≡ change_all (view_of t) (close_fds l.slot (numbers_from l.numbers l.fn.fds.table l.slot 0 DESCRIPTORS));
}
