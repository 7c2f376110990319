-- What goes with the last descriptor of an open file, in the tables of a kernel (close(2)).
use Rattle.std.specs.Prelude.{◌≡◌, ℕ, ◌+◌, ◌<◌, ◌==◌, ◌&&◌, not, Bool, true, false, List, length}
use Rattle.block_pool.specs.Chain.{ChainState}
use Rattle.fd_table.specs.declared.open.Open.{Open}
use Rattle.fd_table.specs.declared.open.Target as kept
use Rattle.fd_table.specs.declared.open.Target.TheVariants.{File as FileOf, PipeRead, PipeWrite, Line}
use Rattle.fd_table.specs.Shared.{Shared, count_files}
use Rattle.pipe_core.specs.Pipes.{Pipes, is_there}
use Rattle.tty_dev.specs.History.{Counts, closes}
use Rattle.tty_dev.specs.Table.{count_at, use_line, is_dead_at}
use Rattle.system_model.specs.Tables.{generations}
use Rattle.system_model.specs.Fit.{is_end_of, is_live_file}

-- no open file is an end of the pipe
abbrev pub has_no_end : Shared Open → ℕ → Bool
has_no_end d k = count_files (λ f. is_end_of k f.target) d == 0

-- What an open file was of may be let go, which no descriptor refers to any more: its pipe is there, and its line counts it beside those that are left.
pub record IsReleasable (d : Shared Open) (pipes : Pipes ChainState) (counts : List Counts) (target : kept.Target) : Type 0 where
  pub pipe : (k : ℕ) → is_end_of k target ≡ true → is_there pipes k ≡ true
  pub line : (n opened : ℕ) → target ≡ Line n opened → n < length counts
  pub live : (n opened : ℕ) → target ≡ Line n opened → is_dead_at counts n opened ≡ false
      → (count_at counts n).live ≡ count_files (λ f. is_live_file (generations counts) n f.target) d + 1

-- whether a pipe is there after it
abbrev pub is_there_after : Shared Open → kept.Target → ℕ → Bool → Bool
is_there_after d target k there = there && not (is_end_of k target && has_no_end d k)

-- the counts of the lines after it
abbrev pub counts_after : kept.Target → List Counts → List Counts
counts_after (FileOf number) counts = counts
counts_after (PipeRead k) counts = counts
counts_after (PipeWrite k) counts = counts
counts_after (Line n opened) counts = use_line (closes opened) counts n
