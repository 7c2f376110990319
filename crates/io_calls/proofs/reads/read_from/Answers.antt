use Rattle.std.proofs.Common.{◌≡◌, ℕ, drop, List, Some, refl, sym, ap, ap₂, ◌∙◌}
use Rattle.std.specs.Prelude.{option_copied, unwrap_or}
use Rattle.fd_table.specs.Shared.{file_at}
use Rattle.tty_dev.specs.Table.{counts_of, boots_of}
use Rattle.system_model.specs.Tables.{Tables, view_of}
use Rattle.io_calls.specs.Targets.{IsThere}
use Rattle.io_calls.proofs.OffsetLemmas.{files_moved, pipes_moved, lines_moved}
use Rattle.io_calls.proofs.PipeFits.{pipes_changed}
use Rattle.io_calls.proofs.ReadMoves.{read_nothing, read_as, file_read, pipe_read, line_read}
use Rattle.io_calls.proofs.TargetLemmas.{target_there, lines_count, line_there}
use Rattle.io_calls.proofs.reads.read_from.Goals as goal
use Rattle.io_calls.proofs.reads.read_from.Goals.{In-Some}

-- the open file of the number
file : (c : In-Some) → file_at c.args.fds.now c.args.slot c.args.fd ≡ Some c.in-Some.file.now
file c = sym c.get.ensures ∙ ap option_copied c.in-Some.is

file-in : (c : In-Some) (t : Tables) → t.descriptors ≡ c.args.fds.now → file_at t.descriptors c.args.slot c.args.fd ≡ Some c.in-Some.file.now
file-in c t descriptors = ap (λ d. file_at d c.args.slot c.args.fd) descriptors ∙ file c

there : (c : In-Some) → IsThere c.args.tree.now c.args.pipes.now c.in-Some.file.now.target
there c =
    target_there c.args.tree.now c.args.fds.now c.args.pipes.now c.args.lines.now c.args.slot c.args.fd c.in-Some.file.now c.requires.files c.requires.pipes
    c.requires.lines (file c)

pub returns-in_default-clause-does : goal.returns-in_default-clause-does
returns-in_default-clause-does c = λ t nodes descriptors pipes pool lines.
    rw (← descriptors, ← pipes, ← lines)
    (read_nothing t c.args.slot c.args.fd c.args.max
    (ap (λ d. file_at d c.args.slot c.args.fd) descriptors ∙ sym c.get.ensures ∙ ap option_copied c.in_default.is))

pub take-requires-clause-there : goal.take-requires-clause-there
take-requires-clause-there c =
    rw (← ap (IsThere c.args.tree.now c.args.pipes.now) c.in-PipeRead.is) (there (goal.at.take-requires-clause-there c).In-Some)

pub read-requires-clause-line : goal.read-requires-clause-line
read-requires-clause-line c =
    line_there c.args.tree.now c.args.pipes.now c.args.lines.now c.in-Some.file.now.target c.in-Line.line c.in-Line.opened
    (lines_count c.args.fds.now c.args.lines.now c.requires.lines) (there (goal.at.read-requires-clause-line c).In-Some) c.in-Line.is

pub returns-in-File-clause-files : goal.returns-in-File-clause-files
returns-in-File-clause-files c =
    rw c.read_file.ensures.table (files_moved c.args.tree.now c.args.fds.now c.args.slot c.args.fd _ c.requires.files)

pub returns-in-File-clause-pipes : goal.returns-in-File-clause-pipes
returns-in-File-clause-pipes c =
    rw c.read_file.ensures.table (pipes_moved c.args.fds.now c.args.slot c.args.fd _ c.args.pipes.now c.requires.pipes)

pub returns-in-File-clause-lines : goal.returns-in-File-clause-lines
returns-in-File-clause-lines c =
    rw c.read_file.ensures.table
    (lines_moved c.args.fds.now c.args.slot c.args.fd _ (counts_of c.args.lines.now) (boots_of c.args.lines.now) c.requires.lines)

pub returns-in-File-clause-does : goal.returns-in-File-clause-does
returns-in-File-clause-does c = λ t nodes descriptors pipes pool lines.
    rw (c.bytes.ensures, ← pipes, ← lines)
    (read_as t _ _ c.args.slot c.args.fd c.args.max c.in-Some.file.now _ (file-in (goal.at.returns-in-File-clause-does c).In-Some t descriptors) c.in-File.is
    (file_read t c.read_file.new.fds c.args.slot c.args.fd c.args.max c.in-File.node c.in-Some.file.now c.read_file.result
    (rw nodes c.read_file.ensures.bytes) (rw nodes c.read_file.ensures.map) (rw descriptors c.read_file.ensures.table)))

pub returns-in-PipeRead-clause-pipes : goal.returns-in-PipeRead-clause-pipes
returns-in-PipeRead-clause-pipes c =
    pipes_changed c.args.fds.now c.args.pool.now c.args.pool.now c.args.pipes.now c.take.new.self (drop c.args.max) c.in-PipeRead.pipe c.take.ensures.rest
    c.requires.pipes

pub returns-in-PipeRead-clause-does : goal.returns-in-PipeRead-clause-does
returns-in-PipeRead-clause-does c = λ t nodes descriptors pipes pool lines.
    rw (c.bytes-in-PipeRead.ensures, ← descriptors, ← lines)
    (read_as t _ _ c.args.slot c.args.fd c.args.max c.in-Some.file.now _ (file-in (goal.at.returns-in-PipeRead-clause-does c).In-Some t descriptors)
    c.in-PipeRead.is
    (pipe_read t c.take.new.self c.args.slot c.args.fd c.args.max c.in-PipeRead.pipe c.in-Some.file.now c.take.result
    (rw (pool, pipes) c.take.ensures.front) (rw (pool, pipes) c.take.ensures.rest)))

pub returns-in-PipeWrite-clause-does : goal.returns-in-PipeWrite-clause-does
returns-in-PipeWrite-clause-does c = λ t nodes descriptors pipes pool lines.
    rw (← descriptors, ← pipes, ← lines)
    (read_as t (view_of t) _ c.args.slot c.args.fd c.args.max c.in-Some.file.now _
    (file-in (goal.at.returns-in-PipeWrite-clause-does c).In-Some t descriptors) c.in-PipeWrite.is (record { state = refl; answer = refl }))

pub returns-in-Line-clause-does : goal.returns-in-Line-clause-does
returns-in-Line-clause-does c = λ t nodes descriptors pipes pool lines.
    rw (c.bytes-in-Line.ensures, ← descriptors, ← pipes)
    (read_as t _ _ c.args.slot c.args.fd c.args.max c.in-Some.file.now _ (file-in (goal.at.returns-in-Line-clause-does c).In-Some t descriptors) c.in-Line.is
    (line_read t c.read.new.lines c.args.slot c.args.fd c.args.max c.in-Line.line c.in-Some.file.now c.unwrap_or.result
    (rw (pool, lines) (c.unwrap_or.ensures ∙ ap₂ (λ o (bs : List ℕ). unwrap_or o bs) c.read.ensures.bytes c.empty.ensures))
    (rw (pool, lines) c.read.ensures.devices) (rw lines c.read.ensures.counts)))
