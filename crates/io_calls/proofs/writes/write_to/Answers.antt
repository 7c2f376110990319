use Rattle.std.proofs.Common.{◌≡◌, ℕ, ◌++◌, List, Some, refl, sym, ap, subst, ◌∙◌}
use Rattle.std.specs.Prelude.{option_copied}
use Rattle.fd_table.specs.Shared.{file_at}
use Rattle.line_disc.specs.Device as device
use Rattle.line_disc.specs.Device.{Device}
use Rattle.line_disc.specs.Discipline.{bytes}
use Rattle.line_disc.specs.Lines.{change_line, line_at}
use Rattle.tty_dev.specs.Table.{counts_of, boots_of, devices}
use Rattle.system_model.proofs.BlockLemmas.{lines_stay, pipes_fit, pipes_stay}
use Rattle.system_model.proofs.SeenLines.{revokes_same}
use Rattle.system_model.specs.Tables.{Tables, view_of}
use Rattle.io_calls.specs.Targets.{IsThere}
use Rattle.io_calls.proofs.KeptNodes.{written_files, written_directories, written_lines}
use Rattle.io_calls.proofs.OffsetLemmas.{files_moved, pipes_moved, lines_moved}
use Rattle.io_calls.proofs.PipeFits.{pipes_changed}
use Rattle.io_calls.proofs.TargetLemmas.{target_there, lines_count, line_there}
use Rattle.io_calls.proofs.WriteMoves.{write_nothing, write_as, file_written, pipe_written, line_written}
use Rattle.io_calls.proofs.writes.write_to.Goals as goal
use Rattle.io_calls.proofs.writes.write_to.Goals.{In-Some}

-- the open file of the number
file : (c : In-Some) → file_at c.args.fds.now c.args.slot c.args.fd ≡ Some c.in-Some.file.now
file c = sym c.get.ensures ∙ ap option_copied c.in-Some.is

file-in : (c : In-Some) (t : Tables) → t.descriptors ≡ c.args.fds.now → file_at t.descriptors c.args.slot c.args.fd ≡ Some c.in-Some.file.now
file-in c t descriptors = ap (λ d. file_at d c.args.slot c.args.fd) descriptors ∙ file c

there : (c : In-Some) → IsThere c.args.tree.now c.args.pipes.now c.in-Some.file.now.target
there c =
    target_there c.args.tree.now c.args.fds.now c.args.pipes.now c.args.lines.now c.args.slot c.args.fd c.in-Some.file.now c.requires.files c.requires.pipes
    c.requires.lines (file c)

pub returns-in_default-clause-does : goal.returns-in_default-clause-does
returns-in_default-clause-does c = λ t nodes descriptors pipes pool lines.
    rw (← nodes, ← descriptors, ← pipes, ← pool, ← lines)
    (write_nothing t c.args.slot c.args.fd c.args.bytes.now
    (ap (λ d. file_at d c.args.slot c.args.fd) descriptors ∙ sym c.get.ensures ∙ ap option_copied c.in_default.is))

pub fill_pipe-requires-clause-there : goal.fill_pipe-requires-clause-there
fill_pipe-requires-clause-there c =
    subst (IsThere c.args.tree.now c.args.pipes.now) c.in-PipeWrite.is (there (goal.at.fill_pipe-requires-clause-there c).In-Some)

pub write-count-requires-clause-line : goal.write-count-requires-clause-line
write-count-requires-clause-line c =
    line_there c.args.tree.now c.args.pipes.now c.args.lines.now c.in-Some.file.now.target c.in-Line.line c.in-Line.opened
    (lines_count c.args.fds.now c.args.lines.now c.requires.lines) (there (goal.at.write-count-requires-clause-line c).In-Some) c.in-Line.is

pub returns-in_ok-count-in-File-clause-files : goal.returns-in_ok-count-in-File-clause-files
returns-in_ok-count-in-File-clause-files c =
    rw c.in_ok-count-in-File.ensures.table
    (files_moved c.write_file.new.tree c.args.fds.now c.args.slot c.args.fd _
    (written_files c.args.tree.now c.write_file.new.tree c.in-File.node c.write_place-place.result c.args.bytes.now c.in_ok-count-in-File.ensures.set
    c.args.fds.now c.requires.files))

pub returns-in_ok-count-in-File-clause-directories : goal.returns-in_ok-count-in-File-clause-directories
returns-in_ok-count-in-File-clause-directories c =
    written_directories c.args.tree.now c.write_file.new.tree c.in-File.node c.write_place-place.result c.args.bytes.now c.in_ok-count-in-File.ensures.set

pub returns-in_ok-count-in-File-clause-tree : goal.returns-in_ok-count-in-File-clause-tree
returns-in_ok-count-in-File-clause-tree c =
    written_lines c.args.tree.now c.write_file.new.tree c.in-File.node c.write_place-place.result c.args.bytes.now c.in_ok-count-in-File.ensures.set
    c.in_ok-count-in-File.ensures.map c.write_place-place.ensures.node

pub returns-in_ok-count-in-File-clause-pipes : goal.returns-in_ok-count-in-File-clause-pipes
returns-in_ok-count-in-File-clause-pipes c =
    rw c.in_ok-count-in-File.ensures.table (pipes_moved c.args.fds.now c.args.slot c.args.fd _ c.args.pipes.now c.requires.pipes)

pub returns-in_ok-count-in-File-clause-lines : goal.returns-in_ok-count-in-File-clause-lines
returns-in_ok-count-in-File-clause-lines c =
    rw c.in_ok-count-in-File.ensures.table
    (lines_moved c.args.fds.now c.args.slot c.args.fd _ (counts_of c.args.lines.now) (boots_of c.args.lines.now) c.requires.lines)

pub returns-in_ok-count-in-File-clause-does : goal.returns-in_ok-count-in-File-clause-does
returns-in_ok-count-in-File-clause-does c = λ t nodes descriptors pipes pool lines.
    rw (c.number.ensures, c.in_ok-count-in-File.ensures.count, ← pipes, ← pool, ← lines)
    (write_as t _ _ c.args.slot c.args.fd c.args.bytes.now c.in-Some.file.now _
    (file-in (goal.at.returns-in_ok-count-in-File-clause-does c).In-Some t descriptors) c.in-File.is
    (file_written t c.write_file.new.tree c.write_file.new.fds c.args.slot c.args.fd c.in-File.node c.write_place-place.result c.args.bytes.now
    c.in-Some.file.now (rw nodes c.write_place-place.ensures.node) (rw nodes c.write_place-place.ensures.place)
    (rw nodes c.in_ok-count-in-File.ensures.set) (rw nodes c.in_ok-count-in-File.ensures.map) (rw descriptors c.in_ok-count-in-File.ensures.table)))

pub returns-in-PipeRead-clause-does : goal.returns-in-PipeRead-clause-does
returns-in-PipeRead-clause-does c = λ t nodes descriptors pipes pool lines.
    rw (← nodes, ← descriptors, ← pipes, ← pool, ← lines)
    (write_as t (view_of t) _ c.args.slot c.args.fd c.args.bytes.now c.in-Some.file.now _
    (file-in (goal.at.returns-in-PipeRead-clause-does c).In-Some t descriptors) c.in-PipeRead.is (record { state = refl; answer = refl }))

pub returns-in-PipeWrite-clause-pipes : goal.returns-in-PipeWrite-clause-pipes
returns-in-PipeWrite-clause-pipes c =
    pipes_changed c.args.fds.now c.args.pool.now c.fill_pipe.new.pool c.args.pipes.now c.fill_pipe.new.pipes (λ held. held ++ c.args.bytes.now)
    c.in-PipeWrite.pipe c.fill_pipe.ensures.put c.requires.pipes

pub returns-in-PipeWrite-clause-blocks : goal.returns-in-PipeWrite-clause-blocks
returns-in-PipeWrite-clause-blocks c =
    pipes_fit c.args.pool.now c.fill_pipe.new.pool c.args.pipes.now c.fill_pipe.new.pipes c.args.lines.now c.requires.blocks c.fill_pipe.ensures.keeps

pub returns-in-PipeWrite-clause-revokes : goal.returns-in-PipeWrite-clause-revokes
returns-in-PipeWrite-clause-revokes c = λ most.
    revokes_same most c.args.pool.now c.fill_pipe.new.pool c.args.lines.now
    (lines_stay c.args.pool.now c.fill_pipe.new.pool c.args.pipes.now c.fill_pipe.new.pipes c.args.lines.now c.requires.blocks c.fill_pipe.ensures.keeps)

pub returns-in-PipeWrite-clause-does : goal.returns-in-PipeWrite-clause-does
returns-in-PipeWrite-clause-does c = λ t nodes descriptors pipes pool lines.
    rw (c.number-in-PipeWrite.ensures, ← nodes, ← descriptors, ← lines)
    (write_as t _ _ c.args.slot c.args.fd c.args.bytes.now c.in-Some.file.now _
    (file-in (goal.at.returns-in-PipeWrite-clause-does c).In-Some t descriptors) c.in-PipeWrite.is
    (pipe_written t c.fill_pipe.new.pool c.fill_pipe.new.pipes c.args.slot c.args.fd c.in-PipeWrite.pipe _ c.args.bytes.now c.in-Some.file.now
    c.len.ensures.len (rw (pool, pipes) c.fill_pipe.ensures.put)
    (rw (pool, lines) (lines_stay c.args.pool.now c.fill_pipe.new.pool c.args.pipes.now c.fill_pipe.new.pipes c.args.lines.now c.requires.blocks
    c.fill_pipe.ensures.keeps))))

pub returns-in-Line-clause-does : goal.returns-in-Line-clause-does
returns-in-Line-clause-does c = λ t nodes descriptors pipes pool lines.
    rw (c.number-in-Line.ensures, ← nodes, ← descriptors, ← pipes)
    (write_as t _ _ c.args.slot c.args.fd c.args.bytes.now c.in-Some.file.now _ (file-in (goal.at.returns-in-Line-clause-does c).In-Some t descriptors)
    c.in-Line.is
    (line_written t c.write-count.new.pool c.write-count.new.lines c.args.slot c.args.fd c.in-Line.line _ c.args.bytes.now c.in-Some.file.now
    (c.from.ensures
    ∙ rw (pool, lines)
    (c.write-count.ensures.count
    ∙ ap (λ (bs : List ℕ). device.put_count (line_at (devices c.args.pool.now c.args.lines.now) c.in-Line.line) bs) c.as_slice.ensures.bytes))
    (rw (pool, lines)
    (c.write-count.ensures.devices
    ∙ ap (λ (bs : List ℕ). change_line (λ (d : Device ℕ). device.put bytes d bs) (devices c.args.pool.now c.args.lines.now) c.in-Line.line)
    c.as_slice.ensures.bytes))
    (rw lines c.write-count.ensures.counts)
    (rw (pool, pipes)
    (pipes_stay c.args.pool.now c.write-count.new.pool c.args.pipes.now c.args.lines.now c.write-count.new.lines c.requires.blocks
    c.write-count.ensures.keeps))))
