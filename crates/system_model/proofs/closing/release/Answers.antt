use Rattle.std.proofs.Common.{◌≡◌, cond, ⊎_elim, refl, sym, ap, ◌∙◌}
use Rattle.std.specs.Prelude.{nat_lt}
use Rattle.fd_table.specs.declared.open.Target.TheVariants.{PipeRead, PipeWrite}
use Rattle.pipe_core.specs.Pipes.{is_there}
use Rattle.tty_dev.specs.Table.{counts_of, count_at, is_dead_at, is_last_at}
use Rattle.tty_dev.proofs.TableLemmas.{length-counts}
use Rattle.system_model.specs.FileEffects.{release_line, release_target}
use Rattle.system_model.specs.Keeping.{seeing}
use Rattle.system_model.specs.Closing.{is_there_after}
use Rattle.system_model.specs.Tables.{generations, is_dead_target, seen_target, view_of}
use Rattle.system_model.proofs.BlockLemmas.{pipes_fit, lines_stay, pipes_stay}
use Rattle.system_model.proofs.ClosingLemmas.{pipe_released, line_released, there_after, generations_after, generation_seen, generation_after}
use Rattle.system_model.proofs.SeenLines.{revokes_chosen, revokes_same}
use Rattle.line_disc.specs.Device.{close_last}
use Rattle.system_model.proofs.closing.release.Goals as goal

pub close_file-requires-clause-line : goal.close_file-requires-clause-line
close_file-requires-clause-line c = rw (← length-counts c.args.lines.now) (c.requires.target.line c.in-Line.line c.in-Line.opened c.in-Line.is)

pub returns-in-PipeRead-clause-blocks : goal.returns-in-PipeRead-clause-blocks
returns-in-PipeRead-clause-blocks c = pipes_fit _ _ c.args.pipes.now _ c.args.lines.now c.requires.blocks c.release_pipe.ensures.keeps

pub returns-in-PipeRead-clause-pipes : goal.returns-in-PipeRead-clause-pipes
returns-in-PipeRead-clause-pipes c = λ k.
    there_after _ _ c.args.pipes.now _ c.args.fds.now c.in-PipeRead.k k c.release_pipe.ensures.bytes
    ∙ ⊎_elim
    (λ (is : c.args.target ≡ PipeRead c.in-PipeRead.k). ap (λ target. is_there_after c.args.fds.now target k (is_there c.args.pipes.now k)) (sym is))
    (λ (is : c.args.target ≡ PipeWrite c.in-PipeRead.k). ap (λ target. is_there_after c.args.fds.now target k (is_there c.args.pipes.now k)) (sym is))
    c.in-PipeRead.is

pub returns-in-PipeRead-clause-seen : goal.returns-in-PipeRead-clause-seen
returns-in-PipeRead-clause-seen c = λ t descriptors pipes pool lines.
    (let released =
    pipe_released t c.release_pipe.new.pool c.release_pipe.new.pipes c.in-PipeRead.k
    (rw (descriptors, pipes, pool) c.release_pipe.ensures.bytes)
    (rw (pool, lines) (lines_stay _ _ c.args.pipes.now _ c.args.lines.now c.requires.blocks c.release_pipe.ensures.keeps)) in
    rw (← lines)
    (⊎_elim
    (λ (is : c.args.target ≡ PipeRead c.in-PipeRead.k).
    released ∙ ap (λ target. release_target seeing (view_of t) (is_dead_target (generations (counts_of t.lines)) target) (seen_target t.nodes target)) (sym is))
    (λ (is : c.args.target ≡ PipeWrite c.in-PipeRead.k).
    released ∙ ap (λ target. release_target seeing (view_of t) (is_dead_target (generations (counts_of t.lines)) target) (seen_target t.nodes target)) (sym is))
    c.in-PipeRead.is))

pub returns-in-Line-clause-seen : goal.returns-in-Line-clause-seen
returns-in-Line-clause-seen c = λ t descriptors pipes pool lines.
    (let n = c.in-Line.line in
    let opened = c.in-Line.opened in
    let counts = counts_of t.lines in
    let released =
    line_released t c.close_file.new.pool c.close_file.new.lines n (is_dead_at counts n opened) (count_at counts n).live
    (rw (lines, descriptors) (c.requires.target.live n opened c.in-Line.is))
    (rw (lines, pool) c.close_file.ensures.devices)
    (ap generations c.close_file.ensures.counts ∙ generations_after (counts_of c.args.lines.now) n opened ∙ ap (λ ls. generations (counts_of ls)) (sym lines))
    (rw (pipes, pool) (pipes_stay _ _ c.args.pipes.now c.args.lines.now _ c.requires.blocks c.close_file.ensures.keeps)) in
    rw (c.in-Line.is, ← pipes)
    (released ∙ ap (λ g. cond (nat_lt opened g) (view_of t) (release_line seeing (view_of t) n)) (sym (generation_seen counts n))))

pub returns-in-PipeRead-clause-revokes : goal.returns-in-PipeRead-clause-revokes
returns-in-PipeRead-clause-revokes c = λ most fit.
    revokes_same most _ _ c.args.lines.now (lines_stay _ _ c.args.pipes.now _ c.args.lines.now c.requires.blocks c.release_pipe.ensures.keeps) fit

pub returns-in-Line-clause-revokes : goal.returns-in-Line-clause-revokes
returns-in-Line-clause-revokes c = λ most fit.
    revokes_chosen most _ _ c.args.lines.now _ (is_last_at (counts_of c.args.lines.now) c.in-Line.line c.in-Line.opened) close_last c.in-Line.line
    c.close_file.ensures.devices
    (λ k. ap (λ cs. (count_at cs k).generation) c.close_file.ensures.counts ∙ generation_after (counts_of c.args.lines.now) c.in-Line.line c.in-Line.opened k)
    (λ d. refl) fit
