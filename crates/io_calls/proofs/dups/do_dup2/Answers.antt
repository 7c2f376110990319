use Rattle.std.proofs.Common.{Some, None, Ok, refl, sym, ap, ◌∙◌}
use Rattle.fd_table.specs.Calls.{dup2}
use Rattle.tty_dev.specs.Table.{counts_of, boots_of}
use Rattle.system_model.proofs.DropLemmas.{releasable, pipes_fit_still, lines_fit_still, pipes_fit_after, lines_fit_after, files_left}
use Rattle.io_calls.proofs.Dup2Rows.{dup2_left, dup2_slots, dup2_stays, dup2_denied, dup2_done, dup2_releases}
use Rattle.io_calls.proofs.dups.do_dup2.Goals as goal

pub returns-in-Err-clause-pipes : goal.returns-in-Err-clause-pipes
returns-in-Err-clause-pipes c =
    rw (dup2_stays c.args.fds.now c.dup2.new.self c.args.slot c.args.fd c.args.to c.dup2.result c.in-Err.rule c.dup2.ensures c.in-Err.is) c.requires.pipes

pub returns-in-Err-clause-lines : goal.returns-in-Err-clause-lines
returns-in-Err-clause-lines c =
    rw (dup2_stays c.args.fds.now c.dup2.new.self c.args.slot c.args.fd c.args.to c.dup2.result c.in-Err.rule c.dup2.ensures c.in-Err.is) c.requires.lines

pub returns-in-Err-clause-does : goal.returns-in-Err-clause-does
returns-in-Err-clause-does c = λ t descriptors pipes pool lines.
    rw (c.denied.ensures, ← pipes, ← pool, ← lines)
    (dup2_denied t c.args.slot c.args.fd c.args.to c.dup2.new.self c.dup2.result c.in-Err.rule
    (c.dup2.ensures ∙ ap (λ d. dup2 d c.args.slot c.args.fd c.args.to) (sym descriptors)) c.in-Err.is)

pub returns-in_default-clause-files : goal.returns-in_default-clause-files
returns-in_default-clause-files c = λ nodes fit.
    files_left nodes c.args.fds.now c.dup2.new.self c.in-Ok.last
    (dup2_left c.args.fds.now c.dup2.new.self c.args.slot c.args.fd c.args.to c.in-Ok.last c.dup2.result c.dup2.ensures c.in-Ok.is) fit

pub returns-in_default-clause-slots : goal.returns-in_default-clause-slots
returns-in_default-clause-slots c = λ processes fit.
    dup2_slots c.args.fds.now c.dup2.new.self c.args.slot c.args.fd c.args.to processes c.dup2.result c.dup2.ensures fit

pub returns-in_default-clause-pipes : goal.returns-in_default-clause-pipes
returns-in_default-clause-pipes c =
    pipes_fit_still c.args.fds.now c.dup2.new.self c.args.pipes.now
    (dup2_left c.args.fds.now c.dup2.new.self c.args.slot c.args.fd c.args.to None c.dup2.result c.dup2.ensures (c.in-Ok.is ∙ ap Ok c.in_default.is))
    c.requires.pipes

pub returns-in_default-clause-lines : goal.returns-in_default-clause-lines
returns-in_default-clause-lines c =
    lines_fit_still c.args.fds.now c.dup2.new.self (counts_of c.args.lines.now) (boots_of c.args.lines.now)
    (dup2_left c.args.fds.now c.dup2.new.self c.args.slot c.args.fd c.args.to None c.dup2.result c.dup2.ensures (c.in-Ok.is ∙ ap Ok c.in_default.is))
    c.requires.lines

pub returns-in_default-clause-does : goal.returns-in_default-clause-does
returns-in_default-clause-does c = λ t descriptors pipes pool lines.
    rw (c.number.ensures, c.from.ensures, ← pipes, ← pool, ← lines)
    (dup2_done t c.args.slot c.args.fd c.args.to c.dup2.new.self c.dup2.result
    (c.dup2.ensures ∙ ap (λ d. dup2 d c.args.slot c.args.fd c.args.to) (sym descriptors)) (c.in-Ok.is ∙ ap Ok c.in_default.is))

pub release-requires-clause-target : goal.release-requires-clause-target
release-requires-clause-target c =
    releasable c.args.fds.now c.dup2.new.self c.args.pipes.now (counts_of c.args.lines.now) (boots_of c.args.lines.now) c.in-Some.file
    (dup2_left c.args.fds.now c.dup2.new.self c.args.slot c.args.fd c.args.to (Some c.in-Some.file) c.dup2.result c.dup2.ensures (c.in-Ok.is ∙ ap Ok c.in-Some.is))
    c.requires.pipes c.requires.lines

pub returns-clause-files : goal.returns-clause-files
returns-clause-files c = λ nodes fit.
    files_left nodes c.args.fds.now c.dup2.new.self c.in-Ok.last
    (dup2_left c.args.fds.now c.dup2.new.self c.args.slot c.args.fd c.args.to c.in-Ok.last c.dup2.result c.dup2.ensures c.in-Ok.is) fit

pub returns-clause-slots : goal.returns-clause-slots
returns-clause-slots c = λ processes fit.
    dup2_slots c.args.fds.now c.dup2.new.self c.args.slot c.args.fd c.args.to processes c.dup2.result c.dup2.ensures fit

pub returns-clause-pipes : goal.returns-clause-pipes
returns-clause-pipes c =
    pipes_fit_after c.args.fds.now c.dup2.new.self c.args.pipes.now c.release.new.pipes c.in-Some.file
    (dup2_left c.args.fds.now c.dup2.new.self c.args.slot c.args.fd c.args.to (Some c.in-Some.file) c.dup2.result c.dup2.ensures (c.in-Ok.is ∙ ap Ok c.in-Some.is))
    c.requires.pipes c.release.ensures.places c.release.ensures.pipes

pub returns-clause-lines : goal.returns-clause-lines
returns-clause-lines c =
    rw (c.release.ensures.counts, c.release.ensures.boots)
    (lines_fit_after c.args.fds.now c.dup2.new.self (counts_of c.args.lines.now) (boots_of c.args.lines.now) c.in-Some.file
    (dup2_left c.args.fds.now c.dup2.new.self c.args.slot c.args.fd c.args.to (Some c.in-Some.file) c.dup2.result c.dup2.ensures (c.in-Ok.is ∙ ap Ok c.in-Some.is))
    c.requires.lines)

pub returns-clause-does : goal.returns-clause-does
returns-clause-does c = λ t descriptors pipes pool lines.
    rw (c.number-2.ensures, c.from-2.ensures)
    (dup2_releases t c.args.slot c.args.fd c.args.to c.dup2.new.self c.dup2.result c.in-Some.file _
    (c.dup2.ensures ∙ ap (λ d. dup2 d c.args.slot c.args.fd c.args.to) (sym descriptors)) (c.in-Ok.is ∙ ap Ok c.in-Some.is)
    (c.release.ensures.seen (record t { descriptors = c.dup2.new.self }) refl pipes pool lines))
