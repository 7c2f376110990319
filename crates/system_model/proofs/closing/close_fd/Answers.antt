use Rattle.std.proofs.Common.{Some, Ok, refl, sym, ap, ◌∙◌}
use Rattle.fd_table.specs.Shared.{last_file, drop_number}
use Rattle.system_model.specs.FileEffects.{release_target}
use Rattle.system_model.specs.Keeping.{seeing}
use Rattle.system_model.specs.Tables.{generations, is_dead_target, seen_target, view_of}
use Rattle.tty_dev.specs.Table.{counts_of, boots_of}
use Rattle.system_model.proofs.ClosingLemmas.{closes_none, closes_some, last_of, left_of}
use Rattle.system_model.proofs.DropLemmas.{close_left, releasable, pipes_fit_after, lines_fit_after, files_left}
use Rattle.system_model.proofs.closing.close_fd.Goals as goal

pub returns-in_default-last-clause-does : goal.returns-in_default-last-clause-does
returns-in_default-last-clause-does c = λ t descriptors pipes pool lines.
    rw (← pipes, ← pool, ← lines, left_of c.args.fds.now c.close.new.self c.args.slot c.args.fd c.close.result c.requires.is_open c.close.ensures, ← descriptors)
    (closes_none t c.args.slot c.args.fd
    (ap (λ d. last_file d c.args.slot c.args.fd) descriptors
    ∙ last_of c.args.fds.now c.close.new.self c.args.slot c.args.fd c.close.result c.in-Ok.last c.requires.is_open c.close.ensures c.in-Ok.is ∙ c.in_default-last.is))

pub release-requires-clause-target : goal.release-requires-clause-target
release-requires-clause-target c =
    releasable c.args.fds.now c.close.new.self c.args.pipes.now (counts_of c.args.lines.now) (boots_of c.args.lines.now) c.in-Some.file
    (close_left c.args.fds.now c.close.new.self c.args.slot c.args.fd c.close.result (Some c.in-Some.file) c.requires.is_open c.close.ensures
    (c.in-Ok.is ∙ ap Ok c.in-Some.is))
    c.requires.pipes c.requires.lines

pub returns-clause-pipes : goal.returns-clause-pipes
returns-clause-pipes c =
    pipes_fit_after c.args.fds.now c.close.new.self c.args.pipes.now c.release.new.pipes c.in-Some.file
    (close_left c.args.fds.now c.close.new.self c.args.slot c.args.fd c.close.result (Some c.in-Some.file) c.requires.is_open c.close.ensures
    (c.in-Ok.is ∙ ap Ok c.in-Some.is))
    c.requires.pipes c.release.ensures.places c.release.ensures.pipes

pub returns-clause-lines : goal.returns-clause-lines
returns-clause-lines c =
    rw (c.release.ensures.counts, c.release.ensures.boots)
    (lines_fit_after c.args.fds.now c.close.new.self (counts_of c.args.lines.now) (boots_of c.args.lines.now) c.in-Some.file
    (close_left c.args.fds.now c.close.new.self c.args.slot c.args.fd c.close.result (Some c.in-Some.file) c.requires.is_open c.close.ensures
    (c.in-Ok.is ∙ ap Ok c.in-Some.is))
    c.requires.lines)

pub returns-clause-files : goal.returns-clause-files
returns-clause-files c = λ nodes fit.
    files_left nodes c.args.fds.now c.close.new.self (Some c.in-Some.file)
    (close_left c.args.fds.now c.close.new.self c.args.slot c.args.fd c.close.result (Some c.in-Some.file) c.requires.is_open c.close.ensures
    (c.in-Ok.is ∙ ap Ok c.in-Some.is))
    fit

pub returns-clause-does : goal.returns-clause-does
returns-clause-does c = λ t descriptors pipes pool lines.
    (let gone = left_of c.args.fds.now c.close.new.self c.args.slot c.args.fd c.close.result c.requires.is_open c.close.ensures in
    let left = gone ∙ ap (λ d. drop_number d c.args.slot c.args.fd) (sym descriptors) in
    c.release.ensures.seen (record t { descriptors = c.close.new.self }) refl pipes pool lines
    ∙ ap
    (λ d. release_target seeing (view_of (record t { descriptors = d })) (is_dead_target (generations (counts_of t.lines)) c.in-Some.file.target)
    (seen_target t.nodes c.in-Some.file.target))
    left
    ∙ closes_some t c.args.slot c.args.fd c.in-Some.file
    (ap (λ d. last_file d c.args.slot c.args.fd) descriptors
    ∙ last_of c.args.fds.now c.close.new.self c.args.slot c.args.fd c.close.result c.in-Ok.last c.requires.is_open c.close.ensures c.in-Ok.is ∙ c.in-Some.is))
