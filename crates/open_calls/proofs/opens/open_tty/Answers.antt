use Rattle.std.proofs.Common.{◌<◌, length, refl, sym, ap, subst, ◌∙◌}
use Rattle.fd_table.specs.Calls.{open_lowest}
use Rattle.fd_table.specs.declared.open.Open.{Open}
use Rattle.fd_table.specs.declared.open.Target.TheVariants as target
use Rattle.tty_dev.specs.Table.{counts_of, boots_of}
use Rattle.tty_dev.proofs.TableLemmas.{length-counts}
use Rattle.system_model.proofs.BlockLemmas.{pipes_stay}
use Rattle.open_calls.specs.Openings.{open_for}
use Rattle.open_calls.proofs.Opened.{table_after, number_after, was_opened, slots_with}
use Rattle.open_calls.proofs.OpenLemmas.{IsOpened}
use Rattle.std.proofs.Common.{true, false}
use Rattle.std.specs.Prelude.{slice_index_or}
use Rattle.line_disc.specs.Device as device
use Rattle.tty_dev.specs.Line.{boot_termios}
use Rattle.tty_dev.specs.Table.{count_at}
use Rattle.system_model.proofs.SeenLines.{revokes_chosen}
use Rattle.open_calls.proofs.TtyOpened.{generation_left, few_live, files_with_tty, pipes_with_tty, lines_with_tty, boot_seen, tty_opened}
use Rattle.open_calls.proofs.opens.open_tty.Goals as goal

within : (c : goal.Start) → c.args.line < length c.args.lines.now
within c = subst (λ n. c.args.line < n) (sym (sym (length-counts c.args.lines.now) ∙ c.requires.lines.lines)) c.requires.line

pub generation_of-opened-requires : goal.generation_of-opened-requires
generation_of-opened-requires c = within c

pub open_line-requires-clause-line : goal.open_line-requires-clause-line
open_line-requires-clause-line c =
    subst (λ n. c.args.line < n) (sym (sym (length-counts c.args.lines.now) ∙ c.requires.lines.lines)) c.requires.line

pub open_line-requires-clause-few : goal.open_line-requires-clause-few
open_line-requires-clause-few c =
    let f = open_for c.args.access c.args.flags (target.Line c.args.line c.generation_of-opened.result) in
    let opens = c.open_lowest-number.ensures ∙ ap (λ (f : Open). open_lowest c.args.fds.now c.args.slot f c.args.flags.on_exec) c.open_for.ensures in
    few_live c.args.fds.now c.open_lowest-number.new.fds (counts_of c.args.lines.now) (boots_of c.args.lines.now) c.args.slot c.args.line f
    (was_opened c.args.fds.now c.open_lowest-number.new.fds c.args.slot c.open_lowest-number.result f c.args.flags.on_exec c.requires.room opens)
    (ap (target.Line c.args.line) c.generation_of-opened.ensures) c.requires.line c.requires.lines
    (rw (← c.generation_of-opened.ensures, ← c.live.ensures.count) c.live.ensures.most)

was : (c : goal.In-Ok)
    → IsOpened c.args.fds.now c.open_lowest-number.new.fds c.args.slot
    (open_for c.args.access c.args.flags (target.Line c.args.line c.generation_of-opened.result))
was c =
    was_opened c.args.fds.now c.open_lowest-number.new.fds c.args.slot c.open_lowest-number.result
    (open_for c.args.access c.args.flags (target.Line c.args.line c.generation_of-opened.result)) c.args.flags.on_exec c.requires.room
    (c.open_lowest-number.ensures ∙ ap (λ (f : Open). open_lowest c.args.fds.now c.args.slot f c.args.flags.on_exec) c.open_for.ensures)

pub returns-clause-files : goal.returns-clause-files
returns-clause-files c = λ nodes fit.
    files_with_tty nodes c.args.fds.now c.open_lowest-number.new.fds c.args.slot c.args.line c.generation_of-opened.result
    (open_for c.args.access c.args.flags (target.Line c.args.line c.generation_of-opened.result)) (was c) refl fit

pub returns-clause-slots : goal.returns-clause-slots
returns-clause-slots c = λ processes caller fit.
    slots_with c.args.fds.now c.open_lowest-number.new.fds c.args.slot
    (open_for c.args.access c.args.flags (target.Line c.args.line c.generation_of-opened.result)) processes (was c) caller fit

pub returns-clause-pipes : goal.returns-clause-pipes
returns-clause-pipes c = λ pipes fit.
    pipes_with_tty c.args.fds.now c.open_lowest-number.new.fds c.args.slot c.args.line c.generation_of-opened.result
    (open_for c.args.access c.args.flags (target.Line c.args.line c.generation_of-opened.result)) pipes (was c) refl fit

pub returns-clause-lines : goal.returns-clause-lines
returns-clause-lines c =
    rw (c.in-Ok.ensures.counts, c.in-Ok.ensures.keeps.boots)
    (lines_with_tty c.args.fds.now c.open_lowest-number.new.fds (counts_of c.args.lines.now) (boots_of c.args.lines.now) c.args.slot c.args.line
    (open_for c.args.access c.args.flags (target.Line c.args.line c.generation_of-opened.result)) (was c)
    (ap (target.Line c.args.line) c.generation_of-opened.ensures) c.requires.line c.requires.lines)

pub returns-clause-number : goal.returns-clause-number
returns-clause-number c =
    number_after c.args.fds.now c.open_lowest-number.new.fds c.args.slot c.open_lowest-number.result
    (open_for c.args.access c.args.flags (target.Line c.args.line c.generation_of-opened.result)) c.args.flags.on_exec
    (c.open_lowest-number.ensures ∙ ap (λ (f : Open). open_lowest c.args.fds.now c.args.slot f c.args.flags.on_exec) c.open_for.ensures)

pub returns-clause-seen : goal.returns-clause-seen
returns-clause-seen c = λ t mode descriptors pool lines fit.
    tty_opened t c.open_line.new.pool c.open_line.new.lines c.open_lowest-number.new.fds c.args.slot c.args.line c.generation_of-opened.result _
    c.args.access c.args.flags
    (boot_seen c.args.fds.now (counts_of c.args.lines.now) (boots_of c.args.lines.now) c.args.line c.requires.line c.requires.lines)
    (rw (pool, lines) c.in-Ok.ensures.devices)
    (rw lines c.in-Ok.ensures.counts)
    (rw pool (pipes_stay c.args.pool.now c.open_line.new.pool t.pipes c.args.lines.now c.open_line.new.lines fit c.in-Ok.ensures.keeps))
    (rw lines c.generation_of-opened.ensures)
    (rw descriptors
    (table_after c.args.fds.now c.open_lowest-number.new.fds c.args.slot c.open_lowest-number.result
    (open_for c.args.access c.args.flags (target.Line c.args.line c.generation_of-opened.result)) c.args.flags.on_exec
    (c.open_lowest-number.ensures ∙ ap (λ (f : Open). open_lowest c.args.fds.now c.args.slot f c.args.flags.on_exec) c.open_for.ensures)))

pub returns-clause-revokes : goal.returns-clause-revokes
returns-clause-revokes c = λ most fit.
    revokes_chosen most c.args.pool.now c.open_line.new.pool c.args.lines.now c.open_line.new.lines true
    (device.open_file (boot_termios (slice_index_or (boots_of c.args.lines.now) c.args.line false))) c.args.line c.in-Ok.ensures.devices
    (λ k. ap (λ cs. (count_at cs k).generation) c.in-Ok.ensures.counts ∙ generation_left (counts_of c.args.lines.now) c.args.line k)
    (λ d. refl) fit
