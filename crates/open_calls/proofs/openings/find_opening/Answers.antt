use Rattle.std.proofs.Common.{sym, ap, ◌∙◌}
use Rattle.fd_table.specs.Calls.{room_rule}
use Rattle.proc_table.specs.Processes.{running_at}
use Rattle.proc_table.specs.Procs.{process_of}
use Rattle.system_model.specs.Tables.{view_of}
use Rattle.system_model.proofs.FitLemmas.{directory_live}
use Rattle.tty_dev.proofs.TableLemmas.{length-counts}
use Rattle.open_calls.proofs.RowLooks.{row_clash, row_denied, row_leads, row_held, row_full, row_opens}
use Rattle.open_calls.proofs.openings.find_opening.Goals as goal

pub find-requires : goal.find-requires
find-requires c = directory_live c.args.tree.now c.args.procs.now c.args.slot (process_of c.caller-who.result.now) c.requires.directories c.caller-who.ensures

pub returns-then-flags_clash-clause-checks : goal.returns-then-flags_clash-clause-checks
returns-then-flags_clash-clause-checks c = λ t mode nodes descriptors processes pool lines blocks.
    row_clash (view_of t) c.args.slot c.args.path.now c.args.access c.args.flags mode (sym c.flags_clash.ensures ∙ c.if-flags_clash.true)

pub returns-in-Err-clause-checks : goal.returns-in-Err-clause-checks
returns-in-Err-clause-checks c = λ t mode nodes descriptors processes pool lines blocks.
    row_denied t c.args.tree.now c.args.slot (process_of c.caller-who.result.now) c.args.path.now c.args.access c.args.flags mode c.in-Err.rule nodes
    (ap (λ ps. running_at ps c.args.slot) processes ∙ c.caller-who.ensures) (sym c.flags_clash.ensures ∙ c.if-flags_clash.false) c.in-Err.ensures

pub opening_at-requires-clause-count : goal.opening_at-requires-clause-count
opening_at-requires-clause-count c = sym (length-counts c.args.lines.now) ∙ c.requires.lines.lines

pub returns-in-Err-opening_at-clause-checks : goal.returns-in-Err-opening_at-clause-checks
returns-in-Err-opening_at-clause-checks c = λ t mode nodes descriptors processes pool lines blocks.
    row_held t c.args.tree.now c.args.slot c.args.path.now c.args.access c.args.flags mode c.in-Ok.place c.in-Err-opening_at.verdict
    (row_leads t c.args.tree.now c.args.slot (process_of c.caller-who.result.now) c.args.path.now c.args.access c.args.flags c.in-Ok.place nodes
    (ap (λ ps. running_at ps c.args.slot) processes ∙ c.caller-who.ensures) (sym c.flags_clash.ensures ∙ c.if-flags_clash.false) c.in-Ok.ensures)
    (c.in-Err-opening_at.ensures.checks t mode nodes processes pool lines (rw descriptors c.requires.lines) blocks)

pub returns-in-None-clause-checks : goal.returns-in-None-clause-checks
returns-in-None-clause-checks c = λ t mode nodes descriptors processes pool lines blocks.
    row_opens t c.args.tree.now c.args.slot c.args.path.now c.args.access c.args.flags mode c.in-Ok.place c.in-Ok-opening_at.opening
    (row_leads t c.args.tree.now c.args.slot (process_of c.caller-who.result.now) c.args.path.now c.args.access c.args.flags c.in-Ok.place nodes
    (ap (λ ps. running_at ps c.args.slot) processes ∙ c.caller-who.ensures) (sym c.flags_clash.ensures ∙ c.if-flags_clash.false) c.in-Ok.ensures)
    (c.in-Ok-opening_at.ensures.checks t mode nodes processes pool lines (rw descriptors c.requires.lines) blocks)
    (ap (λ d. room_rule d c.args.slot 1) descriptors ∙ sym c.room_rule.ensures ∙ c.in-None.is)

pub returns-in-Some-clause-checks : goal.returns-in-Some-clause-checks
returns-in-Some-clause-checks c = λ t mode nodes descriptors processes pool lines blocks.
    row_full t c.args.tree.now c.args.slot c.args.path.now c.args.access c.args.flags mode c.in-Ok.place c.in-Some.rule
    (row_leads t c.args.tree.now c.args.slot (process_of c.caller-who.result.now) c.args.path.now c.args.access c.args.flags c.in-Ok.place nodes
    (ap (λ ps. running_at ps c.args.slot) processes ∙ c.caller-who.ensures) (sym c.flags_clash.ensures ∙ c.if-flags_clash.false) c.in-Ok.ensures)
    (c.in-Ok-opening_at.ensures.checks t mode nodes processes pool lines (rw descriptors c.requires.lines) blocks).free
    (ap (λ d. room_rule d c.args.slot 1) descriptors ∙ sym c.room_rule.ensures ∙ c.in-Some.is)
