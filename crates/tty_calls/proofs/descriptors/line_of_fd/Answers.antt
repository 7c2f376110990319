use Rattle.std.proofs.Common.{[], sym, ap, ◌∙◌, length}
use Rattle.std.specs.Prelude.{option_copied}
use Rattle.fd_table.specs.Shared.{file_at}
use Rattle.tty_dev.specs.Table.{counts_of}
use Rattle.system_model.specs.Tables.{generations, is_dead_target}
use Rattle.tty_calls.proofs.LineRows.{not_open, dead_file, no_line, a_line, line_below, below_of}
use Rattle.tty_calls.proofs.descriptors.line_of_fd.Goals as goal

pub returns-in_default-clause-line : goal.returns-in_default-clause-line
returns-in_default-clause-line c = λ t descriptors lines.
    not_open t c.args.slot c.args.fd (ap (λ d. file_at d c.args.slot c.args.fd) descriptors ∙ sym c.get.ensures ∙ ap option_copied c.in_default.is)

pub is_dead_file-requires : goal.is_dead_file-requires
is_dead_file-requires c =
    line_below c.args.fds.now c.args.lines.now c.args.slot c.args.fd c.in-Some.file.now c.requires.lines (sym c.get.ensures ∙ ap option_copied c.in-Some.is)

pub returns-then-is_dead_file-clause-line : goal.returns-then-is_dead_file-clause-line
returns-then-is_dead_file-clause-line c = λ t descriptors lines.
    dead_file t c.args.slot c.args.fd c.in-Some.file.now
    (ap (λ d. file_at d c.args.slot c.args.fd) descriptors ∙ sym c.get.ensures ∙ ap option_copied c.in-Some.is)
    (ap (λ ls. is_dead_target (generations (counts_of ls)) c.in-Some.file.now.target) lines ∙ sym c.is_dead_file.ensures ∙ c.if-is_dead_file.true)

pub returns-in-Some-line_of_target-clause-below : goal.returns-in-Some-line_of_target-clause-below
returns-in-Some-line_of_target-clause-below c =
    below_of c.in-Some.file.now [] c.in-Some-line_of_target.line (length c.args.lines.now) (sym (c.line_of_target.ensures []) ∙ c.in-Some-line_of_target.is)
    (line_below c.args.fds.now c.args.lines.now c.args.slot c.args.fd c.in-Some.file.now c.requires.lines (sym c.get.ensures ∙ ap option_copied c.in-Some.is))

pub returns-in-Some-line_of_target-clause-line : goal.returns-in-Some-line_of_target-clause-line
returns-in-Some-line_of_target-clause-line c = λ t descriptors lines.
    a_line t c.args.slot c.args.fd c.in-Some-line_of_target.line c.in-Some.file.now
    (ap (λ d. file_at d c.args.slot c.args.fd) descriptors ∙ sym c.get.ensures ∙ ap option_copied c.in-Some.is)
    (ap (λ ls. is_dead_target (generations (counts_of ls)) c.in-Some.file.now.target) lines ∙ sym c.is_dead_file.ensures ∙ c.if-is_dead_file.false)
    (sym (c.line_of_target.ensures t.nodes) ∙ c.in-Some-line_of_target.is)

pub returns-in-None-clause-line : goal.returns-in-None-clause-line
returns-in-None-clause-line c = λ t descriptors lines.
    no_line t c.args.slot c.args.fd c.in-Some.file.now
    (ap (λ d. file_at d c.args.slot c.args.fd) descriptors ∙ sym c.get.ensures ∙ ap option_copied c.in-Some.is)
    (ap (λ ls. is_dead_target (generations (counts_of ls)) c.in-Some.file.now.target) lines ∙ sym c.is_dead_file.ensures ∙ c.if-is_dead_file.false)
    (sym (c.line_of_target.ensures t.nodes) ∙ c.in-None.is)
