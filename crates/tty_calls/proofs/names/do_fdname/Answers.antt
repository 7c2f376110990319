use Rattle.std.proofs.Common.{sym, ap, ◌∙◌}
use Rattle.std.specs.Prelude.{option_copied}
use Rattle.fd_table.specs.Shared.{file_at}
use Rattle.tty_dev.specs.Table.{counts_of}
use Rattle.system_model.specs.Tables.{generations, is_dead_target}
use Rattle.tty_calls.proofs.LineRows.{line_below, line_there}
use Rattle.tty_calls.proofs.NameRows.{name_not_open, name_dead, name_answered}
use Rattle.tty_calls.proofs.names.do_fdname.Goals as goal

pub returns-in_default : goal.returns-in_default
returns-in_default c = record {
  does =
      λ t descriptors lines.
      rw c.denied.ensures
      (name_not_open t c.args.slot c.args.fd (ap (λ d. file_at d c.args.slot c.args.fd) descriptors ∙ sym c.get.ensures ∙ ap option_copied c.in_default.is));
}

pub is_dead_file-requires : goal.is_dead_file-requires
is_dead_file-requires c =
    line_below c.args.fds.now c.args.lines.now c.args.slot c.args.fd c.in-Some.file.now c.requires.lines (sym c.get.ensures ∙ ap option_copied c.in-Some.is)

pub name_of-requires : goal.name_of-requires
name_of-requires c =
    line_there c.args.fds.now c.args.lines.now c.args.slot c.args.fd c.in-Some.file.now c.requires.lines (sym c.get.ensures ∙ ap option_copied c.in-Some.is)

pub returns-then-is_dead_file : goal.returns-then-is_dead_file
returns-then-is_dead_file c = record {
  does =
      λ t descriptors lines.
      rw c.denied-then-is_dead_file.ensures
      (name_dead t c.args.slot c.args.fd c.in-Some.file.now
      (ap (λ d. file_at d c.args.slot c.args.fd) descriptors ∙ sym c.get.ensures ∙ ap option_copied c.in-Some.is)
      (ap (λ ls. is_dead_target (generations (counts_of ls)) c.in-Some.file.now.target) lines ∙ sym c.is_dead_file.ensures ∙ c.if-is_dead_file.true));
}

pub returns : goal.returns
returns c = record {
  does =
      λ t descriptors lines.
      rw c.text.ensures
      (name_answered t c.args.slot c.args.fd c.in-Some.file.now _
      (ap (λ d. file_at d c.args.slot c.args.fd) descriptors ∙ sym c.get.ensures ∙ ap option_copied c.in-Some.is)
      (ap (λ ls. is_dead_target (generations (counts_of ls)) c.in-Some.file.now.target) lines ∙ sym c.is_dead_file.ensures ∙ c.if-is_dead_file.false)
      (c.name_of.ensures t.nodes));
}
