use Rattle.std.proofs.Common.{ap, ◌∙◌}
use Rattle.termios_core.specs.Text.{termios_text}
use Rattle.system_model.specs.Looks.{termios_of}
use Rattle.system_model.specs.Rows.{text, only}
use Rattle.system_model.specs.Tables.{view_of}
use Rattle.tty_calls.proofs.LineRows.{tty_denied}
use Rattle.tty_calls.proofs.SettingRows.{settings_answered}
use Rattle.tty_calls.proofs.settings.do_tcgetattr.Goals as goal

pub returns-in-Ok : goal.returns-in-Ok
returns-in-Ok c = record {
  does =
      λ t descriptors lines.
      rw c.text.ensures
      (settings_answered t c.args.slot c.args.fd c.in-Ok.line _ (c.in-Ok.ensures.line t descriptors lines) (rw lines c.in-Ok.ensures.below)
      (rw (descriptors, lines) c.requires.lines) (rw lines (c.text_of.ensures ∙ ap termios_text (c.termios_at.ensures t.pool))));
}

pub returns-in-Err : goal.returns-in-Err
returns-in-Err c = record {
  does =
      λ t descriptors lines.
      rw c.denied.ensures
      (tty_denied t c.args.slot c.args.fd (λ n. only (text (termios_text (termios_of (view_of t) n)))) c.in-Err.rule (c.in-Err.ensures.line t descriptors lines));
}
