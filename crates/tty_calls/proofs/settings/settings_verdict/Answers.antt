use Rattle.std.proofs.Common.{sym, ◌∙◌}
use Rattle.system_model.specs.Looks.{caller_of}
use Rattle.system_model.specs.Tables.{view_of}
use Rattle.system_model.specs.Verdicts.{check_of}
use Rattle.tty_calls.proofs.LineRows.{holds}
use Rattle.tty_calls.proofs.RetuneRows.{setting_held}
use Rattle.tty_calls.proofs.settings.settings_verdict.Goals as goal

pub returns-then-is_held : goal.returns-then-is_held
returns-then-is_held c = λ t when processes lines.
    setting_held t c.args.slot c.args.line when c.args.termios.now (check_of (caller_of (view_of t) c.args.slot) c.change_verdict-verdict.result)
    (c.change_verdict-verdict.ensures t processes lines)
    (holds (caller_of (view_of t) c.args.slot) c.change_verdict-verdict.result (sym c.is_held.ensures ∙ c.if-is_held.true))
