use Rattle.std.proofs.Common.{sym, ap, ◌∙◌}
use Rattle.std.specs.Prelude.{position}
use Rattle.proc_table.specs.Groups.{is_number}
use Rattle.tty_dev.specs.Line.{LineState}
use Rattle.system_model.proofs.SeenLines.{session_line_seen}
use Rattle.system_model.proofs.sessions.line_of_session.Goals as goal

pub returns-in-None-clause-line : goal.returns-in-None-clause-line
returns-in-None-clause-line c = λ t lines.
    sym
    (session_line_seen t c.args.session ∙ ap (position (λ (line : LineState). is_number c.args.session line.session)) lines
    ∙ sym c.place_of.ensures.place ∙ c.in-None.is)

pub returns-in-Some-clause-line : goal.returns-in-Some-clause-line
returns-in-Some-clause-line c = λ t lines.
    sym
    (session_line_seen t c.args.session ∙ ap (position (λ (line : LineState). is_number c.args.session line.session)) lines
    ∙ sym c.place_of.ensures.place ∙ c.in-Some.is)
