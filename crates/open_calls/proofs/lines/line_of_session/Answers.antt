use Rattle.std.proofs.Common.{sym, ◌∙◌}
use Rattle.open_calls.proofs.LineLooks.{place_seen}
use Rattle.open_calls.proofs.lines.line_of_session.Goals as goal

pub returns-in-None-clause-line : goal.returns-in-None-clause-line
returns-in-None-clause-line c = λ pool. sym c.in-None.is ∙ c.place_of_session.ensures ∙ sym (place_seen c.args.session pool c.args.lines.now)

pub returns-in-Some-clause-line : goal.returns-in-Some-clause-line
returns-in-Some-clause-line c = λ pool. sym c.in-Some.is ∙ c.place_of_session.ensures ∙ sym (place_seen c.args.session pool c.args.lines.now)
