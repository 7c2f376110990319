use Rattle.script_model.proofs.TrailLemmas.{trail_back, trail_is_answered}
use Rattle.script_model.proofs.laws.trails_are_read_back.Goals as goal

pub returns-clause-events : goal.returns-clause-events
returns-clause-events c = trail_back

pub returns-clause-answers : goal.returns-clause-answers
returns-clause-answers c = trail_is_answered
