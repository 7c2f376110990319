use Rattle.line_disc.proofs.DiscLemmas.{discipline_stays}
use Rattle.line_disc.proofs.laws.other_disciplines.Goals as goal

pub returns : goal.returns
returns c = discipline_stays
