use Rattle.line_disc.proofs.DiscLemmas.{fit_count_fits, fit_count_all}
use Rattle.line_disc.proofs.laws.fit_counts.Goals as goal

pub returns-clause-fit : goal.returns-clause-fit
returns-clause-fit c = fit_count_fits

pub returns-clause-all : goal.returns-clause-all
returns-clause-all c = fit_count_all
