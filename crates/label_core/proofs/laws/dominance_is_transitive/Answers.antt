use Rattle.label_core.proofs.Dominance.{dom_trans}
use Rattle.label_core.proofs.laws.dominance_is_transitive.Goals as goal

pub returns : goal.returns
returns c = dom_trans
