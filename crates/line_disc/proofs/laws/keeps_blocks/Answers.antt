use Rattle.line_disc.proofs.DiscLemmas.{keeps_of_pool}
use Rattle.line_disc.proofs.laws.keeps_blocks.Goals as goal

pub returns : goal.returns
returns c = keeps_of_pool
