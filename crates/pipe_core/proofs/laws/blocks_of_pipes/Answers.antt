use Rattle.pipe_core.proofs.OwnerLemmas.{size_of_all}
use Rattle.pipe_core.proofs.laws.blocks_of_pipes.Goals as goal

pub returns : goal.returns
returns c = size_of_all
