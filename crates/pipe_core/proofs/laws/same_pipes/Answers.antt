use Rattle.pipe_core.proofs.OwnerLemmas.{bytes-same}
use Rattle.pipe_core.proofs.laws.same_pipes.Goals as goal

pub returns : goal.returns
returns c = bytes-same
