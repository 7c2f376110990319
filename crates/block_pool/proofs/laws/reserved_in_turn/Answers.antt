use Rattle.block_pool.proofs.LeaseLemmas.{leases_apart, reserved_in_turn}
use Rattle.block_pool.proofs.laws.reserved_in_turn.Goals as goal

pub returns-clause-together : goal.returns-clause-together
returns-clause-together c = reserved_in_turn

pub returns-clause-apart : goal.returns-clause-apart
returns-clause-apart c = λ first second start middle last none lends_first lends_second.
    leases_apart last second first (reserved_in_turn first second start middle last none lends_first lends_second)
