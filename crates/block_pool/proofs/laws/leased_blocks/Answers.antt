use Rattle.block_pool.proofs.TimesLemmas.{distinct_from_once}
use Rattle.block_pool.proofs.LeaseLemmas.{once_leased, leased_below, leased_not_free}
use Rattle.block_pool.proofs.laws.leased_blocks.Goals as goal

pub returns-clause-below : goal.returns-clause-below
returns-clause-below c = λ pool lease leased k d h. leased_below pool lease leased k d h

pub returns-clause-distinct : goal.returns-clause-distinct
returns-clause-distinct c = λ pool lease leased. distinct_from_once lease (once_leased pool lease leased)

pub returns-clause-not_free : goal.returns-clause-not_free
returns-clause-not_free c = leased_not_free
