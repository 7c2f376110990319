use Rattle.block_pool.proofs.OthersLemmas as lemmas
use Rattle.block_pool.proofs.laws.others_keep.Goals as goal

pub returns-clause-still : goal.returns-clause-still
returns-clause-still c = lemmas.keeps_others_still

pub returns-clause-writes : goal.returns-clause-writes
returns-clause-writes c = lemmas.keeps_others_written

pub returns-clause-lends : goal.returns-clause-lends
returns-clause-lends c = lemmas.keeps_others_lent

pub returns-clause-returns : goal.returns-clause-returns
returns-clause-returns c = lemmas.keeps_others_returned

pub returns-clause-in_turn : goal.returns-clause-in_turn
returns-clause-in_turn c = lemmas.keeps_others_in_turn

pub returns-clause-order : goal.returns-clause-order
returns-clause-order c = lemmas.keeps_others_rearranged

pub returns-clause-beside : goal.returns-clause-beside
returns-clause-beside c = lemmas.keeps_others_beside

pub returns-clause-own : goal.returns-clause-own
returns-clause-own c = lemmas.keeps_others_own
