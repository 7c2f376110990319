use Rattle.acl_core.proofs.WordLemmas.{list_is_word, list_is_short}
use Rattle.acl_core.proofs.laws.printed_is_one_word.Goals as goal

pub returns-clause-word : goal.returns-clause-word
returns-clause-word c = list_is_word

pub returns-clause-short : goal.returns-clause-short
returns-clause-short c = list_is_short
