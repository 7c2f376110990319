use Rattle.sh_text.proofs.WordSpellingLemmas.{word_spelled}
use Rattle.sh_text.proofs.ItemGrammarLemmas.{word_as_spelled}
use Rattle.sh_text.proofs.laws.words_are_read_as_spelled.Goals as goal

pub returns : goal.returns
returns c = record { parts = word_spelled; exact = word_as_spelled }
