use Rattle.script_text.proofs.ReadBack.{word_back}
use Rattle.script_text.proofs.laws.words_are_read_back.Goals as goal

pub returns : goal.returns
returns c = word_back
