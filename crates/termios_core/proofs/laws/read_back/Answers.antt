use Rattle.termios_core.proofs.GrammarLemmas.{termios_of-termios_text}
use Rattle.termios_core.proofs.laws.read_back.Goals as goal

pub returns : goal.returns
returns c = termios_of-termios_text
