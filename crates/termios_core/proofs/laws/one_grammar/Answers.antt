use Rattle.termios_core.proofs.GrammarLemmas.{Spells-termios_of, termios_of-Spells}
use Rattle.termios_core.proofs.laws.one_grammar.Goals as goal

pub returns : goal.returns
returns c = λ text t. (Spells-termios_of text t, λ spells. termios_of-Spells text t spells.1 spells.0)
