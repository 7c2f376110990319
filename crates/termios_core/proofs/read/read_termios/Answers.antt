use Rattle.std.proofs.Common.{◌∙◌}
use Rattle.termios_core.proofs.GrammarLemmas.{IfSome-Spells, termios_of-Spells}
use Rattle.termios_core.proofs.read.read_termios.Goals as goal

pub returns-clause-spelling : goal.returns-clause-spelling
returns-clause-spelling c = IfSome-Spells c.args.text.now c.read_spelling.result c.read_spelling.ensures

pub returns-clause-only : goal.returns-clause-only
returns-clause-only c = λ t fits spells. c.read_spelling.ensures ∙ termios_of-Spells c.args.text.now t fits spells
