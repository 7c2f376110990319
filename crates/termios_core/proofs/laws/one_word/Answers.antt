use Rattle.termios_core.proofs.PrintedTextLemmas.{IsWord-termios_text, length-termios_text}
use Rattle.termios_core.proofs.laws.one_word.Goals as goal

pub returns-clause-word : goal.returns-clause-word
returns-clause-word c = IsWord-termios_text

pub returns-clause-most : goal.returns-clause-most
returns-clause-most c = length-termios_text
