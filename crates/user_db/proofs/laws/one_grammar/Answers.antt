-- Reading and the grammar agree, on good texts and on the first bad line.
use Rattle.user_db.proofs.OneGrammar.{boot_is_said, said_is_boot, bad_line_is_first, first_bad_line_is_told}
use Rattle.user_db.proofs.laws.one_grammar.Goals as goal

pub returns-clause-boot : goal.returns-clause-boot
returns-clause-boot c = λ text boot. (boot_is_said text boot, said_is_boot text boot)

pub returns-clause-bad : goal.returns-clause-bad
returns-clause-bad c = λ text n. (bad_line_is_first text n, first_bad_line_is_told text n)
