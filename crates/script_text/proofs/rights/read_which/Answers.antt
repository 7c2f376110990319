use Rattle.std.proofs.Common.{rules}
use Rattle.script_text.proofs.rights.read_which.Goals as goal

pub returns-then-is_word-2 : goal.returns-then-is_word-2
returns-then-is_word-2 c = search rules
