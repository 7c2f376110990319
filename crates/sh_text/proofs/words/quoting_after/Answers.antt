use Rattle.std.proofs.Common.{rules}
use Rattle.sh_text.proofs.words.quoting_after.Goals as goal

pub returns-in_default-2 : goal.returns-in_default-2
returns-in_default-2 c = search rules
