use Rattle.std.proofs.Common.{rules}
use Rattle.call_words.proofs.attr.Entries.copy.Goals as goal

pub returns : goal.returns
returns c = search rules
