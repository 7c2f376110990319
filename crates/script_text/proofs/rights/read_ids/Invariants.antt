use Rattle.std.proofs.Common.{length}
use Rattle.script_text.specs.Words.{parts_of}
use Rattle.script_text.proofs.Ids.{AreRead}
use Rattle.script_text.proofs.rights.read_ids.Given as goal

-- the numbers so far stand before those of the words that are left
abbrev pub invariant-loop-number : goal.invariant-loop-number
invariant-loop-number l = AreRead (parts_of 43 l.word) l.numbers l.ids.items

abbrev pub decreases-loop-number : goal.decreases-loop-number
decreases-loop-number l = length l.numbers
