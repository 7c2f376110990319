use Rattle.std.proofs.Common.{◌≡◌, [], length}
use Rattle.sh_text.specs.declared.words.Quoting.TheVariants.{Bare}
use Rattle.sh_text.specs.Reading.{word_from}
use Rattle.sh_text.proofs.words.word.Given as goal

-- the bytes that are left go on with the word so far
abbrev pub invariant-loop-rest : goal.invariant-loop-rest
invariant-loop-rest l = word_from l.quoting l.word l.rest ≡ word_from Bare [] l.bytes

abbrev pub decreases-loop-rest : goal.decreases-loop-rest
decreases-loop-rest l = length l.rest
