use Rattle.std.proofs.Common.{◌≡◌, drop}
use Rattle.acl_core.specs.Reading.{word_at}
use Rattle.acl_core.proofs.read.word_at.Given as goal

-- what is left of the word stands in what is left of the bytes, as the whole does
abbrev pub invariant-loop-byte : goal.invariant-loop-byte
invariant-loop-byte l = word_at (drop l.byte-index l.word) l.rest ≡ word_at l.word l.bytes
