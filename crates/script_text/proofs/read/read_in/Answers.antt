use Rattle.script_text.proofs.MayBeUsedLemmas.{arrivals_used}
use Rattle.script_text.proofs.read.read_in.Goals as goal

pub returns-clause-valid : goal.returns-clause-valid
returns-clause-valid c = λ _. arrivals_used c.in_ok-line-2.line c.in_ok-bytes.bytes c.in_ok-line-2.ensures.below
