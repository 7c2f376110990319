use Rattle.std.proofs.Common.{ℕ, List, arith}
use Rattle.std.proofs.lemmas.Grind.{common_steps}
use Rattle.std.specs.Borrow.{Bor}
use Rattle.label_core.specs.Reading.{Gives, number_at}
use Rattle.label_core.proofs.NumberLemmas.{number_is}
use Rattle.label_core.proofs.reading.number.Goals as goal

pub returns : goal.returns
unfolding number_at
returns c =
    let view : ℕ × Bor (List ℕ) → ℕ × List ℕ = λ x. (x.0, x.1.now) in
    let gives : Gives view c.digits.result (number_at c.args.kind c.args.least c.args.most c.args.bytes.now) = grind (arith, common_steps) in
    let known = number_is view c.digits.result c.args.kind c.args.least c.args.most c.args.bytes.now c.requires (omega arith) gives in
    record { gives = gives; range = known.0; shorter = known.1 }
