use Rattle.std.proofs.Common.{drop, sym, ◌∙◌, arith, length-drop}
use Rattle.label_core.proofs.LiteralLemmas.{after_literal_early}
use Rattle.label_core.proofs.reading.after_literal.Goals as goal

pub returns-in_default : goal.returns-in_default
returns-in_default c =
    let left = drop c.loop-expected.expected-index c.args.literal.now in
    let early =
    after_literal_early left c.loop-expected.rest.now (omega (arith, length-drop c.loop-expected.expected-index c.args.literal.now)) (omega arith) in
    rw c.stop_at.ensures (sym c.loop-expected.invariant ∙ early)
