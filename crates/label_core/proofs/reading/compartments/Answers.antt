use Rattle.std.proofs.Common.{sym, ◌∙◌, drop}
use Rattle.std.proofs.lemmas.Result.{err_from_is_err_and}
use Rattle.label_core.specs.Reading.{begins}
use Rattle.label_core.proofs.LiteralLemmas.{none_begins, some_begins}
use Rattle.label_core.proofs.CompartmentLemmas.{compartments_at_left, compartments_fault, compartments_last, compartments_more}
use Rattle.label_core.proofs.reading.compartments.Goals as goal

pub loop-n-init : goal.loop-n-init
loop-n-init c = rw c.empty-set.ensures (sym (compartments_at_left c.args.bytes.now))

pub returns-in_err-n : goal.returns-in_err-n
returns-in_err-n c =
    let p = err_from_is_err_and c.from_residual.result c.from_residual.ensures.1 in
    rw (p.1, p.2) (sym c.loop-n.invariant ∙ compartments_fault c.loop-n.set c.loop-n.rest.now c.in_err-n.field-0.0 c.in_err-n.ensures.gives)

pub returns-in_default : goal.returns-in_default
returns-in_default c =
    let after = c.in_ok-n.after.now in
    rw c.with-set.ensures
    (sym c.loop-n.invariant
    ∙ compartments_last c.loop-n.set c.loop-n.rest.now after c.in_ok-n.n c.in_ok-n.ensures.gives
    (none_begins (begins 43 after) (drop 1 after) c.in_default.ensures))

pub loop-n-preserved : goal.loop-n-preserved
loop-n-preserved c =
    let after = c.in_ok-n.after.now in
    let plus = some_begins (begins 43 after) (drop 1 after) c.in-Some.more.now c.in-Some.ensures in
    rw (c.with-set.ensures, plus.1)
    (sym (compartments_more c.loop-n.set c.loop-n.rest.now after c.in_ok-n.n c.in_ok-n.ensures.gives plus.0) ∙ c.loop-n.invariant)
