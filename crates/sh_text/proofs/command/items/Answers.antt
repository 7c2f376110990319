use Rattle.std.proofs.Common.{ℕ, List, Bor, sym, arith}
use Rattle.std.proofs.lemmas.Result.{err_from_is_err_and}
use Rattle.sh_text.specs.declared.tree.Command.{Command}
use Rattle.sh_text.proofs.ItemLoopLemmas.{items_fault, items_more, items_end}
use Rattle.sh_text.proofs.command.items.Goals as goal

pub returns-in_err-longer-clause-gives : goal.returns-in_err-longer-clause-gives
returns-in_err-longer-clause-gives c =
    let p = err_from_is_err_and c.from_residual.result c.from_residual.ensures.1 in
    rw (p.1, p.2)
    (items_fault (λ (x : Command × Bor (List ℕ)). (x.0, x.1.now)) _ c.loop-alloc.command c.loop-alloc.rest.now c.in_err-longer.field-0.0
    c.loop-alloc.invariant.value (sym c.loop-alloc-test.ensures) c.in_err-longer.ensures.gives)

pub loop-alloc-preserved : goal.loop-alloc-preserved
loop-alloc-preserved c =
    let next = c.after_blanks-rest-in-loop-alloc in
    record {
      value =
          items_more _ c.loop-alloc.command c.in_ok-longer.longer c.loop-alloc.rest.now c.in_ok-longer.after.now next.result.now c.loop-alloc.invariant.value
          (sym c.loop-alloc-test.ensures) c.in_ok-longer.ensures.gives next.ensures.gives (omega (arith, next.ensures.shorter, c.in_ok-longer.ensures.shorter));
      shorter = omega (arith, next.ensures.shorter, c.in_ok-longer.ensures.shorter, c.loop-alloc.invariant.shorter);
    }

pub returns-clause-gives : goal.returns-clause-gives
returns-clause-gives c = items_end _ c.loop-alloc.command c.loop-alloc.rest.now c.loop-alloc.invariant.value (sym c.loop-alloc-test.ensures)
