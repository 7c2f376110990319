use Rattle.std.proofs.Common.{ℕ, List, Bor, sym, ◌∙◌, arith}
use Rattle.std.proofs.lemmas.Result.{err_from_is_err_and}
use Rattle.sh_text.specs.declared.tree.Command.{Command}
use Rattle.sh_text.proofs.JobLoopLemmas.{commands_fault, commands_last, commands_full, commands_more, next_shorter}
use Rattle.sh_text.proofs.jobs.commands.Goals as goal

pub returns-in_err-command-clause-gives : goal.returns-in_err-command-clause-gives
returns-in_err-command-clause-gives c =
    let p = err_from_is_err_and c.from_residual.result c.from_residual.ensures.1 in
    rw (p.1, p.2)
    (commands_fault (λ (x : Command × Bor (List ℕ)). (x.0, x.1.now)) (λ (x : List Command × Bor (List ℕ)). (x.0, x.1.now)) _ c.loop-commands.more
    c.loop-commands.commands c.loop-commands.rest.now c.in_err-command.field-0.0 c.loop-commands.invariant.value c.in_err-command.ensures.gives)

pub returns-in_default-clause-gives : goal.returns-in_default-clause-gives
returns-in_default-clause-gives c =
    rw c.in_ok-push.ensures
    (sym c.loop-commands.invariant.value
    ∙ commands_last c.loop-commands.more c.loop-commands.commands c.in_ok-command.command c.loop-commands.rest.now c.in_ok-command.after.now
    c.in_ok-command.ensures.gives c.in_default.ensures)

pub returns-then-more-eq0-clause-gives : goal.returns-then-more-eq0-clause-gives
returns-then-more-eq0-clause-gives c =
    rw c.in_ok-push.ensures
    (sym c.loop-commands.invariant.value
    ∙ commands_full c.loop-commands.more c.loop-commands.commands c.in_ok-command.command c.loop-commands.rest.now c.in_ok-command.after.now
    c.in_ok-command.ensures.gives c.if-more-eq0.true)

pub loop-commands-preserved : goal.loop-commands-preserved
loop-commands-preserved c = record {
  value =
      rw c.in_ok-push.ensures
      (sym
      (commands_more c.loop-commands.more c.loop-commands.commands c.in_ok-command.command c.loop-commands.rest.now c.in_ok-command.after.now
      c.in-Some.next.now c.in_ok-command.ensures.gives c.in-Some.ensures c.if-more-eq0.false)
      ∙ c.loop-commands.invariant.value);
  shorter =
      omega
      (arith, next_shorter c.in_ok-command.after.now c.in-Some.next.now c.in-Some.ensures, c.in_ok-command.ensures.shorter, c.loop-commands.invariant.shorter);
}
