use Rattle.std.proofs.Common.{[], not, ap, ◌∙◌, arith}
use Rattle.std.proofs.lemmas.Bool.Decides.{nat_tests}
use Rattle.sys_types.specs.declared.rules.Rule.TheVariants.{Super}
use Rattle.access_rule.specs.Access.{is_superuser}
use Rattle.proc_table.specs.Processes.{Process}
use Rattle.proc_table.specs.Procs.{process_of}
use Rattle.system_model.specs.Looks.{caller_of}
use Rattle.system_model.specs.Parts.{Path}
use Rattle.system_model.specs.ProcCalls.{halt_row}
use Rattle.system_model.specs.Tables.{view_of}
use Rattle.system_model.proofs.RowLemmas.{refuses, goes_on}
use Rattle.proc_calls.proofs.Changes.{denies, allows, caller_as}
use Rattle.proc_calls.proofs.Exits.{halt_seen}
use Rattle.proc_calls.proofs.halt.do_halt.Goals as goal

pub returns-then-caller-ne0 : goal.returns-then-caller-ne0
returns-then-caller-ne0 c = record {
  does = λ t processes.
      rw c.denied.ensures
      (refuses (view_of t) (halt_row (view_of t) c.args.slot) Super
      (denies (not (is_superuser (caller_of (view_of t) c.args.slot).cred)) Super []
      (ap (λ (who : Process Path). not (is_superuser who.cred)) (caller_as t c.args.procs.now c.args.slot (process_of c.caller.result.now) processes c.caller.ensures)
      ∙ (let other = c.if-caller-ne0.true in grind (arith, nat_tests)))));
}

pub returns : goal.returns
returns c = record {
  does = λ t processes.
      rw c.nothing.ensures
      (goes_on (view_of t) _ (halt_row (view_of t) c.args.slot)
      (allows (not (is_superuser (caller_of (view_of t) c.args.slot).cred)) Super []
      (ap (λ (who : Process Path). not (is_superuser who.cred)) (caller_as t c.args.procs.now c.args.slot (process_of c.caller.result.now) processes c.caller.ensures)
      ∙ (let zero = c.if-caller-ne0.false in grind (arith, nat_tests))))
      (halt_seen t));
}
