use Rattle.std.proofs.Common.{[], refl, ap, ◌∙◌, not, arith}
use Rattle.std.proofs.lemmas.Bool.Decides.{nat_tests}
use Rattle.sys_types.specs.declared.rules.Rule.TheVariants.{Super}
use Rattle.access_rule.specs.Access.{is_superuser}
use Rattle.proc_table.specs.Processes.{Process, change_process}
use Rattle.proc_table.specs.Procs.{process_of}
use Rattle.proc_table.specs.Changes.{with_cred}
use Rattle.system_model.specs.CredCalls.{setcred_row}
use Rattle.system_model.specs.Looks.{caller_of}
use Rattle.system_model.specs.Parts.{Path}
use Rattle.system_model.specs.Tables.{view_of}
use Rattle.system_model.proofs.RowLemmas.{refuses, goes_on}
use Rattle.proc_calls.proofs.Changes.{denies, allows, caller_as, caller_changes}
use Rattle.proc_calls.proofs.creds.do_setcred.Goals as goal

pub returns-then-caller-ne0-clause-does : goal.returns-then-caller-ne0-clause-does
returns-then-caller-ne0-clause-does c = λ t processes.
    rw (c.denied.ensures, ← processes)
    (refuses (view_of t) (setcred_row (view_of t) c.args.slot c.args.cred.now) Super
    (denies (not (is_superuser (caller_of (view_of t) c.args.slot).cred)) Super []
    (ap (λ (who : Process Path). not (is_superuser who.cred)) (caller_as t c.args.procs.now c.args.slot (process_of c.caller.result.now) processes c.caller.ensures)
    ∙ (let other = c.if-caller-ne0.true in grind (arith, nat_tests)))))

pub returns-clause-does : goal.returns-clause-does
returns-clause-does c = λ t processes.
    rw c.nothing.ensures
    (goes_on (view_of t) _ (setcred_row (view_of t) c.args.slot c.args.cred.now)
    (allows (not (is_superuser (caller_of (view_of t) c.args.slot).cred)) Super []
    (ap (λ (who : Process Path). not (is_superuser who.cred)) (caller_as t c.args.procs.now c.args.slot (process_of c.caller.result.now) processes c.caller.ensures)
    ∙ (let zero = c.if-caller-ne0.false in grind (arith, nat_tests))))
    (caller_changes t c.args.procs.now c.set_cred.new.self (with_cred c.args.cred.now) (with_cred c.args.cred.now) c.args.slot (process_of c.caller.result.now)
    processes (c.set_cred.ensures ∙ ap (λ cred. change_process (with_cred cred) c.args.procs.now c.args.slot) c.copy.ensures) c.caller.ensures (λ q. refl)))
