use Rattle.std.proofs.Common.{[], refl, sym, ap, ◌∙◌, not}
use Rattle.sys_types.specs.declared.rules.Rule.TheVariants.{Proclabel}
use Rattle.label_core.specs.Subject.{may_become}
use Rattle.proc_table.specs.Processes.{Process, change_process}
use Rattle.proc_table.specs.Procs.{process_of}
use Rattle.proc_table.specs.Changes.{with_label}
use Rattle.system_model.specs.CredCalls.{setproclabel_row}
use Rattle.system_model.specs.Looks.{caller_of}
use Rattle.system_model.specs.Parts.{Path}
use Rattle.system_model.specs.Tables.{view_of}
use Rattle.system_model.proofs.RowLemmas.{refuses, goes_on}
use Rattle.proc_calls.proofs.Changes.{denies, allows, caller_as, caller_changes}
use Rattle.proc_calls.proofs.Keeping.{change_keeps, directories_kept}
use Rattle.proc_calls.proofs.creds.do_setproclabel.Goals as goal

pub returns-then-not-may_become-clause-does : goal.returns-then-not-may_become-clause-does
returns-then-not-may_become-clause-does c = λ t processes.
    rw (c.denied.ensures, ← processes)
    (refuses (view_of t) (setproclabel_row (view_of t) c.args.slot c.args.subject.now) Proclabel
    (denies (not (may_become (caller_of (view_of t) c.args.slot).label c.args.subject.now)) Proclabel []
    (ap (λ (who : Process Path). not (may_become who.label c.args.subject.now))
    (caller_as t c.args.procs.now c.args.slot (process_of c.caller.result.now) processes c.caller.ensures)
    ∙ ap not (sym c.may_become.ensures ∙ c.if-not-may_become.true))))

pub returns-clause-does : goal.returns-clause-does
returns-clause-does c = λ t processes.
    rw c.nothing.ensures
    (goes_on (view_of t) _ (setproclabel_row (view_of t) c.args.slot c.args.subject.now)
    (allows (not (may_become (caller_of (view_of t) c.args.slot).label c.args.subject.now)) Proclabel []
    (ap (λ (who : Process Path). not (may_become who.label c.args.subject.now))
    (caller_as t c.args.procs.now c.args.slot (process_of c.caller.result.now) processes c.caller.ensures)
    ∙ ap not (sym c.may_become.ensures ∙ c.if-not-may_become.false)))
    (caller_changes t c.args.procs.now c.set_label.new.self (with_label c.args.subject.now) (with_label c.args.subject.now) c.args.slot
    (process_of c.caller.result.now) processes
    (c.set_label.ensures ∙ ap (λ label. change_process (with_label label) c.args.procs.now c.args.slot) c.copy.ensures) c.caller.ensures (λ q. refl)))

pub returns-clause-directories : goal.returns-clause-directories
returns-clause-directories c = λ nodes.
    rw c.set_label.ensures
    (directories_kept nodes c.args.procs.now _ (change_keeps (with_label c.copy.result) (λ q. refl) (λ q. refl) c.args.procs.now c.args.slot))
