use Rattle.std.proofs.Common.{refl, sym, ap, ◌∙◌, subst}
use Rattle.call_words.specs.declared.event.Decision.TheVariants.{Answer}
use Rattle.call_words.specs.declared.event.Reply.TheVariants.{Num}
use Rattle.proc_table.specs.Processes.{Process}
use Rattle.proc_table.specs.Procs.{process_of}
use Rattle.proc_table.specs.Changes.{with_umask}
use Rattle.system_model.specs.CredCalls.{umask_row}
use Rattle.system_model.specs.Parts.{Path}
use Rattle.system_model.specs.Rows.{Does}
use Rattle.system_model.specs.Tables.{view_of}
use Rattle.system_model.proofs.RowLemmas.{goes_on}
use Rattle.proc_calls.proofs.Changes.{caller_as, caller_changes}
use Rattle.proc_calls.proofs.creds.do_umask.Goals as goal

pub returns-clause-does : goal.returns-clause-does
returns-clause-does c = λ t processes.
    subst (λ d. Does (view_of t) (view_of (record t { processes = c.set_umask.new.self })) d (umask_row (view_of t) c.args.slot c.args.mode))
    (ap (λ (who : Process Path). Answer (Num who.umask)) (caller_as t c.args.procs.now c.args.slot (process_of c.caller.result.now) processes c.caller.ensures)
    ∙ sym (c.number.ensures ∙ ap (λ n. Answer (Num n)) c.from.ensures))
    (goes_on (view_of t) _ (umask_row (view_of t) c.args.slot c.args.mode) refl
    (caller_changes t c.args.procs.now c.set_umask.new.self (with_umask c.args.mode) (with_umask c.args.mode) c.args.slot
    (process_of c.caller.result.now) processes c.set_umask.ensures c.caller.ensures (λ q. refl)))
