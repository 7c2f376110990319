use Rattle.std.proofs.Common.{[], sym, ◌∙◌}
use Rattle.sys_types.specs.declared.rules.Rule.TheVariants.{SigFixed}
use Rattle.proc_table.specs.Processes.{set_action}
use Rattle.proc_table.specs.Changes.{act_on}
use Rattle.proc_table.specs.Posts.{is_fixed}
use Rattle.system_model.specs.SignalCalls.{sigset_row}
use Rattle.system_model.specs.Tables.{view_of}
use Rattle.system_model.proofs.RowLemmas.{refuses, goes_on}
use Rattle.proc_calls.proofs.Changes.{denies, allows, caller_changes}
use Rattle.proc_calls.proofs.Caught.{action_seen, drop_directory, drop_running}
use Rattle.proc_calls.proofs.Keeping.{change_keeps, directories_kept}
use Rattle.proc_calls.proofs.Asking.{who_asks}
use Rattle.proc_calls.proofs.signals.do_sigset.Goals as goal

pub returns-then-is_fixed-clause-does : goal.returns-then-is_fixed-clause-does
returns-then-is_fixed-clause-does c = λ t processes.
    rw (c.denied.ensures, ← processes)
    (refuses (view_of t) (sigset_row (view_of t) c.args.slot c.args.sig c.args.action) SigFixed
    (denies (is_fixed c.args.sig) SigFixed [] (sym c.is_fixed.ensures ∙ c.if-is_fixed.true)))

pub returns-clause-does : goal.returns-clause-does
returns-clause-does c = λ t processes.
    rw c.nothing.ensures
    (goes_on (view_of t) (view_of (record t { processes = c.set_action.new.self })) (sigset_row (view_of t) c.args.slot c.args.sig c.args.action)
    (allows (is_fixed c.args.sig) SigFixed [] (sym c.is_fixed.ensures ∙ c.if-is_fixed.false))
    (let who = who_asks c.args.procs.now c.args.slot c.requires.caller in
    caller_changes t c.args.procs.now c.set_action.new.self (act_on c.args.sig c.args.action) (act_on c.args.sig c.args.action) c.args.slot
    who.process processes c.set_action.ensures who.runs (action_seen t.nodes c.args.sig c.args.action)))

pub returns-clause-directories : goal.returns-clause-directories
returns-clause-directories c = λ nodes.
    (let sig = c.args.sig in
    let action = c.args.action in
    rw c.set_action.ensures
    (directories_kept nodes c.args.procs.now _
    (change_keeps (act_on sig action) (λ q. drop_directory sig (record q { actions = set_action q.actions sig action }))
    (λ q. drop_running sig (record q { actions = set_action q.actions sig action })) c.args.procs.now c.args.slot)))
