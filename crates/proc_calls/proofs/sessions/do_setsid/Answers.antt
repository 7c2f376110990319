use Rattle.std.proofs.Common.{[], refl, sym, ap, ◌∙◌}
use Rattle.sys_types.specs.declared.rules.Rule.TheVariants.{Leader}
use Rattle.call_words.specs.declared.event.Decision.TheVariants.{Answer}
use Rattle.call_words.specs.declared.event.Reply.TheVariants.{Num}
use Rattle.proc_table.specs.Changes.{lead_session}
use Rattle.proc_table.specs.Processes.{Process, has_member}
use Rattle.proc_table.specs.Procs.{process_of}
use Rattle.system_model.specs.Looks.{caller_of}
use Rattle.system_model.specs.Parts.{Path}
use Rattle.system_model.specs.ProcCalls.{setsid_row}
use Rattle.system_model.specs.Tables.{view_of}
use Rattle.system_model.proofs.RowLemmas.{refuses, goes_on}
use Rattle.proc_calls.proofs.Changes.{denies, allows, caller_as, caller_changes, decides}
use Rattle.proc_calls.proofs.Members.{member_seen}
use Rattle.proc_calls.proofs.sessions.do_setsid.Goals as goal

pub returns-then-has_member-clause-does : goal.returns-then-has_member-clause-does
returns-then-has_member-clause-does c = λ t processes.
    rw (c.denied.ensures, ← processes)
    (refuses (view_of t) (setsid_row (view_of t) c.args.slot) Leader
    (denies (has_member (view_of t).processes (caller_of (view_of t) c.args.slot).pid) Leader []
    (ap (λ (who : Process Path). has_member (view_of t).processes who.pid)
    (caller_as t c.args.procs.now c.args.slot (process_of c.caller.result.now) processes c.caller.ensures)
    ∙ member_seen t c.args.procs.now c.caller.result.now.pid processes
    ∙ sym c.has_member.ensures
    ∙ c.if-has_member.true)))

pub returns-clause-does : goal.returns-clause-does
returns-clause-does c = λ t processes.
    (let who = process_of c.caller.result.now in
    decides (view_of t) (view_of (record t { processes = c.set_session.new.self })) (Answer (Num (caller_of (view_of t) c.args.slot).pid)) _
    (setsid_row (view_of t) c.args.slot)
    (c.number.ensures ∙ ap (λ (who : Process Path). Answer (Num who.pid)) (sym (caller_as t c.args.procs.now c.args.slot who processes c.caller.ensures)))
    (goes_on (view_of t) (view_of (record t { processes = c.set_session.new.self })) (setsid_row (view_of t) c.args.slot)
    (allows (has_member (view_of t).processes (caller_of (view_of t) c.args.slot).pid) Leader []
    (ap (λ (who : Process Path). has_member (view_of t).processes who.pid) (caller_as t c.args.procs.now c.args.slot who processes c.caller.ensures)
    ∙ member_seen t c.args.procs.now who.pid processes
    ∙ sym c.has_member.ensures
    ∙ c.if-has_member.false))
    (caller_changes t c.args.procs.now c.set_session.new.self lead_session lead_session c.args.slot who processes c.set_session.ensures c.caller.ensures
    (λ q. refl))))
