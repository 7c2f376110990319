use Rattle.std.proofs.Common.{[], ◌∷◌, Option, sym, ap, ◌∙◌}
use Rattle.sys_types.specs.declared.rules.Rule.{Rule}
use Rattle.proc_table.specs.Posts.{Posted, table_and_list}
use Rattle.proc_table.specs.Procs.{process_of}
use Rattle.proc_table.specs.Kills.{post_to_each}
use Rattle.system_model.specs.Rows.{first, deny_by}
use Rattle.system_model.specs.SignalCalls.{kill_row}
use Rattle.system_model.specs.Tables.{view_of}
use Rattle.system_model.proofs.RowLemmas.{refuses, goes_on}
use Rattle.proc_calls.proofs.Keeping.{Keeps, directories_kept, slots_kept}
use Rattle.proc_calls.proofs.Posting.{post_each_keeps}
use Rattle.proc_calls.proofs.Kills.{refusal_seen, kill_changes}
use Rattle.proc_calls.proofs.kill.do_kill.Goals as goal

pub returns-in-Some-clause-does : goal.returns-in-Some-clause-does
returns-in-Some-clause-does c = λ t processes ending.
    rw (c.denied.ensures, ← processes, ← ending)
    (refuses (view_of t) (kill_row (view_of t) c.args.slot c.args.to c.args.sig) c.in-Some.rule
    (ap (λ (o : Option Rule). first (deny_by o ∷ []))
    (refusal_seen t c.args.procs.now c.args.slot (process_of c.caller-who.result.now) c.args.to processes c.caller-who.ensures
    ∙ sym c.kill_refusal.ensures
    ∙ c.in-Some.is)))

keeps : (c : goal.After-nothing) → Keeps c.args.procs.now c.post_to_each.new.self
keeps c =
    rw (ap (λ (p : Posted _). p.table) c.post_to_each.ensures.posted)
    (post_each_keeps c.args.sig c.as_slice.result.now (table_and_list c.args.procs.now c.args.ending.now.items))

pub returns-clause-directories : goal.returns-clause-directories
returns-clause-directories c = λ nodes. directories_kept nodes c.args.procs.now c.post_to_each.new.self (keeps c)

pub returns-clause-slots : goal.returns-clause-slots
returns-clause-slots c = λ files. slots_kept files c.args.procs.now c.post_to_each.new.self (keeps c)

pub returns-clause-does : goal.returns-clause-does
returns-clause-does c = λ t processes ending.
    (let who = process_of c.caller-who.result.now in
    let after = table_and_list c.post_to_each.new.self c.post_to_each.new.ending.items in
    rw c.nothing.ensures
    (goes_on (view_of t) (view_of (record t { processes = c.post_to_each.new.self; ending = c.post_to_each.new.ending.items }))
    (kill_row (view_of t) c.args.slot c.args.to c.args.sig)
    (ap (λ (o : Option Rule). first (deny_by o ∷ []))
    (refusal_seen t c.args.procs.now c.args.slot who c.args.to processes c.caller-who.ensures ∙ sym c.kill_refusal.ensures ∙ c.in_default.is))
    (kill_changes t c.args.procs.now c.args.ending.now.items c.args.slot who c.args.to c.args.sig after processes ending c.caller-who.ensures
    (c.post_to_each.ensures.posted
    ∙ ap (λ pids. post_to_each c.args.sig pids (table_and_list c.args.procs.now c.args.ending.now.items))
    (c.as_slice.ensures.value ∙ c.pids_to_signal-pids.ensures)))))
