use Rattle.std.proofs.Common.{ℕ, Option, Some, None, option_map, option_copied, refl, sym, ap, ◌∙◌}
use Rattle.std.specs.Prelude.{unwrap_or}
use Rattle.sys_types.specs.declared.rules.Rule.TheVariants.{NoProcess}
use Rattle.call_words.specs.declared.event.Decision.TheVariants.{Answer}
use Rattle.call_words.specs.declared.event.Reply.TheVariants.{Num, Denied}
use Rattle.proc_table.specs.Changes.{with_group}
use Rattle.proc_table.specs.Jobs.{group_for}
use Rattle.proc_table.specs.Processes.{change_process, slot_of}
use Rattle.proc_table.specs.Procs.{process_of}
use Rattle.system_model.specs.Effects.{on_processes, change}
use Rattle.system_model.specs.ProcessEffects.{set_process}
use Rattle.system_model.specs.ProcCalls.{setpgid_row, setpgid_on}
use Rattle.system_model.specs.Rows.{deny_by}
use Rattle.system_model.specs.Tables.{seen_process, view_of}
use Rattle.system_model.proofs.RowLemmas.{refuses, goes_on}
use Rattle.proc_calls.specs.Joining.{setpgid_rule}
use Rattle.proc_calls.proofs.Changes.{with_row, process_changes}
use Rattle.proc_calls.proofs.Joining.{row_seen, check_seen, place_seen, target_place}
use Rattle.proc_calls.proofs.Keeping.{change_keeps, directories_kept, slots_kept}
use Rattle.proc_calls.proofs.sessions.do_setpgid.Goals as goal

pub returns-in_default-clause-does : goal.returns-in_default-clause-does
returns-in_default-clause-does c = λ t processes.
    (let who = process_of c.caller-who.result.now in
    rw (c.denied.ensures, ← processes)
    (with_row (view_of t) (view_of t) (Answer (Denied NoProcess)) (setpgid_on (view_of t) c.args.slot c.args.group None)
    (setpgid_row (view_of t) c.args.slot c.args.pid c.args.group)
    (row_seen t c.args.procs.now c.args.slot who c.args.pid c.args.group None processes c.caller-who.ensures
    (sym c.setpgid_target.ensures ∙ ap (λ o. option_map process_of (option_copied o)) c.in_default.is))
    (refuses (view_of t) (setpgid_on (view_of t) c.args.slot c.args.group None) NoProcess refl)))

pub returns-in-Some-setpgid_rule-clause-does : goal.returns-in-Some-setpgid_rule-clause-does
returns-in-Some-setpgid_rule-clause-does c = λ t processes.
    (let who = process_of c.caller-who.result.now in
    let target = process_of c.in-Some.target.now in
    rw (c.denied-in-Some-setpgid_rule.ensures, ← processes)
    (with_row (view_of t) (view_of t) (Answer (Denied c.in-Some-setpgid_rule.rule))
    (setpgid_on (view_of t) c.args.slot c.args.group (Some (seen_process t.nodes target)))
    (setpgid_row (view_of t) c.args.slot c.args.pid c.args.group)
    (row_seen t c.args.procs.now c.args.slot who c.args.pid c.args.group (Some target) processes c.caller-who.ensures
    (sym c.setpgid_target.ensures ∙ ap (λ o. option_map process_of (option_copied o)) c.in-Some.is))
    (refuses (view_of t) (setpgid_on (view_of t) c.args.slot c.args.group (Some (seen_process t.nodes target))) c.in-Some-setpgid_rule.rule
    (check_seen t c.args.procs.now c.args.slot who target c.args.group processes c.caller-who.ensures
    ∙ ap deny_by (ap (setpgid_rule c.args.procs.now who target) (sym c.group_for-joined.ensures) ∙ sym c.setpgid_rule.ensures ∙ c.in-Some-setpgid_rule.is)))))

pub returns-clause-directories : goal.returns-clause-directories
returns-clause-directories c = λ nodes.
    rw c.set_group.ensures
    (directories_kept nodes c.args.procs.now _
    (change_keeps (with_group c.group_for-joined.result) (λ p. refl) (λ p. refl) c.args.procs.now c.unwrap_or-place.result))

pub returns-clause-slots : goal.returns-clause-slots
returns-clause-slots c = λ files.
    rw c.set_group.ensures
    (slots_kept files c.args.procs.now _
    (change_keeps (with_group c.group_for-joined.result) (λ p. refl) (λ p. refl) c.args.procs.now c.unwrap_or-place.result))

pub returns-clause-does : goal.returns-clause-does
returns-clause-does c = λ t processes.
    (let old = c.args.procs.now in
    let who = process_of c.caller-who.result.now in
    let target = process_of c.in-Some.target.now in
    let new = c.set_group.new.self in
    let place = unwrap_or (slot_of old target.pid) c.args.slot in
    let names = sym c.setpgid_target.ensures ∙ ap (λ o. option_map process_of (option_copied o)) c.in-Some.is in
    rw c.nothing.ensures
    (with_row (view_of t) (view_of (record t { processes = new })) (Answer (Num 0))
    (setpgid_on (view_of t) c.args.slot c.args.group (Some (seen_process t.nodes target)))
    (setpgid_row (view_of t) c.args.slot c.args.pid c.args.group)
    (row_seen t old c.args.slot who c.args.pid c.args.group (Some target) processes c.caller-who.ensures names)
    (goes_on (view_of t) (view_of (record t { processes = new }))
    (setpgid_on (view_of t) c.args.slot c.args.group (Some (seen_process t.nodes target)))
    (check_seen t old c.args.slot who target c.args.group processes c.caller-who.ensures
    ∙ ap deny_by (ap (setpgid_rule old who target) (sym c.group_for-joined.ensures) ∙ sym c.setpgid_rule.ensures ∙ c.in_default-setpgid_rule.is))
    (process_changes t old new (with_group (group_for target c.args.group)) place target processes
    (c.set_group.ensures
    ∙ ap (λ group. change_process (with_group group) old c.unwrap_or-place.result) c.group_for-joined.ensures
    ∙ ap (change_process (with_group (group_for target c.args.group)) old)
    (c.unwrap_or-place.ensures ∙ ap (λ (o : Option ℕ). unwrap_or o c.args.slot) c.slot_of.ensures.slot))
    (target_place old who c.args.pid target c.args.slot names)
    ∙ ap (λ (at : ℕ). change (view_of t) (on_processes (set_process at (with_group (group_for target c.args.group) (seen_process t.nodes target)))))
    (sym (place_seen t old target.pid c.args.slot processes))))))
