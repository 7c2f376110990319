use Rattle.std.proofs.Common.{ℕ, [], sym, ap, ◌∙◌}
use Rattle.proc_table.specs.Reaping.{AfterWait, reap}
use Rattle.system_model.specs.ProcCalls.{wait_row, child_answer}
use Rattle.system_model.specs.Effects.{change_all}
use Rattle.system_model.specs.Looks.{caller_of}
use Rattle.system_model.specs.Rows.{answer_of, effects_by}
use Rattle.system_model.specs.Tables.{view_of}
use Rattle.system_model.proofs.RowLemmas.{goes_on}
use Rattle.proc_calls.proofs.Changes.{decides}
use Rattle.proc_calls.proofs.Keeping.{Keeps, directories_kept, slots_kept}
use Rattle.system_model.proofs.VerdictRows.{settles}
use Rattle.proc_calls.proofs.Waiting.{News, news_seen, reap_changes, wait_effects, not_held}
use Rattle.proc_calls.proofs.Waits.{reap_keeps}
use Rattle.proc_calls.proofs.wait.do_wait.Goals as goal

pub returns-then-is_held-clause-does : goal.returns-then-is_held-clause-does
returns-then-is_held-clause-does c = λ t processes.
    rw (← processes)
    (let row = wait_row (view_of t) c.args.slot c.args.pid c.args.flags in
    let who = caller_of (view_of t) c.args.slot in
    let check = c.wait_verdict-verdict.ensures.verdict t processes in
    settles who c.wait_verdict-verdict.result (view_of t) (view_of t) c.decision.result row (sym c.is_held.ensures ∙ c.if-is_held.true) check
    (ap (change_all (view_of t)) (sym (ap (λ o. effects_by o []) check ∙ wait_effects t c.args.slot c.args.pid c.args.flags)))
    (c.decision.ensures who))

keeps : (c : goal.After-child_answer) → Keeps c.args.procs.now c.reap.new.self
keeps c = rw (ap (λ (done : AfterWait ℕ). done.0) c.reap.ensures) (reap_keeps c.args.procs.now c.args.slot c.args.pid c.args.flags.untraced)

pub returns-clause-directories : goal.returns-clause-directories
returns-clause-directories c = λ nodes. directories_kept nodes c.args.procs.now c.reap.new.self (keeps c)

pub returns-clause-slots : goal.returns-clause-slots
returns-clause-slots c = λ files. slots_kept files c.args.procs.now c.reap.new.self (keeps c)

pub returns-clause-does : goal.returns-clause-does
returns-clause-does c = λ t processes.
    decides (view_of t) (view_of (record t { processes = c.reap.new.self }))
    (answer_of (child_answer (reap (view_of t).processes c.args.slot c.args.pid c.args.flags.untraced).1)) c.child_answer.result
    (wait_row (view_of t) c.args.slot c.args.pid c.args.flags)
    (c.child_answer.ensures ∙ ap (λ (n : News). answer_of (child_answer n))
    (ap (λ (done : AfterWait ℕ). done.1) c.reap.ensures
    ∙ sym (news_seen t c.args.procs.now c.args.slot c.args.pid c.args.flags.untraced processes)))
    (goes_on (view_of t) (view_of (record t { processes = c.reap.new.self })) (wait_row (view_of t) c.args.slot c.args.pid c.args.flags)
    (sym (c.wait_verdict-verdict.ensures.verdict t processes) ∙ not_held (caller_of (view_of t) c.args.slot) c.wait_verdict-verdict.result (sym c.is_held.ensures ∙ c.if-is_held.false))
    (reap_changes t c.args.procs.now c.args.slot c.args.pid c.args.flags.untraced (c.reap.new.self, c.reap.result) processes c.reap.ensures))
