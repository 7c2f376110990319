use Rattle.std.proofs.Common.{[], refl, sym, ap, ◌∙◌}
use Rattle.sys_types.specs.declared.rules.Rule.TheVariants.{Begun}
use Rattle.call_words.specs.declared.event.Decision.TheVariants.{Answer}
use Rattle.call_words.specs.declared.event.Reply.TheVariants.{Image}
use Rattle.proc_table.specs.Changes.{begin}
use Rattle.proc_table.specs.Processes.{Process}
use Rattle.proc_table.specs.Procs.{process_of}
use Rattle.system_model.specs.Looks.{caller_of}
use Rattle.system_model.specs.Parts.{Path}
use Rattle.system_model.specs.ProcCalls.{begin_row}
use Rattle.system_model.specs.Tables.{view_of}
use Rattle.system_model.proofs.RowLemmas.{refuses, goes_on}
use Rattle.proc_calls.proofs.Changes.{denies, allows, caller_as, caller_changes, decides}
use Rattle.proc_calls.proofs.begin.do_begin.Goals as goal

pub returns-then-who-clause-does : goal.returns-then-who-clause-does
returns-then-who-clause-does c = λ t processes.
    rw (c.denied.ensures, ← processes)
    (refuses (view_of t) (begin_row (view_of t) c.args.slot) Begun
    (denies (caller_of (view_of t) c.args.slot).begun Begun []
    (ap (λ (who : Process Path). who.begun) (caller_as t c.args.procs.now c.args.slot (process_of c.caller-who.result.now) processes c.caller-who.ensures)
    ∙ c.if-who.true)))

pub returns-clause-does : goal.returns-clause-does
returns-clause-does c = λ t processes.
    (let who = process_of c.caller-who.result.now in
    decides (view_of t) (view_of (record t { processes = c.set_begun.new.self }))
    (Answer (Image (caller_of (view_of t) c.args.slot).image (caller_of (view_of t) c.args.slot).args)) _ (begin_row (view_of t) c.args.slot)
    (ap (λ args. Answer (Image who.image args)) c.copy-args.ensures.same
    ∙ ap (λ (who : Process Path). Answer (Image who.image who.args)) (sym (caller_as t c.args.procs.now c.args.slot who processes c.caller-who.ensures)))
    (goes_on (view_of t) (view_of (record t { processes = c.set_begun.new.self })) (begin_row (view_of t) c.args.slot)
    (allows (caller_of (view_of t) c.args.slot).begun Begun []
    (ap (λ (who : Process Path). who.begun) (caller_as t c.args.procs.now c.args.slot who processes c.caller-who.ensures) ∙ c.if-who.false))
    (caller_changes t c.args.procs.now c.set_begun.new.self begin begin c.args.slot who processes c.set_begun.ensures c.caller-who.ensures (λ q. refl))))
