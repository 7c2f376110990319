use Rattle.std.proofs.Common.{[], sym, ap, ◌∙◌, arith}
use Rattle.std.specs.Prelude.{◌==◌}
use Rattle.std.proofs.lemmas.Bool.Decides.{nat_tests}
use Rattle.sys_types.specs.declared.rules.Rule.TheVariants.{Init}
use Rattle.call_words.specs.declared.event.How.TheVariants.{Exit}
use Rattle.proc_table.specs.Posts.{add_ending}
use Rattle.proc_table.specs.Processes.{Process}
use Rattle.proc_table.specs.Procs.{process_of}
use Rattle.system_model.specs.Looks.{caller_of}
use Rattle.system_model.specs.Parts.{Path}
use Rattle.system_model.specs.ProcCalls.{exit_row}
use Rattle.system_model.specs.Tables.{view_of}
use Rattle.system_model.proofs.RowLemmas.{refuses, goes_on}
use Rattle.proc_calls.proofs.Changes.{denies, allows, caller_as}
use Rattle.proc_calls.proofs.Exits.{ending_seen}
use Rattle.proc_calls.proofs.exit.do_exit.Goals as goal

pub returns-then-caller-eq-INIT-clause-does : goal.returns-then-caller-eq-INIT-clause-does
returns-then-caller-eq-INIT-clause-does c = λ t processes ending.
    rw (c.denied.ensures, ← ending)
    (refuses (view_of t) (exit_row (view_of t) c.args.slot c.args.status) Init
    (denies ((caller_of (view_of t) c.args.slot).pid == 1) Init []
    (ap (λ (who : Process Path). who.pid == 1) (caller_as t c.args.procs.now c.args.slot (process_of c.caller.result.now) processes c.caller.ensures)
    ∙ (let init = c.if-caller-eq-INIT.true in grind (arith, nat_tests)))))

pub returns-clause-does : goal.returns-clause-does
returns-clause-does c = λ t processes ending.
    rw c.nothing.ensures
    (goes_on (view_of t) (view_of (record t { ending = c.add_ending.new.ending.items })) (exit_row (view_of t) c.args.slot c.args.status)
    (allows ((caller_of (view_of t) c.args.slot).pid == 1) Init []
    (ap (λ (who : Process Path). who.pid == 1) (caller_as t c.args.procs.now c.args.slot (process_of c.caller.result.now) processes c.caller.ensures)
    ∙ (let other = c.if-caller-eq-INIT.false in grind (arith, nat_tests))))
    (ap (λ items. view_of (record t { ending = items }))
    (c.add_ending.ensures.added ∙ ap (λ items. add_ending items c.args.slot (Exit c.args.status)) (sym ending))
    ∙ ending_seen t c.args.slot (Exit c.args.status)))
