use Rattle.std.proofs.Common.{Some, None, refl, sym, ap, ◌∙◌}
use Rattle.call_words.specs.declared.event.Decision.TheVariants.{Answer}
use Rattle.call_words.specs.declared.event.Reply.TheVariants.{Num}
use Rattle.sys_types.specs.Signals.{sig_number}
use Rattle.proc_table.specs.Processes.{Process, drop_caught}
use Rattle.proc_table.specs.Procs.{process_of}
use Rattle.proc_table.proofs.CallMapLemmas.{dropping-map}
use Rattle.system_model.specs.SignalCalls.{sigtake_row, sigtake_of}
use Rattle.tree_model.specs.Numbers.{path_of}
use Rattle.system_model.specs.Effects.{on_processes, change}
use Rattle.system_model.specs.ProcessEffects.{set_process}
use Rattle.system_model.specs.Parts.{Path}
use Rattle.system_model.specs.Rows.{number, only}
use Rattle.system_model.specs.Tables.{seen_process, view_of}
use Rattle.system_model.proofs.RowLemmas.{goes_on}
use Rattle.proc_calls.proofs.Changes.{process_changes, decides, with_row}
use Rattle.proc_calls.proofs.Keeping.{change_keeps, directories_kept, slots_kept}
use Rattle.proc_calls.proofs.Caught.{sigtake_as, drop_directory, drop_running}
use Rattle.proc_calls.proofs.signals.do_sigtake.Goals as goal

pub returns-in_default-clause-does : goal.returns-in_default-clause-does
returns-in_default-clause-does c = λ t processes.
    rw (c.nothing.ensures, ← processes)
    (with_row (view_of t) (view_of t) (Answer (Num 0)) (only (number 0)) (sigtake_row (view_of t) c.args.slot)
    (sigtake_as t c.args.procs.now c.args.slot (process_of c.caller.result.now) None processes c.caller.ensures
    (sym c.least_caught.ensures ∙ c.in_default.is))
    (goes_on (view_of t) (view_of t) (only (number 0)) refl refl))

pub returns-clause-directories : goal.returns-clause-directories
returns-clause-directories c = λ nodes.
    rw c.drop_caught.ensures
    (directories_kept nodes c.args.procs.now _ (change_keeps (drop_caught c.in-Some.sig) (drop_directory c.in-Some.sig) (drop_running c.in-Some.sig) c.args.procs.now c.args.slot))

pub returns-clause-slots : goal.returns-clause-slots
returns-clause-slots c = λ files.
    rw c.drop_caught.ensures
    (slots_kept files c.args.procs.now _ (change_keeps (drop_caught c.in-Some.sig) (drop_directory c.in-Some.sig) (drop_running c.in-Some.sig) c.args.procs.now c.args.slot))

pub returns-clause-does : goal.returns-clause-does
returns-clause-does c = λ t processes.
    (let who = process_of c.caller.result.now in
    decides (view_of t) (view_of (record t { processes = c.drop_caught.new.self })) (Answer (Num (sig_number c.in-Some.sig))) c.number-2.result
    (sigtake_row (view_of t) c.args.slot)
    (c.number-2.ensures ∙ ap (λ n. Answer (Num n)) (c.from.ensures ∙ c.number.ensures.number))
    (with_row (view_of t) (view_of (record t { processes = c.drop_caught.new.self })) (Answer (Num (sig_number c.in-Some.sig)))
    (sigtake_of c.args.slot (seen_process t.nodes who) (Some c.in-Some.sig)) (sigtake_row (view_of t) c.args.slot)
    (sigtake_as t c.args.procs.now c.args.slot who (Some c.in-Some.sig) processes c.caller.ensures (sym c.least_caught.ensures ∙ c.in-Some.is))
    (goes_on (view_of t) (view_of (record t { processes = c.drop_caught.new.self })) (sigtake_of c.args.slot (seen_process t.nodes who) (Some c.in-Some.sig)) refl
    (process_changes t c.args.procs.now c.drop_caught.new.self (drop_caught c.in-Some.sig) c.args.slot who processes c.drop_caught.ensures c.caller.ensures
    ∙ ap (λ (q : Process Path). change (view_of t) (on_processes (set_process c.args.slot q))) (sym (dropping-map (path_of t.nodes) c.in-Some.sig who))))))
