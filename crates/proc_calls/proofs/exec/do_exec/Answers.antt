use Rattle.std.proofs.Common.{refl, sym, ap, ◌∙◌}
use Rattle.call_words.specs.declared.event.Decision.TheVariants.{Answer}
use Rattle.call_words.specs.declared.event.Reply.TheVariants as Reply
use Rattle.sys_types.specs.declared.limits.TheConstants.{DESCRIPTORS}
use Rattle.fd_table.specs.declared.open.Open.{Open}
use Rattle.fd_table.specs.Shared.{Shared}
use Rattle.proc_table.specs.Changes.{exec_process}
use Rattle.proc_table.specs.Processes.{running_at, change_process}
use Rattle.proc_table.specs.Procs.{process_of}
use Rattle.proc_calls.specs.declared.closing.Numbers.TheVariants.{OnExec}
use Rattle.proc_calls.specs.CloseNumbers.{numbers_from}
use Rattle.system_model.specs.Effects.{change_all}
use Rattle.system_model.specs.ProcCalls.{exec_row, close_fds}
use Rattle.system_model.specs.Tables.{view_of}
use Rattle.system_model.proofs.FitLemmas.{directory_live}
use Rattle.system_model.proofs.RowLemmas.{refuses}
use Rattle.proc_calls.proofs.Changes.{caller_changes}
use Rattle.proc_calls.proofs.Execs.{exec_does}
use Rattle.proc_calls.proofs.Keeping.{change_keeps, directories_kept, slots_kept}
use Rattle.proc_calls.proofs.exec.do_exec.Goals as goal

pub find_program-requires : goal.find_program-requires
find_program-requires c =
    directory_live c.args.tree.now c.args.procs.now c.args.slot (process_of c.caller.result.now) c.requires.directories c.caller.ensures

pub returns-in-Err-clause-does : goal.returns-in-Err-clause-does
returns-in-Err-clause-does c = λ t nodes descriptors pipes processes pool lines.
    rw (c.denied.ensures, ← descriptors, ← pipes, ← processes, ← pool, ← lines)
    (refuses (view_of t) (exec_row (view_of t) c.args.slot c.args.path.now c.args.args.now) c.in-Err.rule
    (c.in-Err.ensures t c.args.slot c.args.args.now nodes (ap (λ ps. running_at ps c.args.slot) processes ∙ c.caller.ensures)))

pub returns-clause-directories : goal.returns-clause-directories
returns-clause-directories c =
    rw c.exec.ensures
    (directories_kept c.args.tree.now c.args.procs.now _
    (change_keeps (λ p. exec_process p c.in-Ok.image c.copy.result) (λ q. refl) (λ q. refl) c.args.procs.now c.args.slot) c.requires.directories)

pub returns-clause-slots : goal.returns-clause-slots
returns-clause-slots c =
    c.close_numbers.ensures.slots c.exec.new.self
    (rw c.exec.ensures
    (slots_kept c.args.fds.now c.args.procs.now _
    (change_keeps (λ p. exec_process p c.in-Ok.image c.copy.result) (λ q. refl) (λ q. refl) c.args.procs.now c.args.slot) c.requires.slots))

pub returns-clause-does : goal.returns-clause-does
returns-clause-does c = λ t nodes descriptors pipes processes pool lines.
    (let runs = ap (λ ps. running_at ps c.args.slot) processes ∙ c.caller.ensures in
    let mid = record t { processes = c.exec.new.self } in
    let now = c.close_numbers.new in
    exec_does t (view_of mid) (view_of (record mid { descriptors = now.fds; pipes = now.pipes; pool = now.pool; lines = now.lines })) c.args.slot
    c.args.path.now c.args.args.now c.in-Ok.image _
    (c.in-Ok.ensures t c.args.slot c.args.args.now nodes runs)
    (ap (λ args. Answer (Reply.Image c.in-Ok.image args)) c.copy-2.ensures.same)
    (caller_changes t c.args.procs.now c.exec.new.self (λ p. exec_process p c.in-Ok.image c.args.args.now)
    (λ p. exec_process p c.in-Ok.image c.args.args.now) c.args.slot (process_of c.caller.result.now) processes
    (c.exec.ensures ∙ ap (λ args. change_process (λ p. exec_process p c.in-Ok.image args) c.args.procs.now c.args.slot) c.copy.ensures.same)
    c.caller.ensures (λ q. refl))
    (c.close_numbers.ensures.does mid descriptors pipes pool lines
    ∙ ap (λ (d : Shared Open). change_all (view_of mid) (close_fds c.args.slot (numbers_from OnExec d.table c.args.slot 0 DESCRIPTORS))) (sym descriptors)))
