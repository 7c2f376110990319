use Rattle.std.proofs.Common.{sym, ap, ◌∙◌}
use Rattle.fd_table.specs.Shared as shared
use Rattle.proc_table.specs.Processes.{Processes, process_at, pid_of}
use Rattle.proc_table.specs.Forks as forks
use Rattle.proc_table.specs.Forks.{lowest_slot}
use Rattle.proc_calls.proofs.Asking.{who_asks}
use Rattle.proc_calls.proofs.Forking.{child_closed, directories_forked, slots_forked, child_pid, fork_denied, fork_done}
use Rattle.proc_calls.proofs.fork.do_fork.Goals as goal

pub returns-in_default-clause-does : goal.returns-in_default-clause-does
returns-in_default-clause-does c = λ t descriptors processes.
    rw (c.denied.ensures, ← descriptors, ← processes)
    (fork_denied t c.args.procs.now c.args.slot c.args.note.now processes (sym c.lowest_slot.ensures.slot ∙ c.in_default.is))

pub copy_all-requires-clause-closed : goal.copy_all-requires-clause-closed
copy_all-requires-clause-closed c =
    child_closed c.args.fds.now c.args.procs.now c.in-Some.child (sym c.lowest_slot.ensures.slot ∙ c.in-Some.is) c.requires.slots

pub returns-clause-directories : goal.returns-clause-directories
returns-clause-directories c = λ nodes fit.
    (let who = who_asks c.args.procs.now c.args.slot c.requires.caller in
    rw c.fork.ensures.processes
    (directories_forked nodes c.args.procs.now c.args.slot c.in-Some.child c.args.note.now who.process
    (sym c.lowest_slot.ensures.slot ∙ c.in-Some.is) who.runs fit))

pub returns-clause-slots : goal.returns-clause-slots
returns-clause-slots c =
    (let who = who_asks c.args.procs.now c.args.slot c.requires.caller in
    rw (c.copy_all.ensures, c.fork.ensures.processes)
    (slots_forked c.args.fds.now c.args.procs.now c.args.slot c.in-Some.child c.args.note.now who.process
    (sym c.lowest_slot.ensures.slot ∙ c.in-Some.is) who.runs c.requires.slots))

pub returns-clause-does : goal.returns-clause-does
returns-clause-does c = λ t descriptors processes.
    (let who = who_asks c.args.procs.now c.args.slot c.requires.caller in
    let free = sym c.lowest_slot.ensures.slot ∙ c.in-Some.is in
    let after = c.fork.ensures.processes ∙ ap (λ (ps : Processes _). forks.fork ps c.args.slot c.args.note.now) (sym processes) in
    rw c.number.ensures
    (fork_done t c.args.slot c.in-Some.child c.pid_at.result c.args.note.now c.copy_all.new.self c.fork.new.self
    (ap (λ (ps : Processes _). lowest_slot ps) processes ∙ free)
    (c.copy_all.ensures ∙ ap (λ d. shared.fork d c.args.slot c.in-Some.child) (sym descriptors))
    after
    (c.pid_at.ensures
    ∙ ap (λ (ps : Processes _). pid_of (process_at ps c.in-Some.child)) c.fork.ensures.processes
    ∙ child_pid c.args.procs.now c.args.slot c.in-Some.child c.args.note.now who.process free who.runs
    ∙ ap (λ (ps : Processes _). ps.next_pid) (sym processes))))
