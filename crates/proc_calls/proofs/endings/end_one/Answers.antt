use Rattle.std.proofs.Common.{false, [], refl, sym, ap, ◌∙◌}
use Rattle.sys_types.specs.declared.limits.TheConstants.{DESCRIPTORS}
use Rattle.fd_table.specs.Shared.{descriptor_at}
use Rattle.proc_calls.specs.declared.closing.Numbers.TheVariants.{Open}
use Rattle.proc_calls.specs.CloseNumbers.{numbers_from}
use Rattle.proc_table.specs.Procs.{process_of}
use Rattle.proc_table.specs.Processes.{running_at}
use Rattle.tty_dev.proofs.TableLemmas.{length-counts}
use Rattle.system_model.specs.ProcessEffects.{bury}
use Rattle.system_model.specs.Effects.{on_processes, change_all}
use Rattle.system_model.specs.Endings.{close_all, leave_session}
use Rattle.system_model.specs.Looks.{caller_of}
use Rattle.system_model.specs.ProcCalls.{close_fds}
use Rattle.system_model.specs.Tables.{Tables, view_of}
use Rattle.system_model.proofs.SeenProcesses.{caller_seen}
use Rattle.proc_calls.proofs.Joins.{both_join}
use Rattle.proc_calls.proofs.Leaving.{not_open, ends_as, closed_as, session_closed}
use Rattle.proc_calls.proofs.endings.end_one.Goals as goal

pub line_left-left-requires : goal.line_left-left-requires
line_left-left-requires c = sym (length-counts c.args.lines.now) ∙ c.requires.lines.lines

pub leave_line-requires-clause-line : goal.leave_line-requires-clause-line
leave_line-requires-clause-line c = λ n group is.
    (let t : Tables = record {
      nodes = [];
      descriptors = c.args.fds.now;
      pipes = c.args.pipes.now;
      processes = c.args.procs.now;
      pool = c.args.pool.now;
      lines = c.args.lines.now;
      ending = c.args.ending.now.items;
      recheck = false;
      halted = false;
    } in
    session_closed t c.close_numbers.new.fds c.close_numbers.new.pipes c.close_numbers.new.pool c.close_numbers.new.lines c.args.slot
    (numbers_from Open c.args.fds.now.table c.args.slot 0 DESCRIPTORS) n (c.close_numbers.ensures.does t refl refl refl refl)
    (c.line_left-left.ensures.session t n group refl is))

pub leave_line-requires-clause-places : goal.leave_line-requires-clause-places
leave_line-requires-clause-places c = sym (length-counts c.close_numbers.new.lines) ∙ c.close_numbers.ensures.lines.lines

pub returns-clause-joined : goal.returns-clause-joined
returns-clause-joined c =
    both_join c.args.procs.now c.leave_line.new.procs c.bury.new.procs c.args.ending.now.items c.leave_line.new.ending.items c.bury.new.ending.items
    c.args.slot c.requires.stands c.leave_line.ensures.list c.leave_line.ensures.joined c.bury.ensures.joined

pub returns-clause-slots : goal.returns-clause-slots
returns-clause-slots c =
    c.bury.ensures.slots c.close_numbers.new.fds
    (λ number. not_open (descriptor_at c.close_numbers.new.fds.table c.args.slot number) (c.close_numbers.ensures.closed number))
    (c.leave_line.ensures.slots c.close_numbers.new.fds (c.close_numbers.ensures.slots c.args.procs.now c.requires.slots))

pub returns-clause-lines : goal.returns-clause-lines
returns-clause-lines c = c.leave_line.ensures.lines c.close_numbers.new.fds c.close_numbers.ensures.lines

pub returns-clause-does : goal.returns-clause-does
returns-clause-does c = λ t descriptors pipes processes pool lines ending root.
    (let closed = record t { descriptors = c.close_numbers.new.fds; pipes = c.close_numbers.new.pipes; pool = c.close_numbers.new.pool; lines = c.close_numbers.new.lines } in
    let left = record closed { processes = c.leave_line.new.procs; pool = c.leave_line.new.pool; lines = c.leave_line.new.lines; ending = c.leave_line.new.ending.items } in
    let new = record left { processes = c.bury.new.procs; ending = c.bury.new.ending.items } in
    let who = caller_seen t c.args.slot (process_of c.caller.result.now) (ap (λ ps. running_at ps c.args.slot) processes ∙ c.caller.ensures) in
    ends_as (view_of t) (view_of closed) (view_of left) (view_of new) (close_all (view_of t) c.args.slot)
    (leave_session (view_of t) (caller_of (view_of t) c.args.slot)) (on_processes (bury c.args.slot c.args.how))
    (c.close_numbers.ensures.does t descriptors pipes pool lines
    ∙ ap (λ fds. change_all (view_of t) (close_fds c.args.slot fds))
    (ap (λ d. numbers_from Open d.table c.args.slot 0 DESCRIPTORS) (sym descriptors) ∙ closed_as t c.args.slot))
    (c.leave_line.ensures.does closed processes refl refl ending c.close_numbers.ensures.lines c.close_numbers.ensures.blocks
    ∙ ap (change_all (view_of closed)) (sym (ap (leave_session (view_of t)) who ∙ c.line_left-left.ensures.left t lines)))
    (c.bury.ensures.does left refl refl root))
