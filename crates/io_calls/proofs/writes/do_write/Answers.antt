use Rattle.std.proofs.Common.{◌≡◌, None, false, refl, sym, ◌∙◌}
use Rattle.system_model.specs.IoCalls.{write_row}
use Rattle.system_model.specs.Looks.{caller_of}
use Rattle.system_model.specs.Rows.{first}
use Rattle.system_model.specs.Tables.{Tables, view_of}
use Rattle.io_calls.proofs.RowParts.{if_passes}
use Rattle.io_calls.proofs.VerdictCases.{goes}
use Rattle.io_calls.proofs.WriteRoom.{write_any, write_room}
use Rattle.io_calls.proofs.writes.do_write.Goals as goal
use Rattle.io_calls.proofs.writes.do_write.Goals.{Else-is_held}

pub returns-then-is_held-clause-does : goal.returns-then-is_held-clause-does
returns-then-is_held-clause-does c = λ t nodes descriptors pipes processes pool lines ending recheck.
    rw (← nodes, ← descriptors, ← pipes, ← pool, ← lines)
    (c.settle.ensures.does t (write_row (view_of t) c.args.slot c.args.fd c.args.bytes.now) processes ending
    (c.write_verdict-verdict.ensures t nodes descriptors pipes processes lines recheck))

-- no check holds
free : (c : Else-is_held) (t : Tables) → t.nodes ≡ c.args.tree.now → t.descriptors ≡ c.args.fds.now → t.pipes ≡ c.args.pipes.now
    → t.processes ≡ c.args.procs.now → t.lines ≡ c.args.lines.now → t.recheck ≡ c.args.recheck
    → first (write_row (view_of t) c.args.slot c.args.fd c.args.bytes.now).checks ≡ None
free c t nodes descriptors pipes processes lines recheck =
    sym (c.write_verdict-verdict.ensures t nodes descriptors pipes processes lines recheck)
    ∙ goes (caller_of (view_of t) c.args.slot) c.write_verdict-verdict.result (sym c.is_held.ensures ∙ c.if-is_held.false)

-- the tables as the call finds them
tables : Else-is_held → Tables
tables c = record {
  nodes = c.args.tree.now;
  descriptors = c.args.fds.now;
  pipes = c.args.pipes.now;
  processes = c.args.procs.now;
  pool = c.args.pool.now;
  lines = c.args.lines.now;
  ending = c.args.ending.now.items;
  recheck = c.args.recheck;
  halted = false;
}

pub write_to-requires-clause-some : goal.write_to-requires-clause-some
unfolding tables
write_to-requires-clause-some c =
    let at = (goal.at.write_to-requires-clause-some c).Else-is_held in
    write_any (tables at) c.args.slot c.args.fd c.args.bytes.now (free at (tables at) refl refl refl refl refl refl)

pub write_to-requires-clause-room : goal.write_to-requires-clause-room
unfolding tables
write_to-requires-clause-room c = λ f is.
    (let at = (goal.at.write_to-requires-clause-room c).Else-is_held in
    write_room (tables at) c.args.slot c.args.fd c.args.bytes.now f is (free at (tables at) refl refl refl refl refl refl))

pub returns-clause-directories : goal.returns-clause-directories
returns-clause-directories c = λ fit. c.write_to.ensures.directories c.args.procs.now fit

pub returns-clause-does : goal.returns-clause-does
returns-clause-does c = λ t nodes descriptors pipes processes pool lines ending recheck.
    rw (← processes, ← ending)
    (if_passes (view_of t) _ c.write_to.result (write_row (view_of t) c.args.slot c.args.fd c.args.bytes.now)
    (free (goal.at.returns-clause-does c).Else-is_held t nodes descriptors pipes processes lines recheck)
    (c.write_to.ensures.does t nodes descriptors pipes pool lines))
