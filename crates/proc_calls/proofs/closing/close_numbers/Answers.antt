use Rattle.std.proofs.Common.{refl, ◌∙◌, arith}
use Rattle.system_model.specs.Tables.{view_of}
use Rattle.proc_calls.proofs.Closes.{closes_step, closed_more, closed_all}
use Rattle.proc_calls.proofs.closing.close_numbers.Goals as goal

pub loop-fd-preserved : goal.loop-fd-preserved
loop-fd-preserved c =
    let l = c.loop-fd in
    let i = c.loop-fd.invariant in
    let now = c.close_one.new in
    let e = c.close_one.ensures in
    record {
      pipes = e.pipes;
      lines = e.lines;
      blocks = e.blocks;
      files = λ nodes fit. e.files nodes (i.files nodes fit);
      slots = λ processes fit. e.slots processes (i.slots processes fit);
      revokes = λ most fit. e.revokes most (i.revokes most fit);
      above = λ number le. e.others number (omega (arith, le)) ∙ i.above number (omega (arith, le));
      below = λ number lt. closed_more c.args.numbers l.fds.table now.fds.table c.args.slot l.fd number i.below e.closed e.others lt;
      row = λ some. e.row;
      does = λ t descriptors pipes pool lines.
          (let at = record t { descriptors = l.fds; pipes = l.pipes; pool = l.pool; lines = l.lines } in
          closes_step (view_of at) (view_of (record at { descriptors = now.fds; pipes = now.pipes; pool = now.pool; lines = now.lines }))
          c.args.numbers c.args.fds.now.table l.fds.table c.args.slot l.fd (omega (arith, c.loop-fd-test.true)) (i.above l.fd (omega arith))
          (e.does at refl refl refl refl)
          ∙ i.does t descriptors pipes pool lines);
    }

pub returns-clause-closed : goal.returns-clause-closed
returns-clause-closed c = λ number.
    closed_all c.args.numbers c.loop-fd.fds.table c.args.slot c.loop-fd.fd number c.loop-fd.invariant.below (c.loop-fd.invariant.row (omega arith)) (omega arith)
