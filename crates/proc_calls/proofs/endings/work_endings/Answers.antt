use Rattle.std.proofs.Common.{length, refl, sym, ap, ◌∙◌, arith}
use Rattle.std.specs.Prelude.{◌==◌}
use Rattle.system_model.specs.Tables.{view_of}
use Rattle.proc_calls.proofs.Worked.{ending_of_view, worked_step, worked_all, worked_none}
use Rattle.proc_calls.proofs.endings.work_endings.Goals as goal

pub returns-then-is_empty-clause-does : goal.returns-then-is_empty-clause-does
returns-then-is_empty-clause-does c = λ t descriptors pipes processes pool lines ending root.
    rw (← descriptors, ← pipes, ← processes, ← pool, ← lines, ← ending)
    (worked_none (view_of t) (ap (λ list. length list == 0) (ending_of_view t ∙ ending) ∙ sym c.is_empty.ensures ∙ c.if-is_empty.true))

pub loop-place-preserved : goal.loop-place-preserved
loop-place-preserved c =
    let l = c.loop-place in
    let i = c.loop-place.invariant in
    let e = c.end_at.ensures in
    let now = c.end_at.new in
    record {
      list = e.list;
      running = e.running;
      files = λ nodes fit. e.files nodes (i.files nodes fit);
      directories = λ nodes fit. e.directories nodes (i.directories nodes fit);
      slots = e.slots;
      pipes = e.pipes;
      lines = e.lines;
      blocks = e.blocks;
      revokes = λ most fit. e.revokes most (i.revokes most fit);
      does = λ t descriptors pipes processes pool lines ending root.
          (let at = record t { descriptors = l.fds; pipes = l.pipes; processes = l.procs; pool = l.pool; lines = l.lines; ending = l.ending.items } in
          worked_step (view_of at)
          (view_of (record at { descriptors = now.fds; pipes = now.pipes; processes = now.procs; pool = now.pool; lines = now.lines; ending = now.ending.items }))
          l.place (omega (arith, c.loop-place-test.true)) (e.does at refl refl refl refl refl refl root)
          ∙ i.does t descriptors pipes processes pool lines ending root);
    }

pub returns-clause-does : goal.returns-clause-does
returns-clause-does c = λ t descriptors pipes processes pool lines ending root.
    (let l = c.loop-place in
    let at = record t { descriptors = l.fds; pipes = l.pipes; processes = l.procs; pool = l.pool; lines = l.lines; ending = l.ending.items } in
    rw c.clear.ensures
    (worked_all (view_of t) at l.place (omega arith)
    (ap (λ list. length list == 0) (ending_of_view t ∙ ending) ∙ sym c.is_empty.ensures ∙ c.if-is_empty.false)
    (l.invariant.does t descriptors pipes processes pool lines ending root)))
