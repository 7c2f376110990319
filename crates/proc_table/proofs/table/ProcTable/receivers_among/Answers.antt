use Rattle.std.proofs.Common.{ℕ, Option, ◌∷◌, ◌++◌, [], sym, ap, ◌∙◌, arith}
use Rattle.std.specs.Prelude.{option_and_then}
use Rattle.proc_table.specs.Processes.{process_at}
use Rattle.proc_table.specs.Procs.{process_of}
use Rattle.proc_table.specs.Kills.{receiver_pid}
use Rattle.proc_table.proofs.KillLemmas.{answered, unanswered}
use Rattle.proc_table.proofs.table.ProcTable.receivers_among.Goals as goal
use Rattle.proc_table.proofs.table.ProcTable.receivers_among.Goals.{in-Some, in_default}

pub loop-slot-preserved : goal.loop-slot-preserved
loop-slot-preserved c =
    let how : ℕ → Option ℕ = λ slot. option_and_then (receiver_pid (process_of c.args.who.now)) (process_at c.args.self.now slot) in
    let index = c.loop-slot.slot-index in
    let slots = c.args.slots.now in
    elim c.match-receiver_pid.branch [
      | in-Some w ↦ (
          let more = answered how slots index 0 w.in-Some.pid c.loop-slot-test.true (sym c.receiver_pid.ensures ∙ w.in-Some.is) in
          rw w.pids-is (record {
            pids = w.push.ensures.items ∙ ap (λ pids. pids ++ w.in-Some.pid ∷ []) c.loop-slot.invariant.pids ∙ sym more;
            len = omega (arith, w.push.ensures.len, c.loop-slot.invariant.len);
          }))
      | in_default w ↦ (
          let more = unanswered how slots index 0 c.loop-slot-test.true (sym c.receiver_pid.ensures ∙ w.in_default.is) in
          rw w.pids-is (record { pids = c.loop-slot.invariant.pids ∙ sym more; len = omega (arith, c.loop-slot.invariant.len) }))
    ]
