use Rattle.std.proofs.Common.{length, get_or, ap, ◌∙◌, ◌++◌, ◌≤◌, arith}
use Rattle.std.proofs.lemmas.List.Elements.{All-more}
use Rattle.proc_calls.specs.PsTexts.{text_at}
use Rattle.proc_calls.proofs.Listed.{told_more}
use Rattle.proc_calls.proofs.ps.push_others.Goals as goal

pub loop-slot-preserved : goal.loop-slot-preserved
loop-slot-preserved c =
    let l = c.loop-slot in
    let slot = get_or c.args.slots.now l.slot-index 0 in
    record {
      bytes = c.push_slot.ensures.bytes ∙ ap (λ xs. xs ++ text_at c.args.procs.now slot) c.push_bytes.ensures.bytes
          ∙ told_more c.args.procs.now c.args.slots.now l.slot-index c.args.out.now.items l.out.items c.loop-slot-test.true l.invariant.bytes;
      len = omega (arith, c.push_slot.ensures.len, c.push_bytes.ensures.len, l.invariant.len);
      most = All-more (λ s. length (text_at c.args.procs.now s) ≤ 69) c.args.slots.now l.slot-index 0 c.loop-slot-test.true l.invariant.most c.push_slot.ensures.most;
    }
