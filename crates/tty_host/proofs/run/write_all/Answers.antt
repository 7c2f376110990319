use Rattle.std.proofs.Common.{◌∙◌, arith}
use Rattle.tty_host.proofs.OutputLemmas.{appended-take}
use Rattle.tty_host.proofs.run.write_all.Goals as goal

pub loop-at-preserved : goal.loop-at-preserved
loop-at-preserved g c =
    let took = c.in_ok-at.ensures.took in
    let within = c.in_ok-at.ensures.within in
    let grows = c.in_ok-at.ensures.grows in
    record {
      within = omega (arith, within, c.split_at.ensures.back_len);
      written = appended-take _ _ _ c.args.bytes.now c.loop-at.at c.in_ok-at.field-0 c.loop-at.invariant.written (rw c.split_at.ensures.back at took);
      no_fault = c.in_ok-at.ensures.no_fault ∙ c.loop-at.invariant.no_fault;
      grows = omega (arith, grows, c.loop-at.invariant.grows);
    }
