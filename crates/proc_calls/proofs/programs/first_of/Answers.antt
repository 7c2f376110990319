use Rattle.std.proofs.Common.{sym, ◌∙◌}
use Rattle.proc_calls.proofs.Execs.{next_program}
use Rattle.proc_calls.proofs.programs.first_of.Goals as goal

pub loop-image-preserved : goal.loop-image-preserved
loop-image-preserved c =
    next_program c.args.bytes.now c.args.programs.now c.loop-image.image-index _ c.loop-image-test.true (sym c.is_text_of.ensures ∙ c.if-is_text_of.false)
    ∙ c.loop-image.invariant
