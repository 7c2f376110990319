use Rattle.std.proofs.Common.{◌∷◌, ◌++◌, [], sym, ap, ◌∙◌, arith}
use Rattle.call_words.specs.declared.event.Event.TheVariants as event
use Rattle.system_model.specs.Step.{gives_a_byte, answer_to}
use Rattle.system_model.specs.Tables.{view_of}
use Rattle.kern_core.proofs.WakeLemmas.{filter_taken, filter_left}
use Rattle.kern_core.proofs.system.System.lines_to_take.Goals as goal
use Rattle.kern_core.proofs.system.System.lines_to_take.Goals.{then-has_output, else-has_output}

pub loop-line-preserved : goal.loop-line-preserved
loop-line-preserved c =
    elim c.if-has_output.branch [
      | then-has_output w ↦
          rw w.lines-is (record {
            chosen = w.push.ensures.items ∙ ap (λ xs. xs ++ c.loop-line.line ∷ []) c.loop-line.invariant.chosen
                ∙ sym (filter_taken (λ n. gives_a_byte (answer_to (view_of c.args.self.now) (event.Take n 512))) c.loop-line.line (sym c.has_output.ensures ∙ w.if-has_output.true));
            len = omega (arith, w.push.ensures.len, c.loop-line.invariant.len);
          })
      | else-has_output w ↦
          rw w.lines-is (record {
            chosen = c.loop-line.invariant.chosen ∙ sym (filter_left (λ n. gives_a_byte (answer_to (view_of c.args.self.now) (event.Take n 512))) c.loop-line.line (sym c.has_output.ensures ∙ w.if-has_output.false));
            len = omega (arith, c.loop-line.invariant.len);
          })
    ]
