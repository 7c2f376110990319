use Rattle.std.proofs.Common.{◌≡◌, ◌≤◌}
use Rattle.std.specs.Prelude.{filter}
use Rattle.std.specs.List.{range_with_len}
use Rattle.arrayvec.specs.ArrayVec.{array_vec_len}
use Rattle.call_words.specs.declared.event.Event.TheVariants as event
use Rattle.system_model.specs.Step.{gives_a_byte, answer_to}
use Rattle.system_model.specs.Tables.{view_of}
use Rattle.kern_core.proofs.system.System.lines_to_take.Given as goal

-- those so far
abbrev pub invariant-loop-line : goal.invariant-loop-line
invariant-loop-line l = record {
  chosen : l.lines.items ≡ filter (λ n. gives_a_byte (answer_to (view_of l.self) (event.Take n 512))) (range_with_len 0 l.line);
  len : array_vec_len l.lines ≤ l.line;
}
