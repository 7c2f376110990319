use Rattle.std.proofs.Common.{ap₂, ◌∙◌}
use Rattle.system_model.specs.ProcCalls.{image_in}
use Rattle.tree_model.specs.Numbers.{record_of}
use Rattle.proc_calls.proofs.Execs.{image_read}
use Rattle.proc_calls.proofs.programs.image_of.Goals as goal

pub returns : goal.returns
returns c =
    c.first_of.ensures ∙ ap₂ image_in c.all.ensures c.as_slice.ensures.bytes
    ∙ image_read (record_of c.args.tree.now c.args.node) c.read.result c.read.ensures.bytes
