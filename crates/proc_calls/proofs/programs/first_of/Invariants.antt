use Rattle.std.proofs.Common.{◌≡◌, drop, find}
use Rattle.std.specs.Str.{bytes_eq}
use Rattle.tree_model.specs.Standard.{image_text}
use Rattle.proc_calls.proofs.programs.first_of.Given as goal

-- the first one is among those to come
abbrev pub invariant-loop-image : goal.invariant-loop-image
invariant-loop-image l = find (λ i. bytes_eq (image_text i) l.bytes) (drop l.image-index l.programs) ≡ find (λ i. bytes_eq (image_text i) l.bytes) l.programs
