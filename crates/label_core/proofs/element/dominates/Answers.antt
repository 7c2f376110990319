use Rattle.std.proofs.Common.{rules}
use Rattle.label_core.specs.Element.{dom}
use Rattle.label_core.proofs.element.dominates.Goals as goal

pub returns-then-grade-below : goal.returns-then-grade-below
unfolding dom
returns-then-grade-below c = search rules
