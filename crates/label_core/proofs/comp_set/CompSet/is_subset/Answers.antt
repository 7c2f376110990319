use Rattle.label_core.proofs.MarkLemmas.{is_subset-numbers_in}
use Rattle.label_core.proofs.comp_set.CompSet.is_subset.Goals as goal

pub returns-clause-subset : goal.returns-clause-subset
returns-clause-subset c =
    rw (← c.self.view_is, ← c.other.view_is) (is_subset-numbers_in c.self.inside.words c.other.inside.words c.is_covered.result c.is_covered.ensures)
