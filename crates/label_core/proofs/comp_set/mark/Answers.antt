use Rattle.label_core.proofs.MarkLemmas.{mark_sets}
use Rattle.label_core.proofs.comp_set.mark.Goals as goal

pub returns : goal.returns
returns c = λ m known. rw c.from.ensures (mark_sets c.args.words.now c.args.n c.requires.compartment c.requires.len m known)
