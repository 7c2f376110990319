use Rattle.vnode_tree.proofs.NamesLaws.{most_of}
use Rattle.vnode_tree.proofs.laws.texts_hold_the_most_names.Goals as goal

pub returns : goal.returns
returns c = most_of
