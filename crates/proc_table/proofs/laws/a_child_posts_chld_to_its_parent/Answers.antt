use Rattle.proc_table.proofs.ChildLemmas.{child-is-posted}
use Rattle.proc_table.proofs.laws.a_child_posts_chld_to_its_parent.Goals as goal

pub returns : goal.returns
returns c = child-is-posted
