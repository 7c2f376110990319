-- What events change of the file tree.
use Rattle.std.specs.Prelude.{Option}
use Rattle.tree_model.specs.Tree.{NodeRecord, with_node_at}
use Rattle.system_model.specs.Parts.{Path, Parts}

pub data TreeEffect : Type 0 where
  -- at this path is this node, or none
  set_node : Path → Option NodeRecord → TreeEffect

unfoldable pub change_tree : {F C : Type 0} → Parts F C → TreeEffect → Parts F C
change_tree m (set_node path what) = record m { tree = with_node_at m.tree path what }
