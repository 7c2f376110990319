-- What a label does not let a node be given (mac_mls(4)).
use Rattle.std.specs.Prelude.{Bool, false, not, Option, Some, None}
use Rattle.label_core.specs.declared.element.Element.{Element}
use Rattle.label_core.specs.declared.subject.Subject.{Subject}
use Rattle.label_core.specs.Subject.{may_relabel}
use Rattle.tree_model.specs.Tree.{NodeRecord}

-- the node's element or the new one is outside the label's range
abbrev pub is_outside : Subject → Option NodeRecord → Element → Bool
is_outside label None element = false
is_outside label (Some what) element = not (may_relabel label what.attrs.element element)
