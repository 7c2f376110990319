-- What a label and a credential allow at a node (mac_mls(4), chmod(2)).
use Rattle.std.specs.Prelude.{Bool, true, false, not, ◌&&◌, ◌==◌, Option, Some, None}
use Rattle.label_core.specs.declared.subject.Subject.{Subject}
use Rattle.label_core.specs.Element.{dom}
use Rattle.acl_core.specs.declared.cred.Cred.{Cred}
use Rattle.access_rule.specs.Access.{is_superuser}
use Rattle.tree_model.specs.Tree.{NodeRecord}

-- the active element of a label dominates that of a node, so that it may be read
abbrev pub dominates_node : Subject → Option NodeRecord → Bool
dominates_node label None = true
dominates_node label (Some node) = dom label.active node.attrs.element

-- a node's element dominates the active one of a label, so that it may be written
abbrev pub node_dominates : Subject → Option NodeRecord → Bool
node_dominates label None = true
node_dominates label (Some node) = dom node.attrs.element label.active

-- a credential is neither of the node's owner nor of the superuser
abbrev pub is_not_owner : Cred → Option NodeRecord → Bool
is_not_owner cred None = false
is_not_owner cred (Some node) = not (cred.uid == node.attrs.owner) && not (is_superuser cred)
