-- The rules by which a node may not be taken from its directory (rmdir(2), unlink(2)).
use Rattle.std.specs.Prelude.{ℕ, true, false, List, [], ◌∷◌, Option, Some, None, if◌then◌else◌}
use Rattle.acl_core.specs.declared.cred.Cred.{Cred}
use Rattle.label_core.specs.declared.subject.Subject.{Subject}
use Rattle.sys_types.specs.declared.node.Kind.{Kind}
use Rattle.sys_types.specs.declared.node.Kind.TheVariants as kind
use Rattle.sys_types.specs.declared.rules.Rule.{Rule}
use Rattle.sys_types.specs.declared.rules.Rule.TheVariants.{LabelWrite, IsDir, Device}
use Rattle.access_rule.specs.Access.{first}
use Rattle.tree_model.specs.Paths.{access_rule}
use Rattle.tree_model.specs.Rights.{node_dominates}
use Rattle.tree_model.specs.Tree.{NodeAt, at_path, nodes_from, parent_of}
use Rattle.tree_model.specs.Numbers.{path_of, record_of}

-- its directory may not be written, or the label may not write the node
abbrev pub take_rule : List (Option NodeAt) → Cred → Subject → ℕ → Option Rule
take_rule nodes cred label node =
    first (
    access_rule cred label (at_path (nodes_from nodes) (parent_of (path_of nodes node))) false true false
    ∷ (if node_dominates label (record_of nodes node) then None else Some LabelWrite)
    ∷ []
    )

-- a directory is no node to unlink, and neither is a device
abbrev pub kind_rule : Kind → Option Rule
kind_rule kind.File = None
kind_rule kind.Dir = Some IsDir
kind_rule (kind.Line n) = Some Device
kind_rule kind.Tty = Some Device
