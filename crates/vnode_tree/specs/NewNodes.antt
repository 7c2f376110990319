-- A node that is made in the directory of a number, and the rule that denies it (open(2), mkdir(2)).
use Rattle.std.specs.Prelude.{ℕ, ◌==◌, ◌∷◌, [], ◌++◌, List, length, Option, option_map}
use Rattle.label_core.specs.declared.subject.Subject.{Subject}
use Rattle.acl_core.specs.declared.cred.Cred.{Cred}
use Rattle.sys_types.specs.declared.limits.TheConstants.{NODES}
use Rattle.sys_types.specs.declared.rules.Rule.{Rule}
use Rattle.tree_model.specs.Tree.{NodeRecord, nodes_from}
use Rattle.tree_model.specs.NewNodes.{make_rule_in}
use Rattle.vnode_tree.specs.Nodes.{NodeAt, path_of, record_of}

-- a node with its path
abbrev pub node_with_path : List (List ℕ) → Option NodeRecord → Option NodeAt
node_with_path path node = option_map (λ n. record { path = path; node = n }) node

-- the path of a name in a directory
abbrev pub path_in_dir : List (Option NodeAt) → ℕ → List ℕ → List (List ℕ)
path_in_dir nodes dir name = path_of nodes dir ++ name ∷ []

-- the first rule by which a directory takes no new node; a tree has at most 1,024
abbrev pub make_rule_from : List (Option NodeAt) → Cred → Subject → ℕ → Option Rule
make_rule_from nodes cred label dir = make_rule_in cred label (record_of nodes dir) (length (nodes_from nodes) == NODES)
