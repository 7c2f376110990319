-- What a path leads to, by the numbers of nodes, and the rule that denies it (path_resolution of POSIX.1, 4.13).
use Rattle.std.specs.Prelude.{◌≡◌, List, ℕ, Option, Some, None, map}
use Rattle.label_core.specs.declared.subject.Subject.{Subject}
use Rattle.acl_core.specs.declared.cred.Cred.{Cred}
use Rattle.sys_types.specs.declared.rules.Rule.{Rule}
use Rattle.sys_types.specs.declared.rules.Rule.TheVariants as rule
use Rattle.access_rule.specs.Access.{first}
use Rattle.tree_model.specs.Tree.{Tree, WalkEnd, walk, at_path, nodes_from}
use Rattle.tree_model.specs.Tree as tree
use Rattle.tree_model.specs.Paths.{path_rule, node_rule, path_at, search_rule}
use Rattle.vnode_tree.specs.declared.resolve.Place.{Place}
use Rattle.vnode_tree.specs.declared.resolve.Place.TheVariants.{Found, Absent}
use Rattle.vnode_tree.specs.Nodes.{NodeAt, IsLive, path_of}
use Rattle.vnode_tree.specs.Walks.{IsFree}

-- where the walk of a path ends from a working directory
abbrev pub end_from : List (Option NodeAt) → ℕ → List ℕ → WalkEnd
end_from nodes cwd text = (walk (at_path (nodes_from nodes)) (path_of nodes cwd) text).end

-- the first rule that denies the path
abbrev pub rule_from : List (Option NodeAt) → Cred → Subject → ℕ → List ℕ → Option Rule
rule_from nodes cred label cwd text = path_rule (at_path (nodes_from nodes)) cred label (path_of nodes cwd) text

-- the first rule by which the path leads to no node
abbrev pub node_rule_from : List (Option NodeAt) → Cred → Subject → ℕ → List ℕ → Option Rule
node_rule_from nodes cred label cwd text = node_rule (at_path (nodes_from nodes)) cred label (path_of nodes cwd) text

-- a place, by paths
abbrev pub place_end : List (Option NodeAt) → Place → WalkEnd
place_end nodes (Found node) = tree.found (path_of nodes node)
place_end nodes (Absent dir name) = tree.absent (path_of nodes dir) name

-- the node of a place is live; a name that is absent is free
abbrev pub IsLivePlace : List (Option NodeAt) → Place → Type 0
IsLivePlace nodes (Found node) = IsLive nodes node
IsLivePlace nodes (Absent dir name) = IsFree nodes dir name

-- no rule denies a path, and it leads to a place
pub record LeadsTo (nodes : List (Option NodeAt)) (cred : Cred) (label : Subject) (cwd : ℕ) (text : List ℕ) (place : Place) : Type 0 where
  pub allowed : rule_from nodes cred label cwd text ≡ None
  pub ends : end_from nodes cwd text ≡ place_end nodes place
  pub live : IsLivePlace nodes place

-- no rule denies a path, and it leads to a node
pub record LeadsToNode (nodes : List (Option NodeAt)) (cred : Cred) (label : Subject) (cwd : ℕ) (text : List ℕ) (node : ℕ) : Type 0 where
  pub allowed : node_rule_from nodes cred label cwd text ≡ None
  pub ends : path_at (end_from nodes cwd text) ≡ path_of nodes node
  pub live : IsLive nodes node

-- the rule by which a walk denies at its end, if it does
abbrev pub end_rule : WalkEnd → Option Rule
end_rule (tree.found path) = None
end_rule (tree.absent dir name) = None
end_rule tree.missing = Some rule.NoEntry
end_rule tree.not_dir = Some rule.NotDir
end_rule tree.name_long = Some rule.NameLong
end_rule tree.path_long = Some rule.PathLong

-- the first rule by which one of some directories may not be searched
abbrev pub search_rules : Tree → Cred → Subject → List (List (List ℕ)) → Option Rule
search_rules tree cred label dirs = first (map (λ dir. search_rule cred label (tree dir)) dirs)
