-- A call on the node that a path leads to: what its checks come to, and how it is shown to do its row.
use Rattle.std.proofs.Common.{◌≡◌, ℕ, Bool, true, false, not, ◌&&◌, List, [], Option, Some, None, option_map, refl, sym, ap, ◌∙◌, subst}
use Rattle.label_core.specs.declared.element.Element.{Element}
use Rattle.sys_types.specs.declared.rules.Rule.{Rule}
use Rattle.call_words.specs.declared.attr.WhichList.{WhichList}
use Rattle.call_words.specs.declared.event.Decision.{Decision}
use Rattle.call_words.specs.declared.event.Decision.TheVariants.{Answer}
use Rattle.call_words.specs.declared.event.Reply.TheVariants.{Denied}
use Rattle.access_rule.specs.Access.{is_superuser}
use Rattle.proc_table.specs.Processes.{Process, Processes, running_at}
use Rattle.tree_model.specs.Tree.{NodeRecord, at_path, is_dir_record, nodes_from, with_node_at}
use Rattle.tree_model.specs.Paths.{access_rule}
use Rattle.tree_model.specs.Rights as rights
use Rattle.vnode_tree.specs.Nodes.{NodeAt, path_of, record_of, with_record}
use Rattle.vnode_tree.specs.Resolve.{LeadsToNode}
use Rattle.system_model.specs.Parts.{Path}
use Rattle.system_model.specs.State.{View}
use Rattle.system_model.specs.AttrCalls.{change_node, is_default, lacks_list, may_not_relabel}
use Rattle.system_model.specs.Effects.{change_all}
use Rattle.system_model.specs.Rows.{Row, Given, refused, first, answer_of, deny_by, Does}
use Rattle.system_model.specs.Looks.{caller_of, node_at, dominates_node, node_dominates, is_not_owner, access_check, on_node}
use Rattle.system_model.specs.Tables.{Tables, seen_process, view_of}
use Rattle.system_model.proofs.NodeFits.{kept_seen}
use Rattle.system_model.proofs.NodeRows.{node_leads, node_at_seen}
use Rattle.system_model.proofs.RowLemmas.{refuses, goes_on}
use Rattle.system_model.proofs.SeenProcesses.{caller_seen}
use Rattle.node_calls.specs.Relabels.{is_outside}
use Rattle.node_calls.proofs.Kept.{LeavesKind, changed_kept}

-- a process asks for the node that a path leads to
pub record Asks (t : Tables) (nodes : List (Option NodeAt)) (slot : ℕ) (who : Process ℕ) (path : List ℕ) (node : ℕ) : Type 0 where
  pub nodes_are : t.nodes ≡ nodes
  pub runs : running_at t.processes slot ≡ Some who
  pub leads : LeadsToNode nodes who.cred who.label who.directory path node

pub asks : (t : Tables) (nodes : List (Option NodeAt)) (processes : Processes ℕ) (slot : ℕ) (who : Process ℕ) (path : List ℕ) (node : ℕ)
    → t.nodes ≡ nodes → t.processes ≡ processes → running_at processes slot ≡ Some who → LeadsToNode nodes who.cred who.label who.directory path node
    → Asks t nodes slot who path node
asks t nodes processes slot who path node same same_processes runs leads =
    record { nodes_are = same; runs = ap (λ ps. running_at ps slot) same_processes ∙ runs; leads = leads }

-- ---- what the checks of a place come to

-- what a node is stands at its path
abbrev pub IsThere : List (Option NodeAt) → ℕ → Type 0
IsThere nodes node = record_of nodes node ≡ at_path (nodes_from nodes) (path_of nodes node)

not_same : (a b : Bool) → not a ≡ not b → b ≡ a
not_same true true is = refl
not_same true false is = is
not_same false true is = is
not_same false false is = refl

outside_of : (p : Process Path) (what : Option NodeRecord) (element : Element) → may_not_relabel p what element ≡ is_outside p.label what element
outside_of p None element = refl
outside_of p (Some node) element = refl

module _ {t : Tables} {nodes : List (Option NodeAt)} {slot : ℕ} {who : Process ℕ} {path : List ℕ} {node : ℕ} (a : Asks t nodes slot who path node) where
  pub what_seen : (other : ℕ) → IsThere nodes other → node_at (view_of t) (path_of nodes other) ≡ record_of nodes other
  what_seen other there =
      node_at_seen t (path_of nodes other) ∙ ap (λ ns. at_path (nodes_from ns) (path_of nodes other)) a.nodes_are ∙ sym there

  pub reads_seen : (b : Bool) → IsThere nodes node → b ≡ rights.dominates_node who.label (record_of nodes node)
      → dominates_node (caller_of (view_of t) slot) (node_at (view_of t) (path_of nodes node)) ≡ b
  reads_seen b there is =
      ap (λ p. dominates_node p (node_at (view_of t) (path_of nodes node))) (caller_seen t slot who a.runs)
      ∙ ap (rights.dominates_node who.label) (what_seen node there) ∙ sym is

  pub writes_seen : (b : Bool) → IsThere nodes node → b ≡ rights.node_dominates who.label (record_of nodes node)
      → node_dominates (caller_of (view_of t) slot) (node_at (view_of t) (path_of nodes node)) ≡ b
  writes_seen b there is =
      ap (λ p. node_dominates p (node_at (view_of t) (path_of nodes node))) (caller_seen t slot who a.runs)
      ∙ ap (rights.node_dominates who.label) (what_seen node there) ∙ sym is

  pub owner_seen : (b : Bool) → IsThere nodes node → not b ≡ not (rights.is_not_owner who.cred (record_of nodes node))
      → is_not_owner (caller_of (view_of t) slot) (node_at (view_of t) (path_of nodes node)) ≡ b
  owner_seen b there is =
      ap (λ p. is_not_owner p (node_at (view_of t) (path_of nodes node))) (caller_seen t slot who a.runs)
      ∙ ap (rights.is_not_owner who.cred) (what_seen node there) ∙ not_same b (rights.is_not_owner who.cred (record_of nodes node)) is

  pub superuser_seen : (b : Bool) → b ≡ is_superuser who.cred → is_superuser (caller_of (view_of t) slot).cred ≡ b
  superuser_seen b is = ap (λ p. is_superuser p.cred) (caller_seen t slot who a.runs) ∙ sym is

  pub lacks_seen : (which : WhichList) (b : Bool) → IsThere nodes node → b ≡ (is_default which && not (is_dir_record (record_of nodes node)))
      → lacks_list (view_of t) (path_of nodes node) which ≡ b
  lacks_seen which b there is = ap (λ what. is_default which && not (is_dir_record what)) (what_seen node there) ∙ sym is

  pub relabels_seen : (element : Element) (b : Bool) → IsThere nodes node → not b ≡ not (is_outside who.label (record_of nodes node) element)
      → may_not_relabel (caller_of (view_of t) slot) (node_at (view_of t) (path_of nodes node)) element ≡ b
  relabels_seen element b there is =
      ap (λ p. may_not_relabel p (node_at (view_of t) (path_of nodes node)) element) (caller_seen t slot who a.runs)
      ∙ ap (λ what. may_not_relabel (seen_process t.nodes who) what element) (what_seen node there)
      ∙ outside_of (seen_process t.nodes who) (record_of nodes node) element
      ∙ not_same b (is_outside who.label (record_of nodes node) element) is

  pub dir_seen : (b : Bool) → IsThere nodes node → b ≡ is_dir_record (record_of nodes node) → is_dir_record (node_at (view_of t) (path_of nodes node)) ≡ b
  dir_seen b there is = ap is_dir_record (what_seen node there) ∙ sym is

  pub access_seen : (rule : Option Rule) (read write exec : Bool) → IsThere nodes node
      → rule ≡ access_rule who.cred who.label (record_of nodes node) read write exec
      → access_check (view_of t) slot (path_of nodes node) read write exec ≡ deny_by rule
  access_seen rule read write exec there is =
      ap (λ p. deny_by (access_rule p.cred p.label (node_at (view_of t) (path_of nodes node)) read write exec)) (caller_seen t slot who a.runs)
      ∙ ap (λ what. deny_by (access_rule who.cred who.label what read write exec)) (what_seen node there)
      ∙ ap deny_by (sym is)

  pub tree_seen : (view_of t).tree ≡ nodes_from nodes
  unfolding view_of
  tree_seen = ap nodes_from a.nodes_are

  -- ---- the row of the place

  at_place : (new : View) (d : Decision) (row : Path → Row) → Does (view_of t) new d (row (path_of nodes node))
      → Does (view_of t) new d (on_node (view_of t) slot path row)
  at_place new d row does =
      let leads : LeadsToNode t.nodes who.cred who.label who.directory path node =
      subst (λ ns. LeadsToNode ns who.cred who.label who.directory path node) (sym a.nodes_are) a.leads in
      node_leads t new d slot who path row (path_of nodes node) a.runs leads.allowed (leads.ends ∙ ap (λ ns. path_of ns node) a.nodes_are) does

  -- a check refuses
  pub refuses_there : (row : Path → Row) (rule : Rule) → first (row (path_of nodes node)).checks ≡ Some (refused rule, [])
      → Does (view_of t) (view_of t) (Answer (Denied rule)) (on_node (view_of t) slot path row)
  refuses_there row rule is = at_place (view_of t) (Answer (Denied rule)) row (refuses (view_of t) (row (path_of nodes node)) rule is)

  -- none does
  pub goes_on_there : (new : View) (row : Path → Row) → first (row (path_of nodes node)).checks ≡ None
      → new ≡ change_all (view_of t) (row (path_of nodes node)).effects
      → Does (view_of t) new (answer_of (row (path_of nodes node)).answer) (on_node (view_of t) slot path row)
  goes_on_there new row none is =
      at_place new (answer_of (row (path_of nodes node)).answer) row (goes_on (view_of t) new (row (path_of nodes node)) none is)

  -- none does, and nothing changes
  pub tells_there : (row : Path → Row) (given : Given) → first (row (path_of nodes node)).checks ≡ None → (row (path_of nodes node)).effects ≡ []
      → given ≡ (row (path_of nodes node)).answer → Does (view_of t) (view_of t) (answer_of given) (on_node (view_of t) slot path row)
  tells_there row given none nothing is =
      subst (λ g. Does (view_of t) (view_of t) (answer_of g) (on_node (view_of t) slot path row)) (sym is)
      (goes_on_there (view_of t) row none (ap (change_all (view_of t)) (sym nothing)))

  -- the node changes, and keeps its kind
  pub changes_there : (new : List (Option NodeAt)) (change : NodeRecord → NodeRecord) → LeavesKind change → new ≡ with_record change nodes node
      → nodes_from new ≡ with_node_at (nodes_from nodes) (path_of nodes node) (option_map change (record_of nodes node)) → IsThere nodes node
      → view_of (record t { nodes = new }) ≡ change_all (view_of t) (change_node (view_of t) (path_of nodes node) change)
  changes_there new change leaves set map there =
      kept_seen t new (path_of nodes node) (option_map change (node_at (view_of t) (path_of nodes node)))
      (map
      ∙ ap (λ ns. with_node_at (nodes_from ns) (path_of nodes node) (option_map change (record_of nodes node))) (sym a.nodes_are)
      ∙ ap (λ what. with_node_at (nodes_from t.nodes) (path_of nodes node) (option_map change what)) (sym (what_seen node there)))
      (λ entry number f at target. rw (set, a.nodes_are) (changed_kept change nodes node number leaves))
      (λ other p at. rw (set, a.nodes_are) (changed_kept change nodes node p.directory leaves))
