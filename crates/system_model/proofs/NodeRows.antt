-- Calls on paths and nodes, over the tables of a kernel: what the checks of paths and rights come to, and how a call on the node of a path does its row.
use Rattle.std.proofs.Common.{◌≡◌, ℕ, List, [], ◌∷◌, Option, Some, None, refl, sym, ap, subst, ◌∙◌}
use Rattle.sys_types.specs.declared.rules.Rule.{Rule}
use Rattle.call_words.specs.declared.event.Decision.{Decision}
use Rattle.call_words.specs.declared.event.Decision.TheVariants.{Answer}
use Rattle.call_words.specs.declared.event.Reply.TheVariants.{Denied}
use Rattle.tree_model.specs.Tree.{WalkEnd, at_path, nodes_from, walk}
use Rattle.tree_model.specs.Numbers.{path_of}
use Rattle.tree_model.specs.Paths.{path_rule, node_rule, path_at}
use Rattle.proc_table.specs.Processes.{Process, running_at}
use Rattle.system_model.specs.Parts.{Path}
use Rattle.system_model.specs.State.{View}
use Rattle.system_model.specs.Rows.{Row, behind, deny_by, Does}
use Rattle.system_model.specs.Looks.{path_check, node_check, end_of, on_node, node_at}
use Rattle.system_model.specs.Tables.{Tables, view_of}
use Rattle.system_model.proofs.RowLemmas.{front_refuses, front_passes}
use Rattle.system_model.proofs.SeenProcesses.{caller_seen}

-- the rule that denies a path to the process of a slot, as the tables have it
abbrev pub path_rule_in : Tables → Process ℕ → List ℕ → Option Rule
path_rule_in t p path = path_rule (at_path (nodes_from t.nodes)) p.cred p.label (path_of t.nodes p.directory) path

abbrev pub node_rule_in : Tables → Process ℕ → List ℕ → Option Rule
node_rule_in t p path = node_rule (at_path (nodes_from t.nodes)) p.cred p.label (path_of t.nodes p.directory) path

abbrev pub end_in : Tables → Process ℕ → List ℕ → WalkEnd
end_in t p path = (walk (at_path (nodes_from t.nodes)) (path_of t.nodes p.directory) path).end

pub path_check_seen : (t : Tables) (slot : ℕ) (p : Process ℕ) (path : List ℕ) → running_at t.processes slot ≡ Some p
    → path_check (view_of t) slot path ≡ deny_by (path_rule_in t p path)
unfolding view_of
path_check_seen t slot p path is =
    ap (λ (who : Process Path). deny_by (path_rule (at_path (nodes_from t.nodes)) who.cred who.label who.directory path)) (caller_seen t slot p is)

pub node_check_seen : (t : Tables) (slot : ℕ) (p : Process ℕ) (path : List ℕ) → running_at t.processes slot ≡ Some p
    → node_check (view_of t) slot path ≡ deny_by (node_rule_in t p path)
unfolding view_of
node_check_seen t slot p path is =
    ap (λ (who : Process Path). deny_by (node_rule (at_path (nodes_from t.nodes)) who.cred who.label who.directory path)) (caller_seen t slot p is)

pub end_of_seen : (t : Tables) (slot : ℕ) (p : Process ℕ) (path : List ℕ) → running_at t.processes slot ≡ Some p → end_of (view_of t) slot path ≡ end_in t p path
unfolding view_of
end_of_seen t slot p path is = ap (λ (who : Process Path). (walk (at_path (nodes_from t.nodes)) who.directory path).end) (caller_seen t slot p is)

-- what is at a place
pub node_at_seen : (t : Tables) (place : Path) → node_at (view_of t) place ≡ at_path (nodes_from t.nodes) place
unfolding view_of
node_at_seen t place = refl

-- ---- a call on what a path leads to

-- a rule denies the path
pub path_denies : (t : Tables) (slot : ℕ) (p : Process ℕ) (path : List ℕ) (row : WalkEnd → Row) (rule : Rule) → running_at t.processes slot ≡ Some p
    → path_rule_in t p path ≡ Some rule → Does (view_of t) (view_of t) (Answer (Denied rule)) (behind (path_check (view_of t) slot path ∷ []) (row (end_of (view_of t) slot path)))
path_denies t slot p path row rule is denied =
    front_refuses (view_of t) (path_check (view_of t) slot path) (row (end_of (view_of t) slot path)) rule (path_check_seen t slot p path is ∙ ap deny_by denied)

-- none does, and the row is that of the end
pub path_leads : (t : Tables) (new : View) (d : Decision) (slot : ℕ) (p : Process ℕ) (path : List ℕ) (row : WalkEnd → Row) (end : WalkEnd)
    → running_at t.processes slot ≡ Some p → path_rule_in t p path ≡ None → end_in t p path ≡ end → Does (view_of t) new d (row end)
    → Does (view_of t) new d (behind (path_check (view_of t) slot path ∷ []) (row (end_of (view_of t) slot path)))
path_leads t new d slot p path row end is allowed ends does =
    front_passes (view_of t) new d (path_check (view_of t) slot path) (row (end_of (view_of t) slot path)) (path_check_seen t slot p path is ∙ ap deny_by allowed)
    (subst (λ e. Does (view_of t) new d (row e)) (sym (end_of_seen t slot p path is ∙ ends)) does)

-- ---- a call on the node that a path leads to

-- a rule denies the path
pub node_denies : (t : Tables) (slot : ℕ) (p : Process ℕ) (path : List ℕ) (row : Path → Row) (rule : Rule) → running_at t.processes slot ≡ Some p
    → node_rule_in t p path ≡ Some rule → Does (view_of t) (view_of t) (Answer (Denied rule)) (on_node (view_of t) slot path row)
node_denies t slot p path row rule is denied =
    front_refuses (view_of t) (node_check (view_of t) slot path) (row (path_at (end_of (view_of t) slot path))) rule
    (node_check_seen t slot p path is ∙ ap deny_by denied)

-- none does, and the row is that of the node's place
pub node_leads : (t : Tables) (new : View) (d : Decision) (slot : ℕ) (p : Process ℕ) (path : List ℕ) (row : Path → Row) (place : Path)
    → running_at t.processes slot ≡ Some p → node_rule_in t p path ≡ None → path_at (end_in t p path) ≡ place → Does (view_of t) new d (row place)
    → Does (view_of t) new d (on_node (view_of t) slot path row)
node_leads t new d slot p path row place is allowed ends does =
    front_passes (view_of t) new d (node_check (view_of t) slot path) (row (path_at (end_of (view_of t) slot path)))
    (node_check_seen t slot p path is ∙ ap deny_by allowed)
    (subst (λ e. Does (view_of t) new d (row e)) (sym (ap path_at (end_of_seen t slot p path is) ∙ ends)) does)
