-- A new node in a directory: the rows of its name, and that the tables fit still.
use Rattle.std.proofs.Common.{◌≡◌, ◌≢◌, ◌⊎◌, inl, inr, ℕ, ◌≤◌, ◌<◌, true, List, [], ◌∷◌}
use Rattle.std.proofs.Common.{◌++◌, length, Option, Some, None, option_map, refl, sym, ap, ◌∙◌, subst, arith}
use Rattle.std.specs.Prelude.{◌==◌, IsSome}
use Rattle.std.proofs.lemmas.Bool.{cases_eq, cases_lt}
use Rattle.std.proofs.lemmas.List.{get_or_past, length-set}
use Rattle.label_core.specs.declared.subject.Subject.{Subject}
use Rattle.acl_core.specs.declared.cred.Cred.{Cred}
use Rattle.sys_types.specs.declared.limits.TheConstants.{NODES}
use Rattle.sys_types.specs.declared.node.Kind.{Kind}
use Rattle.sys_types.specs.declared.node.Kind.TheVariants as kind
use Rattle.sys_types.specs.declared.rules.Rule.{Rule}
use Rattle.call_words.specs.declared.event.Decision.{Decision}
use Rattle.fd_table.specs.declared.open.Open.{Open}
use Rattle.fd_table.specs.Shared.{Shared}
use Rattle.proc_table.specs.Processes.{Process, Processes, running_at}
use Rattle.tree_model.specs.NewNodes.{make_rule_in, new_in_dir}
use Rattle.tree_model.specs.Tree.{NodeAt, NodeRecord, WalkEnd, at_path, nodes_from, with_node_at}
use Rattle.tree_model.specs.Numbers.{IsFile, is_file_record}
use Rattle.vnode_tree.specs.declared.resolve.Place.{Place}
use Rattle.vnode_tree.specs.Nodes.{IsLive, node_at, path_of, record_of, with_node}
use Rattle.vnode_tree.specs.NewNodes.{make_rule_from, node_with_path}
use Rattle.vnode_tree.specs.Resolve.{LeadsTo, place_end}
use Rattle.vnode_tree.specs.Standard.{Keeps}
use Rattle.vnode_tree.specs.Walks.{IsFree}
use Rattle.vnode_tree.proofs.Finite.{at_path_is, named_other, named_same}
use Rattle.system_model.specs.State.{View}
use Rattle.system_model.specs.Looks.{caller_of, make_check, made_by, end_of, path_check}
use Rattle.system_model.specs.Looks as looks
use Rattle.system_model.specs.Rows.{Row, behind, deny_by, Does}
use Rattle.system_model.specs.Tables.{Tables, view_of}
use Rattle.system_model.specs.Fit.{FitFiles, FitDirectories, FitTree, kind_of}
use Rattle.system_model.proofs.FitLemmas.{directory_there}
use Rattle.system_model.proofs.NodeFits.{AreFilesKept, AreDirectoriesKept, files_fit, directories_fit}
use Rattle.system_model.proofs.NodeRows.{path_leads, node_at_seen}
use Rattle.system_model.proofs.SeenProcesses.{caller_seen}
use Rattle.node_calls.proofs.Kept.{made_kept, lines_fit}

-- a process asks for the place that a path leads to
pub place_leads : (t : Tables) (nodes : List (Option NodeAt)) (new : View) (d : Decision) (slot : ℕ) (who : Process ℕ) (path : List ℕ) (row : WalkEnd → Row)
    (place : Place) → t.nodes ≡ nodes → running_at t.processes slot ≡ Some who → LeadsTo nodes who.cred who.label who.directory path place
    → Does (view_of t) new d (row (place_end nodes place))
    → Does (view_of t) new d (behind (path_check (view_of t) slot path ∷ []) (row (end_of (view_of t) slot path)))
place_leads t nodes new d slot who path row place same runs leads does =
    let there : LeadsTo t.nodes who.cred who.label who.directory path place =
    subst (λ ns. LeadsTo ns who.cred who.label who.directory path place) (sym same) leads in
    path_leads t new d slot who path row (place_end nodes place) runs there.allowed (there.ends ∙ ap (λ ns. place_end ns place) same) does

-- what a directory is stands at its path
abbrev IsThere : List (Option NodeAt) → ℕ → Type 0
IsThere nodes node = record_of nodes node ≡ at_path (nodes_from nodes) (path_of nodes node)

dir-seen : (t : Tables) (nodes : List (Option NodeAt)) (dir : ℕ) → t.nodes ≡ nodes → IsThere nodes dir
    → looks.node_at (view_of t) (path_of nodes dir) ≡ record_of nodes dir
dir-seen t nodes dir same there =
    node_at_seen t (path_of nodes dir) ∙ ap (λ ns. at_path (nodes_from ns) (path_of nodes dir)) same ∙ sym there

room-seen : (t : Tables) (nodes : List (Option NodeAt)) → t.nodes ≡ nodes → (length (view_of t).tree == NODES) ≡ (length (nodes_from nodes) == NODES)
unfolding view_of
room-seen t nodes same = ap (λ ns. length (nodes_from ns) == NODES) same

pub make_seen : (t : Tables) (nodes : List (Option NodeAt)) (slot : ℕ) (who : Process ℕ) (dir : ℕ) (rule : Option Rule) → t.nodes ≡ nodes
    → running_at t.processes slot ≡ Some who → IsThere nodes dir → rule ≡ make_rule_from nodes who.cred who.label dir
    → make_check (view_of t) slot (path_of nodes dir) ≡ deny_by rule
make_seen t nodes slot who dir rule same runs there is =
    ap (λ p. deny_by (make_rule_in p.cred p.label (looks.node_at (view_of t) (path_of nodes dir)) (length (view_of t).tree == NODES)))
    (caller_seen t slot who runs)
    ∙ ap (λ what. deny_by (make_rule_in who.cred who.label what (length (view_of t).tree == NODES))) (dir-seen t nodes dir same there)
    ∙ ap (λ full. deny_by (make_rule_in who.cred who.label (record_of nodes dir) full)) (room-seen t nodes same)
    ∙ ap deny_by (sym is)

pub made_seen : (t : Tables) (nodes : List (Option NodeAt)) (slot : ℕ) (who : Process ℕ) (dir : ℕ) (what : Kind) (mode : ℕ) → t.nodes ≡ nodes
    → running_at t.processes slot ≡ Some who → IsThere nodes dir
    → made_by (view_of t) slot (path_of nodes dir) what mode ≡ new_in_dir who.cred who.label who.umask (record_of nodes dir) what mode
made_seen t nodes slot who dir what mode same runs there =
    ap (λ p. new_in_dir p.cred p.label p.umask (looks.node_at (view_of t) (path_of nodes dir)) what mode) (caller_seen t slot who runs)
    ∙ ap (λ o. new_in_dir who.cred who.label who.umask o what mode) (dir-seen t nodes dir same there)

-- ---- the tables fit still

pub file-live : (nodes : List (Option NodeAt)) (n : ℕ) → IsFile nodes n → IsLive nodes n
file-live nodes n is = by_node (node_at nodes n) is
  where
    by_node : (o : Option NodeAt) → is_file_record (option_map (λ node. node.node) o) ≡ true → IsSome o
    by_node None never = cc
    by_node (Some node) is = refl

pub files_kept : (old new : List (Option NodeAt)) (d : Shared Open) → Keeps old new → FitFiles old d → AreFilesKept old new d
files_kept old new d keeps fit = λ entry number f at target. made_kept old new number keeps (file-live old number (fit.live entry number f at target))

pub made_files : (old new : List (Option NodeAt)) → Keeps old new → (d : Shared Open) → FitFiles old d → FitFiles new d
made_files old new keeps d fit = files_fit old new d (files_kept old new d keeps fit) fit

pub directories_kept : (old new : List (Option NodeAt)) (processes : Processes ℕ) → Keeps old new → FitDirectories old processes
    → AreDirectoriesKept old new processes
directories_kept old new processes keeps fit = λ slot p at. made_kept old new p.directory keeps (directory_there old p.directory (fit.live slot p at))

pub made_directories : (old new : List (Option NodeAt)) (processes : Processes ℕ) → Keeps old new → FitDirectories old processes → FitDirectories new processes
made_directories old new processes keeps fit =
    directories_fit old new processes (directories_kept old new processes keeps fit) (made_kept old new 0 keeps (directory_there old 0 fit.root.directory)) fit

-- a node is at a number that is of no line
pub no_line : (old : List (Option NodeAt)) (node : ℕ) (x : Option NodeAt)
    → ((line : ℕ) → kind_of (option_map (λ (n : NodeAt). n.node) x) ≡ Some (kind.Line line) → ⊥)
    → (n line : ℕ) → kind_of (record_of (with_node old node x) n) ≡ Some (kind.Line line) → kind_of (record_of old n) ≡ Some (kind.Line line)
no_line old node x none n line is = by_number (cases_eq n node)
  where
    by_size : (node < length old) ⊎ (length old ≤ node) → kind_of (record_of (with_node old node x) node) ≡ Some (kind.Line line) → ⊥
    by_size (inl inside) here = none line (sym (ap (λ (o : Option NodeAt). kind_of (option_map (λ (n : NodeAt). n.node) o))
        (named_same old node x inside)) ∙ here)
    by_size (inr past) here =
        let nothing : node_at (with_node old node x) node ≡ None = get_or_past (with_node old node x) node None (omega (arith, length-set old node x, past)) in
        let never : None ≡ Some (kind.Line line) = sym (ap (λ (o : Option NodeAt). kind_of (option_map (λ (n : NodeAt). n.node) o)) nothing) ∙ here in
        absurd (let no : None ≡ Some (kind.Line line) = never in cc)

    by_number : (n ≡ node) ⊎ (n ≢ node) → kind_of (record_of old n) ≡ Some (kind.Line line)
    by_number (inl same) =
        absurd (by_size (cases_lt node (length old)) (subst (λ k. kind_of (record_of (with_node old node x) k) ≡ Some (kind.Line line)) same is))
    by_number (inr apart) = sym (ap (λ (o : Option NodeAt). kind_of (option_map (λ (n : NodeAt). n.node) o)) (named_other old node n x apart)) ∙ is

dir-no-line : (cred : Cred) (label : Subject) (umask : ℕ) (o : Option NodeRecord) (mode : ℕ) (path : List (List ℕ)) (line : ℕ)
    → kind_of (option_map (λ (n : NodeAt). n.node) (node_with_path path (new_in_dir cred label umask o kind.Dir mode))) ≡ Some (kind.Line line) → ⊥
dir-no-line cred label umask None mode path line is = absurd (let no : None ≡ Some (kind.Line line) = is in cc)
dir-no-line cred label umask (Some dir) mode path line is =
    absurd (let no : kind.Dir ≡ kind.Line line = (let both : Some kind.Dir ≡ Some (kind.Line line) = is in cc) in cc)

pub made_tree : (old new : List (Option NodeAt)) (node dir : ℕ) (name : List ℕ) (cred : Cred) (label : Subject) (umask mode : ℕ) → IsFree old dir name
    → new ≡ with_node old node (node_with_path (path_of old dir ++ name ∷ []) (new_in_dir cred label umask (record_of old dir) kind.Dir mode))
    → nodes_from new ≡ with_node_at (nodes_from old) (path_of old dir ++ name ∷ []) (new_in_dir cred label umask (record_of old dir) kind.Dir mode)
    → FitTree old → FitTree new
made_tree old new node dir name cred label umask mode free set map fit =
    lines_fit old new (path_of old dir ++ name ∷ []) (new_in_dir cred label umask (record_of old dir) kind.Dir mode) map
    (λ line is.
    absurd (let no : None ≡ Some (kind.Line line) = sym (ap kind_of (at_path_is old (path_of old dir ++ name ∷ []) ∙ free.absent)) ∙ is in cc))
    (subst (λ ns. (n line : ℕ) → kind_of (record_of ns n) ≡ Some (kind.Line line) → kind_of (record_of old n) ≡ Some (kind.Line line)) (sym set)
    (no_line old node _ (λ line. dir-no-line cred label umask (record_of old dir) mode (path_of old dir ++ name ∷ []) line)))
    fit
