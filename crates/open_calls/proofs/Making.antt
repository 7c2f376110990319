-- A file that is made in a directory: what calls see then, and that the tables fit still.
use Rattle.std.proofs.Common.{◌≡◌, ◌≢◌, ◌⊎◌, inl, inr, ℕ, ◌≤◌, ◌<◌, true, false, List, [], ◌∷◌}
use Rattle.std.proofs.Common.{◌++◌, length, Option, Some, None, option_map, refl, sym, ap, ◌∙◌, subst, arith}
use Rattle.std.specs.Prelude.{IsSome}
use Rattle.std.proofs.lemmas.Bool.{cases_eq, cases_lt}
use Rattle.std.proofs.lemmas.List.{get_or_past, length-set}
use Rattle.label_core.specs.declared.subject.Subject.{Subject}
use Rattle.acl_core.specs.declared.cred.Cred.{Cred}
use Rattle.sys_types.specs.declared.node.Kind.TheVariants as kind
use Rattle.fd_table.specs.declared.open.Open.{Open}
use Rattle.fd_table.specs.Shared.{Shared}
use Rattle.proc_table.specs.Processes.{Process, Processes, running_at}
use Rattle.tree_model.specs.NewNodes.{new_in_dir}
use Rattle.tree_model.specs.Tree.{NodeAt, NodeRecord, nodes_from, with_node_at}
use Rattle.tree_model.specs.Numbers.{IsFile, is_file_record}
use Rattle.vnode_tree.specs.Nodes.{IsLive, node_at, path_of, record_of, with_node}
use Rattle.vnode_tree.specs.NewNodes.{node_with_path}
use Rattle.vnode_tree.specs.Standard.{Keeps}
use Rattle.vnode_tree.specs.Walks.{IsFree}
use Rattle.vnode_tree.proofs.Finite.{at_path_is, named_other, named_same}
use Rattle.system_model.specs.Looks.{made_by}
use Rattle.system_model.specs.Looks as looks
use Rattle.system_model.specs.Effects.{on_tree, change}
use Rattle.system_model.specs.TreeEffects.{set_node}
use Rattle.system_model.specs.Tables.{Tables, view_of}
use Rattle.system_model.specs.Fit.{FitFiles, FitDirectories, FitTree, kind_of}
use Rattle.system_model.proofs.FitLemmas.{directory_there}
use Rattle.system_model.proofs.NodeFits.{AreFilesKept, AreDirectoriesKept, files_fit, directories_fit, kept_seen}
use Rattle.system_model.proofs.SeenProcesses.{caller_seen}
use Rattle.open_calls.proofs.Kept.{made_kept, lines_fit}
use Rattle.open_calls.proofs.NodeLooks.{IsThere, what_seen}

pub made_seen : (t : Tables) (nodes : List (Option NodeAt)) (slot : ℕ) (who : Process ℕ) (dir mode : ℕ) → t.nodes ≡ nodes
    → running_at t.processes slot ≡ Some who → IsThere nodes dir
    → made_by (view_of t) slot (path_of nodes dir) kind.File mode ≡ new_in_dir who.cred who.label who.umask (record_of nodes dir) kind.File mode
made_seen t nodes slot who dir mode same runs there =
    ap (λ p. new_in_dir p.cred p.label p.umask (looks.node_at (view_of t) (path_of nodes dir)) kind.File mode) (caller_seen t slot who runs)
    ∙ ap (λ o. new_in_dir who.cred who.label who.umask o kind.File mode) (what_seen t nodes dir same there)

-- ---- the tables fit still

file-live : (nodes : List (Option NodeAt)) (n : ℕ) → IsFile nodes n → IsLive nodes n
file-live nodes n is = by_node (node_at nodes n) is
  where
    by_node : (o : Option NodeAt) → is_file_record (option_map (λ node. node.node) o) ≡ true → IsSome o
    by_node None never = cc
    by_node (Some node) is = refl

pub files_kept : (old new : List (Option NodeAt)) (d : Shared Open) → Keeps old new → FitFiles old d → AreFilesKept old new d
files_kept old new d keeps fit = λ entry number f at target. made_kept old new number keeps (file-live old number (fit.live entry number f at target))

pub made_files : (old new : List (Option NodeAt)) → Keeps old new → (d : Shared Open) → FitFiles old d → FitFiles new d
made_files old new keeps d fit = files_fit old new d (files_kept old new d keeps fit) fit

pub directories_kept : (old new : List (Option NodeAt)) (processes : Processes ℕ) → Keeps old new → FitDirectories old processes
    → AreDirectoriesKept old new processes
directories_kept old new processes keeps fit = λ slot p at. made_kept old new p.directory keeps (directory_there old p.directory (fit.live slot p at))

pub made_directories : (old new : List (Option NodeAt)) (processes : Processes ℕ) → Keeps old new → FitDirectories old processes → FitDirectories new processes
made_directories old new processes keeps fit =
    directories_fit old new processes (directories_kept old new processes keeps fit) (made_kept old new 0 keeps (directory_there old 0 fit.root.directory)) fit

-- a node is at a number that is of no line
no_line : (old : List (Option NodeAt)) (node : ℕ) (x : Option NodeAt)
    → ((line : ℕ) → kind_of (option_map (λ (n : NodeAt). n.node) x) ≡ Some (kind.Line line) → ⊥)
    → (n line : ℕ) → kind_of (record_of (with_node old node x) n) ≡ Some (kind.Line line) → kind_of (record_of old n) ≡ Some (kind.Line line)
no_line old node x none n line is = by_number (cases_eq n node)
  where
    by_size : (node < length old) ⊎ (length old ≤ node) → kind_of (record_of (with_node old node x) node) ≡ Some (kind.Line line) → ⊥
    by_size (inl inside) here = none line (sym (ap (λ (o : Option NodeAt). kind_of (option_map (λ (n : NodeAt). n.node) o))
        (named_same old node x inside)) ∙ here)
    by_size (inr past) here =
        let nothing : node_at (with_node old node x) node ≡ None = get_or_past (with_node old node x) node None (omega (arith, length-set old node x, past)) in
        let never : None ≡ Some (kind.Line line) = sym (ap (λ (o : Option NodeAt). kind_of (option_map (λ (n : NodeAt). n.node) o)) nothing) ∙ here in
        absurd (let no : None ≡ Some (kind.Line line) = never in cc)

    by_number : (n ≡ node) ⊎ (n ≢ node) → kind_of (record_of old n) ≡ Some (kind.Line line)
    by_number (inl same) =
        absurd (by_size (cases_lt node (length old)) (subst (λ k. kind_of (record_of (with_node old node x) k) ≡ Some (kind.Line line)) same is))
    by_number (inr apart) = sym (ap (λ (o : Option NodeAt). kind_of (option_map (λ (n : NodeAt). n.node) o)) (named_other old node n x apart)) ∙ is

file-no-line : (cred : Cred) (label : Subject) (umask : ℕ) (o : Option NodeRecord) (mode : ℕ) (path : List (List ℕ)) (line : ℕ)
    → kind_of (option_map (λ (n : NodeAt). n.node) (node_with_path path (new_in_dir cred label umask o kind.File mode))) ≡ Some (kind.Line line) → ⊥
file-no-line cred label umask None mode path line is = absurd (let no : None ≡ Some (kind.Line line) = is in cc)
file-no-line cred label umask (Some dir) mode path line is =
    absurd (let no : kind.File ≡ kind.Line line = (let both : Some kind.File ≡ Some (kind.Line line) = is in cc) in cc)

pub made_tree : (old new : List (Option NodeAt)) (node dir : ℕ) (name : List ℕ) (cred : Cred) (label : Subject) (umask mode : ℕ) → IsFree old dir name
    → new ≡ with_node old node (node_with_path (path_of old dir ++ name ∷ []) (new_in_dir cred label umask (record_of old dir) kind.File mode))
    → nodes_from new ≡ with_node_at (nodes_from old) (path_of old dir ++ name ∷ []) (new_in_dir cred label umask (record_of old dir) kind.File mode)
    → FitTree old → FitTree new
made_tree old new node dir name cred label umask mode free set map fit =
    lines_fit old new (path_of old dir ++ name ∷ []) (new_in_dir cred label umask (record_of old dir) kind.File mode) map
    (λ line is.
    absurd (let no : None ≡ Some (kind.Line line) = sym (ap kind_of (at_path_is old (path_of old dir ++ name ∷ []) ∙ free.absent)) ∙ is in cc))
    (subst (λ ns. (n line : ℕ) → kind_of (record_of ns n) ≡ Some (kind.Line line) → kind_of (record_of old n) ≡ Some (kind.Line line)) (sym set)
    (no_line old node _ (λ line. file-no-line cred label umask (record_of old dir) mode (path_of old dir ++ name ∷ []) line)))
    fit

-- the file, as calls see it
pub file_made : (t : Tables) (new : List (Option NodeAt)) (slot : ℕ) (who : Process ℕ) (dir : ℕ) (name : List ℕ) (mode : ℕ)
    → running_at t.processes slot ≡ Some who → IsThere t.nodes dir
    → nodes_from new ≡ with_node_at (nodes_from t.nodes) (path_of t.nodes dir ++ name ∷ [])
    (new_in_dir who.cred who.label who.umask (record_of t.nodes dir) kind.File mode)
    → Keeps t.nodes new → FitFiles t.nodes t.descriptors → FitDirectories t.nodes t.processes
    → view_of (record t { nodes = new })
    ≡ change (view_of t) (on_tree (set_node (path_of t.nodes dir ++ name ∷ []) (made_by (view_of t) slot (path_of t.nodes dir) kind.File mode)))
file_made t new slot who dir name mode runs there map keeps files directories =
    kept_seen t new (path_of t.nodes dir ++ name ∷ []) (made_by (view_of t) slot (path_of t.nodes dir) kind.File mode)
    (map ∙ ap (λ what. with_node_at (nodes_from t.nodes) (path_of t.nodes dir ++ name ∷ []) what) (sym (made_seen t t.nodes slot who dir mode refl runs there)))
    (files_kept t.nodes new t.descriptors keeps files)
    (directories_kept t.nodes new t.processes keeps directories)

-- it is a regular file
file-in : (cred : Cred) (label : Subject) (umask : ℕ) (o : Option NodeRecord) (mode : ℕ) (path : List (List ℕ))
    → IsSome (node_with_path path (new_in_dir cred label umask o kind.File mode))
    → is_file_record (option_map (λ (n : NodeAt). n.node) (node_with_path path (new_in_dir cred label umask o kind.File mode))) ≡ true
file-in cred label umask None mode path never = cc
file-in cred label umask (Some dir) mode path some = refl

pub file_there : (old new : List (Option NodeAt)) (node dir : ℕ) (name : List ℕ) (cred : Cred) (label : Subject) (umask mode : ℕ)
    → new ≡ with_node old node (node_with_path (path_of old dir ++ name ∷ []) (new_in_dir cred label umask (record_of old dir) kind.File mode))
    → IsLive new node → IsFile new node
file_there old new node dir name cred label umask mode set live = by_size (cases_lt node (length old))
  where
    x : Option NodeAt
    x = node_with_path (path_of old dir ++ name ∷ []) (new_in_dir cred label umask (record_of old dir) kind.File mode)

    by_size : (node < length old) ⊎ (length old ≤ node) → IsFile new node
    by_size (inl inside) =
        (let here : node_at new node ≡ x = ap (λ ns. node_at ns node) set ∙ named_same old node x inside in
        ap (λ (o : Option NodeAt). is_file_record (option_map (λ (n : NodeAt). n.node) o)) here
        ∙ file-in cred label umask (record_of old dir) mode (path_of old dir ++ name ∷ []) (subst (λ o. IsSome o) here live))
    by_size (inr past) =
        (let nothing : node_at (with_node old node x) node ≡ None = get_or_past (with_node old node x) node None (omega (arith, length-set old node x, past)) in
        let none : node_at new node ≡ None = ap (λ ns. node_at ns node) set ∙ nothing in
        absurd (let no : false ≡ true = subst (λ o. IsSome o) none live in cc))
