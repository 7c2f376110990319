-- What calls see once a file was opened, and that the tables fit.
use Rattle.std.proofs.Common.{◌≡◌, ℕ, ◌<◌, Bool, true, List, [], ◌∷◌, ◌++◌, Option, Some, None, option_map, refl, sym, ap, ◌∙◌, subst, arith}
use Rattle.std.specs.Prelude.{is_some}
use Rattle.std.proofs.lemmas.Bool.Decides.{nat_tests}
use Rattle.block_pool.specs.Chain.{ChainState}
use Rattle.call_words.specs.declared.open.Access.{Access}
use Rattle.call_words.specs.declared.open.OpenFlags.{OpenFlags}
use Rattle.fd_table.specs.declared.open.Open.{Open}
use Rattle.fd_table.specs.declared.open.Target.TheVariants.{File as FileOf}
use Rattle.fd_table.specs.Shared.{Shared, free_entries, lowest_number}
use Rattle.fd_table.specs.Calls.{room_rule, open_lowest}
use Rattle.pipe_core.specs.Pipes.{Pipes}
use Rattle.proc_table.specs.Processes.{Processes}
use Rattle.tree_model.specs.Contents.{with_contents}
use Rattle.tree_model.specs.Tree.{NodeAt, NodeRecord, nodes_from, with_node_at}
use Rattle.tree_model.specs.Numbers.{IsFile, is_file_record, path_of, record_of}
use Rattle.tty_dev.specs.History.{Counts}
use Rattle.tty_dev.specs.Table.{counts_of}
use Rattle.vnode_tree.specs.Nodes.{with_record}
use Rattle.system_model.specs.Parts as parts
use Rattle.system_model.specs.Parts.{File}
use Rattle.system_model.specs.State.{OpenFile, View}
use Rattle.system_model.specs.Keeping.{seeing}
use Rattle.system_model.specs.FileEffects.{open_file, change_files}
use Rattle.system_model.specs.TreeEffects.{set_node}
use Rattle.system_model.specs.Effects.{Effect, on_files, on_tree, change, change_all}
use Rattle.system_model.specs.Fit.{IsCaller, FitFiles, FitSlots, FitPipes, FitLines}
use Rattle.system_model.specs.Looks.{node_at}
use Rattle.system_model.specs.OpenCalls.{file_for, open_target}
use Rattle.system_model.specs.Tables.{Tables, generations, seen_open, seen_files, view_of}
use Rattle.system_model.proofs.NodeFits.{kept_seen}
use Rattle.system_model.proofs.SeenFiles.{open_seen}
use Rattle.system_model.proofs.Views.{seen_as}
use Rattle.open_calls.specs.Openings.{open_for, cuts}
use Rattle.open_calls.proofs.Kept.{changed_kept}
use Rattle.open_calls.proofs.NodeLooks.{IsThere, what_seen}
use Rattle.open_calls.proofs.OpenLemmas.{IsOpened, opened, files_opened, slots_opened, pipes_opened, lines_opened}

-- ---- one file is opened

abbrev Pair : Type 0
Pair = Shared Open × ℕ

pub table_after : (d after : Shared Open) (slot number : ℕ) (f : Open) (on_exec : Bool) → (after, number) ≡ open_lowest d slot f on_exec
    → after ≡ (open_lowest d slot f on_exec).0
table_after d after slot number f on_exec is = ap (λ (p : Pair). p.0) is

pub number_after : (d after : Shared Open) (slot number : ℕ) (f : Open) (on_exec : Bool) → (after, number) ≡ open_lowest d slot f on_exec
    → number ≡ lowest_number d.table slot
number_after d after slot number f on_exec is = ap (λ (p : Pair). p.1) is

some-free : (d : Shared Open) (slot : ℕ) → room_rule d slot 1 ≡ None → 0 < free_entries d.files
some-free d slot none = grind (arith, nat_tests)

pub was_opened : (d after : Shared Open) (slot number : ℕ) (f : Open) (on_exec : Bool) → room_rule d slot 1 ≡ None
    → (after, number) ≡ open_lowest d slot f on_exec → IsOpened d after slot f
was_opened d after slot number f on_exec room is =
    subst (λ e. IsOpened d e slot f) (sym (table_after d after slot number f on_exec is)) (opened d slot f on_exec (some-free d slot room))

pub file_opened : (t : Tables) (slot : ℕ) (f : Open) (file : File) (on_exec : Bool)
    → seen_open t.nodes (generations (counts_of t.lines)) f ≡ seeing.make file
    → view_of (record t { descriptors = (open_lowest t.descriptors slot f on_exec).0 }) ≡ change (view_of t) (on_files (open_file slot file on_exec))
unfolding view_of change_files
file_opened t slot f file on_exec is =
    seen_as (record t { descriptors = (open_lowest t.descriptors slot f on_exec).0 }) (change (view_of t) (on_files (open_file slot file on_exec)))
    (open_seen t.nodes (generations (counts_of t.lines)) t.descriptors slot f on_exec
    ∙ ap (λ (o : OpenFile). (open_lowest (seen_files t.nodes (generations (counts_of t.lines)) t.descriptors) slot o on_exec).0) is)
    refl refl refl refl refl refl refl

-- a regular file
pub node_opened : (t : Tables) (slot number : ℕ) (place : parts.Path) (access : Access) (flags : OpenFlags) → path_of t.nodes number ≡ place
    → view_of (record t { descriptors = (open_lowest t.descriptors slot (open_for access flags (FileOf number)) flags.on_exec).0 })
    ≡ change (view_of t) (open_target slot access flags (parts.node place))
node_opened t slot number place access flags is =
    file_opened t slot (open_for access flags (FileOf number)) (file_for access flags (parts.node place)) flags.on_exec
    (ap (λ path. seeing.make (file_for access flags (parts.node path))) is)

-- ---- what a regular file holds goes

cut-seen : (t : Tables) (nodes new : List (Option NodeAt)) (number : ℕ) → t.nodes ≡ nodes → IsThere nodes number
    → new ≡ with_record (with_contents []) nodes number
    → nodes_from new ≡ with_node_at (nodes_from nodes) (path_of nodes number) (option_map (with_contents []) (record_of nodes number))
    → view_of (record t { nodes = new })
    ≡ change (view_of t) (on_tree (set_node (path_of nodes number) (option_map (with_contents []) (node_at (view_of t) (path_of nodes number)))))
cut-seen t nodes new number same there set map =
    kept_seen t new (path_of nodes number) (option_map (with_contents []) (node_at (view_of t) (path_of nodes number)))
    (map
    ∙ ap (λ ns. with_node_at (nodes_from ns) (path_of nodes number) (option_map (with_contents []) (record_of nodes number))) (sym same)
    ∙ ap (λ what. with_node_at (nodes_from t.nodes) (path_of nodes number) (option_map (with_contents []) what)) (sym (what_seen t nodes number same there)))
    (λ entry other f at target. rw (set, same) (changed_kept (with_contents []) nodes number other (λ r. refl)))
    (λ other p at. rw (set, same) (changed_kept (with_contents []) nodes number p.directory (λ r. refl)))

is-cut : (v : View) (place : parts.Path) (flags : OpenFlags) (o : Option NodeRecord) → flags.truncate ≡ true → is_some o ≡ true
    → change_all v (cuts place flags o) ≡ change v (on_tree (set_node place (option_map (with_contents []) o)))
is-cut v place flags None is some = absurd cc
is-cut v place flags (Some what) is some = rw is refl

file-some : (nodes : List (Option NodeAt)) (number : ℕ) → IsFile nodes number → is_some (record_of nodes number) ≡ true
file-some nodes number is = by_record (record_of nodes number) is
  where
    by_record : (o : Option NodeRecord) → is_file_record o ≡ true → is_some o ≡ true
    by_record None never = cc
    by_record (Some what) is = refl

pub was_cut : (t : Tables) (new : List (Option NodeAt)) (number : ℕ) (flags : OpenFlags) → IsFile t.nodes number → IsThere t.nodes number
    → flags.truncate ≡ true
    → new ≡ with_record (with_contents []) t.nodes number
    → nodes_from new ≡ with_node_at (nodes_from t.nodes) (path_of t.nodes number) (option_map (with_contents []) (record_of t.nodes number))
    → view_of (record t { nodes = new }) ≡ change_all (view_of t) (cuts (path_of t.nodes number) flags (node_at (view_of t) (path_of t.nodes number)))
was_cut t new number flags file there is set map =
    cut-seen t t.nodes new number refl there set map
    ∙ sym
    (is-cut (view_of t) (path_of t.nodes number) flags (node_at (view_of t) (path_of t.nodes number)) is
    (ap is_some (what_seen t t.nodes number refl there) ∙ file-some t.nodes number file))

-- effects, and one more
change-more : (v : View) (es : List Effect) (e : Effect) → change_all v (es ++ e ∷ []) ≡ change (change_all v es) e
change-more v [] e = refl
change-more v (x ∷ es) e = change-more (change v x) es e

-- the contents went or not, and it is opened
pub node_and_file : (t : Tables) (new : List (Option NodeAt)) (after : Shared Open) (slot number : ℕ) (place : parts.Path) (access : Access) (flags : OpenFlags)
    (es : List Effect) → view_of (record t { nodes = new }) ≡ change_all (view_of t) es → path_of new number ≡ place
    → after ≡ (open_lowest t.descriptors slot (open_for access flags (FileOf number)) flags.on_exec).0
    → view_of (record t { nodes = new; descriptors = after }) ≡ change_all (view_of t) (es ++ open_target slot access flags (parts.node place) ∷ [])
node_and_file t new after slot number place access flags es seen path is =
    rw is (node_opened (record t { nodes = new }) slot number place access flags path)
    ∙ ap (λ v. change v (open_target slot access flags (parts.node place))) seen
    ∙ sym (change-more (view_of t) es (open_target slot access flags (parts.node place)))

-- ---- the tables fit once a regular file was opened

same-number : (a b : ℕ) → FileOf a ≡ FileOf b → a ≡ b
same-number a b is = cc

pub files_with : (nodes : List (Option NodeAt)) (d after : Shared Open) (slot number : ℕ) (access : Access) (flags : OpenFlags)
    → IsOpened d after slot (open_for access flags (FileOf number)) → IsFile nodes number → FitFiles nodes d → FitFiles nodes after
files_with nodes d after slot number access flags is file fit =
    files_opened nodes d after slot (open_for access flags (FileOf number)) is
    (λ other of. subst (IsFile nodes) (same-number number other of) file) fit

pub pipes_with : (d after : Shared Open) (slot number : ℕ) (access : Access) (flags : OpenFlags) (pipes : Pipes ChainState)
    → IsOpened d after slot (open_for access flags (FileOf number)) → FitPipes d pipes → FitPipes after pipes
pipes_with d after slot number access flags pipes is fit =
    pipes_opened d after slot (open_for access flags (FileOf number)) pipes is (λ k. refl) fit

pub lines_with : (d after : Shared Open) (slot number : ℕ) (access : Access) (flags : OpenFlags) (counts : List Counts) (boots : List Bool)
    → IsOpened d after slot (open_for access flags (FileOf number)) → FitLines d counts boots → FitLines after counts boots
lines_with d after slot number access flags counts boots is fit =
    lines_opened d after slot (open_for access flags (FileOf number)) counts boots is (λ n since never. cc) fit

pub slots_with : (d after : Shared Open) (slot : ℕ) (f : Open) (processes : Processes ℕ) → IsOpened d after slot f → IsCaller processes slot
    → FitSlots d processes
    → FitSlots after processes
slots_with d after slot f processes is caller fit = slots_opened d after slot f processes is caller.running fit
