-- A node that goes: what is of it, what its row's checks come to, and that the tables fit still.
use Rattle.std.proofs.Common.{◌≡◌, ◌≢◌, ◌⊎◌, inl, inr, ℕ, zero, suc, Bool, true, false, not, ◌||◌, ◌&&◌}
use Rattle.std.proofs.Common.{cond, List, [], ◌∷◌, length, map, Option, Some, None, refl, sym, ap, ◌∙◌, subst, arith}
use Rattle.std.specs.Prelude.{◌==◌, IsSome, is_some, slice_index_or, if◌then◌else◌}
use Rattle.std.specs.List.{list_any}
use Rattle.std.proofs.lemmas.Bool.{cases_eq, ne_eqb, eqb-true, eq-eqb}
use Rattle.std.proofs.lemmas.Bool.Decides.{nat_tests}
use Rattle.sys_types.specs.declared.node.Kind.{Kind}
use Rattle.sys_types.specs.declared.node.Kind.TheVariants as kind
use Rattle.sys_types.specs.declared.rules.Rule.{Rule}
use Rattle.sys_types.specs.declared.rules.Rule.TheVariants.{LabelWrite, NotEmpty, InUse}
use Rattle.access_rule.specs.Access as access
use Rattle.fd_table.specs.declared.open.Open.{Open}
use Rattle.fd_table.specs.Shared.{Shared}
use Rattle.proc_table.specs.Processes.{Process, Slot, Processes, empty_slot, holds, is_running, process_at, any_running, map_processes}
use Rattle.proc_table.proofs.MapLemmas.{any_running-map}
use Rattle.tree_model.specs.Listing.{is_empty_dir}
use Rattle.tree_model.specs.Paths.{access_rule}
use Rattle.tree_model.specs.Rights as rights
use Rattle.tree_model.specs.Tree.{NodeRecord, at_path, nodes_from, with_node_at, is_dir, is_dir_record, is_file, parent_of}
use Rattle.tree_model.specs.Numbers.{is_file_record}
use Rattle.vnode_tree.specs.Nodes.{NodeAt, IsLive, ChangesAt, node_at as node_by_number, path_in}
use Rattle.vnode_tree.specs.Nodes.{path_of, record_of, same_path as same_names, tree_of, with_node}
use Rattle.vnode_tree.proofs.Finite.{same_path_tied, named_other}
use Rattle.vnode_tree.proofs.Trees.{path_refl, path_false}
use Rattle.system_model.specs.Parts.{Path}
use Rattle.system_model.specs.State.{View}
use Rattle.system_model.specs.DirCalls.{is_someones, rmdir_at}
use Rattle.system_model.specs.Looks.{caller_of, same_path, access_check, node_at, node_dominates}
use Rattle.system_model.specs.Rows.{Check, refused, first, deny, deny_by}
use Rattle.system_model.specs.Tables.{Tables, view_of}
use Rattle.system_model.specs.Fit.{FitFiles, FitDirectories, FitTree, kind_of}
use Rattle.system_model.proofs.FitLemmas.{directory_there}
use Rattle.system_model.proofs.NodeFits.{IsKeptAt, AreFilesKept, AreDirectoriesKept, files_fit, directories_fit}
use Rattle.system_model.proofs.SeenProcesses.{caller_seen, processes_mapped}
use Rattle.node_calls.specs.Removals.{take_rule}
use Rattle.node_calls.proofs.Kept.{other_kept, lines_fit}
use Rattle.node_calls.proofs.Making.{no_line}
use Rattle.node_calls.proofs.NodeAsked.{Asks, IsThere, writes_seen, tree_seen}

-- ---- paths

pub same_itself : (path : Path) → same_path path path ≡ true
same_itself path = sym (same_path_tied path path) ∙ path_refl path

pub apart_paths : (path other : Path) → path ≢ other → same_path path other ≡ false
apart_paths path other apart = sym (same_path_tied path other) ∙ path_false path other apart

some_there : (nodes : List (Option NodeAt)) (n : ℕ) (named : NodeAt) → node_by_number nodes n ≡ Some named → is_some (tree_of nodes named.path) ≡ true
unfolding tree_of
some_there [] n named at = absurd (let never : None ≡ Some named = at in cc)
some_there (None ∷ nodes) zero named at = absurd (let never : None ≡ Some named = at in cc)
some_there (Some other ∷ nodes) zero named at =
    let one : other ≡ named = let both : Some other ≡ Some named = at in cc in
    rw (one, path_refl named.path) refl
some_there (None ∷ nodes) (suc n) named at = some_there nodes n named at
some_there (Some other ∷ nodes) (suc n) named at =
    elim (same_names named.path other.path) as (λ b. is_some (cond b (Some other.node) (tree_of nodes named.path)) ≡ true) [
      | true ↦ refl
      | false ↦ some_there nodes n named at
    ]

-- no other node has the path of one that goes
pub alone : (old new : List (Option NodeAt)) (n m : ℕ) → new ≡ with_node old n None → ChangesAt (path_of old n) None old new → IsLive old m → m ≢ n
    → path_of old n ≢ path_of old m
alone old new n m gone changes live apart = λ same.
    elim (node_by_number old m) as (λ o. node_by_number old m ≡ o → IsSome o → ⊥) [
      | None ↦ λ at some. absurd (let never : false ≡ true = some in cc)
      | Some named ↦ λ at some.
          let there : node_by_number new m ≡ Some named = ap (λ (t : List (Option NodeAt)). node_by_number t m) gone ∙ named_other old n m None apart ∙ at in
          let path : path_of old n ≡ named.path = same ∙ ap path_in at in
          let none : tree_of new (path_of old n) ≡ None = changes.only (path_of old n) ∙ rw (path_refl (path_of old n)) refl in
          let has : is_some (tree_of new (path_of old n)) ≡ true = ap (λ (p : List (List ℕ)). is_some (tree_of new p)) path ∙ some_there new m named there in
          absurd (let never : false ≡ true = sym (ap (λ (o : Option NodeRecord). is_some o) none) ∙ has in cc)
    ] refl live

-- ---- the directory that it is taken from

abbrev pub taken : Option Rule → List (Option Check) → Option Check
taken None rest = first rest
taken (Some rule) rest = Some (refused rule, [])

take-checks : (rule : Option Rule) (b : Bool) (rest : List (Option Check))
    → first (deny_by rule ∷ deny (not b) LabelWrite ∷ rest) ≡ taken (access.first (rule ∷ (if b then None else Some LabelWrite) ∷ [])) rest
take-checks None true rest = refl
take-checks None false rest = refl
take-checks (Some rule) b rest = refl

module _ {t : Tables} {nodes : List (Option NodeAt)} {slot : ℕ} {who : Process ℕ} {path : List ℕ} {node : ℕ} (a : Asks t nodes slot who path node) where
  above : Path
  above = parent_of (path_of nodes node)

  above-seen : access_check (view_of t) slot (parent_of (path_of nodes node)) false true false
      ≡ deny_by (access_rule who.cred who.label (at_path (nodes_from nodes) (parent_of (path_of nodes node))) false true false)
  above-seen =
      ap (λ p. deny_by (access_rule p.cred p.label (node_at (view_of t) (parent_of (path_of nodes node))) false true false)) (caller_seen t slot who a.runs)
      ∙ ap (λ tree. deny_by (access_rule who.cred who.label (at_path tree (parent_of (path_of nodes node))) false true false)) (tree_seen a)

  pub take_seen : (rule : Option Rule) (rest : List (Option Check)) → IsThere nodes node → rule ≡ take_rule nodes who.cred who.label node
      → first (access_check (view_of t) slot (parent_of (path_of nodes node)) false true false
      ∷ deny (not (node_dominates (caller_of (view_of t) slot) (node_at (view_of t) (path_of nodes node)))) LabelWrite ∷ rest)
      ≡ taken rule rest
  take_seen rule rest there is =
      ap (λ o. first (o ∷ deny (not (node_dominates (caller_of (view_of t) slot) (node_at (view_of t) (path_of nodes node)))) LabelWrite ∷ rest)) above-seen
      ∙ ap (λ b. first (deny_by (access_rule who.cred who.label (at_path (nodes_from nodes) (parent_of (path_of nodes node))) false true false)
      ∷ deny (not b) LabelWrite ∷ rest))
      (writes_seen a (rights.node_dominates who.label (record_of nodes node)) there refl)
      ∙ take-checks (access_rule who.cred who.label (at_path (nodes_from nodes) (parent_of (path_of nodes node))) false true false)
      (rights.node_dominates who.label (record_of nodes node)) rest
      ∙ ap (λ r. taken r rest) (sym is)

  pub empty_seen : (b : Bool) → b ≡ not (is_empty_dir (nodes_from nodes) (path_of nodes node)) → not (is_empty_dir (view_of t).tree (path_of nodes node)) ≡ b
  empty_seen b is = ap (λ tree. not (is_empty_dir tree (path_of nodes node))) (tree_seen a) ∙ sym is

-- ---- the checks of rmdir

more_than_none : (n : ℕ) → (suc n == 0) ≡ false
more_than_none n = grind (arith, nat_tests)

pub below_root : (path : Path) → path ≢ [] → (length path == 0) ≡ false
below_root [] some = absurd (some refl)
below_root (name ∷ path) some = more_than_none (length path)

-- those behind the rights
abbrev pub last_checks : View → Path → List (Option Check)
last_checks v place = deny (not (is_empty_dir v.tree place)) NotEmpty ∷ deny (is_someones v place) InUse ∷ []

pub rmdir_first : (v : View) (slot : ℕ) (place : Path) → is_dir_record (node_at v place) ≡ true → place ≢ []
    → first (rmdir_at v slot place).checks
    ≡ first (access_check v slot (parent_of place) false true false ∷ deny (not (node_dominates (caller_of v slot) (node_at v place))) LabelWrite
    ∷ last_checks v place)
rmdir_first v slot place dir some = rw (dir, below_root place some) refl

pub full_first : (v : View) (place : Path) → not (is_empty_dir v.tree place) ≡ true → first (last_checks v place) ≡ Some (refused NotEmpty, [])
full_first v place full = rw full refl

pub used_first : (v : View) (place : Path) → not (is_empty_dir v.tree place) ≡ false → is_someones v place ≡ true
    → first (last_checks v place) ≡ Some (refused InUse, [])
used_first v place empty used = rw (empty, used) refl

pub none_first : (v : View) (place : Path) → not (is_empty_dir v.tree place) ≡ false → is_someones v place ≡ false → first (last_checks v place) ≡ None
none_first v place empty free = rw (empty, free) refl

-- ---- whose working directory it is

pub or_more : (a b c d : Bool) → (a ≡ true → b ≡ true) → (c ≡ true → d ≡ true) → (a || c) ≡ true → (b || d) ≡ true
or_more true b c d l r e = rw (l refl) refl
or_more false true c d l r e = refl
or_more false false c d l r e = r e

and_more : (a b c : Bool) → (b ≡ true → c ≡ true) → (a && b) ≡ true → (a && c) ≡ true
and_more true b c more e = more e
and_more false b c more e = e

abbrev passes_running : (Process ℕ → Bool) → Slot ℕ → Bool
passes_running test s = holds (λ p. is_running p && test p) s.process

holds_more : (test other : Process ℕ → Bool) → ((p : Process ℕ) → test p ≡ true → other p ≡ true) → (o : Option (Process ℕ))
    → holds (λ p. is_running p && test p) o ≡ true → holds (λ p. is_running p && other p) o ≡ true
holds_more test other more None e = e
holds_more test other more (Some p) e = and_more (is_running p) (test p) (other p) (more p) e

any_more : (test other : Process ℕ → Bool) → ((p : Process ℕ) → test p ≡ true → other p ≡ true) → (slots : List (Slot ℕ))
    → list_any (passes_running test) slots ≡ true → list_any (passes_running other) slots ≡ true
any_more test other more [] e = e
any_more test other more (s ∷ slots) e =
    or_more (passes_running test s) (passes_running other s) (list_any (passes_running test) slots) (list_any (passes_running other) slots)
    (holds_more test other more s.process) (any_more test other more slots) e

holds_same : (test other : Process ℕ → Bool) (o : Option (Process ℕ)) → ((p : Process ℕ) → o ≡ Some p → test p ≡ other p)
    → holds (λ p. is_running p && test p) o ≡ holds (λ p. is_running p && other p) o
holds_same test other None same = refl
holds_same test other (Some p) same = ap (λ b. is_running p && b) (same p refl)

any_same : (test other : Process ℕ → Bool) (slots : List (Slot ℕ))
    → ((slot : ℕ) (p : Process ℕ) → (slice_index_or slots slot empty_slot).process ≡ Some p → test p ≡ other p)
    → list_any (passes_running test) slots ≡ list_any (passes_running other) slots
any_same test other [] same = refl
any_same test other (s ∷ slots) same =
    ap (λ b. b || list_any (passes_running test) slots) (holds_same test other s.process (λ p. same zero p))
    ∙ ap (λ b. passes_running other s || b) (any_same test other slots (λ slot p. same (suc slot) p))

processes-as : (t : Tables) → (view_of t).processes ≡ map_processes (path_of t.nodes) t.processes
unfolding view_of
processes-as t = processes_mapped t.nodes t.processes

someones-seen : (t : Tables) (nodes : List (Option NodeAt)) (processes : Processes ℕ) (place : Path) → t.nodes ≡ nodes → t.processes ≡ processes
    → is_someones (view_of t) place ≡ any_running (λ p. same_path place (path_of nodes p.directory)) processes
someones-seen t nodes processes place same same_processes =
    ap (λ ps. any_running (λ p. same_path place p.directory) ps) (processes-as t)
    ∙ any_running-map (path_of t.nodes) (λ p. same_path place p.directory) t.processes
    ∙ ap (λ ns. any_running (λ p. same_path place (path_of ns p.directory)) t.processes) same
    ∙ ap (λ ps. any_running (λ p. same_path place (path_of nodes p.directory)) ps) same_processes

-- a running process works there
pub someone_seen : (t : Tables) (nodes : List (Option NodeAt)) (processes : Processes ℕ) (node : ℕ) → t.nodes ≡ nodes → t.processes ≡ processes
    → any_running (λ p. p.directory == node) processes ≡ true → is_someones (view_of t) (path_of nodes node) ≡ true
someone_seen t nodes processes node same same_processes some =
    someones-seen t nodes processes (path_of nodes node) same same_processes
    ∙ any_more (λ p. p.directory == node) (λ p. same_path (path_of nodes node) (path_of nodes p.directory))
    (λ p is. ap (λ n. same_path (path_of nodes node) (path_of nodes n)) (eqb-true p.directory node is) ∙ same_itself (path_of nodes node)) processes.slots some

-- none does
pub nobody_seen : (t : Tables) (nodes new : List (Option NodeAt)) (processes : Processes ℕ) (node : ℕ) → t.nodes ≡ nodes → t.processes ≡ processes
    → new ≡ with_node nodes node None → ChangesAt (path_of nodes node) None nodes new → FitDirectories nodes processes
    → any_running (λ p. p.directory == node) processes ≡ false → is_someones (view_of t) (path_of nodes node) ≡ false
nobody_seen t nodes new processes node same same_processes gone changes fit none =
    someones-seen t nodes processes (path_of nodes node) same same_processes
    ∙ any_same (λ p. same_path (path_of nodes node) (path_of nodes p.directory)) (λ p. p.directory == node) processes.slots
    (λ slot p at. by_number p (directory_there nodes p.directory (fit.live slot p at)) (cases_eq p.directory node))
    ∙ none
  where
    by_number : (p : Process ℕ) → IsLive nodes p.directory → (p.directory ≡ node) ⊎ (p.directory ≢ node)
        → same_path (path_of nodes node) (path_of nodes p.directory) ≡ (p.directory == node)
    by_number p live (inl here) =
        ap (λ n. same_path (path_of nodes node) (path_of nodes n)) here ∙ same_itself (path_of nodes node) ∙ sym (eq-eqb p.directory node here)
    by_number p live (inr apart) =
        apart_paths (path_of nodes node) (path_of nodes p.directory) (alone nodes new node p.directory gone changes live apart)
        ∙ sym (ne_eqb p.directory node apart)

-- ---- the tables fit still

pub or_none : (a b : Bool) → (a || b) ≡ false → (a ≡ false) × (b ≡ false)
or_none true b e = absurd cc
or_none false b e = (refl, e)

none_of : (test : Process ℕ → Bool) (slots : List (Slot ℕ)) → list_any (passes_running test) slots ≡ false
    → (slot : ℕ) (p : Process ℕ) → (slice_index_or slots slot empty_slot).process ≡ Some p → (is_running p && test p) ≡ false
none_of test [] none slot p at = absurd (let never : None ≡ Some p = at in cc)
none_of test (s ∷ slots) none zero p at =
    sym (ap (holds (λ q. is_running q && test q)) at) ∙ (or_none (passes_running test s) (list_any (passes_running test) slots) none).0
none_of test (s ∷ slots) none (suc slot) p at = none_of test slots (or_none (passes_running test s) (list_any (passes_running test) slots) none).1 slot p at

pub gone_kept : (old new : List (Option NodeAt)) (node m : ℕ) → new ≡ with_node old node None → m ≢ node → IsKeptAt old new m
gone_kept old new node m gone apart = subst (λ ns. IsKeptAt old ns m) (sym gone) (other_kept old node m None apart)

not_root : (old : List (Option NodeAt)) (node n : ℕ) → path_of old node ≢ [] → path_of old n ≡ [] → n ≢ node
not_root old node n below root = λ same. below (ap (path_of old) (sym same) ∙ root)

pub directories_left : (old new : List (Option NodeAt)) (processes : Processes ℕ) (node : ℕ) → new ≡ with_node old node None → path_of old node ≢ []
    → any_running (λ p. p.directory == node) processes ≡ false → FitDirectories old processes → AreDirectoriesKept old new processes
directories_left old new processes node gone below none fit = λ slot p at.
    gone_kept old new node p.directory gone
    (by_case slot p at (is_running p) refl (none_of (λ q. q.directory == node) processes.slots none slot p at))
  where
    by_case : (slot : ℕ) (p : Process ℕ) → process_at processes slot ≡ Some p → (b : Bool) → is_running p ≡ b → (b && (p.directory == node)) ≡ false
        → p.directory ≢ node
    by_case slot p at true runs free = λ same. absurd (let never : true ≡ false = sym (eq-eqb p.directory node same) ∙ free in cc)
    by_case slot p at false ended free = not_root old node p.directory below (ap (path_of old) (fit.zombies slot p at ended) ∙ fit.root.path)

pub gone_directories : (old new : List (Option NodeAt)) (processes : Processes ℕ) (node : ℕ) → new ≡ with_node old node None → path_of old node ≢ []
    → any_running (λ p. p.directory == node) processes ≡ false → FitDirectories old processes → FitDirectories new processes
gone_directories old new processes node gone below none fit =
    directories_fit old new processes (directories_left old new processes node gone below none fit)
    (gone_kept old new node 0 gone (not_root old node 0 below fit.root.path)) fit

file_no_dir : (k : Kind) → is_file k ≡ true → is_dir k ≡ true → ⊥
file_no_dir kind.File f d = absurd (let never : false ≡ true = d in cc)
file_no_dir kind.Dir f d = absurd (let never : false ≡ true = f in cc)
file_no_dir (kind.Line n) f d = absurd (let never : false ≡ true = f in cc)
file_no_dir kind.Tty f d = absurd (let never : false ≡ true = f in cc)

pub not_both : (o : Option NodeRecord) → is_file_record o ≡ true → is_dir_record o ≡ true → ⊥
not_both None f d = absurd (let never : false ≡ true = d in cc)
not_both (Some r) f d = file_no_dir r.kind f d

pub files_left : (old new : List (Option NodeAt)) (d : Shared Open) (node : ℕ) → new ≡ with_node old node None → is_dir_record (record_of old node) ≡ true
    → FitFiles old d → AreFilesKept old new d
files_left old new d node gone dir fit = λ entry number f at target.
    gone_kept old new node number gone
    (λ same. not_both (record_of old node) (ap (λ n. is_file_record (record_of old n)) (sym same) ∙ fit.live entry number f at target) dir)

pub gone_files : (old new : List (Option NodeAt)) (d : Shared Open) (node : ℕ) → new ≡ with_node old node None → is_dir_record (record_of old node) ≡ true
    → FitFiles old d → FitFiles new d
gone_files old new d node gone dir fit = files_fit old new d (files_left old new d node gone dir fit) fit

-- a node that is no line goes
pub gone_tree : (old new : List (Option NodeAt)) (node : ℕ) → new ≡ with_node old node None
    → nodes_from new ≡ with_node_at (nodes_from old) (path_of old node) None → IsThere old node
    → ((line : ℕ) → kind_of (record_of old node) ≡ Some (kind.Line line) → ⊥) → FitTree old → FitTree new
gone_tree old new node gone map there other fit =
    lines_fit old new (path_of old node) None map (λ line is. absurd (other line (ap kind_of there ∙ is)))
    (subst (λ ns. (n line : ℕ) → kind_of (record_of ns n) ≡ Some (kind.Line line) → kind_of (record_of old n) ≡ Some (kind.Line line)) (sym gone)
    (no_line old node None (λ line is. absurd (let never : None ≡ Some (kind.Line line) = is in cc))))
    fit

pub dir_no_line : (o : Option NodeRecord) → is_dir_record o ≡ true → (line : ℕ) → kind_of o ≡ Some (kind.Line line) → ⊥
dir_no_line None dir line is = absurd (let never : false ≡ true = dir in cc)
dir_no_line (Some r) dir line is =
    let same : r.kind ≡ kind.Line line = (let both : Some r.kind ≡ Some (kind.Line line) = is in cc) in
    absurd (let never : false ≡ true = sym (ap is_dir same) ∙ dir in cc)
