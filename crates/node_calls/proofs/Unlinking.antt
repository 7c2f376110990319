-- The checks of unlink: what kind the node is of, and whether an open file is of it.
use Rattle.std.proofs.Common.{◌≡◌, ◌≢◌, ◌⊎◌, inl, inr, ℕ, zero, suc, ◌+◌, Bool, true, false, not, ◌||◌}
use Rattle.std.proofs.Common.{cond, List, [], ◌∷◌, map, Option, Some, None, option_map, refl, sym, ap, ◌∙◌, arith}
use Rattle.std.specs.Prelude.{◌==◌, count_by}
use Rattle.std.specs.List.{list_any}
use Rattle.std.proofs.lemmas.Bool.{cases_eq, ne_eqb, eqb-true, eq-eqb}
use Rattle.std.proofs.lemmas.Bool.Decides.{nat_tests}
use Rattle.std.proofs.lemmas.List.Sums.{sum_by-cons}
use Rattle.sys_types.specs.declared.node.Kind.{Kind}
use Rattle.sys_types.specs.declared.node.Kind.TheVariants as kind
use Rattle.sys_types.specs.declared.rules.Rule.{Rule}
use Rattle.sys_types.specs.declared.rules.Rule.TheVariants.{IsDir, Device, LabelWrite, InUse}
use Rattle.fd_table.specs.declared.open.Open.{Open}
use Rattle.fd_table.specs.declared.open.Target.{Target}
use Rattle.fd_table.specs.declared.open.Target.TheVariants.{File as FileOf, PipeRead, PipeWrite, Line}
use Rattle.fd_table.specs.Opens.{is_of, same_target}
use Rattle.fd_table.specs.Shared.{Shared, entry_at, holds, count_files}
use Rattle.proc_table.specs.Processes.{Process, Processes}
use Rattle.tree_model.specs.Tree.{NodeRecord, is_dir, is_dir_record, is_file}
use Rattle.tree_model.specs.Numbers.{is_file_record}
use Rattle.vnode_tree.specs.Nodes.{NodeAt, IsLive, ChangesAt, path_of, record_of, with_node}
use Rattle.tty_dev.specs.Table.{counts_of}
use Rattle.system_model.specs.Parts.{Path}
use Rattle.system_model.specs.State.{OpenFile, View}
use Rattle.system_model.specs.DirCalls.{is_device, is_device_kind, is_of_node, is_open}
use Rattle.system_model.specs.Looks.{caller_of, same_path, access_check, node_at, node_dominates}
use Rattle.system_model.specs.Rows.{Check, refused, first, deny}
use Rattle.system_model.specs.Tables.{Tables, generations, seen_target, seen_open, seen_entries, view_of}
use Rattle.system_model.specs.Fit.{FitFiles, FitDirectories, kind_of}
use Rattle.system_model.proofs.NodeFits.{AreFilesKept, AreDirectoriesKept, files_fit, directories_fit}
use Rattle.node_calls.specs.Removals.{kind_rule}
use Rattle.node_calls.proofs.Making.{file-live}
use Rattle.node_calls.proofs.NodeAsked.{Asks, IsThere, what_seen}
use Rattle.node_calls.proofs.Removing.{taken, same_itself, apart_paths, alone, gone_kept, not_both, or_more, or_none}

-- ---- its kind

by-kind : (k : Kind) (rest : List (Option Check)) → first (deny (is_dir k) IsDir ∷ deny (is_device_kind k) Device ∷ rest) ≡ taken (kind_rule k) rest
by-kind kind.File rest = refl
by-kind kind.Dir rest = refl
by-kind (kind.Line n) rest = refl
by-kind kind.Tty rest = refl

kind-checks : (o : Option NodeRecord) (k : Kind) (rest : List (Option Check)) → option_map (λ r. r.kind) o ≡ Some k
    → first (deny (is_dir_record o) IsDir ∷ deny (is_device o) Device ∷ rest) ≡ taken (kind_rule k) rest
kind-checks None k rest is = absurd (let never : None ≡ Some k = is in cc)
kind-checks (Some r) k rest is =
    let same : r.kind ≡ k = (let both : Some r.kind ≡ Some k = is in cc) in
    by-kind r.kind rest ∙ ap (λ x. taken (kind_rule x) rest) same

pub kind_seen : {t : Tables} {nodes : List (Option NodeAt)} {slot : ℕ} {who : Process ℕ} {path : List ℕ} {node : ℕ} → Asks t nodes slot who path node
    → (k : Kind) (rule : Option Rule) (rest : List (Option Check)) → IsThere nodes node → option_map (λ r. r.kind) (record_of nodes node) ≡ Some k
    → rule ≡ kind_rule k
    → first (deny (is_dir_record (node_at (view_of t) (path_of nodes node))) IsDir ∷ deny (is_device (node_at (view_of t) (path_of nodes node))) Device ∷ rest)
    ≡ taken rule rest
kind_seen {t} {nodes} {slot} {who} {path} {node} a k rule rest there is ruled =
    ap (λ o. first (deny (is_dir_record o) IsDir ∷ deny (is_device o) Device ∷ rest)) (what_seen a node there)
    ∙ kind-checks (record_of nodes node) k rest is
    ∙ ap (λ r. taken r rest) (sym ruled)

-- the checks behind it
abbrev pub rights_checks : View → ℕ → Path → Path → List (Option Check) → List (Option Check)
rights_checks v slot above place rest =
    access_check v slot above false true false ∷ deny (not (node_dominates (caller_of v slot) (node_at v place))) LabelWrite ∷ rest

abbrev pub open_check : View → Path → List (Option Check)
open_check v place = deny (is_open v place) InUse ∷ []

pub open_first : (v : View) (place : Path) → is_open v place ≡ true → first (open_check v place) ≡ Some (refused InUse, [])
open_first v place used = rw used refl

pub shut_first : (v : View) (place : Path) → is_open v place ≡ false → first (open_check v place) ≡ None
shut_first v place shut = rw shut refl

file-kind : (k : Kind) → None ≡ kind_rule k → is_file k ≡ true
file-kind kind.File is = refl
file-kind kind.Dir is = absurd (let never : None ≡ Some IsDir = is in cc)
file-kind (kind.Line n) is = absurd (let never : None ≡ Some Device = is in cc)
file-kind kind.Tty is = absurd (let never : None ≡ Some Device = is in cc)

-- what may be unlinked is a regular file
pub plain_file : (o : Option NodeRecord) (k : Kind) → option_map (λ r. r.kind) o ≡ Some k → None ≡ kind_rule k → is_file_record o ≡ true
plain_file None k is ruled = absurd (let never : None ≡ Some k = is in cc)
plain_file (Some r) k is ruled =
    let same : r.kind ≡ k = (let both : Some r.kind ≡ Some k = is in cc) in
    ap is_file same ∙ file-kind k ruled

pub file_no_line : (o : Option NodeRecord) → is_file_record o ≡ true → (line : ℕ) → kind_of o ≡ Some (kind.Line line) → ⊥
file_no_line None file line is = absurd (let never : false ≡ true = file in cc)
file_no_line (Some r) file line is =
    let same : r.kind ≡ kind.Line line = (let both : Some r.kind ≡ Some (kind.Line line) = is in cc) in
    absurd (let never : false ≡ true = sym (ap is_file same) ∙ file in cc)

-- ---- open files of it

some-one : (n : ℕ) → not (1 + n == 0) ≡ true
some-one n = grind (arith, nat_tests)

by-test : (b rest : Bool) (n : ℕ) → not (n == 0) ≡ rest → not (cond b 1 0 + n == 0) ≡ (b || rest)
by-test true rest n is = some-one n
by-test false rest n is = let same : 0 + n ≡ n = omega arith in ap (λ m. not (m == 0)) same ∙ is

count-any : {X : Type 0} (test : X → Bool) (xs : List X) → not (count_by test xs == 0) ≡ list_any test xs
count-any test [] = refl
count-any {X} test (x ∷ xs) =
    ap (λ n. not (n == 0)) (sum_by-cons (λ (y : X). cond (test y) 1 0) x xs)
    ∙ by-test (test x) (list_any test xs) (count_by test xs) (count-any test xs)

seen-same : (nodes : List (Option NodeAt)) (revokes : List ℕ) (place : Path) (o : Option Open)
    → holds (λ (f : OpenFile). is_of_node place f.file.target) (option_map (seen_open nodes revokes) o)
    ≡ holds (λ (f : Open). is_of_node place (seen_target nodes f.target)) o
seen-same nodes revokes place None = refl
seen-same nodes revokes place (Some f) = refl

entries-seen : (nodes : List (Option NodeAt)) (revokes : List ℕ) (place : Path) (files : List (Option Open))
    → list_any (holds (λ (f : OpenFile). is_of_node place f.file.target)) (map (option_map (seen_open nodes revokes)) files)
    ≡ list_any (holds (λ (f : Open). is_of_node place (seen_target nodes f.target))) files
entries-seen nodes revokes place [] = refl
entries-seen nodes revokes place (o ∷ files) =
    ap (λ b. b || list_any (holds (λ (f : OpenFile). is_of_node place f.file.target)) (map (option_map (seen_open nodes revokes)) files))
    (seen-same nodes revokes place o)
    ∙ ap (λ b. holds (λ (f : Open). is_of_node place (seen_target nodes f.target)) o || b) (entries-seen nodes revokes place files)

open-seen : (t : Tables) (place : Path)
    → is_open (view_of t) place ≡ list_any (holds (λ (f : Open). is_of_node place (seen_target t.nodes f.target))) t.descriptors.files
unfolding view_of seen_entries
open-seen t place = entries-seen t.nodes (generations (counts_of t.lines)) place t.descriptors.files

opens-as : (t : Tables) (nodes : List (Option NodeAt)) (d : Shared Open) (place : Path) → t.nodes ≡ nodes → t.descriptors ≡ d
    → is_open (view_of t) place ≡ list_any (holds (λ (f : Open). is_of_node place (seen_target nodes f.target))) d.files
opens-as t nodes d place same same_files =
    open-seen t place
    ∙ ap (λ ns. list_any (holds (λ (f : Open). is_of_node place (seen_target ns f.target))) t.descriptors.files) same
    ∙ ap (λ (x : Shared Open). list_any (holds (λ (f : Open). is_of_node place (seen_target nodes f.target))) x.files) same_files

holds-more : (test other : Open → Bool) → ((f : Open) → test f ≡ true → other f ≡ true) → (o : Option Open) → holds test o ≡ true → holds other o ≡ true
holds-more test other more None e = e
holds-more test other more (Some f) e = more f e

any-more : (test other : Open → Bool) → ((f : Open) → test f ≡ true → other f ≡ true) → (files : List (Option Open))
    → list_any (holds test) files ≡ true → list_any (holds other) files ≡ true
any-more test other more [] e = e
any-more test other more (o ∷ files) e =
    or_more (holds test o) (holds other o) (list_any (holds test) files) (list_any (holds other) files) (holds-more test other more o)
    (any-more test other more files) e

holds-same : (test other : Open → Bool) (o : Option Open) → ((f : Open) → o ≡ Some f → test f ≡ other f) → holds test o ≡ holds other o
holds-same test other None same = refl
holds-same test other (Some f) same = same f refl

any-same : (test other : Open → Bool) (files : List (Option Open)) → ((entry : ℕ) (f : Open) → entry_at files entry ≡ Some f → test f ≡ other f)
    → list_any (holds test) files ≡ list_any (holds other) files
any-same test other [] same = refl
any-same test other (o ∷ files) same =
    ap (λ b. b || list_any (holds test) files) (holds-same test other o (λ f. same zero f))
    ∙ ap (λ b. holds other o || b) (any-same test other files (λ entry f. same (suc entry) f))

none-of : (test : Open → Bool) (files : List (Option Open)) → list_any (holds test) files ≡ false
    → (entry : ℕ) (f : Open) → entry_at files entry ≡ Some f → test f ≡ false
none-of test [] none entry f at = absurd (let never : None ≡ Some f = at in cc)
none-of test (o ∷ files) none zero f at = sym (ap (holds test) at) ∙ (or_none (holds test o) (list_any (holds test) files) none).0
none-of test (o ∷ files) none (suc entry) f at = none-of test files (or_none (holds test o) (list_any (holds test) files) none).1 entry f at

is-at : (nodes : List (Option NodeAt)) (node : ℕ) (target : Target) → same_target target (FileOf node) ≡ true
    → is_of_node (path_of nodes node) (seen_target nodes target) ≡ true
is-at nodes node (FileOf n) is = ap (λ m. same_path (path_of nodes node) (path_of nodes m)) (eqb-true n node is) ∙ same_itself (path_of nodes node)
is-at nodes node (PipeRead k) is = absurd (let never : false ≡ true = is in cc)
is-at nodes node (PipeWrite k) is = absurd (let never : false ≡ true = is in cc)
is-at nodes node (Line line opened) is = absurd (let never : false ≡ true = is in cc)

-- an open file is of the node
pub open_there : (t : Tables) (nodes : List (Option NodeAt)) (d : Shared Open) (node : ℕ) → t.nodes ≡ nodes → t.descriptors ≡ d
    → true ≡ not (count_files (is_of (FileOf node)) d == 0) → is_open (view_of t) (path_of nodes node) ≡ true
open_there t nodes d node same same_files some =
    opens-as t nodes d (path_of nodes node) same same_files
    ∙ any-more (is_of (FileOf node)) (λ f. is_of_node (path_of nodes node) (seen_target nodes f.target)) (λ f. is-at nodes node f.target) d.files
    (sym (count-any (holds (is_of (FileOf node))) d.files) ∙ sym some)

same-at : (nodes : List (Option NodeAt)) (node : ℕ) (target : Target)
    → ((n : ℕ) → target ≡ FileOf n → same_path (path_of nodes node) (path_of nodes n) ≡ (n == node))
    → is_of_node (path_of nodes node) (seen_target nodes target) ≡ same_target target (FileOf node)
same-at nodes node (FileOf n) same = same n refl
same-at nodes node (PipeRead k) same = refl
same-at nodes node (PipeWrite k) same = refl
same-at nodes node (Line line opened) same = refl

-- none is
pub shut_there : (t : Tables) (nodes new : List (Option NodeAt)) (d : Shared Open) (node : ℕ) → t.nodes ≡ nodes → t.descriptors ≡ d
    → new ≡ with_node nodes node None → ChangesAt (path_of nodes node) None nodes new → FitFiles nodes d
    → false ≡ not (count_files (is_of (FileOf node)) d == 0) → is_open (view_of t) (path_of nodes node) ≡ false
shut_there t nodes new d node same same_files gone changes fit none =
    opens-as t nodes d (path_of nodes node) same same_files
    ∙ any-same (λ f. is_of_node (path_of nodes node) (seen_target nodes f.target)) (is_of (FileOf node)) d.files
    (λ entry f at. same-at nodes node f.target (λ n target. by_number n (file-live nodes n (fit.live entry n f at target)) (cases_eq n node)))
    ∙ sym (count-any (holds (is_of (FileOf node))) d.files) ∙ sym none
  where
    by_number : (n : ℕ) → IsLive nodes n → (n ≡ node) ⊎ (n ≢ node) → same_path (path_of nodes node) (path_of nodes n) ≡ (n == node)
    by_number n live (inl here) = ap (λ m. same_path (path_of nodes node) (path_of nodes m)) here ∙ same_itself (path_of nodes node) ∙ sym (eq-eqb n node here)
    by_number n live (inr apart) =
        apart_paths (path_of nodes node) (path_of nodes n) (alone nodes new node n gone changes live apart) ∙ sym (ne_eqb n node apart)

-- ---- the tables fit still

pub files_stay : (old new : List (Option NodeAt)) (d : Shared Open) (node : ℕ) → new ≡ with_node old node None
    → false ≡ not (count_files (is_of (FileOf node)) d == 0) → AreFilesKept old new d
files_stay old new d node gone none = λ entry number f at target.
    gone_kept old new node number gone
    (λ same.
    let free : same_target f.target (FileOf node) ≡ false =
    none-of (is_of (FileOf node)) d.files (sym (count-any (holds (is_of (FileOf node))) d.files) ∙ sym none) entry f at in
    absurd (let never : true ≡ false = sym (eq-eqb number node same) ∙ sym (ap (λ x. same_target x (FileOf node)) target) ∙ free in cc))

pub unlinked_files : (old new : List (Option NodeAt)) (d : Shared Open) (node : ℕ) → new ≡ with_node old node None
    → false ≡ not (count_files (is_of (FileOf node)) d == 0) → FitFiles old d → FitFiles new d
unlinked_files old new d node gone none fit = files_fit old new d (files_stay old new d node gone none) fit

no_file : (old : List (Option NodeAt)) (node n : ℕ) → is_file_record (record_of old node) ≡ true → is_dir_record (record_of old n) ≡ true → n ≢ node
no_file old node n file dir = λ same. not_both (record_of old node) file (ap (λ m. is_dir_record (record_of old m)) (sym same) ∙ dir)

pub directories_stay : (old new : List (Option NodeAt)) (processes : Processes ℕ) (node : ℕ) → new ≡ with_node old node None
    → is_file_record (record_of old node) ≡ true → FitDirectories old processes → AreDirectoriesKept old new processes
directories_stay old new processes node gone file fit = λ slot p at.
    gone_kept old new node p.directory gone (no_file old node p.directory file (fit.live slot p at))

pub unlinked_directories : (old new : List (Option NodeAt)) (processes : Processes ℕ) (node : ℕ) → new ≡ with_node old node None
    → is_file_record (record_of old node) ≡ true → FitDirectories old processes → FitDirectories new processes
unlinked_directories old new processes node gone file fit =
    directories_fit old new processes (directories_stay old new processes node gone file fit)
    (gone_kept old new node 0 gone (no_file old node 0 file fit.root.directory)) fit
