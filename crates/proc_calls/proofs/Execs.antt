-- The program in a file, and the row of execve(2).
use Rattle.std.proofs.Common.{◌≡◌, ℕ, zero, suc, ◌+◌, ◌<◌, ◌≤◌, Bool, true, false, cond, not, List, [], ◌∷◌, ◌++◌, length, take, drop, get_or, Option, Some, None, option_map}
use Rattle.std.proofs.Common.{refl, sym, ap, ap₂, ◌∙◌, subst, arith}
use Rattle.std.specs.Prelude.{◌==◌, ◌&&◌, is_none, unwrap_or, find, filter, codes}
use Rattle.std.specs.List.{range_with_len}
use Rattle.std.specs.Str.{bytes_eq}
use Rattle.std.proofs.lemmas.List.{length-append}
use Rattle.label_core.specs.declared.subject.Subject.{Subject}
use Rattle.acl_core.specs.declared.cred.Cred.{Cred}
use Rattle.sys_types.specs.declared.image.Image.{Image}
use Rattle.sys_types.specs.declared.image.Image.TheVariants as image
use Rattle.sys_types.specs.declared.rules.Rule.{Rule}
use Rattle.sys_types.specs.declared.rules.Rule.TheVariants.{NotFile, Image as Unknown}
use Rattle.sys_types.specs.Images.{images, image_name}
use Rattle.tree_model.specs.Contents.{bytes_at}
use Rattle.tree_model.specs.Numbers.{is_file_record}
use Rattle.tree_model.specs.Paths.{path_at, access_rule}
use Rattle.tree_model.specs.Standard.{image_text}
use Rattle.tree_model.specs.Tree.{NodeAt, NodeRecord, at_path, nodes_from}
use Rattle.vnode_tree.specs.Nodes.{path_of, record_of}
use Rattle.vnode_tree.specs.Resolve.{LeadsToNode, end_from, node_rule_from}
use Rattle.proc_table.specs.Processes.{Process, running_at}
use Rattle.fd_table.specs.declared.open.Descriptor.{Descriptor}
use Rattle.fd_table.specs.Shared.{Table, descriptor_at, is_on_exec}
use Rattle.call_words.specs.declared.event.Decision.{Decision}
use Rattle.call_words.specs.declared.event.Decision.TheVariants.{Answer}
use Rattle.call_words.specs.declared.event.Reply.TheVariants as Reply
use Rattle.sys_types.specs.declared.limits.TheConstants.{DESCRIPTORS}
use Rattle.proc_table.specs.Changes.{exec_process}
use Rattle.proc_calls.specs.declared.closing.Numbers.TheVariants.{OnExec}
use Rattle.proc_calls.specs.CloseNumbers.{is_one_of, numbers_from}
use Rattle.proc_calls.specs.Programs.{exec_checks, IsProgram}
use Rattle.proc_calls.proofs.Changes.{decides}
use Rattle.system_model.specs.State.{View}
use Rattle.system_model.specs.ProcessEffects.{set_process}
use Rattle.system_model.specs.Effects.{on_processes, change, change_all}
use Rattle.system_model.specs.Looks.{caller_of, end_of, node_at, node_check}
use Rattle.system_model.specs.Parts.{Path}
use Rattle.system_model.specs.ProcCalls.{image_in, image_of, is_plain_file, program_at, exec_at, exec_row, is_marked, close_fds, close_marked}
use Rattle.system_model.specs.Rows.{refused, first, deny, deny_by, answer_of, Does}
use Rattle.system_model.specs.Tables.{Tables, view_of}
use Rattle.system_model.proofs.NodeRows.{node_rule_in, node_check_seen, end_of_seen, node_at_seen}
use Rattle.system_model.proofs.RowLemmas.{stops, passes, goes_on}
use Rattle.system_model.proofs.SeenProcesses.{caller_seen}

-- ---- the program of which a file holds the text

name-length : (i : Image) → length (image_name i) ≤ 7
name-length image.Init = omega arith
name-length image.Getty = omega arith
name-length image.Login = omega arith
name-length image.Sh = omega arith
name-length image.Cat = omega arith
name-length image.Echo = omega arith
name-length image.Ls = omega arith
name-length image.Getfacl = omega arith
name-length image.Getfmac = omega arith
name-length image.Stty = omega arith
name-length image.Tty = omega arith
name-length image.Ps = omega arith
name-length image.Id = omega arith
name-length image.Mkdir = omega arith
name-length image.Rm = omega arith
name-length image.Chmod = omega arith
name-length image.Chown = omega arith
name-length image.Setfacl = omega arith
name-length image.Setfmac = omega arith
name-length image.Kill = omega arith
name-length image.Revoke = omega arith
name-length image.Halt = omega arith

text-length : (i : Image) → length (image_text i) < 512
text-length i =
    let name = name-length i in
    let front = length-append (codes "image ") (image_name i) in
    let all = length-append (codes "image " ++ image_name i) (codes "\n") in
    omega (arith, name, front, all)

-- a short text is what bytes are where it is what their front is
front-eq : (text bytes : List ℕ) (k : ℕ) → length text < k → bytes_eq text (take k bytes) ≡ bytes_eq text bytes
front-eq [] [] zero below = refl
front-eq [] [] (suc k) below = refl
front-eq [] (b ∷ bytes) zero below = absurd (omega (arith, below))
front-eq [] (b ∷ bytes) (suc k) below = refl
front-eq (x ∷ text) [] zero below = refl
front-eq (x ∷ text) [] (suc k) below = refl
front-eq (x ∷ text) (b ∷ bytes) zero below = absurd (omega (arith, below))
front-eq (x ∷ text) (b ∷ bytes) (suc k) below = ap (λ same. (x == b) && same) (front-eq text bytes k (omega (arith, below)))

find-same : (test also : Image → Bool) → ((i : Image) → test i ≡ also i) → (known : List Image) → find test known ≡ find also known
find-same test also same [] = refl
find-same test also same (i ∷ known) = ap₂ (λ b (rest : Option Image). cond b (Some i) rest) (same i) (find-same test also same known)

find-next : (test : Image → Bool) (known : List Image) (i : ℕ) (d : Image) → i < length known → test (get_or known i d) ≡ false
    → find test (drop (suc i) known) ≡ find test (drop i known)
find-next test [] i d below is = absurd (omega (arith, below))
find-next test (k ∷ known) zero d below is = ap (λ b. cond b (Some k) (find test known)) (sym is)
find-next test (k ∷ known) (suc i) d below is = find-next test known i d (omega (arith, below)) is

-- not this one
pub next_program : (bytes : List ℕ) (known : List Image) (i : ℕ) (d : Image) → i < length known → bytes_eq (image_text (get_or known i d)) bytes ≡ false
    → find (λ k. bytes_eq (image_text k) bytes) (drop (i + 1) known) ≡ find (λ k. bytes_eq (image_text k) bytes) (drop i known)
next_program bytes known i d below is =
    let next : i + 1 ≡ suc i = omega arith in
    ap (λ n. find (λ k. bytes_eq (image_text k) bytes) (drop n known)) next ∙ find-next (λ k. bytes_eq (image_text k) bytes) known i d below is

image-front : (contents : List ℕ) → image_in images (bytes_at 0 512 contents) ≡ image_in images contents
image-front contents =
    find-same (λ i. bytes_eq (image_text i) (take 512 contents)) (λ i. bytes_eq (image_text i) contents)
    (λ i. front-eq (image_text i) contents 512 (text-length i)) images

pub image_read : (what : Option NodeRecord) (bytes : List ℕ) → option_map (λ r. bytes_at 0 512 r.contents) what ≡ Some bytes → image_in images bytes ≡ image_of what
image_read None bytes is = absurd cc
image_read (Some what) bytes is =
    let read : bytes_at 0 512 what.contents ≡ bytes = cc in
    ap (image_in images) (sym read) ∙ image-front what.contents

-- ---- the checks

pub plain_is : (what : Option NodeRecord) → is_plain_file what ≡ is_file_record what
plain_is None = refl
plain_is (Some what) = refl

-- the path is denied
pub path_refused : (t : Tables) (slot : ℕ) (p : Process ℕ) (path args : List ℕ) (rule : Rule) → running_at t.processes slot ≡ Some p
    → node_rule_in t p path ≡ Some rule → first (exec_row (view_of t) slot path args).checks ≡ Some (refused rule, [])
path_refused t slot p path args rule is denied =
    stops (node_check (view_of t) slot path) (exec_at (view_of t) slot args (path_at (end_of (view_of t) slot path))).checks (refused rule, [])
    (node_check_seen t slot p path is ∙ ap deny_by denied)

-- a process asks for the program in the node that a path leads to
pub record Finds (t : Tables) (nodes : List (Option NodeAt)) (slot : ℕ) (who : Process ℕ) (path : List ℕ) (node : ℕ) : Type 0 where
  pub nodes_are : t.nodes ≡ nodes
  pub runs : running_at t.processes slot ≡ Some who
  pub leads : LeadsToNode nodes who.cred who.label who.directory path node
  pub there : record_of nodes node ≡ at_path (nodes_from nodes) (path_of nodes node)

place-of : (t : Tables) (nodes : List (Option NodeAt)) (slot : ℕ) (who : Process ℕ) (path : List ℕ) (node : ℕ) → Finds t nodes slot who path node
    → path_at (end_of (view_of t) slot path) ≡ path_of nodes node
place-of t nodes slot who path node f =
    ap path_at (end_of_seen t slot who path f.runs)
    ∙ subst (λ ns. path_at (end_from ns who.directory path) ≡ path_of nodes node) (sym f.nodes_are) f.leads.ends

what-there : (t : Tables) (nodes : List (Option NodeAt)) (slot : ℕ) (who : Process ℕ) (path : List ℕ) (node : ℕ) → Finds t nodes slot who path node
    → node_at (view_of t) (path_at (end_of (view_of t) slot path)) ≡ record_of nodes node
what-there t nodes slot who path node f =
    ap (node_at (view_of t)) (place-of t nodes slot who path node f)
    ∙ node_at_seen t (path_of nodes node)
    ∙ ap (λ ns. at_path (nodes_from ns) (path_of nodes node)) f.nodes_are
    ∙ sym f.there

pub node_checks : (t : Tables) (nodes : List (Option NodeAt)) (slot : ℕ) (who : Process ℕ) (path args : List ℕ) (node : ℕ) → Finds t nodes slot who path node
    → first (exec_row (view_of t) slot path args).checks ≡ first (exec_checks who.cred who.label (record_of nodes node))
node_checks t nodes slot who path args node f =
    passes (node_check (view_of t) slot path) (exec_at (view_of t) slot args (path_at (end_of (view_of t) slot path))).checks
    (node_check_seen t slot who path f.runs
    ∙ ap deny_by (subst (λ ns. node_rule_from ns who.cred who.label who.directory path ≡ None) (sym f.nodes_are) f.leads.allowed))
    ∙ ap (λ (p : Process Path). first (exec_checks p.cred p.label (node_at (view_of t) (path_at (end_of (view_of t) slot path))))) (caller_seen t slot who f.runs)
    ∙ ap (λ what. first (exec_checks who.cred who.label what)) (what-there t nodes slot who path node f)

pub program_there : (t : Tables) (nodes : List (Option NodeAt)) (slot : ℕ) (who : Process ℕ) (path : List ℕ) (node : ℕ) (i : Image)
    → Finds t nodes slot who path node → image_of (record_of nodes node) ≡ Some i
    → program_at (view_of t) (path_at (end_of (view_of t) slot path)) ≡ i
program_there t nodes slot who path node i f is =
    ap (λ what. unwrap_or (image_of what) image.Init) (what-there t nodes slot who path node f)
    ∙ ap (λ o. unwrap_or o image.Init) is

-- what the checks come to, one after the other
pub checked : (cred : Cred) (label : Subject) (what : Option NodeRecord) (plain : Bool) (access : Option Rule) (none : Bool)
    → is_plain_file what ≡ plain → access_rule cred label what false false true ≡ access → is_none (image_of what) ≡ none
    → first (exec_checks cred label what)
    ≡ first (deny (not plain) NotFile ∷ deny_by access
    ∷ deny none Unknown ∷ [])
checked cred label what plain access none is_plain is_access is_image =
    ap (λ b. first (deny (not b) NotFile ∷ deny_by (access_rule cred label what false false true) ∷ deny (is_none (image_of what)) Unknown ∷ [])) is_plain
    ∙ ap (λ o. first (deny (not plain) NotFile ∷ deny_by o ∷ deny (is_none (image_of what)) Unknown ∷ [])) is_access
    ∙ ap (λ b. first (deny (not plain) NotFile ∷ deny_by access ∷ deny b Unknown ∷ [])) is_image

-- ---- what it does

marked-is : (o : Option Descriptor) → is_one_of OnExec o ≡ is_on_exec o
marked-is None = refl
marked-is (Some d) = refl

all-marked : (table : Table) (slot : ℕ) (fds : List ℕ)
    → filter (λ fd. is_one_of OnExec (descriptor_at table slot fd)) fds ≡ filter (is_marked table slot) fds
all-marked table slot [] = refl
all-marked table slot (fd ∷ fds) = ap₂ (λ b (rest : List ℕ). cond b (fd ∷ rest) rest) (marked-is (descriptor_at table slot fd)) (all-marked table slot fds)

marked-seen : (t : Tables) (slot : ℕ)
    → close_fds slot (numbers_from OnExec t.descriptors.table slot 0 DESCRIPTORS) ≡ close_marked (view_of t) slot
unfolding view_of
marked-seen t slot = ap (close_fds slot) (all-marked t.descriptors.table slot (range_with_len 0 DESCRIPTORS))

-- the process has the program, and its marked numbers are closed
pub exec_does : (t : Tables) (mid new : View) (slot : ℕ) (path args : List ℕ) (i : Image) (d : Decision) → IsProgram (view_of t) slot path args i
    → d ≡ Answer (Reply.Image i args)
    → mid ≡ change (view_of t) (on_processes (set_process slot (exec_process (caller_of (view_of t) slot) i args)))
    → new ≡ change_all mid (close_fds slot (numbers_from OnExec t.descriptors.table slot 0 DESCRIPTORS))
    → Does (view_of t) new d (exec_row (view_of t) slot path args)
exec_does t mid new slot path args i d found answer first then =
    let place = path_at (end_of (view_of t) slot path) in
    let row = exec_row (view_of t) slot path args in
    decides (view_of t) new (answer_of row.answer) d row (answer ∙ ap (λ k. Answer (Reply.Image k args)) (sym found.program))
    (goes_on (view_of t) new row found.allowed
    (then
    ∙ ap₂ change_all first (marked-seen t slot)
    ∙ ap (λ k. change_all (view_of t) (on_processes (set_process slot (exec_process (caller_of (view_of t) slot) k args)) ∷ close_marked (view_of t) slot))
    (sym found.program)))
