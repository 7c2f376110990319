-- The same for what calls of a process read and change: a working directory may be seen as something else, before a change or after it.
use Rattle.std.proofs.Common.{◌≡◌, ℕ, Bool, true, false, cond, not, ◌&&◌, ◌||◌, List, [], ◌∷◌, ◌++◌, suc, map, length, Option, Some, None, option_map, option_and_then}
use Rattle.std.proofs.Common.{eqb, refl, ap, ap₂, ◌∙◌}
use Rattle.std.specs.Prelude.{◌^◌, is_none, is_some, filter, codes, Result, bit_xor}
use Rattle.std.specs.Fmt.{decimal}
use Rattle.sys_types.specs.Images.{image_name}
use Rattle.sys_types.specs.Signals.{sig_number}
use Rattle.call_words.specs.declared.call.Call.{Call}
use Rattle.sys_types.specs.declared.sig.Sig.{Sig}
use Rattle.sys_types.specs.declared.sig.Sig.TheVariants as sig
use Rattle.sys_types.specs.declared.rules.Rule.{Rule}
use Rattle.sys_types.specs.declared.image.Image.{Image}
use Rattle.label_core.specs.declared.subject.Subject.{Subject}
use Rattle.acl_core.specs.declared.cred.Cred.{Cred}
use Rattle.call_words.specs.declared.event.How.{How}
use Rattle.call_words.specs.declared.signal.Action.{Action}
use Rattle.call_words.specs.declared.signal.To.{To}
use Rattle.call_words.specs.declared.signal.To.TheVariants as to
use Rattle.proc_table.specs.declared.proc.TheConstants.{INIT}
use Rattle.proc_table.specs.Processes.{Process, Processes, action_of, is_running, is_stopped, is_caught, drop_caught, running_by_pid}
use Rattle.proc_table.specs.Processes.{change_process, processes, running, map_process, map_processes}
use Rattle.proc_table.specs.Posts.{Posted}
use Rattle.proc_table.specs.Endings.{bury, bury_in}
use Rattle.proc_table.specs.Reaping.{reap}
use Rattle.proc_table.specs.Background.{is_ignore, may_not_stop}
use Rattle.proc_table.specs.Changes.{begin, with_cred, with_label, with_umask, with_directory, with_group, lead_session, exec_process, act_on}
use Rattle.proc_table.specs.Jobs.{is_target, setpgid_target, is_no_group}
use Rattle.proc_table.specs.Kills.{is_seen, processes_seen, kill_rule, is_named_and_seen, targets, receivers, kill_refusal, pids_to_signal, post_to, post_to_each}
use Rattle.proc_table.specs.Listing.{state_word, process_text}
use Rattle.proc_table.proofs.ListLemmas.{fold-commutes}
use Rattle.proc_table.proofs.MapLemmas.{map_entry, map_posted, pending_at-map, has_member_in-map, is_orphaned-map, running_by_pid-map}
use Rattle.proc_table.proofs.MapLemmas.{processes-map, running-map, change_process-map, post-map, bury-map, reap-map}

-- Changes of a process.

pub begin-map : {D E : Type 0} (f : D → E) (t : Processes D) (slot : ℕ)
    → change_process begin (map_processes f t) slot ≡ map_processes f (change_process begin t slot)
begin-map f t slot = change_process-map f begin begin (λ p. refl) t slot

pub with_cred-map : {D E : Type 0} (f : D → E) (cred : Cred) (t : Processes D) (slot : ℕ)
    → change_process (with_cred cred) (map_processes f t) slot ≡ map_processes f (change_process (with_cred cred) t slot)
with_cred-map f cred t slot = change_process-map f (with_cred cred) (with_cred cred) (λ p. refl) t slot

pub with_label-map : {D E : Type 0} (f : D → E) (label : Subject) (t : Processes D) (slot : ℕ)
    → change_process (with_label label) (map_processes f t) slot ≡ map_processes f (change_process (with_label label) t slot)
with_label-map f label t slot = change_process-map f (with_label label) (with_label label) (λ p. refl) t slot

pub with_umask-map : {D E : Type 0} (f : D → E) (umask : ℕ) (t : Processes D) (slot : ℕ)
    → change_process (with_umask umask) (map_processes f t) slot ≡ map_processes f (change_process (with_umask umask) t slot)
with_umask-map f umask t slot = change_process-map f (with_umask umask) (with_umask umask) (λ p. refl) t slot

pub with_directory-map : {D E : Type 0} (f : D → E) (directory : D) (t : Processes D) (slot : ℕ)
    → change_process (with_directory (f directory)) (map_processes f t) slot ≡ map_processes f (change_process (with_directory directory) t slot)
with_directory-map f directory t slot = change_process-map f (with_directory directory) (with_directory (f directory)) (λ p. refl) t slot

pub with_group-map : {D E : Type 0} (f : D → E) (group : ℕ) (t : Processes D) (slot : ℕ)
    → change_process (with_group group) (map_processes f t) slot ≡ map_processes f (change_process (with_group group) t slot)
with_group-map f group t slot = change_process-map f (with_group group) (with_group group) (λ p. refl) t slot

pub lead_session-map : {D E : Type 0} (f : D → E) (t : Processes D) (slot : ℕ)
    → change_process lead_session (map_processes f t) slot ≡ map_processes f (change_process lead_session t slot)
lead_session-map f t slot = change_process-map f lead_session lead_session (λ p. refl) t slot

pub exec_process-map : {D E : Type 0} (f : D → E) (program : Image) (args : List ℕ) (t : Processes D) (slot : ℕ)
    → change_process (λ p. exec_process p program args) (map_processes f t) slot ≡ map_processes f (change_process (λ p. exec_process p program args) t slot)
exec_process-map f program args t slot = change_process-map f (λ p. exec_process p program args) (λ p. exec_process p program args) (λ p. refl) t slot

pub dropping-map : {D E : Type 0} (f : D → E) (signal : Sig) (p : Process D) → drop_caught signal (map_process f p) ≡ map_process f (drop_caught signal p)
dropping-map f signal p =
    let caught = bit_xor p.caught (2 ^ sig_number signal) in
    elim (is_caught signal p) as (λ b. cond b (record (map_process f p) { caught = caught }) (map_process f p)
    ≡ map_process f (cond b (record p { caught = caught }) p)) [
      | true ↦ refl
      | false ↦ refl
    ]

pub drop_caught-map : {D E : Type 0} (f : D → E) (signal : Sig) (t : Processes D) (slot : ℕ)
    → change_process (drop_caught signal) (map_processes f t) slot ≡ map_processes f (change_process (drop_caught signal) t slot)
drop_caught-map f signal t slot = change_process-map f (drop_caught signal) (drop_caught signal) (dropping-map f signal) t slot

pub act_on-map : {D E : Type 0} (f : D → E) (signal : Sig) (action : Action) (t : Processes D) (slot : ℕ)
    → change_process (act_on signal action) (map_processes f t) slot ≡ map_processes f (change_process (act_on signal action) t slot)
act_on-map f signal action t slot = change_process-map f (act_on signal action) (act_on signal action) (λ p. dropping-map f signal _) t slot

pub bury_in-map : {D E : Type 0} (f : D → E) (root : D) (t : Processes D) (slot : ℕ) (why : How) (ending : List (ℕ × How))
    → bury_in (f root) (map_processes f t) slot why ending ≡ map_posted f (bury_in root t slot why ending)
bury_in-map f root t slot why ending =
    ap (λ u. bury u slot why ending) (with_directory-map f root t slot) ∙ bury-map f (change_process (with_directory root) t slot) slot why ending

-- What a wait would learn.

pub child_news-map : {D E : Type 0} (f : D → E) (t : Processes D) (caller who : ℕ) (untraced : Bool)
    → (reap (map_processes f t) caller who untraced).1 ≡ (reap t caller who untraced).1
child_news-map {D} {E} f t caller who untraced = ap (λ (done : Processes E × Result (Option (ℕ × How)) Rule). done.1) (reap-map f t caller who untraced)

-- The background of a terminal.

pub may_not_stop-map : {D E : Type 0} (f : D → E) (t : Processes D) (p : Process D) → may_not_stop (map_processes f t) (map_process f p) ≡ may_not_stop t p
may_not_stop-map f t p = ap (λ orphaned. is_ignore (action_of p.actions sig.TTIN) || orphaned || eqb p.pid INIT) (is_orphaned-map f t p.group)

-- Groups.

target-option : {D E : Type 0} (f : D → E) (who : Process D) (o : Option (Process D))
    → option_and_then (λ p. cond (is_target (map_process f who) p) (Some p) None) (option_map (map_process f) o)
    ≡ option_map (map_process f) (option_and_then (λ p. cond (is_target who p) (Some p) None) o)
target-option f who None = refl
target-option {D} {E} f who (Some p) =
    elim (is_target who p) as (λ b. cond b (Some (map_process f p)) None ≡ option_map (map_process f) (cond b (Some p) None)) [
      | true ↦ refl
      | false ↦ refl
    ]

pub setpgid_target-map : {D E : Type 0} (f : D → E) (t : Processes D) (who : Process D) (pid : ℕ)
    → setpgid_target (map_processes f t) (map_process f who) pid ≡ option_map (map_process f) (setpgid_target t who pid)
setpgid_target-map {D} {E} f t who pid =
    ap (option_and_then (λ (p : Process E). cond (is_target (map_process f who) p) (Some p) None))
    (running_by_pid-map f t (cond (eqb pid 0) who.pid pid))
    ∙ target-option f who (running_by_pid t (cond (eqb pid 0) who.pid pid))

pub is_no_group-map : {D E : Type 0} (f : D → E) (t : Processes D) (target : Process D) (group : ℕ)
    → is_no_group (map_processes f t) (map_process f target) group ≡ is_no_group t target group
is_no_group-map f t target group = ap (λ has. not (eqb group target.pid) && not has) (has_member_in-map f t group target.session)

-- Kills.

filter-seen : {A B : Type 0} (g : A → B) (test : B → Bool) (also : A → Bool) → ((x : A) → test (g x) ≡ also x) → (xs : List A)
    → filter test (map g xs) ≡ map g (filter also xs)
filter-seen g test also same [] = refl
filter-seen {A} {B} g test also same (x ∷ xs) =
    ap₂ (λ b (rest : List B). cond b (g x ∷ rest) rest) (same x) (filter-seen g test also same xs)
    ∙ elim (also x) as (λ b. cond b (g x ∷ map g (filter also xs)) (map g (filter also xs)) ≡ map g (cond b (x ∷ filter also xs) (filter also xs))) [
      | true ↦ refl
      | false ↦ refl
    ]

whos-map : {D E : Type 0} (f : D → E) (entries : List (ℕ × Process D))
    → map (λ (e : ℕ × Process E). e.1) (map (map_entry f) entries) ≡ map (map_process f) (map (λ (e : ℕ × Process D). e.1) entries)
whos-map f [] = refl
whos-map f (entry ∷ entries) = ap (λ rest. map_process f entry.1 ∷ rest) (whos-map f entries)

named-map : {D E : Type 0} (f : D → E) (who : Process D) (whom : To) (p : Process D)
    → is_named_and_seen (map_process f who) whom (map_process f p) ≡ is_named_and_seen who whom p
named-map f who (to.Pid pid) p = refl
named-map f who (to.Group group) p = refl

pub processes_seen-map : {D E : Type 0} (f : D → E) (t : Processes D) (who : Process D)
    → processes_seen (map_processes f t) (map_process f who) ≡ map (map_entry f) (processes_seen t who)
processes_seen-map {D} {E} f t who =
    ap (filter (λ (entry : ℕ × Process E). is_seen (map_process f who) entry.1)) (processes-map f t)
    ∙ filter-seen (map_entry f) (λ (entry : ℕ × Process E). is_seen (map_process f who) entry.1) (λ (entry : ℕ × Process D). is_seen who entry.1)
    (λ entry. refl) (processes t)

pub targets-map : {D E : Type 0} (f : D → E) (t : Processes D) (who : Process D) (whom : To)
    → targets (map_processes f t) (map_process f who) whom ≡ map (map_process f) (targets t who whom)
targets-map {D} {E} f t who whom =
    ap (λ (entries : List (ℕ × Process E)). filter (is_named_and_seen (map_process f who) whom) (map (λ (e : ℕ × Process E). e.1) entries)) (running-map f t)
    ∙ ap (filter (is_named_and_seen (map_process f who) whom)) (whos-map f (running t))
    ∙ filter-seen (map_process f) (is_named_and_seen (map_process f who) whom) (is_named_and_seen who whom) (named-map f who whom)
    (map (λ (e : ℕ × Process D). e.1) (running t))

pub receivers-among : {D E : Type 0} (f : D → E) (who : Process D) (seen : List (Process D))
    → receivers (map_process f who) (map (map_process f) seen) ≡ map (map_process f) (receivers who seen)
receivers-among {D} {E} f who seen =
    filter-seen (map_process f) (λ (p : Process E). is_none (kill_rule (map_process f who) p)) (λ (p : Process D). is_none (kill_rule who p)) (λ p. refl) seen

map-length : {A B : Type 0} (g : A → B) (xs : List A) → length (map g xs) ≡ length xs
map-length g [] = refl
map-length g (x ∷ xs) = ap (λ n. suc n) (map-length g xs)

refusal-seen : {D E : Type 0} (f : D → E) (who : Process D) (seen : List (Process D))
    → kill_refusal (map_process f who) (map (map_process f) seen) ≡ kill_refusal who seen
refusal-seen f who [] = refl
refusal-seen f who (p ∷ more) =
    ap (λ n. cond (eqb n 0) (kill_rule who p) None)
    (ap length (receivers-among f who (p ∷ more)) ∙ map-length (map_process f) (receivers who (p ∷ more)))

pub kill_refusal-map : {D E : Type 0} (f : D → E) (t : Processes D) (who : Process D) (whom : To)
    → kill_refusal (map_process f who) (targets (map_processes f t) (map_process f who) whom) ≡ kill_refusal who (targets t who whom)
kill_refusal-map f t who whom = ap (kill_refusal (map_process f who)) (targets-map f t who whom) ∙ refusal-seen f who (targets t who whom)

pids-map : {D E : Type 0} (f : D → E) (ps : List (Process D)) → map (λ (p : Process E). p.pid) (map (map_process f) ps) ≡ map (λ (p : Process D). p.pid) ps
pids-map f [] = refl
pids-map f (p ∷ ps) = ap (λ rest. p.pid ∷ rest) (pids-map f ps)

pub pids_to_signal-map : {D E : Type 0} (f : D → E) (t : Processes D) (who : Process D) (whom : To)
    → pids_to_signal (map_processes f t) (map_process f who) whom ≡ pids_to_signal t who whom
pids_to_signal-map {D} {E} f t who whom =
    ap (λ seen. map (λ (p : Process E). p.pid) (receivers (map_process f who) seen)) (targets-map f t who whom)
    ∙ ap (map (λ (p : Process E). p.pid)) (receivers-among f who (targets t who whom))
    ∙ pids-map f (receivers who (targets t who whom))

pub post_to_each-map : {D E : Type 0} (f : D → E) (signal : Sig) (pids : List ℕ) (posted : Posted D)
    → post_to_each signal pids (map_posted f posted) ≡ map_posted f (post_to_each signal pids posted)
post_to_each-map f signal pids posted =
    fold-commutes (map_posted f) (post_to signal) (post_to signal) (λ posted pid. post-map f posted.table signal (to.Pid pid) posted.ending) posted pids

-- ps(1).

pub state_word-map : {D E : Type 0} (f : D → E) (t : Processes D) (entry : ℕ × Process D)
    → state_word (map_processes f t) (map_entry f entry) ≡ state_word t entry
state_word-map f t entry =
    ap (λ (pending : Option Call). cond (not (is_running entry.1)) (codes "zombie")
    (cond (is_stopped entry.1) (codes "stop") (cond (is_some pending) (codes "sleep") (codes "run")))) (pending_at-map f t entry.0)

pub process_text-map : {D E : Type 0} (f : D → E) (t : Processes D) (entry : ℕ × Process D)
    → process_text (map_processes f t) (map_entry f entry) ≡ process_text t entry
process_text-map f t entry =
    ap (λ word. decimal entry.1.pid ++ codes ":" ++ decimal entry.1.parent ++ codes ":" ++ decimal entry.1.group ++ codes ":" ++ decimal entry.1.session
    ++ codes ":" ++ decimal entry.1.cred.uid ++ codes ":" ++ word ++ codes ":" ++ image_name entry.1.image) (state_word-map f t entry)
