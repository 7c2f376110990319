-- What a working directory is named by may be seen as something else, before a change or after it: each operation and each look has one lemma, which
-- serves the state of a machine and what calls see of it, and what calls see and what a kernel keeps.
use Rattle.std.proofs.Common.{◌≡◌, ℕ, ◌+◌, Bool, true, false, cond, not, ◌&&◌, List, [], ◌∷◌, map, length, Option, Some, None, option_map, option_and_then, Ok}
use Rattle.std.proofs.Common.{Err, eqb, refl, sym, ap, ap₂, ◌∙◌}
use Rattle.std.specs.Prelude.{is_none, fold, filter, filter_map, slice_get, nat_lt}
use Rattle.std.specs.List.{list_any, range_with_len, cons_option}
use Rattle.std.proofs.lemmas.List.{length-map, map-set}
use Rattle.sys_types.specs.declared.rules.Rule.TheVariants as rule
use Rattle.sys_types.specs.declared.sig.Sig.{Sig}
use Rattle.sys_types.specs.declared.sig.Sig.TheVariants as sig
use Rattle.call_words.specs.declared.call.Call.{Call}
use Rattle.call_words.specs.declared.event.How.{How}
use Rattle.call_words.specs.declared.event.How.TheVariants as how
use Rattle.call_words.specs.declared.signal.Action.TheVariants as action
use Rattle.call_words.specs.declared.signal.To.{To}
use Rattle.call_words.specs.declared.signal.To.TheVariants as to
use Rattle.proc_table.specs.declared.post.Disposition.{Disposition}
use Rattle.proc_table.specs.declared.post.Disposition.TheVariants as disposition
use Rattle.proc_table.specs.Processes.{Process, Slot, Processes, action_of, is_running, is_stopped, empty_slot, slot_at, process_at, running_of, running_at}
use Rattle.proc_table.specs.Processes.{pending_at, is_left, put_slot, put_process, change_process, set_pending, tell, remove, holds, slot_of, running_by_pid}
use Rattle.proc_table.specs.Processes.{any_running, has_member, has_member_in, has_parent_near, is_orphaned, pid_of, insert_by_pid, slots_by_pid, with_process}
use Rattle.proc_table.specs.Processes.{processes, running, add_caught, at_boot, map_process, map_slot, map_processes}
use Rattle.proc_table.specs.Forks.{may_begin, is_free, child_of, lowest_slot, put_child, fork_into, fork}
use Rattle.proc_table.specs.Posts.{Posted, by_action, is_fixed, unless_init, disposition_of, continue, continue_at, catches_child, catch_child, post_child}
use Rattle.proc_table.specs.Posts.{stop, dispose, post_if_running, post_at, post_all, is_to, receivers, post}
use Rattle.proc_table.specs.Endings.{adopt, adopt_in, adopt_all, is_by_signal, end, end_in, end_process, end_at, stopped_group, insert_group, stopped_groups}
use Rattle.proc_table.specs.Endings.{has_stopped, groups_orphaned_by, hang_up, bury}
use Rattle.proc_table.specs.Reaping.{is_child, is_zombie_child, is_stopped_child, least, AfterWait, reap_ended, reap_zombie, report, report_signal, report_stop}
use Rattle.proc_table.specs.Reaping.{report_or_none, reap_or_report, reap_by, reap}
use Rattle.proc_table.proofs.ListLemmas.{get_or-seen, any-seen, filter-same, position-seen, fold-same, fold-commutes, fold-seen}

-- Looks.

pub slot_at-map : {D E : Type 0} (f : D → E) (t : Processes D) (slot : ℕ) → slot_at (map_processes f t) slot ≡ map_slot f (slot_at t slot)
slot_at-map f t slot = get_or-seen (map_slot f) t.slots slot empty_slot

pub process_at-map : {D E : Type 0} (f : D → E) (t : Processes D) (slot : ℕ)
    → process_at (map_processes f t) slot ≡ option_map (map_process f) (process_at t slot)
process_at-map f t slot = ap (λ (s : Slot _). s.process) (slot_at-map f t slot)

running_of-map : {D E : Type 0} (f : D → E) (p : Process D) → running_of (map_process f p) ≡ option_map (map_process f) (running_of p)
running_of-map f p =
    elim (is_running p) as (λ b. cond b (Some (map_process f p)) None ≡ option_map (map_process f) (cond b (Some p) None)) [
      | true ↦ refl
      | false ↦ refl
    ]

running-option : {D E : Type 0} (f : D → E) (o : Option (Process D))
    → option_and_then running_of (option_map (map_process f) o) ≡ option_map (map_process f) (option_and_then running_of o)
running-option f None = refl
running-option f (Some p) = running_of-map f p

pub running_at-map : {D E : Type 0} (f : D → E) (t : Processes D) (slot : ℕ)
    → running_at (map_processes f t) slot ≡ option_map (map_process f) (running_at t slot)
running_at-map f t slot = ap (option_and_then running_of) (process_at-map f t slot) ∙ running-option f (process_at t slot)

pub pending_at-map : {D E : Type 0} (f : D → E) (t : Processes D) (slot : ℕ) → pending_at (map_processes f t) slot ≡ pending_at t slot
pending_at-map f t slot = ap (λ (s : Slot _). s.pending) (slot_at-map f t slot)

pub is_left-map : {D E : Type 0} (f : D → E) (t : Processes D) (slot : ℕ) → is_left (map_processes f t) slot ≡ is_left t slot
is_left-map f t slot = ap (λ (s : Slot _). s.left) (slot_at-map f t slot)

pub holds-map : {D E : Type 0} (f : D → E) (test : Process E → Bool) (o : Option (Process D))
    → holds test (option_map (map_process f) o) ≡ holds (λ p. test (map_process f p)) o
holds-map f test None = refl
holds-map f test (Some p) = refl

holds-same : {D : Type 0} (test also : Process D → Bool) → ((p : Process D) → test p ≡ also p) → (o : Option (Process D)) → holds test o ≡ holds also o
holds-same test also same None = refl
holds-same test also same (Some p) = same p

pub slot_of-map : {D E : Type 0} (f : D → E) (t : Processes D) (pid : ℕ) → slot_of (map_processes f t) pid ≡ slot_of t pid
slot_of-map {D} {E} f t pid = position-seen (map_slot f) _ _ (λ (s : Slot D). holds-map f (λ p. eqb p.pid pid) s.process) t.slots

pub running_by_pid-map : {D E : Type 0} (f : D → E) (t : Processes D) (pid : ℕ)
    → running_by_pid (map_processes f t) pid ≡ option_map (map_process f) (running_by_pid t pid)
running_by_pid-map f t pid = ap (option_and_then (running_at (map_processes f t))) (slot_of-map f t pid) ∙ found f t (slot_of t pid)
  where
    found : {D E : Type 0} (f : D → E) (t : Processes D) (o : Option ℕ) → option_and_then (running_at (map_processes f t)) o ≡ option_map (map_process f)
        (option_and_then (running_at t) o)
    found f t None = refl
    found f t (Some slot) = running_at-map f t slot

-- a test of running processes, which passes what is seen where another passes what is there
any_running-as : {D E : Type 0} (f : D → E) (test : Process E → Bool) (also : Process D → Bool) → ((p : Process D) → test (map_process f p) ≡ also p)
    → (t : Processes D) → any_running test (map_processes f t) ≡ any_running also t
any_running-as {D} {E} f test also same t =
    any-seen (map_slot f) _ _
    (λ (s : Slot D).
    holds-map f (λ p. is_running p && test p) s.process
    ∙ holds-same (λ p. is_running p && test (map_process f p)) (λ p. is_running p && also p) (λ p. ap (λ b. is_running p && b) (same p)) s.process)
    t.slots

pub any_running-map : {D E : Type 0} (f : D → E) (test : Process E → Bool) (t : Processes D)
    → any_running test (map_processes f t) ≡ any_running (λ p. test (map_process f p)) t
any_running-map f test t = any_running-as f test (λ p. test (map_process f p)) (λ p. refl) t

pub has_member-map : {D E : Type 0} (f : D → E) (t : Processes D) (group : ℕ) → has_member (map_processes f t) group ≡ has_member t group
has_member-map f t group = any_running-map f (λ p. eqb p.group group) t

pub has_member_in-map : {D E : Type 0} (f : D → E) (t : Processes D) (group session : ℕ)
    → has_member_in (map_processes f t) group session ≡ has_member_in t group session
has_member_in-map f t group session = any_running-map f (λ p. eqb p.group group && eqb p.session session) t

has_parent_near-map : {D E : Type 0} (f : D → E) (t : Processes D) (p : Process D) → has_parent_near (map_processes f t) (map_process f p) ≡ has_parent_near t p
has_parent_near-map {D} {E} f t p =
    ap (holds (λ (parent : Process E). eqb parent.session p.session && not (eqb parent.group p.group))) (running_by_pid-map f t p.parent)
    ∙ holds-map f (λ parent. eqb parent.session p.session && not (eqb parent.group p.group)) (running_by_pid t p.parent)

pub is_orphaned-map : {D E : Type 0} (f : D → E) (t : Processes D) (group : ℕ) → is_orphaned (map_processes f t) group ≡ is_orphaned t group
is_orphaned-map f t group =
    ap not (any_running-as f (λ p. eqb p.group group && has_parent_near (map_processes f t) p) (λ p. eqb p.group group && has_parent_near t p)
    (λ p. ap (λ b. eqb p.group group && b) (has_parent_near-map f t p)) t)

pid_of-map : {D E : Type 0} (f : D → E) (o : Option (Process D)) → pid_of (option_map (map_process f) o) ≡ pid_of o
pid_of-map f None = refl
pid_of-map f (Some p) = refl

pid_at-map : {D E : Type 0} (f : D → E) (t : Processes D) (slot : ℕ) → pid_of (process_at (map_processes f t) slot) ≡ pid_of (process_at t slot)
pid_at-map f t slot = ap pid_of (process_at-map f t slot) ∙ pid_of-map f (process_at t slot)

insert_by_pid-map : {D E : Type 0} (f : D → E) (t : Processes D) (slot : ℕ) (slots : List ℕ)
    → insert_by_pid (map_processes f t) slot slots ≡ insert_by_pid t slot slots
insert_by_pid-map f t slot [] = refl
insert_by_pid-map f t slot (other ∷ others) =
    ap₂ (λ a b. cond (nat_lt a b) (slot ∷ other ∷ others) (other ∷ insert_by_pid (map_processes f t) slot others)) (pid_at-map f t slot) (pid_at-map f t other)
    ∙ ap (λ rest. cond (nat_lt (pid_of (process_at t slot)) (pid_of (process_at t other))) (slot ∷ other ∷ others) (other ∷ rest))
    (insert_by_pid-map f t slot others)

pub slots_by_pid-map : {D E : Type 0} (f : D → E) (test : Process E → Bool) (t : Processes D)
    → slots_by_pid test (map_processes f t) ≡ slots_by_pid (λ p. test (map_process f p)) t
slots_by_pid-map {D} {E} f test t =
    ap (λ n. fold (λ slots slot. insert_by_pid (map_processes f t) slot slots) []
    (filter (λ slot. holds test (process_at (map_processes f t) slot)) (range_with_len 0 n)))
    (length-map t.slots (map_slot f))
    ∙ ap (fold (λ slots slot. insert_by_pid (map_processes f t) slot slots) [])
    (filter-same (λ slot. holds test (process_at (map_processes f t) slot)) (λ slot. holds (λ p. test (map_process f p)) (process_at t slot))
    (λ slot. ap (holds test) (process_at-map f t slot) ∙ holds-map f test (process_at t slot)) (range_with_len 0 (length t.slots)))
    ∙ fold-same (λ slots slot. insert_by_pid (map_processes f t) slot slots) (λ slots slot. insert_by_pid t slot slots)
    (λ slots slot. insert_by_pid-map f t slot slots) [] (filter (λ slot. holds (λ p. test (map_process f p)) (process_at t slot))
    (range_with_len 0 (length t.slots)))

-- a process with its slot
abbrev pub map_entry : {D E : Type 0} → (D → E) → ℕ × Process D → ℕ × Process E
map_entry f entry = (entry.0, map_process f entry.1)

with_option : {D E : Type 0} (f : D → E) (slot : ℕ) (o : Option (Process D))
    → option_map (λ (p : Process E). (slot, p)) (option_map (map_process f) o) ≡ option_map (map_entry f) (option_map (λ (p : Process D). (slot, p)) o)
with_option f slot None = refl
with_option f slot (Some p) = refl

with_process-map : {D E : Type 0} (f : D → E) (t : Processes D) (slot : ℕ)
    → with_process (map_processes f t) slot ≡ option_map (map_entry f) (with_process t slot)
with_process-map {D} {E} f t slot = ap (option_map (λ (p : Process E). (slot, p))) (process_at-map f t slot) ∙ with_option f slot (process_at t slot)

entries-cons : {D E : Type 0} (f : D → E) (o : Option (ℕ × Process D)) (rest : List (ℕ × Process D))
    → cons_option (option_map (map_entry f) o) (map (map_entry f) rest) ≡ map (map_entry f) (cons_option o rest)
entries-cons f None rest = refl
entries-cons f (Some entry) rest = refl

entries-map : {D E : Type 0} (f : D → E) (t : Processes D) (slots : List ℕ)
    → filter_map (with_process (map_processes f t)) slots ≡ map (map_entry f) (filter_map (with_process t) slots)
entries-map f t [] = refl
entries-map f t (slot ∷ slots) =
    ap₂ cons_option (with_process-map f t slot) (entries-map f t slots) ∙ entries-cons f (with_process t slot) (filter_map (with_process t) slots)

pub processes-map : {D E : Type 0} (f : D → E) (t : Processes D) → processes (map_processes f t) ≡ map (map_entry f) (processes t)
processes-map f t =
    ap (filter_map (with_process (map_processes f t))) (slots_by_pid-map f (λ p. true) t) ∙ entries-map f t (slots_by_pid (λ p. true) t)

pub running-map : {D E : Type 0} (f : D → E) (t : Processes D) → running (map_processes f t) ≡ map (map_entry f) (running t)
running-map f t =
    ap (filter_map (with_process (map_processes f t))) (slots_by_pid-map f is_running t) ∙ entries-map f t (slots_by_pid is_running t)

-- Changes.

pub put_slot-map : {D E : Type 0} (f : D → E) (t : Processes D) (slot : ℕ) (s : Slot D)
    → put_slot (map_processes f t) slot (map_slot f s) ≡ map_processes f (put_slot t slot s)
put_slot-map {D} {E} f t slot s = ap (λ (slots : List (Slot E)). record { slots = slots; next_pid = t.next_pid }) (sym (map-set (map_slot f) t.slots slot s))

-- a change of a slot, which is seen as another change
change_slot-map : {D E : Type 0} (f : D → E) (how : Slot D → Slot D) (also : Slot E → Slot E) → ((s : Slot D) → also (map_slot f s) ≡ map_slot f (how s))
    → (t : Processes D) (slot : ℕ) → put_slot (map_processes f t) slot (also (slot_at (map_processes f t) slot))
    ≡ map_processes f (put_slot t slot (how (slot_at t slot)))
change_slot-map f how also same t slot =
    ap (λ s. put_slot (map_processes f t) slot (also s)) (slot_at-map f t slot)
    ∙ ap (put_slot (map_processes f t) slot) (same (slot_at t slot))
    ∙ put_slot-map f t slot (how (slot_at t slot))

pub put_process-map : {D E : Type 0} (f : D → E) (t : Processes D) (slot : ℕ) (p : Process D)
    → put_process (map_processes f t) slot (map_process f p) ≡ map_processes f (put_process t slot p)
put_process-map {D} {E} f t slot p = change_slot-map f (λ (s : Slot D). record s { process = Some p })
    (λ (s : Slot E). record s { process = Some (map_process f p) }) (λ s. refl) t slot

pub set_pending-map : {D E : Type 0} (f : D → E) (t : Processes D) (slot : ℕ) (call : Option Call)
    → set_pending (map_processes f t) slot call ≡ map_processes f (set_pending t slot call)
set_pending-map {D} {E} f t slot call = change_slot-map f (λ (s : Slot D). record s { pending = call }) (λ (s : Slot E). record s { pending = call })
    (λ s. refl) t slot

pub tell-map : {D E : Type 0} (f : D → E) (t : Processes D) (slot : ℕ) → tell (map_processes f t) slot ≡ map_processes f (tell t slot)
tell-map {D} {E} f t slot = change_slot-map f (λ (s : Slot D). record s { left = false }) (λ (s : Slot E). record s { left = false }) (λ s. refl) t slot

pub remove-map : {D E : Type 0} (f : D → E) (t : Processes D) (slot : ℕ) → remove (map_processes f t) slot ≡ map_processes f (remove t slot)
remove-map {D} {E} f t slot = change_slot-map f (λ (s : Slot D). record s { process = None }) (λ (s : Slot E). record s { process = None }) (λ s. refl) t slot

option-change : {D E : Type 0} (f : D → E) (how : Process D → Process D) (also : Process E → Process E)
    → ((p : Process D) → also (map_process f p) ≡ map_process f (how p)) → (o : Option (Process D))
    → option_map also (option_map (map_process f) o) ≡ option_map (map_process f) (option_map how o)
option-change f how also same None = refl
option-change f how also same (Some p) = ap Some (same p)

-- a change of a slot's process, which is seen as another change
pub change_process-map : {D E : Type 0} (f : D → E) (how : Process D → Process D) (also : Process E → Process E)
    → ((p : Process D) → also (map_process f p) ≡ map_process f (how p)) → (t : Processes D) (slot : ℕ)
    → change_process also (map_processes f t) slot ≡ map_processes f (change_process how t slot)
change_process-map {D} {E} f how also same t slot =
    change_slot-map f (λ (s : Slot D). record s { process = option_map how s.process }) (λ (s : Slot E). record s { process = option_map also s.process })
    (λ s. ap (λ (o : Option (Process E)). record { process = o; pending = s.pending; left = s.left }) (option-change f how also same s.process)) t slot

-- Forks.

is_free-map : {D E : Type 0} (f : D → E) (s : Slot D) → is_free (map_slot f s) ≡ is_free s
is_free-map f s = elim s.process as (λ o. (is_none (option_map (map_process f) o) && may_begin s.pending && not s.left)
    ≡ (is_none o && may_begin s.pending && not s.left)) [
      | None ↦ refl
      | Some p ↦ refl
    ]

pub lowest_slot-map : {D E : Type 0} (f : D → E) (t : Processes D) → lowest_slot (map_processes f t) ≡ lowest_slot t
lowest_slot-map f t = position-seen (map_slot f) is_free is_free (is_free-map f) t.slots

put_child-map : {D E : Type 0} (f : D → E) (t : Processes D) (slot : ℕ) (note : List ℕ) (parent : Option (Process D))
    → put_child (map_processes f t) slot note (option_map (map_process f) parent) ≡ map_processes f (put_child t slot note parent)
put_child-map f t slot note None = refl
put_child-map {D} {E} f t slot note (Some parent) =
    ap (λ (u : Processes E). record u { next_pid = t.next_pid + 1 }) (put_process-map f t slot (child_of parent t.next_pid note))

fork_into-map : {D E : Type 0} (f : D → E) (t : Processes D) (slot : ℕ) (note : List ℕ) (free : Option ℕ)
    → fork_into (map_processes f t) slot note free ≡ map_processes f (fork_into t slot note free)
fork_into-map f t slot note None = refl
fork_into-map f t slot note (Some free) =
    ap (put_child (map_processes f t) free note) (running_at-map f t slot) ∙ put_child-map f t free note (running_at t slot)

pub fork-map : {D E : Type 0} (f : D → E) (t : Processes D) (slot : ℕ) (note : List ℕ) → fork (map_processes f t) slot note ≡ map_processes f (fork t slot note)
fork-map f t slot note = ap (fork_into (map_processes f t) slot note) (lowest_slot-map f t) ∙ fork_into-map f t slot note (lowest_slot t)

-- Posts.

abbrev pub map_posted : {D E : Type 0} → (D → E) → Posted D → Posted E
map_posted f posted = record { table = map_processes f posted.table; ending = posted.ending }

pub disposition_of-map : {D E : Type 0} (f : D → E) (t : Processes D) (p : Process D) (signal : Sig)
    → disposition_of (map_processes f t) (map_process f p) signal ≡ disposition_of t p signal
unfolding disposition_of
disposition_of-map f t p signal =
    ap (λ orphaned. unless_init p.pid (by_action (cond (is_fixed signal) action.Normal (action_of p.actions signal)) signal orphaned))
    (is_orphaned-map f t p.group)

continue_at-map : {D E : Type 0} (f : D → E) (signal : Sig) (t : Processes D) (slot : ℕ)
    → continue_at signal (map_processes f t) slot ≡ map_processes f (continue_at signal t slot)
continue_at-map f sig.CONT t slot = change_process-map f continue continue (λ p. refl) t slot
continue_at-map f signal t slot = refl

catch_child-map : {D E : Type 0} (f : D → E) (t : Processes D) (slot : Option ℕ) → catch_child (map_processes f t) slot ≡ map_processes f (catch_child t slot)
catch_child-map f t None = refl
catch_child-map {D} {E} f t (Some slot) =
    ap (λ b. cond b (change_process (add_caught sig.CHLD) (map_processes f t) slot) (map_processes f t))
    (ap (holds catches_child) (running_at-map f t slot) ∙ holds-map f catches_child (running_at t slot))
    ∙ elim (holds catches_child (running_at t slot)) as (λ b. cond b (change_process (add_caught sig.CHLD) (map_processes f t) slot) (map_processes f t)
    ≡ map_processes f (cond b (change_process (add_caught sig.CHLD) t slot) t)) [
      | true ↦ change_process-map f (add_caught sig.CHLD) (add_caught sig.CHLD) (λ p. refl) t slot
      | false ↦ refl
    ]

pub post_child-map : {D E : Type 0} (f : D → E) (t : Processes D) (parent : ℕ) → post_child (map_processes f t) parent ≡ map_processes f (post_child t parent)
unfolding post_child
post_child-map f t parent = ap (catch_child (map_processes f t)) (slot_of-map f t parent) ∙ catch_child-map f t (slot_of t parent)

stop_at-map : {D E : Type 0} (f : D → E) (t : Processes D) (slot : ℕ) (signal : Sig) (parent : ℕ)
    → post_child (change_process (stop signal) (map_processes f t) slot) parent ≡ map_processes f (post_child (change_process (stop signal) t slot) parent)
stop_at-map f t slot signal parent =
    ap (λ u. post_child u parent) (change_process-map f (stop signal) (stop signal) (λ p. refl) t slot)
    ∙ post_child-map f (change_process (stop signal) t slot) parent

dispose-map : {D E : Type 0} (f : D → E) (what : Disposition) (signal : Sig) (slot parent : ℕ) (posted : Posted D)
    → dispose what signal slot parent (map_posted f posted) ≡ map_posted f (dispose what signal slot parent posted)
dispose-map f disposition.End signal slot parent posted = refl
dispose-map {D} {E} f disposition.Stop signal slot parent posted =
    ap (λ (u : Processes E). record { table = u; ending = posted.ending }) (stop_at-map f posted.table slot signal parent)
dispose-map {D} {E} f disposition.Catch signal slot parent posted =
    ap (λ (u : Processes E). record { table = u; ending = posted.ending })
    (change_process-map f (add_caught signal) (add_caught signal) (λ p. refl) posted.table slot)
dispose-map f disposition.Nothing signal slot parent posted = refl

post_if_running-map : {D E : Type 0} (f : D → E) (signal : Sig) (slot : ℕ) (posted : Posted D) (o : Option (Process D))
    → post_if_running signal slot (map_posted f posted) (option_map (map_process f) o) ≡ map_posted f (post_if_running signal slot posted o)
post_if_running-map f signal slot posted None = refl
post_if_running-map {D} {E} f signal slot posted (Some p) =
    ap₂ (λ what (u : Processes E). dispose what signal slot p.parent (record { table = u; ending = posted.ending }))
    (disposition_of-map f posted.table p signal) (continue_at-map f signal posted.table slot)
    ∙ dispose-map f (disposition_of posted.table p signal) signal slot p.parent
    (record { table = continue_at signal posted.table slot; ending = posted.ending })

pub post_at-map : {D E : Type 0} (f : D → E) (signal : Sig) (posted : Posted D) (slot : ℕ)
    → post_at signal (map_posted f posted) slot ≡ map_posted f (post_at signal posted slot)
post_at-map f signal posted slot =
    ap (post_if_running signal slot (map_posted f posted)) (running_at-map f posted.table slot)
    ∙ post_if_running-map f signal slot posted (running_at posted.table slot)

pub post_all-map : {D E : Type 0} (f : D → E) (signal : Sig) (slots : List ℕ) (posted : Posted D)
    → post_all signal slots (map_posted f posted) ≡ map_posted f (post_all signal slots posted)
post_all-map f signal slots posted = fold-commutes (map_posted f) (post_at signal) (post_at signal)
    (λ before slot. post_at-map f signal before slot) posted slots

is_to-map : {D E : Type 0} (f : D → E) (whom : To) (p : Process D) → is_to whom (map_process f p) ≡ is_to whom p
is_to-map f (to.Pid pid) p = refl
is_to-map f (to.Group group) p = refl

pub receivers-map : {D E : Type 0} (f : D → E) (t : Processes D) (whom : To) → receivers (map_processes f t) whom ≡ receivers t whom
receivers-map f t (to.Pid pid) = slots_by_pid-map f (λ p. is_running p && is_to (to.Pid pid) p) t
receivers-map f t (to.Group group) = slots_by_pid-map f (λ p. is_running p && is_to (to.Group group) p) t

pub post-map : {D E : Type 0} (f : D → E) (t : Processes D) (signal : Sig) (whom : To) (ending : List (ℕ × How))
    → post (map_processes f t) signal whom ending ≡ map_posted f (post t signal whom ending)
post-map {D} {E} f t signal whom ending =
    ap (λ slots. post_all signal slots (map_posted f (record { table = t; ending = ending }))) (receivers-map f t whom)
    ∙ post_all-map f signal (receivers t whom) (record { table = t; ending = ending })

-- Endings.

adopt-map : {D E : Type 0} (f : D → E) (parent : ℕ) (p : Process D) → adopt parent (map_process f p) ≡ map_process f (adopt parent p)
adopt-map {D} {E} f parent p = elim (eqb p.parent parent) as (λ b. cond b (record (map_process f p) { parent = 1 }) (map_process f p) ≡ map_process f
    (cond b (record p { parent = 1 }) p)) [
      | true ↦ refl
      | false ↦ refl
    ]

adopt_in-map : {D E : Type 0} (f : D → E) (parent : ℕ) (s : Slot D) → adopt_in parent (map_slot f s) ≡ map_slot f (adopt_in parent s)
adopt_in-map {D} {E} f parent s =
    ap (λ (o : Option (Process E)). record { process = o; pending = s.pending; left = s.left })
    (option-change f (adopt parent) (adopt parent) (adopt-map f parent) s.process)

all-map : {D E : Type 0} (f : D → E) (parent : ℕ) (slots : List (Slot D))
    → map (adopt_in parent) (map (map_slot f) slots) ≡ map (map_slot f) (map (adopt_in parent) slots)
all-map f parent [] = refl
all-map f parent (s ∷ slots) = ap₂ (λ x xs. x ∷ xs) (adopt_in-map f parent s) (all-map f parent slots)

pub adopt_all-map : {D E : Type 0} (f : D → E) (t : Processes D) (parent : ℕ) → adopt_all (map_processes f t) parent ≡ map_processes f (adopt_all t parent)
adopt_all-map {D} {E} f t parent = ap (λ (slots : List (Slot E)). record { slots = slots; next_pid = t.next_pid }) (all-map f parent t.slots)

end_in-map : {D E : Type 0} (f : D → E) (t : Processes D) (slot : ℕ) (why : How) → end_in (map_processes f t) slot why ≡ map_processes f (end_in t slot why)
end_in-map {D} {E} f t slot why =
    change_slot-map f (λ (s : Slot D). record s { process = option_map (end why) s.process; left = is_by_signal why })
    (λ (s : Slot E). record s { process = option_map (end why) s.process; left = is_by_signal why })
    (λ s. ap (λ (o : Option (Process E)). record { process = o; pending = s.pending; left = is_by_signal why })
    (option-change f (end why) (end why) (λ p. refl) s.process)) t slot

end_process-map : {D E : Type 0} (f : D → E) (t : Processes D) (slot : ℕ) (why : How) (o : Option (Process D))
    → end_process (map_processes f t) slot why (option_map (map_process f) o) ≡ map_processes f (end_process t slot why o)
end_process-map f t slot why None = refl
end_process-map f t slot why (Some p) =
    ap (λ u. post_child (end_in u slot why) p.parent) (adopt_all-map f t p.pid)
    ∙ ap (λ u. post_child u p.parent) (end_in-map f (adopt_all t p.pid) slot why)
    ∙ post_child-map f (end_in (adopt_all t p.pid) slot why) p.parent

pub end_at-map : {D E : Type 0} (f : D → E) (t : Processes D) (slot : ℕ) (why : How) → end_at (map_processes f t) slot why ≡ map_processes f (end_at t slot why)
unfolding end_at
end_at-map f t slot why = ap (end_process (map_processes f t) slot why) (running_at-map f t slot) ∙ end_process-map f t slot why (running_at t slot)

stopped_group-map : {D E : Type 0} (f : D → E) (o : Option (Process D)) → stopped_group (option_map (map_process f) o) ≡ stopped_group o
stopped_group-map f None = refl
stopped_group-map f (Some p) = refl

stopped_groups-map : {D E : Type 0} (f : D → E) (t : Processes D) → stopped_groups (map_processes f t) ≡ stopped_groups t
stopped_groups-map {D} {E} f t =
    fold-seen (map_slot f) (λ (groups : List ℕ) (s : Slot E). insert_group groups (stopped_group s.process))
    (λ groups s. insert_group groups (stopped_group s.process))
    (λ groups s. ap (insert_group groups) (stopped_group-map f s.process)) [] t.slots

pub groups_orphaned_by-map : {D E : Type 0} (f : D → E) (t after : Processes D)
    → groups_orphaned_by (map_processes f t) (map_processes f after) ≡ groups_orphaned_by t after
unfolding groups_orphaned_by
groups_orphaned_by-map f t after =
    ap (λ groups. filter (λ group. is_orphaned (map_processes f after) group && has_stopped (map_processes f after) group)
    (filter (λ group. not (is_orphaned (map_processes f t) group)) groups))
    (stopped_groups-map f t)
    ∙ ap (filter (λ group. is_orphaned (map_processes f after) group && has_stopped (map_processes f after) group))
    (filter-same (λ group. not (is_orphaned (map_processes f t) group)) (λ group. not (is_orphaned t group)) (λ group. ap not (is_orphaned-map f t group))
    (stopped_groups t))
    ∙ filter-same (λ group. is_orphaned (map_processes f after) group && has_stopped (map_processes f after) group)
    (λ group. is_orphaned after group && has_stopped after group)
    (λ group. ap₂ (λ a b. a && b) (is_orphaned-map f after group) (any_running-map f (λ p. eqb p.group group && is_stopped p) after))
    (filter (λ group. not (is_orphaned t group)) (stopped_groups t))

hang_up-map : {D E : Type 0} (f : D → E) (posted : Posted D) (group : ℕ) → hang_up (map_posted f posted) group ≡ map_posted f (hang_up posted group)
hang_up-map f posted group =
    ap (λ after. post after.table sig.CONT (to.Group group) after.ending) (post-map f posted.table sig.HUP (to.Group group) posted.ending)
    ∙ post-map f (post posted.table sig.HUP (to.Group group) posted.ending).table sig.CONT (to.Group group)
    (post posted.table sig.HUP (to.Group group) posted.ending).ending

pub bury-map : {D E : Type 0} (f : D → E) (t : Processes D) (slot : ℕ) (why : How) (ending : List (ℕ × How))
    → bury (map_processes f t) slot why ending ≡ map_posted f (bury t slot why ending)
bury-map {D} {E} f t slot why ending =
    ap (λ (after : Processes E). fold hang_up (record { table = after; ending = ending }) (groups_orphaned_by (map_processes f t) after))
    (end_at-map f t slot why)
    ∙ ap (fold hang_up (map_posted f (record { table = end_at t slot why; ending = ending }))) (groups_orphaned_by-map f t (end_at t slot why))
    ∙ fold-commutes (map_posted f) hang_up hang_up (hang_up-map f) (record { table = end_at t slot why; ending = ending })
    (groups_orphaned_by t (end_at t slot why))

-- Waits.

abbrev pub map_after_wait : {D E : Type 0} → (D → E) → AfterWait D → AfterWait E
map_after_wait f done = (map_processes f done.0, done.1)

least-map : {D E : Type 0} (f : D → E) (test : Process E → Bool) (t : Processes D) → least test (map_processes f t) ≡ least (λ p. test (map_process f p)) t
least-map f test t = ap (λ slots. slice_get slots 0) (slots_by_pid-map f test t)

reap_ended-map : {D E : Type 0} (f : D → E) (t : Processes D) (slot : ℕ) (p : Process D) (why : Option How)
    → reap_ended (map_processes f t) slot (map_process f p) why ≡ map_after_wait f (reap_ended t slot p why)
reap_ended-map f t slot p None = refl
reap_ended-map {D} {E} f t slot p (Some why) = ap (λ (u : Processes E). (u, Ok (Some (p.pid, why)))) (remove-map f t slot)

reap_zombie-map : {D E : Type 0} (f : D → E) (t : Processes D) (slot : ℕ) (o : Option (Process D))
    → reap_zombie (map_processes f t) slot (option_map (map_process f) o) ≡ map_after_wait f (reap_zombie t slot o)
reap_zombie-map f t slot None = refl
reap_zombie-map f t slot (Some p) = reap_ended-map f t slot p p.ending

report_signal-map : {D E : Type 0} (f : D → E) (t : Processes D) (slot : ℕ) (p : Process D) (o : Option Sig)
    → report_signal (map_processes f t) slot (map_process f p) o ≡ map_after_wait f (report_signal t slot p o)
report_signal-map f t slot p None = refl
report_signal-map {D} {E} f t slot p (Some signal) = ap (λ (u : Processes E). (u, Ok (Some (p.pid, how.Stop signal))))
    (change_process-map f report report (λ q. refl) t slot)

report_stop-map : {D E : Type 0} (f : D → E) (t : Processes D) (slot : ℕ) (o : Option (Process D))
    → report_stop (map_processes f t) slot (option_map (map_process f) o) ≡ map_after_wait f (report_stop t slot o)
report_stop-map f t slot None = refl
report_stop-map f t slot (Some p) = report_signal-map f t slot p p.stopped

report_or_none-map : {D E : Type 0} (f : D → E) (t : Processes D) (o : Option ℕ) → report_or_none (map_processes f t) o ≡ map_after_wait f (report_or_none t o)
report_or_none-map f t None = refl
report_or_none-map f t (Some slot) = ap (report_stop (map_processes f t) slot) (process_at-map f t slot) ∙ report_stop-map f t slot (process_at t slot)

stops-map : {D E : Type 0} (f : D → E) (t : Processes D) (parent who : ℕ) (untraced : Bool)
    → reap_or_report (map_processes f t) parent who untraced None ≡ map_after_wait f (reap_or_report t parent who untraced None)
stops-map f t parent who true =
    ap (report_or_none (map_processes f t)) (least-map f (is_stopped_child parent who) t) ∙ report_or_none-map f t (least (is_stopped_child parent who) t)
stops-map f t parent who false = refl

reap_or_report-map : {D E : Type 0} (f : D → E) (t : Processes D) (parent who : ℕ) (untraced : Bool) (o : Option ℕ)
    → reap_or_report (map_processes f t) parent who untraced o ≡ map_after_wait f (reap_or_report t parent who untraced o)
reap_or_report-map f t parent who untraced (Some slot) = ap (reap_zombie (map_processes f t) slot) (process_at-map f t slot) ∙ reap_zombie-map f t slot
    (process_at t slot)
reap_or_report-map f t parent who untraced None = stops-map f t parent who untraced

reap_by-map : {D E : Type 0} (f : D → E) (t : Processes D) (parent who : ℕ) (untraced : Bool)
    → reap_by (map_processes f t) parent who untraced ≡ map_after_wait f (reap_by t parent who untraced)
reap_by-map {D} {E} f t parent who untraced =
    ap₂ (λ b (o : AfterWait E). cond b o (map_processes f t, Err rule.NoChild))
    (any-seen (map_slot f) _ _ (λ (s : Slot D). holds-map f (is_child parent who) s.process) t.slots)
    (ap (reap_or_report (map_processes f t) parent who untraced) (least-map f (is_zombie_child parent who) t) ∙ reap_or_report-map f t parent who untraced
    (least (is_zombie_child parent who) t))
    ∙ elim (list_any (λ s. holds (is_child parent who) s.process) t.slots) as
    (λ b. cond b (map_after_wait f (reap_or_report t parent who untraced (least (is_zombie_child parent who) t))) (map_processes f t, Err rule.NoChild)
    ≡ map_after_wait f (cond b (reap_or_report t parent who untraced (least (is_zombie_child parent who) t)) (t, Err rule.NoChild))) [
      | true ↦ refl
      | false ↦ refl
    ]

pub reap-map : {D E : Type 0} (f : D → E) (t : Processes D) (caller who : ℕ) (untraced : Bool)
    → reap (map_processes f t) caller who untraced ≡ map_after_wait f (reap t caller who untraced)
reap-map f t caller who untraced =
    ap (λ pid. reap_by (map_processes f t) pid who untraced) (pid_at-map f t caller) ∙ reap_by-map f t (pid_of (process_at t caller)) who untraced

-- The boot.

pub at_boot-map : {D E : Type 0} (f : D → E) (root : D) → at_boot (f root) ≡ map_processes f (at_boot root)
at_boot-map f root = refl

-- Seen twice is seen once.

option-twice : {D E F : Type 0} (f : D → E) (g : E → F) (o : Option (Process D))
    → option_map (map_process g) (option_map (map_process f) o) ≡ option_map (map_process (λ d. g (f d))) o
option-twice f g None = refl
option-twice f g (Some p) = refl

slots-twice : {D E F : Type 0} (f : D → E) (g : E → F) (slots : List (Slot D)) → map (map_slot g) (map (map_slot f) slots) ≡ map (map_slot (λ d. g (f d))) slots
slots-twice f g [] = refl
slots-twice {D} {E} {F} f g (s ∷ slots) =
    ap₂ (λ (o : Option (Process F)) (rest : List (Slot F)). record { process = o; pending = s.pending; left = s.left } ∷ rest) (option-twice f g s.process)
    (slots-twice f g slots)

pub map_processes-twice : {D E F : Type 0} (f : D → E) (g : E → F) (t : Processes D) → map_processes g (map_processes f t) ≡ map_processes (λ d. g (f d)) t
map_processes-twice {D} {E} {F} f g t = ap (λ (slots : List (Slot F)). record { slots = slots; next_pid = t.next_pid }) (slots-twice f g t.slots)
