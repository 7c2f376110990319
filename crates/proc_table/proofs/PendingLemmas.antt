-- What posts, ends and waits leave of a slot beside its process: the call that it waits in; and the next pid.
use Rattle.std.proofs.Common.{◌≡◌, ℕ, zero, suc, ◌+◌, ◌≤◌, Bool, true, false, cond, List, [], ◌∷◌, map, fold, get_or, set, refl, ◌∙◌, arith}
use Rattle.std.specs.Prelude.{Option, Some, None, Err}
use Rattle.std.specs.List.{list_any}
use Rattle.sys_types.specs.declared.rules.Rule.TheVariants.{NoChild}
use Rattle.sys_types.specs.declared.sig.Sig.{Sig}
use Rattle.sys_types.specs.declared.sig.Sig.TheVariants as sig
use Rattle.call_words.specs.declared.event.How.{How}
use Rattle.call_words.specs.declared.signal.To.{To}
use Rattle.call_words.specs.declared.signal.To.TheVariants as to
use Rattle.proc_table.specs.declared.post.Disposition.{Disposition}
use Rattle.proc_table.specs.declared.post.Disposition.TheVariants as disposition
use Rattle.proc_table.specs.Processes.{Process, Slot, empty_slot, Processes, running_at, put_slot, change_process, holds, pending_at}
use Rattle.proc_table.specs.Processes.{slot_of, process_at, pid_of, add_caught}
use Rattle.proc_table.specs.Forks.{lowest_slot, put_child, fork_into, fork}
use Rattle.proc_table.specs.Reaping.{AfterWait, is_child, is_zombie_child, is_stopped_child, least, reap_ended, reap_zombie, report_signal, report_stop, report_or_none}
use Rattle.proc_table.specs.Reaping.{reap_or_report, reap_by, reap}
use Rattle.proc_table.specs.Posts.{Posted, disposition_of, continue_at, catches_child, catch_child, post_child}
use Rattle.proc_table.specs.Posts.{stop, dispose, post_if_running, post_at, post_all, post, receivers}
use Rattle.proc_table.specs.Endings.{adopt_in, adopt_all, end_in, end_process, end_at, groups_orphaned_by, hang_up, bury, bury_in}
use Rattle.proc_table.specs.Changes.{with_directory}

-- each slot waits in the same call, and the next pid is the same
pub record Leaves {D : Type 0} (t after : Processes D) : Type 0 where
  pub calls : (slot : ℕ) → pending_at after slot ≡ pending_at t slot
  pub pid : after.next_pid ≡ t.next_pid

pub still : {D : Type 0} (t : Processes D) → Leaves t t
still t = record { calls = λ slot. refl; pid = refl }

pub then : {D : Type 0} {a b c : Processes D} → Leaves a b → Leaves b c → Leaves a c
then first second = record { calls = λ slot. second.calls slot ∙ first.calls slot; pid = second.pid ∙ first.pid }

call-kept : {D : Type 0} (slots : List (Slot D)) (i k : ℕ) (s : Slot D) → s.pending ≡ (get_or slots i empty_slot).pending
    → (get_or (set slots i s) k empty_slot).pending ≡ (get_or slots k empty_slot).pending
call-kept [] i k s is = refl
call-kept (x ∷ slots) zero zero s is = is
call-kept (x ∷ slots) zero (suc k) s is = refl
call-kept (x ∷ slots) (suc i) zero s is = refl
call-kept (x ∷ slots) (suc i) (suc k) s is = call-kept slots i k s is

pub put_leaves : {D : Type 0} (t : Processes D) (slot : ℕ) (s : Slot D) → s.pending ≡ pending_at t slot → Leaves t (put_slot t slot s)
put_leaves t slot s is = record { calls = λ k. call-kept t.slots slot k s is; pid = refl }

pub change_leaves : {D : Type 0} (how : Process D → Process D) (t : Processes D) (slot : ℕ) → Leaves t (change_process how t slot)
change_leaves how t slot = put_leaves t slot _ refl

continue-leaves : {D : Type 0} (signal : Sig) (t : Processes D) (slot : ℕ) → Leaves t (continue_at signal t slot)
continue-leaves sig.HUP t slot = still t
continue-leaves sig.INT t slot = still t
continue-leaves sig.QUIT t slot = still t
continue-leaves sig.KILL t slot = still t
continue-leaves sig.PIPE t slot = still t
continue-leaves sig.TERM t slot = still t
continue-leaves sig.STOP t slot = still t
continue-leaves sig.TSTP t slot = still t
continue-leaves sig.CONT t slot = put_leaves t slot _ refl
continue-leaves sig.CHLD t slot = still t
continue-leaves sig.TTIN t slot = still t
continue-leaves sig.TTOU t slot = still t
continue-leaves sig.USR1 t slot = still t
continue-leaves sig.USR2 t slot = still t

catch-leaves : {D : Type 0} (t : Processes D) (slot : Option ℕ) → Leaves t (catch_child t slot)
catch-leaves t None = still t
catch-leaves t (Some slot) = by_case (holds catches_child (running_at t slot))
  where
    by_case : (b : Bool) → Leaves t (cond b (change_process (add_caught sig.CHLD) t slot) t)
    by_case true = put_leaves t slot _ refl
    by_case false = still t

child-leaves : {D : Type 0} (t : Processes D) (parent : ℕ) → Leaves t (post_child t parent)
unfolding post_child
child-leaves t parent = catch-leaves t (slot_of t parent)

dispose-leaves : {D : Type 0} (d : Disposition) (signal : Sig) (slot parent : ℕ) (p : Posted D) → Leaves p.table (dispose d signal slot parent p).table
dispose-leaves disposition.End signal slot parent p = still p.table
dispose-leaves disposition.Stop signal slot parent p = then (put_leaves p.table slot _ refl) (child-leaves (change_process (stop signal) p.table slot) parent)
dispose-leaves disposition.Catch signal slot parent p = put_leaves p.table slot _ refl
dispose-leaves disposition.Nothing signal slot parent p = still p.table

if-leaves : {D : Type 0} (signal : Sig) (slot : ℕ) (p : Posted D) (o : Option (Process D)) → Leaves p.table (post_if_running signal slot p o).table
if-leaves signal slot p None = still p.table
if-leaves signal slot p (Some who) =
    then (continue-leaves signal p.table slot)
    (dispose-leaves (disposition_of p.table who signal) signal slot who.parent (record { table = continue_at signal p.table slot; ending = p.ending }))

all-leaves : {D : Type 0} (signal : Sig) (slots : List ℕ) (p : Posted D) → Leaves p.table (post_all signal slots p).table
all-leaves signal [] p = still p.table
all-leaves signal (slot ∷ slots) p = then (if-leaves signal slot p (running_at p.table slot)) (all-leaves signal slots (post_at signal p slot))

pub post_leaves : {D : Type 0} (t : Processes D) (signal : Sig) (whom : To) (ending : List (ℕ × How)) → Leaves t (post t signal whom ending).table
post_leaves t signal whom ending = all-leaves signal (receivers t whom) (record { table = t; ending = ending })

-- ---- an ending

adopted : {D : Type 0} (slots : List (Slot D)) (parent k : ℕ) → (get_or (map (adopt_in parent) slots) k empty_slot).pending ≡ (get_or slots k empty_slot).pending
adopted [] parent k = refl
adopted (s ∷ slots) parent zero = refl
adopted (s ∷ slots) parent (suc k) = adopted slots parent k

end-leaves : {D : Type 0} (t : Processes D) (slot : ℕ) (why : How) (o : Option (Process D)) → Leaves t (end_process t slot why o)
end-leaves t slot why None = still t
end-leaves t slot why (Some p) =
    then (record { calls = adopted t.slots p.pid; pid = refl })
    (then (put_leaves (adopt_all t p.pid) slot _ refl) (child-leaves (end_in (adopt_all t p.pid) slot why) p.parent))

ends-leaves : {D : Type 0} (t : Processes D) (slot : ℕ) (why : How) → Leaves t (end_at t slot why)
unfolding end_at
ends-leaves t slot why = end-leaves t slot why (running_at t slot)

hang-leaves : {D : Type 0} (groups : List ℕ) (p : Posted D) → Leaves p.table (fold hang_up p groups).table
hang-leaves [] p = still p.table
hang-leaves (group ∷ groups) p =
    let after = post p.table sig.HUP (to.Group group) p.ending in
    then (then (post_leaves p.table sig.HUP (to.Group group) p.ending) (post_leaves after.table sig.CONT (to.Group group) after.ending))
    (hang-leaves groups (hang_up p group))

pub bury_leaves : {D : Type 0} (t : Processes D) (slot : ℕ) (why : How) (ending : List (ℕ × How)) → Leaves t (bury t slot why ending).table
bury_leaves t slot why ending =
    then (ends-leaves t slot why) (hang-leaves (groups_orphaned_by t (end_at t slot why)) (record { table = end_at t slot why; ending = ending }))

pub bury_in_leaves : {D : Type 0} (root : D) (t : Processes D) (slot : ℕ) (why : How) (ending : List (ℕ × How)) → Leaves t (bury_in root t slot why ending).table
bury_in_leaves root t slot why ending = then (change_leaves (with_directory root) t slot) (bury_leaves (change_process (with_directory root) t slot) slot why ending)

-- ---- waits

ended-leaves : {D : Type 0} (t : Processes D) (slot : ℕ) (p : Process D) (why : Option How) → Leaves t (reap_ended t slot p why).0
ended-leaves t slot p None = still t
ended-leaves t slot p (Some why) = put_leaves t slot _ refl

zombie-leaves : {D : Type 0} (t : Processes D) (slot : ℕ) (p : Option (Process D)) → Leaves t (reap_zombie t slot p).0
zombie-leaves t slot None = still t
zombie-leaves t slot (Some p) = ended-leaves t slot p p.ending

signal-leaves : {D : Type 0} (t : Processes D) (slot : ℕ) (p : Process D) (signal : Option Sig) → Leaves t (report_signal t slot p signal).0
signal-leaves t slot p None = still t
signal-leaves t slot p (Some signal) = put_leaves t slot _ refl

stop-leaves : {D : Type 0} (t : Processes D) (slot : ℕ) (p : Option (Process D)) → Leaves t (report_stop t slot p).0
stop-leaves t slot None = still t
stop-leaves t slot (Some p) = signal-leaves t slot p p.stopped

none-leaves : {D : Type 0} (t : Processes D) (slot : Option ℕ) → Leaves t (report_or_none t slot).0
none-leaves t None = still t
none-leaves t (Some slot) = stop-leaves t slot (process_at t slot)

least-leaves : {D : Type 0} (t : Processes D) (parent who : ℕ) (untraced : Bool) (slot : Option ℕ) → Leaves t (reap_or_report t parent who untraced slot).0
least-leaves t parent who untraced (Some slot) = zombie-leaves t slot (process_at t slot)
least-leaves t parent who true None = none-leaves t (least (is_stopped_child parent who) t)
least-leaves t parent who false None = still t

by-leaves : {D : Type 0} (t : Processes D) (parent who : ℕ) (untraced : Bool) → Leaves t (reap_by t parent who untraced).0
by-leaves {D} t parent who untraced = by_case (list_any (λ s. holds (is_child parent who) s.process) t.slots)
  where
    refused : AfterWait D
    refused = (t, Err NoChild)

    by_case : (b : Bool) → Leaves t (cond b (reap_or_report t parent who untraced (least (is_zombie_child parent who) t)) refused).0
    by_case true = least-leaves t parent who untraced (least (is_zombie_child parent who) t)
    by_case false = still t

pub reap_leaves : {D : Type 0} (t : Processes D) (caller who : ℕ) (untraced : Bool) → Leaves t (reap t caller who untraced).0
reap_leaves t caller who untraced = by-leaves t (pid_of (process_at t caller)) who untraced

-- ---- a fork, which alone takes a pid, and one

pub record LeavesCalls {D : Type 0} (t after : Processes D) : Type 0 where
  pub calls : (slot : ℕ) → pending_at after slot ≡ pending_at t slot
  pub pid : after.next_pid ≤ t.next_pid + 1

same-or-more : (a b : ℕ) → a ≡ b → a ≤ b + 1
same-or-more a b is = omega (arith, is)

pub leaves_calls : {D : Type 0} {t after : Processes D} → Leaves t after → LeavesCalls t after
leaves_calls {D} {t} {after} leaves = record { calls = leaves.calls; pid = same-or-more after.next_pid t.next_pid leaves.pid }

child-takes : {D : Type 0} (t : Processes D) (slot : ℕ) (note : List ℕ) (parent : Option (Process D)) → LeavesCalls t (put_child t slot note parent)
child-takes t slot note None = leaves_calls (still t)
child-takes t slot note (Some parent) = record { calls = (put_leaves t slot _ refl).calls; pid = omega arith }

into-takes : {D : Type 0} (t : Processes D) (slot : ℕ) (note : List ℕ) (free : Option ℕ) → LeavesCalls t (fork_into t slot note free)
into-takes t slot note None = leaves_calls (still t)
into-takes t slot note (Some free) = child-takes t free note (running_at t slot)

pub fork_takes : {D : Type 0} (t : Processes D) (slot : ℕ) (note : List ℕ) → LeavesCalls t (fork t slot note)
fork_takes t slot note = into-takes t slot note (lowest_slot t)
