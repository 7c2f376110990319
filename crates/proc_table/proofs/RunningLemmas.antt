-- Who runs, runs on: posts, forks, waits and changes leave it; and a post puts only running processes on the list of those to be ended.
use Rattle.std.proofs.Common.{◌≡◌, ⊎_elim, ℕ, zero, suc, Bool, true, false, cond, List, [], ◌∷◌, get_or, set, Option, Some, None, option_and_then, refl, sym}
use Rattle.std.proofs.Common.{ap, ◌∙◌, subst}
use Rattle.std.specs.Prelude.{is_none, is_some, Err}
use Rattle.std.specs.List.{list_any}
use Rattle.sys_types.specs.declared.rules.Rule.TheVariants.{NoChild}
use Rattle.sys_types.specs.declared.sig.Sig.{Sig}
use Rattle.call_words.specs.declared.event.How.{How}
use Rattle.call_words.specs.declared.event.How.TheVariants as how
use Rattle.call_words.specs.declared.signal.To.{To}
use Rattle.proc_table.specs.Processes.{Process, Slot, empty_slot, Processes, is_running, running_of, process_at, running_at, put_slot, put_process}
use Rattle.proc_table.specs.Processes.{change_process, holds, pid_of}
use Rattle.proc_table.specs.Forks.{lowest_slot, put_child, fork_into, fork}
use Rattle.proc_table.specs.Reaping.{AfterWait, is_child, is_zombie_child, is_stopped_child, least, reap_ended, reap_zombie, report, report_signal, report_stop}
use Rattle.proc_table.specs.Reaping.{report_or_none, reap_or_report, reap_by, reap}
use Rattle.proc_table.specs.Posts.{Posted, table_and_list, add_ending, post_at, post_all, receivers, post}
use Rattle.proc_table.proofs.KeepLemmas.{change_keeps, post_at_keeps, post_at_joins, post_keeps, running_kept}

-- the slots with a running process still have one
abbrev pub RunsOn : {D : Type 0} → Processes D → Processes D → Type 0
RunsOn old new = (slot : ℕ) → is_some (running_at old slot) ≡ true → is_some (running_at new slot) ≡ true

abbrev runs : {D : Type 0} → Option (Process D) → Bool
runs o = is_some (option_and_then running_of o)

-- ---- a process that runs

pub running_itself : {D : Type 0} (o : Option (Process D)) (p : Process D) → option_and_then running_of o ≡ Some p → is_running p ≡ true
running_itself None p is = cc
running_itself (Some q) p is = by_case (is_running q) refl is
  where
    by_case : (b : Bool) → is_running q ≡ b → cond b (Some q) None ≡ Some p → is_running p ≡ true
    by_case true runs same = (let it : q ≡ p = cc in subst (λ r. is_running r ≡ true) it runs)
    by_case false runs same = cc

itself-runs : {D : Type 0} (p : Process D) → is_running p ≡ true → runs (Some p) ≡ true
itself-runs {D} p is = by_case (is_running p) is
  where
    by_case : (b : Bool) → b ≡ true → is_some (cond b (Some p) None) ≡ true
    by_case true is = refl
    by_case false is = cc

-- ---- a slot is put

slots-run : {D : Type 0} (slots : List (Slot D)) (slot k : ℕ) (s : Slot D) → (runs (get_or slots slot empty_slot).process ≡ true → runs s.process ≡ true)
    → runs (get_or slots k empty_slot).process ≡ true → runs (get_or (set slots slot s) k empty_slot).process ≡ true
slots-run [] slot k s on is = is
slots-run (x ∷ slots) zero zero s on is = on is
slots-run (x ∷ slots) zero (suc k) s on is = is
slots-run (x ∷ slots) (suc slot) zero s on is = is
slots-run (x ∷ slots) (suc slot) (suc k) s on is = slots-run slots slot k s on is

pub slot_runs : {D : Type 0} (t : Processes D) (slot : ℕ) (s : Slot D)
    → (is_some (running_at t slot) ≡ true → is_some (option_and_then running_of s.process) ≡ true) → RunsOn t (put_slot t slot s)
slot_runs t slot s on = λ k is. slots-run t.slots slot k s on is

pub put_runs : {D : Type 0} (t : Processes D) (slot : ℕ) (p : Process D) → is_running p ≡ true → RunsOn t (put_process t slot p)
put_runs t slot p is = slot_runs t slot _ (λ was. itself-runs p is)

-- ---- a fork

child-runs : {D : Type 0} (t : Processes D) (slot : ℕ) (note : List ℕ) (parent : Option (Process D)) → ((p : Process D) → parent ≡ Some p → is_running p ≡ true)
    → RunsOn t (put_child t slot note parent)
child-runs t slot note None run = λ k is. is
child-runs t slot note (Some p) run = slot_runs t slot _ (λ was. itself-runs _ (run p refl))

into-runs : {D : Type 0} (t : Processes D) (slot : ℕ) (note : List ℕ) (free : Option ℕ) → RunsOn t (fork_into t slot note free)
into-runs t slot note None = λ k is. is
into-runs t slot note (Some free) = child-runs t free note (running_at t slot) (λ p is. running_itself (process_at t slot) p is)

pub fork_runs : {D : Type 0} (t : Processes D) (slot : ℕ) (note : List ℕ) → RunsOn t (fork t slot note)
fork_runs t slot note = into-runs t slot note (lowest_slot t)

-- ---- a wait: the process that it takes away has ended

ended-never : {D : Type 0} (p : Process D) (why : How) → p.ending ≡ Some why → runs (Some p) ≡ true → ⊥
ended-never {D} p why ended run = by_ending p.ending ended run
  where
    by_ending : (e : Option How) → e ≡ Some why → is_some (cond (is_none e) (Some p) None) ≡ true → ⊥
    by_ending None is run = cc
    by_ending (Some other) is run = cc

no-zombie : {D : Type 0} (o : Option (Process D)) (p : Process D) (why : How) → o ≡ Some p → p.ending ≡ Some why → runs o ≡ true → ⊥
no-zombie None p why is ended run = cc
no-zombie (Some q) p why is ended run = (let same : q ≡ p = cc in ended-never q why (ap (λ r. r.ending) same ∙ ended) run)

ended-runs : {D : Type 0} (t : Processes D) (slot : ℕ) (p : Process D) (why : Option How) → process_at t slot ≡ Some p → p.ending ≡ why
    → RunsOn t (reap_ended t slot p why).0
ended-runs t slot p None is ended = λ k run. run
ended-runs t slot p (Some why) is ended = slot_runs t slot _ (λ run. absurd (no-zombie (process_at t slot) p why is ended run))

zombie-runs : {D : Type 0} (t : Processes D) (slot : ℕ) (o : Option (Process D)) → process_at t slot ≡ o → RunsOn t (reap_zombie t slot o).0
zombie-runs t slot None is = λ k run. run
zombie-runs t slot (Some p) is = ended-runs t slot p p.ending is refl

report-runs : {D : Type 0} (t : Processes D) (slot : ℕ) → RunsOn t (change_process report t slot)
report-runs t slot = λ k run. running_kept t (change_process report t slot) k (change_keeps report (λ p. refl) t slot) ∙ run

signal-runs : {D : Type 0} (t : Processes D) (slot : ℕ) (p : Process D) (signal : Option Sig) → RunsOn t (report_signal t slot p signal).0
signal-runs t slot p None = λ k run. run
signal-runs t slot p (Some signal) = report-runs t slot

stop-runs : {D : Type 0} (t : Processes D) (slot : ℕ) (p : Option (Process D)) → RunsOn t (report_stop t slot p).0
stop-runs t slot None = λ k run. run
stop-runs t slot (Some p) = signal-runs t slot p p.stopped

none-runs : {D : Type 0} (t : Processes D) (slot : Option ℕ) → RunsOn t (report_or_none t slot).0
none-runs t None = λ k run. run
none-runs t (Some slot) = stop-runs t slot (process_at t slot)

least-runs : {D : Type 0} (t : Processes D) (parent who : ℕ) (untraced : Bool) (slot : Option ℕ) → RunsOn t (reap_or_report t parent who untraced slot).0
least-runs t parent who untraced (Some slot) = zombie-runs t slot (process_at t slot) refl
least-runs t parent who true None = none-runs t (least (is_stopped_child parent who) t)
least-runs t parent who false None = λ k run. run

by-runs : {D : Type 0} (t : Processes D) (parent who : ℕ) (untraced : Bool) → RunsOn t (reap_by t parent who untraced).0
by-runs {D} t parent who untraced = by_case (list_any (λ s. holds (is_child parent who) s.process) t.slots)
  where
    refused : AfterWait D
    refused = (t, Err NoChild)

    by_case : (b : Bool) → RunsOn t (cond b (reap_or_report t parent who untraced (least (is_zombie_child parent who) t)) refused).0
    by_case true = least-runs t parent who untraced (least (is_zombie_child parent who) t)
    by_case false = λ k run. run

pub reap_runs : {D : Type 0} (t : Processes D) (caller who : ℕ) (untraced : Bool) → RunsOn t (reap t caller who untraced).0
reap_runs t caller who untraced = by-runs t (pid_of (process_at t caller)) who untraced

-- ---- a post

pub post_runs : {D : Type 0} (t : Processes D) (signal : Sig) (whom : To) (ending : List (ℕ × How)) → RunsOn t (post t signal whom ending).table
post_runs t signal whom ending = λ k run. running_kept t (post t signal whom ending).table k (post_keeps t signal whom ending) ∙ run

-- what holds of a list, and still holds where a running process joins it
abbrev pub IsJoinable : {D : Type 0} → Processes D → (List (ℕ × How) → Type 0) → Type 0
IsJoinable t P = (es : List (ℕ × How)) (slot : ℕ) (why : How) → is_some (running_at t slot) ≡ true → P es → P (add_ending es slot why)

all-list : {D : Type 0} (t : Processes D) (P : List (ℕ × How) → Type 0) (signal : Sig) (slots : List ℕ) (posted : Posted D) → IsJoinable t P
    → ((k : ℕ) → is_some (running_at posted.table k) ≡ is_some (running_at t k)) → P posted.ending → P (post_all signal slots posted).ending
all-list t P signal [] posted joins run list = list
all-list t P signal (slot ∷ slots) posted joins run list =
    let after = post_at signal posted slot in
    all-list t P signal slots after joins (λ k. running_kept posted.table after.table k (post_at_keeps signal posted slot) ∙ run k)
    (⊎_elim
    (λ (same : after.ending ≡ posted.ending). subst P (sym same) list)
    (λ (more : (is_some (running_at posted.table slot) ≡ true) × (after.ending ≡ add_ending posted.ending slot (how.Signal signal))).
    subst P (sym more.1) (joins posted.ending slot (how.Signal signal) (sym (run slot) ∙ more.0) list))
    (post_at_joins signal posted slot))

pub post_list : {D : Type 0} (t : Processes D) (P : List (ℕ × How) → Type 0) (signal : Sig) (whom : To) (ending : List (ℕ × How)) → IsJoinable t P → P ending
    → P (post t signal whom ending).ending
post_list t P signal whom ending joins list = all-list t P signal (receivers t whom) (table_and_list t ending) joins (λ k. refl) list
