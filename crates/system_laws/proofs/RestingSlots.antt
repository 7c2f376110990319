-- A slot without a running process stays so: posts, ends and waits make none run; and a process that ends runs no more.
use Rattle.std.proofs.Common.{◌≡◌, ◌≢◌, ℕ, zero, suc, Bool, true, false, cond, List, [], ◌∷◌, map, fold, get_or, set}
use Rattle.std.proofs.Common.{Option, Some, None, option_map, option_and_then, refl, sym, ap, ◌∙◌}
use Rattle.std.specs.Prelude.{◌==◌, is_some, Err}
use Rattle.std.specs.List.{list_any}
use Rattle.std.proofs.lemmas.List.{get_or-set_other}
use Rattle.sys_types.specs.declared.rules.Rule.TheVariants.{NoChild}
use Rattle.sys_types.specs.declared.sig.Sig.{Sig}
use Rattle.sys_types.specs.declared.sig.Sig.TheVariants as sig
use Rattle.call_words.specs.declared.event.How.{How}
use Rattle.call_words.specs.declared.signal.To.{To}
use Rattle.call_words.specs.declared.signal.To.TheVariants as to
use Rattle.proc_table.specs.Processes.{Process, Slot, empty_slot, Processes, is_running, running_of, process_at, running_at, put_slot, put_process}
use Rattle.proc_table.specs.Processes.{change_process, holds, pid_of}
use Rattle.proc_table.specs.Changes.{with_directory}
use Rattle.proc_table.specs.Reaping.{AfterWait, is_child, is_zombie_child, is_stopped_child, least, reap_ended, reap_zombie, report, report_signal, report_stop}
use Rattle.proc_table.specs.Reaping.{report_or_none, reap_or_report, reap}
use Rattle.proc_table.specs.Posts.{Posted, post}
use Rattle.proc_table.specs.Endings.{adopt, adopt_in, adopt_all, end, end_in, end_process, end_at, groups_orphaned_by, hang_up, bury, bury_in}
use Rattle.proc_table.proofs.KeepLemmas.{KeepsProcesses, child_keeps, post_keeps, running_kept}
use Rattle.system_model.specs.Parts.{Path}

-- the slot has no running process
abbrev pub Rests : ℕ → Processes Path → Type 0
Rests slot t = is_some (running_at t slot) ≡ false

-- the slots without a running process still have none
abbrev pub RestOn : Processes Path → Processes Path → Type 0
RestOn old new = (slot : ℕ) → Rests slot old → Rests slot new

abbrev runs : Option (Process Path) → Bool
runs o = is_some (option_and_then running_of o)

same : (t : Processes Path) → RestOn t t
same t = λ k rest. rest

then : (a b c : Processes Path) → RestOn a b → RestOn b c → RestOn a c
then a b c first second = λ k rest. second k (first k rest)

-- ---- one slot

slots-rest : (slots : List (Slot Path)) (slot k : ℕ) (s : Slot Path) → (runs (get_or slots slot empty_slot).process ≡ false → runs s.process ≡ false)
    → runs (get_or slots k empty_slot).process ≡ false → runs (get_or (set slots slot s) k empty_slot).process ≡ false
slots-rest [] slot k s on rest = rest
slots-rest (x ∷ slots) zero zero s on rest = on rest
slots-rest (x ∷ slots) zero (suc k) s on rest = rest
slots-rest (x ∷ slots) (suc slot) zero s on rest = rest
slots-rest (x ∷ slots) (suc slot) (suc k) s on rest = slots-rest slots slot k s on rest

-- a slot is put that runs only where it did
pub slot_rests : (t : Processes Path) (slot : ℕ) (s : Slot Path) → (Rests slot t → runs s.process ≡ false) → RestOn t (put_slot t slot s)
slot_rests t slot s on = λ k rest. slots-rest t.slots slot k s on rest

-- another slot's process is put
pub put_rests : (t : Processes Path) (slot other : ℕ) (p : Process Path) → slot ≢ other → Rests slot t → Rests slot (put_process t other p)
put_rests t slot other p apart rest = ap (λ (s : Slot Path). runs s.process) (get_or-set_other t.slots other slot _ empty_slot apart) ∙ rest

runs-test : (p : Process Path) → runs (Some p) ≡ is_running p
runs-test p = by_case (is_running p)
  where
    by_case : (b : Bool) → is_some (cond b (Some p) None) ≡ b
    by_case true = refl
    by_case false = refl

changed-one : (how : Process Path → Process Path) → ((p : Process Path) → is_running (how p) ≡ is_running p) → (o : Option (Process Path))
    → runs (option_map how o) ≡ runs o
changed-one how keeps None = refl
changed-one how keeps (Some p) = runs-test (how p) ∙ keeps p ∙ sym (runs-test p)

change-rests : (how : Process Path → Process Path) → ((p : Process Path) → is_running (how p) ≡ is_running p) → (t : Processes Path) (slot : ℕ)
    → RestOn t (change_process how t slot)
change-rests how keeps t slot = slot_rests t slot _ (λ rest. changed-one how keeps (process_at t slot) ∙ rest)

kept-rests : (old new : Processes Path) → KeepsProcesses old new → RestOn old new
kept-rests old new keeps = λ k rest. running_kept old new k keeps ∙ rest

-- ---- posts

pub post_rests : (t : Processes Path) (signal : Sig) (whom : To) (ending : List (ℕ × How)) → RestOn t (post t signal whom ending).table
post_rests t signal whom ending = kept-rests t (post t signal whom ending).table (post_keeps t signal whom ending)

-- ---- waits

ended-rests : (t : Processes Path) (slot : ℕ) (p : Process Path) (why : Option How) → RestOn t (reap_ended t slot p why).0
ended-rests t slot p None = same t
ended-rests t slot p (Some why) = slot_rests t slot _ (λ rest. refl)

zombie-rests : (t : Processes Path) (slot : ℕ) (o : Option (Process Path)) → RestOn t (reap_zombie t slot o).0
zombie-rests t slot None = same t
zombie-rests t slot (Some p) = ended-rests t slot p p.ending

signal-rests : (t : Processes Path) (slot : ℕ) (p : Process Path) (signal : Option Sig) → RestOn t (report_signal t slot p signal).0
signal-rests t slot p None = same t
signal-rests t slot p (Some signal) = change-rests report (λ q. refl) t slot

stop-rests : (t : Processes Path) (slot : ℕ) (o : Option (Process Path)) → RestOn t (report_stop t slot o).0
stop-rests t slot None = same t
stop-rests t slot (Some p) = signal-rests t slot p p.stopped

none-rests : (t : Processes Path) (slot : Option ℕ) → RestOn t (report_or_none t slot).0
none-rests t None = same t
none-rests t (Some slot) = stop-rests t slot (process_at t slot)

least-rests : (t : Processes Path) (parent who : ℕ) (untraced : Bool) (slot : Option ℕ) → RestOn t (reap_or_report t parent who untraced slot).0
least-rests t parent who untraced (Some slot) = zombie-rests t slot (process_at t slot)
least-rests t parent who true None = none-rests t (least (is_stopped_child parent who) t)
least-rests t parent who false None = same t

pub reap_rests : (t : Processes Path) (caller who : ℕ) (untraced : Bool) → RestOn t (reap t caller who untraced).0
reap_rests t caller who untraced = by_case (list_any (λ s. holds (is_child parent who) s.process) t.slots)
  where
    parent : ℕ
    parent = pid_of (process_at t caller)

    refused : AfterWait Path
    refused = (t, Err NoChild)

    by_case : (b : Bool) → RestOn t (cond b (reap_or_report t parent who untraced (least (is_zombie_child parent who) t)) refused).0
    by_case true = least-rests t parent who untraced (least (is_zombie_child parent who) t)
    by_case false = same t

-- ---- an ending

adopt-one : (parent : ℕ) (p : Process Path) → is_running (adopt parent p) ≡ is_running p
adopt-one parent p = by_case (p.parent == parent)
  where
    by_case : (b : Bool) → is_running (cond b (record p { parent = 1 }) p) ≡ is_running p
    by_case true = refl
    by_case false = refl

adopted : (slots : List (Slot Path)) (parent k : ℕ)
    → runs (get_or (map (adopt_in parent) slots) k empty_slot).process ≡ runs (get_or slots k empty_slot).process
adopted [] parent k = refl
adopted (s ∷ slots) parent zero = changed-one (adopt parent) (adopt-one parent) s.process
adopted (s ∷ slots) parent (suc k) = adopted slots parent k

ended-one : (why : How) (o : Option (Process Path)) → runs (option_map (end why) o) ≡ false
ended-one why None = refl
ended-one why (Some p) = refl

end-rests : (t : Processes Path) (slot : ℕ) (why : How) (o : Option (Process Path)) → RestOn t (end_process t slot why o)
end-rests t slot why None = same t
end-rests t slot why (Some p) =
    let adopts = adopt_all t p.pid in
    then t adopts (end_process t slot why (Some p)) (λ k rest. adopted t.slots p.pid k ∙ rest)
    (then adopts (end_in adopts slot why) (end_process t slot why (Some p)) (slot_rests adopts slot _ (λ rest. ended-one why (process_at adopts slot)))
    (kept-rests (end_in adopts slot why) (end_process t slot why (Some p)) (child_keeps (end_in adopts slot why) p.parent)))

hang-rests : (groups : List ℕ) (p : Posted Path) → RestOn p.table (fold hang_up p groups).table
hang-rests [] p = same p.table
hang-rests (group ∷ groups) p =
    let after = post p.table sig.HUP (to.Group group) p.ending in
    then p.table (hang_up p group).table (fold hang_up p (group ∷ groups)).table
    (then p.table after.table (hang_up p group).table (post_rests p.table sig.HUP (to.Group group) p.ending)
    (post_rests after.table sig.CONT (to.Group group) after.ending))
    (hang-rests groups (hang_up p group))

after-end : (t : Processes Path) (slot : ℕ) (why : How) (ending : List (ℕ × How)) → RestOn (end_at t slot why) (bury t slot why ending).table
after-end t slot why ending = hang-rests (groups_orphaned_by t (end_at t slot why)) (record { table = end_at t slot why; ending = ending })

bury-rests : (t : Processes Path) (slot : ℕ) (why : How) (ending : List (ℕ × How)) → RestOn t (bury t slot why ending).table
unfolding end_at
bury-rests t slot why ending =
    then t (end_at t slot why) (bury t slot why ending).table (end-rests t slot why (running_at t slot)) (after-end t slot why ending)

pub bury_in_rests : (t : Processes Path) (slot : ℕ) (why : How) (ending : List (ℕ × How)) → RestOn t (bury_in [] t slot why ending).table
bury_in_rests t slot why ending =
    let moved = change_process (with_directory []) t slot in
    then t moved (bury_in [] t slot why ending).table (change-rests (with_directory []) (λ p. refl) t slot) (bury-rests moved slot why ending)

-- ---- who ends

put-ended : (slots : List (Slot Path)) (slot : ℕ) (s : Slot Path) → runs s.process ≡ false → runs (get_or (set slots slot s) slot empty_slot).process ≡ false
put-ended [] slot s is = refl
put-ended (x ∷ slots) zero s is = is
put-ended (x ∷ slots) (suc slot) s is = put-ended slots slot s is

end-ends : (t : Processes Path) (slot : ℕ) (why : How) (o : Option (Process Path)) → running_at t slot ≡ o → Rests slot (end_process t slot why o)
end-ends t slot why None is = ap is_some is
end-ends t slot why (Some p) is =
    let adopts = adopt_all t p.pid in
    kept-rests (end_in adopts slot why) (end_process t slot why (Some p)) (child_keeps (end_in adopts slot why) p.parent) slot
    (put-ended adopts.slots slot _ (ended-one why (process_at adopts slot)))

bury-ends : (t : Processes Path) (slot : ℕ) (why : How) (ending : List (ℕ × How)) → Rests slot (bury t slot why ending).table
unfolding end_at
bury-ends t slot why ending = after-end t slot why ending slot (end-ends t slot why (running_at t slot) refl)

-- the process of a slot that is buried runs no more
pub bury_in_ends : (t : Processes Path) (slot : ℕ) (why : How) (ending : List (ℕ × How)) → Rests slot (bury_in [] t slot why ending).table
bury_in_ends t slot why ending = bury-ends (change_process (with_directory []) t slot) slot why ending
