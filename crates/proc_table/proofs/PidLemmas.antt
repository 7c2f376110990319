-- Pids: only a fork brings one, which is above all that were.
use Rattle.std.proofs.Common.{◌≡◌, ℕ, zero, suc, ◌<◌, ◌≤◌, Bool, true, false, cond, List, [], ◌∷◌, get_or, Option, Some, None, option_map, refl, sym, ap, ◌∙◌}
use Rattle.std.proofs.Common.{subst, ◌⊎◌, inl, inr, ⊎_elim, true≢false, arith, eqb, set}
use Rattle.std.specs.Prelude.{fold, replicate, is_none, unwrap_or, Err}
use Rattle.std.specs.List.{list_any}
use Rattle.sys_types.specs.declared.rules.Rule.TheVariants as rule
use Rattle.sys_types.specs.declared.sig.Sig.{Sig}
use Rattle.sys_types.specs.declared.sig.Sig.TheVariants as sig
use Rattle.call_words.specs.declared.call.Call.{Call}
use Rattle.call_words.specs.declared.event.How.{How}
use Rattle.call_words.specs.declared.signal.To.{To}
use Rattle.call_words.specs.declared.signal.To.TheVariants as to
use Rattle.proc_table.specs.declared.post.Disposition.{Disposition}
use Rattle.proc_table.specs.declared.post.Disposition.TheVariants as disposition
use Rattle.proc_table.specs.Processes.{Process, Slot, Processes, empty_slot, slot_at, process_at, running_at, put_slot, change_process, set_pending, tell}
use Rattle.proc_table.specs.Processes.{remove, holds, slot_of, add_caught, pid_of, first_process, at_boot}
use Rattle.proc_table.specs.Forks.{lowest_slot, child_of, put_child, fork_into, fork}
use Rattle.proc_table.specs.Posts.{Posted, disposition_of, continue, continue_at, catches_child, catch_child, post_child, stop, dispose, post_if_running}
use Rattle.proc_table.specs.Posts.{post_at, post_all, receivers, post}
use Rattle.proc_table.specs.Endings.{adopt, adopt_in, adopt_all, is_by_signal, end, end_in, end_process, end_at, groups_orphaned_by, hang_up, bury}
use Rattle.proc_table.specs.Reaping.{is_child, is_zombie_child, least, report, reap_ended, reap_zombie, report_signal, report_stop, report_or_none}
use Rattle.proc_table.specs.Reaping.{reap_or_report, reap_by, reap}
use Rattle.proc_table.specs.Kept.{pid_at, HasPidsOnce, HasNoMore}
use Rattle.proc_table.proofs.ListLemmas.{get_or-seen}

none-some : {A : Type 0} (o : Option A) (x : A) → is_none o ≡ true → o ≡ Some x → ⊥
none-some o x none some = true≢false (sym none ∙ ap is_none some)

abbrev pid_of_slot : {D : Type 0} → Slot D → Option ℕ
pid_of_slot s = option_map (λ p. p.pid) s.process

pub no-more-refl : {D : Type 0} (t : Processes D) → HasNoMore t t
no-more-refl t = record { next_pid = refl; pids = λ slot pid is. is }

pub no-more-trans : {D : Type 0} (t u v : Processes D) → HasNoMore t u → HasNoMore u v → HasNoMore t v
no-more-trans t u v first second = record {
  next_pid = second.next_pid ∙ first.next_pid;
  pids = λ slot pid is. first.pids slot pid (second.pids slot pid is);
}

-- where no process has come, no pid is there twice
pub once-no-more : {D : Type 0} (t u : Processes D) → HasNoMore t u → HasPidsOnce t → HasPidsOnce u
once-no-more t u none once = record {
  next = subst (λ n. 1 ≤ n) (sym none.next_pid) once.next;
  low = λ slot pid is. once.low slot pid (none.pids slot pid is);
  high = λ slot pid is. subst (λ n. pid < n) (sym none.next_pid) (once.high slot pid (none.pids slot pid is));
  once = λ slot other pid here there. once.once slot other pid (none.pids slot pid here) (none.pids other pid there);
}

get_or-set-cases : {A : Type 0} (xs : List A) (i j : ℕ) (x d : A) → (get_or (set xs i x) j d ≡ get_or xs j d) ⊎ ((i ≡ j) × (get_or (set xs i x) j d ≡ x))
get_or-set-cases [] i j x d = inl refl
get_or-set-cases (y ∷ ys) zero zero x d = inr (refl, refl)
get_or-set-cases (y ∷ ys) zero (suc j) x d = inl refl
get_or-set-cases (y ∷ ys) (suc i) zero x d = inl refl
get_or-set-cases (y ∷ ys) (suc i) (suc j) x d =
    ⊎_elim (λ same. inl same) (λ both. inr (ap suc both.0, both.1)) (get_or-set-cases ys i j x d)

-- a slot with no more than it had
put-no-more : {D : Type 0} (t : Processes D) (slot : ℕ) (s : Slot D) → ((pid : ℕ) → pid_of_slot s ≡ Some pid → pid_at t slot ≡ Some pid)
    → HasNoMore t (put_slot t slot s)
put-no-more {D} t slot s none = record {
  next_pid = refl;
  pids = λ other pid is.
      ⊎_elim
      (λ same. sym (ap pid_of_slot same) ∙ is)
      (λ both. subst (λ n. pid_at t n ≡ Some pid) both.0 (none pid (sym (ap pid_of_slot both.1) ∙ is)))
      (get_or-set-cases t.slots slot other s empty_slot);
}

option-same : {D : Type 0} (how : Process D → Process D) → ((p : Process D) → (how p).pid ≡ p.pid) → (o : Option (Process D))
    → option_map (λ p. p.pid) (option_map how o) ≡ option_map (λ p. p.pid) o
option-same how same None = refl
option-same how same (Some p) = ap Some (same p)

pub change-no-more : {D : Type 0} (how : Process D → Process D) → ((p : Process D) → (how p).pid ≡ p.pid) → (t : Processes D) (slot : ℕ)
    → HasNoMore t (change_process how t slot)
change-no-more {D} how same t slot =
    put-no-more t slot (record (slot_at t slot) { process = option_map how (slot_at t slot).process })
    (λ pid is. sym (option-same how same (slot_at t slot).process) ∙ is)

pub set_pending-no-more : {D : Type 0} (t : Processes D) (slot : ℕ) (call : Option Call) → HasNoMore t (set_pending t slot call)
set_pending-no-more t slot call = put-no-more t slot (record (slot_at t slot) { pending = call }) (λ pid is. is)

pub tell-no-more : {D : Type 0} (t : Processes D) (slot : ℕ) → HasNoMore t (tell t slot)
tell-no-more t slot = put-no-more t slot (record (slot_at t slot) { left = false }) (λ pid is. is)

remove-no-more : {D : Type 0} (t : Processes D) (slot : ℕ) → HasNoMore t (remove t slot)
remove-no-more t slot = put-no-more t slot (record (slot_at t slot) { process = None }) (λ pid is. grind (arith, is))

-- Posts.

continue-no-more : {D : Type 0} (signal : Sig) (t : Processes D) (slot : ℕ) → HasNoMore t (continue_at signal t slot)
continue-no-more sig.CONT t slot = change-no-more continue (λ p. refl) t slot
continue-no-more signal t slot = no-more-refl t

catch_child-no-more : {D : Type 0} (t : Processes D) (slot : Option ℕ) → HasNoMore t (catch_child t slot)
catch_child-no-more t None = no-more-refl t
catch_child-no-more t (Some slot) = elim (holds catches_child (running_at t slot)) as
    (λ b. HasNoMore t (cond b (change_process (add_caught sig.CHLD) t slot) t)) [
      | true ↦ change-no-more (add_caught sig.CHLD) (λ p. refl) t slot
      | false ↦ no-more-refl t
    ]

post_child-no-more : {D : Type 0} (t : Processes D) (parent : ℕ) → HasNoMore t (post_child t parent)
unfolding post_child
post_child-no-more t parent = catch_child-no-more t (slot_of t parent)

dispose-no-more : {D : Type 0} (what : Disposition) (signal : Sig) (slot parent : ℕ) (posted : Posted D)
    → HasNoMore posted.table (dispose what signal slot parent posted).table
dispose-no-more disposition.End signal slot parent posted = no-more-refl posted.table
dispose-no-more disposition.Stop signal slot parent posted =
    no-more-trans posted.table (change_process (stop signal) posted.table slot) (post_child (change_process (stop signal) posted.table slot) parent)
    (change-no-more (stop signal) (λ p. refl) posted.table slot) (post_child-no-more (change_process (stop signal) posted.table slot) parent)
dispose-no-more disposition.Catch signal slot parent posted = change-no-more (add_caught signal) (λ p. refl) posted.table slot
dispose-no-more disposition.Nothing signal slot parent posted = no-more-refl posted.table

post_if_running-no-more : {D : Type 0} (signal : Sig) (slot : ℕ) (posted : Posted D) (o : Option (Process D))
    → HasNoMore posted.table (post_if_running signal slot posted o).table
post_if_running-no-more signal slot posted None = no-more-refl posted.table
post_if_running-no-more {D} signal slot posted (Some p) =
    let continued : Posted D = record posted { table = continue_at signal posted.table slot } in
    no-more-trans posted.table continued.table (dispose (disposition_of posted.table p signal) signal slot p.parent continued).table
    (continue-no-more signal posted.table slot) (dispose-no-more (disposition_of posted.table p signal) signal slot p.parent continued)

pub post_all-no-more : {D : Type 0} (signal : Sig) (slots : List ℕ) (posted : Posted D) → HasNoMore posted.table (post_all signal slots posted).table
post_all-no-more signal [] posted = no-more-refl posted.table
post_all-no-more signal (slot ∷ slots) posted =
    no-more-trans posted.table (post_at signal posted slot).table (post_all signal slots (post_at signal posted slot)).table
    (post_if_running-no-more signal slot posted (running_at posted.table slot)) (post_all-no-more signal slots (post_at signal posted slot))

pub post-no-more : {D : Type 0} (t : Processes D) (signal : Sig) (whom : To) (ending : List (ℕ × How)) → HasNoMore t (post t signal whom ending).table
post-no-more t signal whom ending = post_all-no-more signal (receivers t whom) (record { table = t; ending = ending })

-- Ends.

adopt-pid : {D : Type 0} (parent : ℕ) (p : Process D) → (adopt parent p).pid ≡ p.pid
adopt-pid {D} parent p = elim (eqb p.parent parent) as (λ b. (cond b (record p { parent = 1 }) p).pid ≡ p.pid) [
  | true ↦ refl
  | false ↦ refl
]

adopt_all-no-more : {D : Type 0} (t : Processes D) (parent : ℕ) → HasNoMore t (adopt_all t parent)
adopt_all-no-more t parent = record {
  next_pid = refl;
  pids = λ slot pid is. sym (option-same (adopt parent) (adopt-pid parent) (slot_at t slot).process) ∙ sym
      (ap pid_of_slot (get_or-seen (adopt_in parent) t.slots slot empty_slot)) ∙ is;
}

end_in-no-more : {D : Type 0} (t : Processes D) (slot : ℕ) (why : How) → HasNoMore t (end_in t slot why)
end_in-no-more t slot why =
    put-no-more t slot (record (slot_at t slot) { process = option_map (end why) (slot_at t slot).process; left = is_by_signal why })
    (λ pid is. sym (option-same (end why) (λ p. refl) (slot_at t slot).process) ∙ is)

end_process-no-more : {D : Type 0} (t : Processes D) (slot : ℕ) (why : How) (o : Option (Process D)) → HasNoMore t (end_process t slot why o)
end_process-no-more t slot why None = no-more-refl t
end_process-no-more t slot why (Some p) =
    no-more-trans t (adopt_all t p.pid) (end_process t slot why (Some p)) (adopt_all-no-more t p.pid)
    (no-more-trans (adopt_all t p.pid) (end_in (adopt_all t p.pid) slot why) (end_process t slot why (Some p))
    (end_in-no-more (adopt_all t p.pid) slot why) (post_child-no-more (end_in (adopt_all t p.pid) slot why) p.parent))

pub end_at-no-more : {D : Type 0} (t : Processes D) (slot : ℕ) (why : How) → HasNoMore t (end_at t slot why)
unfolding end_at
end_at-no-more t slot why = end_process-no-more t slot why (running_at t slot)

hang_up-no-more : {D : Type 0} (posted : Posted D) (group : ℕ) → HasNoMore posted.table (hang_up posted group).table
hang_up-no-more posted group =
    let after = post posted.table sig.HUP (to.Group group) posted.ending in
    no-more-trans posted.table after.table (hang_up posted group).table
    (post-no-more posted.table sig.HUP (to.Group group) posted.ending) (post-no-more after.table sig.CONT (to.Group group) after.ending)

hang_up_all-no-more : {D : Type 0} (groups : List ℕ) (posted : Posted D) → HasNoMore posted.table (fold hang_up posted groups).table
hang_up_all-no-more [] posted = no-more-refl posted.table
hang_up_all-no-more (group ∷ groups) posted =
    no-more-trans posted.table (hang_up posted group).table (fold hang_up (hang_up posted group) groups).table
    (hang_up-no-more posted group) (hang_up_all-no-more groups (hang_up posted group))

pub bury-no-more : {D : Type 0} (t : Processes D) (slot : ℕ) (why : How) (ending : List (ℕ × How)) → HasNoMore t (bury t slot why ending).table
bury-no-more t slot why ending =
    let after = end_at t slot why in
    no-more-trans t after (bury t slot why ending).table (end_at-no-more t slot why)
    (hang_up_all-no-more (groups_orphaned_by t after) (record { table = after; ending = ending }))

-- Waits.

reap_ended-no-more : {D : Type 0} (t : Processes D) (slot : ℕ) (p : Process D) (why : Option How) → HasNoMore t (reap_ended t slot p why).0
reap_ended-no-more t slot p None = no-more-refl t
reap_ended-no-more t slot p (Some why) = remove-no-more t slot

reap_zombie-no-more : {D : Type 0} (t : Processes D) (slot : ℕ) (o : Option (Process D)) → HasNoMore t (reap_zombie t slot o).0
reap_zombie-no-more t slot None = no-more-refl t
reap_zombie-no-more t slot (Some p) = reap_ended-no-more t slot p p.ending

report_signal-no-more : {D : Type 0} (t : Processes D) (slot : ℕ) (p : Process D) (o : Option Sig) → HasNoMore t (report_signal t slot p o).0
report_signal-no-more t slot p None = no-more-refl t
report_signal-no-more t slot p (Some signal) = change-no-more report (λ q. refl) t slot

report_stop-no-more : {D : Type 0} (t : Processes D) (slot : ℕ) (o : Option (Process D)) → HasNoMore t (report_stop t slot o).0
report_stop-no-more t slot None = no-more-refl t
report_stop-no-more t slot (Some p) = report_signal-no-more t slot p p.stopped

report_or_none-no-more : {D : Type 0} (t : Processes D) (o : Option ℕ) → HasNoMore t (report_or_none t o).0
report_or_none-no-more t None = no-more-refl t
report_or_none-no-more t (Some slot) = report_stop-no-more t slot (process_at t slot)

reap_or_report-no-more : {D : Type 0} (t : Processes D) (parent who : ℕ) (untraced : Bool) (o : Option ℕ)
    → HasNoMore t (reap_or_report t parent who untraced o).0
reap_or_report-no-more t parent who untraced (Some slot) = reap_zombie-no-more t slot (process_at t slot)
reap_or_report-no-more t parent who true None = report_or_none-no-more t _
reap_or_report-no-more t parent who false None = no-more-refl t

reap_by-no-more : {D : Type 0} (t : Processes D) (parent who : ℕ) (untraced : Bool) → HasNoMore t (reap_by t parent who untraced).0
reap_by-no-more {D} t parent who untraced =
    elim (list_any (λ s. holds (is_child parent who) s.process) t.slots) as
    (λ b. HasNoMore t (cond b (reap_or_report t parent who untraced (least (is_zombie_child parent who) t)) (t, Err rule.NoChild)).0) [
      | true ↦ reap_or_report-no-more t parent who untraced (least (is_zombie_child parent who) t)
      | false ↦ no-more-refl t
    ]

pub reap-no-more : {D : Type 0} (t : Processes D) (caller who : ℕ) (untraced : Bool) → HasNoMore t (reap t caller who untraced).0
reap-no-more t caller who untraced = reap_by-no-more t (pid_of (process_at t caller)) who untraced

-- Forks.

-- the pids when a child has come: those that were, and the next one in its slot
child-pids : {D : Type 0} (t : Processes D) (free : ℕ) (note : List ℕ) (parent : Process D) (slot pid : ℕ)
    → pid_at (put_child t free note (Some parent)) slot ≡ Some pid
    → (pid_at t slot ≡ Some pid) ⊎ ((free ≡ slot) × (t.next_pid ≡ pid))
child-pids {D} t free note parent slot pid is =
    let child : Slot D = record (slot_at t free) { process = Some (child_of parent t.next_pid note) } in
    ⊎_elim
    (λ same. inl (sym (ap pid_of_slot same) ∙ is))
    (λ both. inr (both.0, ap (λ o. unwrap_or o 0) (sym (ap pid_of_slot both.1) ∙ is)))
    (get_or-set-cases t.slots free slot child empty_slot)

put_child-once : {D : Type 0} (t : Processes D) (free : ℕ) (note : List ℕ) (parent : Option (Process D)) → HasPidsOnce t
    → HasPidsOnce (put_child t free note parent)
put_child-once t free note None once = once
put_child-once t free note (Some parent) once = record {
  next = omega (arith, once.next);
  low = λ slot pid is. ⊎_elim (λ old. once.low slot pid old) (λ new. omega (arith, once.next, new.1)) (child-pids t free note parent slot pid is);
  high = λ slot pid is. ⊎_elim (λ old. omega (arith, once.high slot pid old)) (λ new. omega (arith, new.1)) (child-pids t free note parent slot pid is);
  once = λ slot other pid here there.
      ⊎_elim
      (λ old. ⊎_elim (λ also. once.once slot other pid old also) (λ new. absurd (omega (arith, once.high slot pid old, new.1)))
      (child-pids t free note parent other pid there))
      (λ new. ⊎_elim (λ old. absurd (omega (arith, once.high other pid old, new.1))) (λ also. sym new.0 ∙ also.0)
      (child-pids t free note parent other pid there))
      (child-pids t free note parent slot pid here);
}

fork_into-once : {D : Type 0} (t : Processes D) (slot : ℕ) (note : List ℕ) (free : Option ℕ) → HasPidsOnce t → HasPidsOnce (fork_into t slot note free)
fork_into-once t slot note None once = once
fork_into-once t slot note (Some free) once = put_child-once t free note (running_at t slot) once

pub fork-once : {D : Type 0} (t : Processes D) (slot : ℕ) (note : List ℕ) → HasPidsOnce t → HasPidsOnce (fork t slot note)
fork-once t slot note once = fork_into-once t slot note (lowest_slot t) once

-- The boot.

all-same : {A : Type 0} (n i : ℕ) (x : A) → get_or (replicate n x) i x ≡ x
all-same zero i x = refl
all-same (suc n) zero x = refl
all-same (suc n) (suc i) x = all-same n i x

boot-pids : {D : Type 0} (root : D) (slot pid : ℕ) → pid_at (at_boot root) slot ≡ Some pid → (0 ≡ slot) × (1 ≡ pid)
boot-pids {D} root slot pid is =
    let first : Slot D = record { process = Some (first_process root); pending = None; left = false } in
    let none : Slot D = empty_slot in
    ⊎_elim
    (λ same. absurd (none-some (pid_at (at_boot root) slot) pid (ap (λ s. is_none (pid_of_slot s)) (same ∙ all-same 32 slot none)) is))
    (λ both. (both.0, ap (λ o. unwrap_or o 0) (sym (ap pid_of_slot both.1) ∙ is)))
    (get_or-set-cases (replicate 32 none) 0 slot first none)

pub boot-once : {D : Type 0} (root : D) → HasPidsOnce (at_boot root)
boot-once root = record {
  next = omega arith;
  low = λ slot pid is. omega (arith, (boot-pids root slot pid is).1);
  high = λ slot pid is. omega (arith, (boot-pids root slot pid is).1);
  once = λ slot other pid here there. sym (boot-pids root slot pid here).0 ∙ (boot-pids root other pid there).0;
}
