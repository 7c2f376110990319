-- Posts and ends keep the slots, and leave on the list of those to be ended each process once.
use Rattle.std.proofs.Common.{◌≡◌, ℕ, zero, suc, ◌<◌, ◌≤◌, Bool, true, false, cond, List, [], ◌∷◌, ◌++◌, length, fold, refl, ◌∙◌}
use Rattle.std.proofs.Common.{subst, arith}
use Rattle.std.specs.Prelude.{Option, Some, None, Err, option_and_then, slice_index_or}
use Rattle.std.specs.List.{list_any}
use Rattle.sys_types.specs.declared.rules.Rule.TheVariants.{NoChild}
use Rattle.std.proofs.lemmas.List.{length-set, length-map}
use Rattle.sys_types.specs.declared.limits.TheConstants.{SLOTS}
use Rattle.sys_types.specs.declared.sig.Sig.{Sig}
use Rattle.sys_types.specs.declared.sig.Sig.TheVariants as sig
use Rattle.call_words.specs.declared.event.How.{How}
use Rattle.call_words.specs.declared.event.How.TheVariants as how
use Rattle.call_words.specs.declared.signal.To.{To}
use Rattle.call_words.specs.declared.signal.To.TheVariants as to
use Rattle.proc_table.specs.declared.post.Disposition.{Disposition}
use Rattle.proc_table.specs.declared.post.Disposition.TheVariants as disposition
use Rattle.proc_table.specs.Processes.{Process, Slot, empty_slot, Processes, running_of, running_at, put_slot, change_process, holds}
use Rattle.proc_table.specs.Processes.{slot_of, process_at, pid_of, add_caught}
use Rattle.proc_table.specs.Forks.{lowest_slot, put_child, fork_into, fork}
use Rattle.proc_table.specs.Reaping.{AfterWait, is_child, is_zombie_child, is_stopped_child, least, reap_ended, reap_zombie, report_signal, report_stop, report_or_none}
use Rattle.proc_table.specs.Reaping.{reap_or_report, reap_by, reap}
use Rattle.proc_table.specs.Posts.{Posted, disposition_of, continue_at, add_ending, is_ending, IsEndingList, catches_child, catch_child, post_child}
use Rattle.proc_table.specs.Posts.{stop, dispose, post_if_running, post_at, post_all, post, receivers}
use Rattle.proc_table.specs.Endings.{adopt_in, adopt_all, end_in, end_process, end_at, groups_orphaned_by, hang_up, bury, bury_in}
use Rattle.proc_table.specs.Changes.{with_directory}
use Rattle.proc_table.proofs.EndingListLemmas.{has-room, list-behind}

-- a running process stands in one of the slots
pub within-slots : {D : Type 0} (slots : List (Slot D)) (slot : ℕ) (p : Process D)
    → option_and_then running_of (slice_index_or slots slot empty_slot).process ≡ Some p → slot < length slots
within-slots [] slot p is = cc
within-slots (s ∷ ss) zero p is = omega arith
within-slots (s ∷ ss) (suc slot) p is = let below = within-slots ss slot p is in omega arith

-- there are 32 slots, and each process to be ended stands in one of them and once on the list
pub record IsSound {D : Type 0} (t : Processes D) (ending : List (ℕ × How)) : Type 0 where
  pub slots : length t.slots ≡ SLOTS
  pub list : IsEndingList ending

pub put-length : {D : Type 0} (t : Processes D) (slot : ℕ) (s : Slot D) → length (put_slot t slot s).slots ≡ length t.slots
put-length t slot s = length-set t.slots slot s

continue-length : {D : Type 0} (signal : Sig) (t : Processes D) (slot : ℕ) → length (continue_at signal t slot).slots ≡ length t.slots
continue-length sig.HUP t slot = refl
continue-length sig.INT t slot = refl
continue-length sig.QUIT t slot = refl
continue-length sig.KILL t slot = refl
continue-length sig.PIPE t slot = refl
continue-length sig.TERM t slot = refl
continue-length sig.STOP t slot = refl
continue-length sig.TSTP t slot = refl
continue-length sig.CONT t slot = put-length t slot _
continue-length sig.CHLD t slot = refl
continue-length sig.TTIN t slot = refl
continue-length sig.TTOU t slot = refl
continue-length sig.USR1 t slot = refl
continue-length sig.USR2 t slot = refl

catch-length : {D : Type 0} (t : Processes D) (slot : Option ℕ) → length (catch_child t slot).slots ≡ length t.slots
catch-length t None = refl
catch-length t (Some slot) = by_case (holds catches_child (running_at t slot))
  where
    by_case : (b : Bool) → length (cond b (change_process (add_caught sig.CHLD) t slot) t).slots ≡ length t.slots
    by_case true = put-length t slot _
    by_case false = refl

child-length : {D : Type 0} (t : Processes D) (parent : ℕ) → length (post_child t parent).slots ≡ length t.slots
unfolding post_child
child-length t parent = catch-length t (slot_of t parent)

pub sound-add : (ending : List (ℕ × How)) (slot : ℕ) (why : How) → slot < SLOTS → IsEndingList ending → IsEndingList (add_ending ending slot why)
sound-add ending slot why below list = by_case (is_ending ending slot) refl
  where
    by_case : (b : Bool) → is_ending ending slot ≡ b → IsEndingList (cond b ending (ending ++ (slot, why) ∷ []))
    by_case true is = list
    by_case false is = list-behind ending slot why list is below

sound-dispose : {D : Type 0} (d : Disposition) (signal : Sig) (slot parent : ℕ) (t : Processes D) (ending : List (ℕ × How)) → slot < SLOTS → IsSound t ending
    → IsSound (dispose d signal slot parent (record {
      table =
          t;
      ending = ending;
    })).table (dispose d signal slot parent (record { table = t; ending = ending })).ending
sound-dispose disposition.End signal slot parent t ending below sound =
    record { slots = sound.slots; list = sound-add ending slot (how.Signal signal) below sound.list }
sound-dispose disposition.Stop signal slot parent t ending below sound = record {
  slots = child-length (change_process (stop signal) t slot) parent ∙ put-length t slot _ ∙ sound.slots;
  list = sound.list;
}
sound-dispose disposition.Catch signal slot parent t ending below sound = record { slots = put-length t slot _ ∙ sound.slots; list = sound.list }
sound-dispose disposition.Nothing signal slot parent t ending below sound = sound

sound-if : {D : Type 0} (signal : Sig) (slot : ℕ) (t : Processes D) (ending : List (ℕ × How)) (o : Option (Process D)) → running_at t slot ≡ o
    → IsSound t ending
    → IsSound (post_if_running signal slot (record {
      table =
          t;
      ending = ending;
    }) o).table (post_if_running signal slot (record { table = t; ending = ending }) o).ending
sound-if signal slot t ending None is sound = sound
sound-if signal slot t ending (Some p) is sound =
    let below : slot < SLOTS = subst (λ n. slot < n) sound.slots (within-slots t.slots slot p is) in
    sound-dispose (disposition_of t p signal) signal slot p.parent (continue_at signal t slot) ending below
    (record { slots = continue-length signal t slot ∙ sound.slots; list = sound.list })

sound-all : {D : Type 0} (signal : Sig) (slots : List ℕ) (posted : Posted D) → IsSound posted.table posted.ending
    → IsSound (post_all signal slots posted).table (post_all signal slots posted).ending
sound-all signal [] posted sound = sound
sound-all signal (slot ∷ slots) posted sound =
    sound-all signal slots (post_at signal posted slot) (sound-if signal slot posted.table posted.ending (running_at posted.table slot) refl sound)

pub sound_post : {D : Type 0} (t : Processes D) (signal : Sig) (whom : To) (ending : List (ℕ × How)) → IsSound t ending
    → IsSound (post t signal whom ending).table (post t signal whom ending).ending
sound_post t signal whom ending sound = sound-all signal (receivers t whom) (record { table = t; ending = ending }) sound

-- ---- an ending

end-length : {D : Type 0} (t : Processes D) (slot : ℕ) (why : How) (o : Option (Process D)) → length (end_process t slot why o).slots ≡ length t.slots
end-length t slot why None = refl
end-length t slot why (Some p) =
    child-length (end_in (adopt_all t p.pid) slot why) p.parent ∙ put-length (adopt_all t p.pid) slot _ ∙ length-map t.slots (adopt_in p.pid)

ends-length : {D : Type 0} (t : Processes D) (slot : ℕ) (why : How) → length (end_at t slot why).slots ≡ length t.slots
unfolding end_at
ends-length t slot why = end-length t slot why (running_at t slot)

sound-hang_up : {D : Type 0} (groups : List ℕ) (posted : Posted D) → IsSound posted.table posted.ending
    → IsSound (fold hang_up posted groups).table (fold hang_up posted groups).ending
sound-hang_up [] posted sound = sound
sound-hang_up (group ∷ groups) posted sound =
    let first = sound_post posted.table sig.HUP (to.Group group) posted.ending sound in
    let after = post posted.table sig.HUP (to.Group group) posted.ending in
    sound-hang_up groups (hang_up posted group) (sound_post after.table sig.CONT (to.Group group) after.ending first)

pub sound_bury : {D : Type 0} (t : Processes D) (slot : ℕ) (why : How) (ending : List (ℕ × How)) → IsSound t ending
    → IsSound (bury t slot why ending).table (bury t slot why ending).ending
sound_bury t slot why ending sound =
    sound-hang_up (groups_orphaned_by t (end_at t slot why)) (record { table = end_at t slot why; ending = ending })
    (record { slots = ends-length t slot why ∙ sound.slots; list = sound.list })

pub sound_change : {D : Type 0} (how : Process D → Process D) (t : Processes D) (slot : ℕ) (ending : List (ℕ × How)) → IsSound t ending
    → IsSound (change_process how t slot) ending
sound_change how t slot ending sound = record { slots = put-length t slot _ ∙ sound.slots; list = sound.list }

pub sound_bury_in : {D : Type 0} (root : D) (t : Processes D) (slot : ℕ) (why : How) (ending : List (ℕ × How)) → IsSound t ending
    → IsSound (bury_in root t slot why ending).table (bury_in root t slot why ending).ending
sound_bury_in root t slot why ending sound =
    sound_bury (change_process (with_directory root) t slot) slot why ending (sound_change (with_directory root) t slot ending sound)

-- as many are to be ended as there are slots, at the most
pub sound_most : (ending : List (ℕ × How)) → IsEndingList ending → length ending ≤ SLOTS
sound_most [] list = omega arith
sound_most (e ∷ es) list = let room = has-room es e.0 e.1 list.2 list.1 list.0 in omega arith

-- ---- forks and waits keep the slots

child-slots : {D : Type 0} (t : Processes D) (slot : ℕ) (note : List ℕ) (parent : Option (Process D)) → length (put_child t slot note parent).slots ≡ length t.slots
child-slots t slot note None = refl
child-slots t slot note (Some parent) = put-length t slot _

into-slots : {D : Type 0} (t : Processes D) (slot : ℕ) (note : List ℕ) (free : Option ℕ) → length (fork_into t slot note free).slots ≡ length t.slots
into-slots t slot note None = refl
into-slots t slot note (Some free) = child-slots t free note (running_at t slot)

pub fork-slots : {D : Type 0} (t : Processes D) (slot : ℕ) (note : List ℕ) → length (fork t slot note).slots ≡ length t.slots
fork-slots t slot note = into-slots t slot note (lowest_slot t)

ended-slots : {D : Type 0} (t : Processes D) (slot : ℕ) (p : Process D) (why : Option How) → length (reap_ended t slot p why).0.slots ≡ length t.slots
ended-slots t slot p None = refl
ended-slots t slot p (Some why) = put-length t slot _

zombie-slots : {D : Type 0} (t : Processes D) (slot : ℕ) (p : Option (Process D)) → length (reap_zombie t slot p).0.slots ≡ length t.slots
zombie-slots t slot None = refl
zombie-slots t slot (Some p) = ended-slots t slot p p.ending

signal-slots : {D : Type 0} (t : Processes D) (slot : ℕ) (p : Process D) (signal : Option Sig) → length (report_signal t slot p signal).0.slots ≡ length t.slots
signal-slots t slot p None = refl
signal-slots t slot p (Some signal) = put-length t slot _

stop-slots : {D : Type 0} (t : Processes D) (slot : ℕ) (p : Option (Process D)) → length (report_stop t slot p).0.slots ≡ length t.slots
stop-slots t slot None = refl
stop-slots t slot (Some p) = signal-slots t slot p p.stopped

none-slots : {D : Type 0} (t : Processes D) (slot : Option ℕ) → length (report_or_none t slot).0.slots ≡ length t.slots
none-slots t None = refl
none-slots t (Some slot) = stop-slots t slot (process_at t slot)

least-slots : {D : Type 0} (t : Processes D) (parent who : ℕ) (untraced : Bool) (slot : Option ℕ) → length (reap_or_report t parent who untraced slot).0.slots ≡ length t.slots
least-slots t parent who untraced (Some slot) = zombie-slots t slot (process_at t slot)
least-slots t parent who true None = none-slots t (least (is_stopped_child parent who) t)
least-slots t parent who false None = refl

by-slots : {D : Type 0} (t : Processes D) (parent who : ℕ) (untraced : Bool) → length (reap_by t parent who untraced).0.slots ≡ length t.slots
by-slots {D} t parent who untraced = by_case (list_any (λ s. holds (is_child parent who) s.process) t.slots)
  where
    refused : AfterWait D
    refused = (t, Err NoChild)

    by_case : (b : Bool) → length (cond b (reap_or_report t parent who untraced (least (is_zombie_child parent who) t)) refused).0.slots ≡ length t.slots
    by_case true = least-slots t parent who untraced (least (is_zombie_child parent who) t)
    by_case false = refl

pub reap-slots : {D : Type 0} (t : Processes D) (caller who : ℕ) (untraced : Bool) → length (reap t caller who untraced).0.slots ≡ length t.slots
reap-slots t caller who untraced = by-slots t (pid_of (process_at t caller)) who untraced
