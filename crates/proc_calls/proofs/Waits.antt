-- A wait keeps where the processes are: a slot is emptied of a zombie alone.
use Rattle.std.proofs.Common.{◌≡◌, ◌⊎◌, inl, inr, ⊎_elim, ℕ, zero, suc, Bool, true, false, cond, List, [], ◌∷◌, Option, Some, None, option_and_then, Err, refl, sym, ap, ◌∙◌}
use Rattle.std.specs.Prelude.{is_some, slice_index_or, slice_set}
use Rattle.std.specs.List.{list_any}
use Rattle.sys_types.specs.declared.rules.Rule.TheVariants as rule
use Rattle.sys_types.specs.declared.sig.Sig.{Sig}
use Rattle.call_words.specs.declared.event.How.{How}
use Rattle.proc_table.specs.Processes.{Process, Slot, Processes, empty_slot, process_at, running_of, remove, holds, pid_of}
use Rattle.proc_table.specs.Reaping.{is_child, is_zombie_child, is_stopped_child, least, reap_ended, reap_zombie, report, report_signal, report_stop}
use Rattle.proc_table.specs.Reaping.{report_or_none, reap_or_report, reap}
use Rattle.proc_calls.proofs.Keeping.{Keeps, keeps_all, change_keeps}

abbrev there : List (Slot ℕ) → ℕ → Option (Process ℕ)
there slots slot = (slice_index_or slots slot empty_slot).process

abbrev without : List (Slot ℕ) → ℕ → List (Slot ℕ)
without slots slot = slice_set slots slot (record (slice_index_or slots slot empty_slot) { process = None })

-- a slot is as it was, or it is the one that was left, and is empty
removed-there : (slots : List (Slot ℕ)) (slot other : ℕ)
    → (there (without slots slot) other ≡ there slots other) ⊎ ((there (without slots slot) other ≡ None) × (there slots other ≡ there slots slot))
removed-there [] slot other = inl refl
removed-there (s ∷ slots) zero zero = inr (refl, refl)
removed-there (s ∷ slots) zero (suc other) = inl refl
removed-there (s ∷ slots) (suc slot) zero = inl refl
removed-there (s ∷ slots) (suc slot) (suc other) = removed-there slots slot other

ended-not-running : (p : Process ℕ) (why : How) → p.ending ≡ Some why → running_of p ≡ None
ended-not-running p why is = rw is refl

remove_keeps : (t : Processes ℕ) (slot : ℕ) (p : Process ℕ) (why : How) → process_at t slot ≡ Some p → p.ending ≡ Some why → Keeps t (remove t slot)
remove_keeps t slot p why stands ends = record {
  directories = λ other q is.
      ⊎_elim
      (λ (e : there (without t.slots slot) other ≡ there t.slots other). record { process = q; stood = sym e ∙ is; same = refl; zombie = λ ended. ended })
      (λ (e : (there (without t.slots slot) other ≡ None) × (there t.slots other ≡ there t.slots slot)). let never = sym e.0 ∙ is in absurd cc)
      (removed-there t.slots slot other);
  running = λ other is.
      ⊎_elim
      (λ (e : there (without t.slots slot) other ≡ there t.slots other). ap (λ (o : Option (Process ℕ)). is_some (option_and_then running_of o)) e ∙ is)
      (λ (e : (there (without t.slots slot) other ≡ None) × (there t.slots other ≡ there t.slots slot)).
      let never = sym is ∙ ap (λ (o : Option (Process ℕ)). is_some (option_and_then running_of o)) (e.1 ∙ stands) ∙ ap is_some (ended-not-running p why ends) in
      absurd cc)
      (removed-there t.slots slot other);
}

ended_keeps : (t : Processes ℕ) (slot : ℕ) (p : Process ℕ) (why : Option How) → process_at t slot ≡ Some p → p.ending ≡ why
    → Keeps t (reap_ended t slot p why).0
ended_keeps t slot p None stands ends = keeps_all t
ended_keeps t slot p (Some why) stands ends = remove_keeps t slot p why stands ends

zombie_keeps : (t : Processes ℕ) (slot : ℕ) (o : Option (Process ℕ)) → process_at t slot ≡ o → Keeps t (reap_zombie t slot o).0
zombie_keeps t slot None stands = keeps_all t
zombie_keeps t slot (Some p) stands = ended_keeps t slot p p.ending stands refl

signal_keeps : (t : Processes ℕ) (slot : ℕ) (p : Process ℕ) (o : Option Sig) → Keeps t (report_signal t slot p o).0
signal_keeps t slot p None = keeps_all t
signal_keeps t slot p (Some signal) = change_keeps report (λ q. refl) (λ q. refl) t slot

stop_keeps : (t : Processes ℕ) (slot : ℕ) (o : Option (Process ℕ)) → Keeps t (report_stop t slot o).0
stop_keeps t slot None = keeps_all t
stop_keeps t slot (Some p) = signal_keeps t slot p p.stopped

none_keeps : (t : Processes ℕ) (o : Option ℕ) → Keeps t (report_or_none t o).0
none_keeps t None = keeps_all t
none_keeps t (Some slot) = stop_keeps t slot (process_at t slot)

report_keeps : (t : Processes ℕ) (parent who : ℕ) (untraced : Bool) (o : Option ℕ) → Keeps t (reap_or_report t parent who untraced o).0
report_keeps t parent who untraced (Some slot) = zombie_keeps t slot (process_at t slot) refl
report_keeps t parent who true None = none_keeps t (least (is_stopped_child parent who) t)
report_keeps t parent who false None = keeps_all t

pub reap_keeps : (t : Processes ℕ) (caller who : ℕ) (untraced : Bool) → Keeps t (reap t caller who untraced).0
reap_keeps t caller who untraced =
    (let parent = pid_of (process_at t caller) in
    by_child parent (list_any (λ (s : Slot ℕ). holds (is_child parent who) s.process) t.slots))
  where
    by_child : (parent : ℕ) (b : Bool)
        → Keeps t (cond b (reap_or_report t parent who untraced (least (is_zombie_child parent who) t)) (t, Err rule.NoChild)).0
    by_child parent true = report_keeps t parent who untraced (least (is_zombie_child parent who) t)
    by_child parent false = keeps_all t
