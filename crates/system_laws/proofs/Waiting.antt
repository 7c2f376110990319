-- An idle try sleeps and changes nothing.
use Rattle.std.proofs.Common.{◌≡◌, ℕ, Bool, true, false, [], ◌∷◌, ◌++◌, refl, ap, ◌∙◌}
use Rattle.std.specs.Prelude.{Option, Some, None, is_some, if◌then◌else◌}
use Rattle.call_words.specs.declared.event.Event.TheVariants as event
use Rattle.call_words.specs.declared.event.Reason.{Reason}
use Rattle.proc_table.specs.Processes.{pending_at}
use Rattle.system_model.specs.State.{View}
use Rattle.system_model.specs.Effects.{change_all}
use Rattle.system_model.specs.Rows.{refused, early, asleep, Check, first, effects_by, decision_by}
use Rattle.system_model.specs.Endings.{endings_of}
use Rattle.system_model.specs.Step.{row, answer_to, view_after, is_idle_check, reason_of_check, waits, is_idle}
use Rattle.system_laws.specs.Laws.{IsIdleTry, Waits}
use Rattle.system_laws.proofs.Runs.{no-endings}

-- the check of an idle try
idle-check : (o : Option Check) → is_idle_check o ≡ true → (reason : Reason) × (o ≡ Some (asleep reason, []))
idle-check None is = cc
idle-check (Some (refused rule, es)) is = cc
idle-check (Some (early given, es)) is = cc
idle-check (Some (asleep reason, [])) is = (reason, refl)
idle-check (Some (asleep reason, e ∷ es)) is = cc

idle-try : (v : View) (slot : ℕ) → v.ending ≡ [] → is_some (pending_at v.processes slot) ≡ true → is_idle v slot ≡ true → IsIdleTry v slot
unfolding answer_to view_after waits
idle-try v slot nobody pends idle =
    let r = row v (event.Again slot) in
    let found = idle-check (first r.checks) idle in
    record {
      reason = found.0;
      waits = ap (λ t. if t then reason_of_check (first r.checks) else None) pends ∙ ap reason_of_check found.1;
      sleeps = ap (λ o. decision_by o r.answer) found.1;
      unchanged =
          ap (λ o. change_all v (effects_by o r.effects ++ endings_of (change_all v (effects_by o r.effects)))) found.1
          ∙ ap (change_all v) (no-endings v nobody);
    }

-- a slot that waits has a pending call, of which another try would be idle
reason-idle : (o : Option Check) (reason : Reason) → reason_of_check o ≡ Some reason → is_idle_check o ≡ true
reason-idle None reason is = cc
reason-idle (Some (refused rule, es)) reason is = cc
reason-idle (Some (early given, es)) reason is = cc
reason-idle (Some (asleep other, [])) reason is = refl
reason-idle (Some (asleep other, e ∷ es)) reason is = cc

waits-idle : (v : View) (slot : ℕ) (reason : Reason) → waits v slot ≡ Some reason → (is_some (pending_at v.processes slot) ≡ true) × (is_idle v slot ≡ true)
unfolding waits
waits-idle v slot reason is = by_pending (is_some (pending_at v.processes slot)) is
  where
    o : Option Check
    o = first (row v (event.Again slot)).checks

    by_pending : (b : Bool) → (if b then reason_of_check o else None) ≡ Some reason → (b ≡ true) × (is_idle_check o ≡ true)
    by_pending true same = (refl, reason-idle o reason same)
    by_pending false never = cc

-- the law of who waits, where nobody is still to be ended, as between events
pub waiting : (v : View) → v.ending ≡ [] → Waits v
waiting v nobody = record { idle = λ slot pends idle. idle-try v slot nobody pends idle; only = waits-idle v }
