-- An event rests, or it asks a call that no check stops: then it does what the call's row does.
use Rattle.std.proofs.Common.{◌≡◌, ℕ, Bool, true, false, cond, List, [], ◌∷◌, ◌++◌, refl, ap, sym, subst, ◌∙◌}
use Rattle.std.specs.Prelude.{Option, Some, None, is_some}
use Rattle.sys_types.specs.declared.sig.Sig.{Sig}
use Rattle.sys_types.specs.declared.rules.Rule.TheVariants.{Asleep}
use Rattle.call_words.specs.declared.call.Call.{Call}
use Rattle.call_words.specs.declared.event.Event.{Event}
use Rattle.call_words.specs.declared.event.Event.TheVariants as event
use Rattle.proc_table.specs.Processes.{Process, is_left, running_at, pending_at}
use Rattle.proc_table.specs.Forks.{is_begin}
use Rattle.line_disc.specs.Device.{Device, hangs_up}
use Rattle.system_model.specs.Parts.{Path}
use Rattle.system_model.specs.State.{View}
use Rattle.system_model.specs.ProcessEffects.{set_pending}
use Rattle.system_model.specs.Effects.{Effect, on_processes, halt}
use Rattle.system_model.specs.Rows.{noted, gone, Outcome, refused, early, check, Row, behind, first, effects_by, done, ended_by}
use Rattle.system_model.specs.Rows.{answer_of, decision}
use Rattle.system_model.specs.Looks.{line_of}
use Rattle.system_model.specs.LineEvents as events
use Rattle.system_model.specs.Step.{call_row, run_row, tell_if_left, begin_sleeps, gone_row, enter_row, retry_row, again_row, is_begin_pending, event_row, row}
use Rattle.system_model.specs.Step.{answer_to}
use Rattle.system_laws.specs.Laws.{asks_call, CanRun}
use Rattle.system_laws.proofs.CarriedRows.{AreStill, still_end, still_next, still-append, still-if, still-one, IsAnswer, asked_now, asked_before}
use Rattle.system_laws.proofs.CarriedRows.{Carries, row_rests, row_carries, carries-run}

-- what an event does
pub data Acts (v : View) (e : Event) : Type 0 where
  rests : AreStill (done (row v e)) → Acts v e
  acts : (slot : ℕ) (c : Call) (rest : List Effect) → asks_call v e slot c → CanRun v slot → first (call_row v slot c).checks ≡ None
      → done (row v e) ≡ (call_row v slot c).effects ++ rest → IsAnswer slot rest → answer_to v e ≡ answer_of (call_row v slot c).answer → Acts v e

-- a check in front that holds has no effects, and one that does not is passed over
held-back : (t : Bool) (o : Outcome) (r : Row) → t ≡ true → AreStill (done (behind (check t o [] ∷ []) r))
held-back true o r is = still_end
held-back false o r is = cc

let-through : (t : Bool) (o : Outcome) (r : Row) → t ≡ false → done (behind (check t o [] ∷ []) r) ≡ done r
let-through true o r is = cc
let-through false o r is = refl

same-answer : (t : Bool) (o : Outcome) (r : Row) → t ≡ false → decision (behind (check t o [] ∷ []) r) ≡ decision r
same-answer true o r is = cc
same-answer false o r is = refl

left-still : (v : View) (slot : ℕ) → AreStill (tell_if_left v slot)
left-still v slot = still-if (is_left v.processes slot) _ _ (still-one _ refl) still_end

gone-still : (v : View) (slot : ℕ) → AreStill (done (gone_row v slot))
gone-still v slot = still-append (tell_if_left v slot) _ (left-still v slot) (still-one _ refl)

begin-still : (v : View) (slot : ℕ) (t : Bool) (pending : List Effect) → AreStill pending
    → AreStill (done (cond t (begin_sleeps v slot pending) (gone_row v slot)))
begin-still v slot true pending are = still-append (tell_if_left v slot) pending (left-still v slot) are
begin-still v slot false pending are = gone-still v slot

-- ---- calls that are asked now

-- the row of a call of a process that is asked now
abbrev asked : View → ℕ → Call → Process Path → Row
asked v slot c who = ended_by (on_processes (set_pending slot (Some c)) ∷ []) [] (run_row v slot who c)

asked-done : (v : View) (slot : ℕ) (c : Call) (who : Process Path) → v.halted ≡ false → running_at v.processes slot ≡ Some who
    → is_some (pending_at v.processes slot) ≡ false → done (row v (event.Call slot c)) ≡ done (asked v slot c who)
asked-done v slot c who up runs free =
    let-through v.halted (early gone) (enter_row v slot c (running_at v.processes slot)) up
    ∙ ap (λ w. done (enter_row v slot c w)) runs
    ∙ let-through (is_some (pending_at v.processes slot)) (refused Asleep) (asked v slot c who) free

asked-answer : (v : View) (slot : ℕ) (c : Call) (who : Process Path) → v.halted ≡ false → running_at v.processes slot ≡ Some who
    → is_some (pending_at v.processes slot) ≡ false → answer_to v (event.Call slot c) ≡ decision (asked v slot c who)
unfolding answer_to
asked-answer v slot c who up runs free =
    same-answer v.halted (early gone) (enter_row v slot c (running_at v.processes slot)) up
    ∙ ap (λ w. decision (enter_row v slot c w)) runs
    ∙ same-answer (is_some (pending_at v.processes slot)) (refused Asleep) (asked v slot c who) free

ask-runs : (v : View) (slot : ℕ) (c : Call) (who : Process Path) → v.halted ≡ false → running_at v.processes slot ≡ Some who
    → is_some (pending_at v.processes slot) ≡ false → Carries v slot who c (asked v slot c who) → Acts v (event.Call slot c)
ask-runs v slot c who up runs free (row_rests are) = rests (subst AreStill (sym (asked-done v slot c who up runs free)) are)
ask-runs v slot c who up runs free (row_carries rest awake none does answered says) =
    acts slot c rest (refl, refl, free) (record { who = who; runs = runs; awake = awake; up = up }) none (asked-done v slot c who up runs free ∙ does) answered
    (asked-answer v slot c who up runs free ∙ says)

ask-free : (v : View) (slot : ℕ) (c : Call) (who : Process Path) (t : Bool) → v.halted ≡ false → running_at v.processes slot ≡ Some who
    → is_some (pending_at v.processes slot) ≡ t → Acts v (event.Call slot c)
ask-free v slot c who true up runs is =
    rests (subst AreStill
    (sym (let-through v.halted (early gone) (enter_row v slot c (running_at v.processes slot)) up ∙ ap (λ w. done (enter_row v slot c w)) runs))
    (held-back (is_some (pending_at v.processes slot)) (refused Asleep) (asked v slot c who) is))
ask-free v slot c who false up runs is =
    ask-runs v slot c who up runs is (carries-run v slot who c (on_processes (set_pending slot (Some c)) ∷ []) [] (still-one _ refl) asked_now)

ask-by : (v : View) (slot : ℕ) (c : Call) (w : Option (Process Path)) → v.halted ≡ false → running_at v.processes slot ≡ w → Acts v (event.Call slot c)
ask-by v slot c None up runs =
    rests (subst AreStill
    (sym (let-through v.halted (early gone) (enter_row v slot c (running_at v.processes slot)) up ∙ ap (λ w. done (enter_row v slot c w)) runs))
    (begin-still v slot (is_begin c) (on_processes (set_pending slot (Some c)) ∷ []) (still-one _ refl)))
ask-by v slot c (Some who) up runs = ask-free v slot c who (is_some (pending_at v.processes slot)) up runs refl

-- ---- pending calls that are tried again

abbrev again : View → ℕ → Call → Process Path → Row
again v slot c who = ended_by [] (on_processes (set_pending slot None) ∷ []) (run_row v slot who c)

again-done : (v : View) (slot : ℕ) (c : Call) (who : Process Path) → v.halted ≡ false → running_at v.processes slot ≡ Some who
    → pending_at v.processes slot ≡ Some c → done (row v (event.Again slot)) ≡ done (again v slot c who)
again-done v slot c who up runs pends =
    let-through v.halted (early gone) (again_row v slot (running_at v.processes slot)) up
    ∙ ap (λ w. done (again_row v slot w)) runs
    ∙ ap (λ o. done (retry_row v slot who o)) pends

again-answer : (v : View) (slot : ℕ) (c : Call) (who : Process Path) → v.halted ≡ false → running_at v.processes slot ≡ Some who
    → pending_at v.processes slot ≡ Some c → answer_to v (event.Again slot) ≡ decision (again v slot c who)
unfolding answer_to
again-answer v slot c who up runs pends =
    same-answer v.halted (early gone) (again_row v slot (running_at v.processes slot)) up
    ∙ ap (λ w. decision (again_row v slot w)) runs
    ∙ ap (λ o. decision (retry_row v slot who o)) pends

again-runs : (v : View) (slot : ℕ) (c : Call) (who : Process Path) → v.halted ≡ false → running_at v.processes slot ≡ Some who
    → pending_at v.processes slot ≡ Some c → Carries v slot who c (again v slot c who) → Acts v (event.Again slot)
again-runs v slot c who up runs pends (row_rests are) = rests (subst AreStill (sym (again-done v slot c who up runs pends)) are)
again-runs v slot c who up runs pends (row_carries rest awake none does answered says) =
    acts slot c rest (refl, pends) (record { who = who; runs = runs; awake = awake; up = up }) none (again-done v slot c who up runs pends ∙ does) answered
    (again-answer v slot c who up runs pends ∙ says)

again-pending : (v : View) (slot : ℕ) (who : Process Path) (o : Option Call) → v.halted ≡ false → running_at v.processes slot ≡ Some who
    → pending_at v.processes slot ≡ o → Acts v (event.Again slot)
again-pending v slot who None up runs pends =
    rests (subst AreStill
    (sym (let-through v.halted (early gone) (again_row v slot (running_at v.processes slot)) up ∙ ap (λ w. done (again_row v slot w)) runs
    ∙ ap (λ o. done (retry_row v slot who o)) pends))
    still_end)
again-pending v slot who (Some c) up runs pends =
    again-runs v slot c who up runs pends (carries-run v slot who c [] (on_processes (set_pending slot None) ∷ []) still_end asked_before)

again-by : (v : View) (slot : ℕ) (w : Option (Process Path)) → v.halted ≡ false → running_at v.processes slot ≡ w → Acts v (event.Again slot)
again-by v slot None up runs =
    rests (subst AreStill
    (sym (let-through v.halted (early gone) (again_row v slot (running_at v.processes slot)) up ∙ ap (λ w. done (again_row v slot w)) runs))
    (begin-still v slot (is_begin_pending (pending_at v.processes slot)) [] still_end))
again-by v slot (Some who) up runs = again-pending v slot who (pending_at v.processes slot) up runs refl

-- ---- lines

signal-still : (group : ℕ) (signal : Option Sig) (session : Option ℕ) → AreStill (events.signal_foreground group signal session)
signal-still group None session = still_end
signal-still group (Some signal) None = still_end
signal-still group (Some signal) (Some session) = still-one _ refl

leader-still : (session : Option ℕ) → AreStill (events.hang_up_leader session)
leader-still None = still_end
leader-still (Some session) = still-one _ refl

hang-still : (line : Device ℕ) (up : Bool) → AreStill (events.hang_up line up)
hang-still line up = still-if (hangs_up line up) _ _ (leader-still line.session) still_end

ended-still : (v : View) (n : ℕ) (t : Bool) → AreStill (effects_by (first (check t (early noted) [] ∷ [])) (events.end_row v n).effects)
ended-still v n true = still_end
ended-still v n false =
    still_next _ _ refl (still-append _ _ (hang-still (line_of v n) false) (still-if _ (halt ∷ []) [] (still-one halt refl) still_end))

-- ---- all events

-- while the system is up
acts-up : (v : View) (e : Event) → v.halted ≡ false → Acts v e
acts-up v (event.Call slot c) up = ask-by v slot c (running_at v.processes slot) up refl
acts-up v (event.Again slot) up = again-by v slot (running_at v.processes slot) up refl
acts-up v (event.Byte n b) up =
    rests (subst AreStill (sym (let-through v.halted (early gone) (event_row v (event.Byte n b)) up))
    (still_next _ _ refl (signal-still _ _ (line_of v n).session)))
acts-up v (event.Carrier n up_now) up =
    rests (subst AreStill (sym (let-through v.halted (early gone) (event_row v (event.Carrier n up_now)) up))
    (still_next _ _ refl (hang-still (line_of v n) up_now)))
acts-up v (event.Take n max) up =
    rests (subst AreStill (sym (let-through v.halted (early gone) (event_row v (event.Take n max)) up)) (still-one _ refl))
acts-up v (event.Ended n) up =
    rests (subst AreStill (sym (let-through v.halted (early gone) (event_row v (event.Ended n)) up)) (ended-still v n (line_of v n).ended))

acts-by : (v : View) (e : Event) (t : Bool) → v.halted ≡ t → Acts v e
acts-by v e true is = rests (held-back v.halted (early gone) (event_row v e) is)
acts-by v e false is = acts-up v e is

pub acts_of : (v : View) (e : Event) → Acts v e
acts_of v e = acts-by v e v.halted refl
