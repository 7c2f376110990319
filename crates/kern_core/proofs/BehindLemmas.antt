-- What stands before and behind a call.
use Rattle.std.proofs.Common.{◌≡◌, ℕ, Bool, true, false, cond, List, [], ◌∷◌, ◌++◌, map, Option, Some, None, option_map, refl, sym, ap, ◌∙◌}
use Rattle.std.specs.Prelude.{is_some, unwrap_or, Result, Ok, Err, OnErr, option_copied}
use Rattle.sys_types.specs.declared.rules.Rule.TheVariants.{Asleep, Awake}
use Rattle.call_words.specs.declared.call.Call.{Call}
use Rattle.call_words.specs.declared.event.Event.{Event}
use Rattle.call_words.specs.declared.event.Decision.{Decision}
use Rattle.call_words.specs.declared.event.Decision.TheVariants.{Answer, Sleep}
use Rattle.call_words.specs.declared.event.Reply.TheVariants.{Denied, Gone}
use Rattle.call_words.specs.declared.event.Reason.TheVariants.{Stop, Begin}
use Rattle.proc_table.specs.Processes.{Process, first_process, is_stopped, running_at, pending_at}
use Rattle.system_model.specs.Parts.{Path}
use Rattle.system_model.specs.State.{View}
use Rattle.system_model.specs.Effects.{Effect, on_processes, change, change_all}
use Rattle.system_model.specs.ProcessEffects.{set_pending}
use Rattle.system_model.specs.Looks.{caller_of}
use Rattle.system_model.specs.Rows.{Given, number, pair, child, image, bytes, text, gone, taken, noted, Check, refused, early, asleep, check, deny, answer_if, Row, first, also, ended_by, answer_of}
use Rattle.system_model.specs.Rows.{decision_by, effects_by, Does}
use Rattle.system_model.specs.Step.{call_row, event_row, row, run_row, enter_row, retry_row, again_row, gone_row, begin_sleeps, tell_if_left, is_begin_pending}
use Rattle.system_model.specs.Tables.{Tables, seen_process, view_of}
use Rattle.system_model.proofs.RowLemmas.{stops, passes, sleeps, answers_early, refuses, holds_first, goes_on, front_refuses, front_passes}
use Rattle.std.proofs.lemmas.List.{append-nil}
use Rattle.std.specs.Borrow.{Bor}
use Rattle.system_model.proofs.SeenProcesses.{caller_seen}
use Rattle.system_laws.proofs.Runs.{change_more}
use Rattle.kern_core.specs.Pending.{is_sleep}
use Rattle.kern_core.proofs.SlotLemmas.{pending_is, running_is, halted_is}

-- ---- a process that is stopped

pub stopped-seen : (t : Tables) (slot : ℕ) (p : Process ℕ) → running_at t.processes slot ≡ Some p → is_stopped (caller_of (view_of t) slot) ≡ is_stopped p
stopped-seen t slot p running = ap is_stopped (caller_seen t slot p running)

pub run_stops : (t : Tables) (slot : ℕ) (p : Process ℕ) (c : Call) → running_at t.processes slot ≡ Some p → is_stopped p ≡ true
    → Does (view_of t) (view_of t) (Sleep Stop) (run_row (view_of t) slot (caller_of (view_of t) slot) c)
run_stops t slot p c running stopped =
    sleeps (view_of t) (run_row (view_of t) slot (caller_of (view_of t) slot) c) Stop
    (stops (check (is_stopped (caller_of (view_of t) slot)) (asleep Stop) []) (call_row (view_of t) slot c).checks (asleep Stop, [])
    (ap (λ b. check b (asleep Stop) []) (stopped-seen t slot p running ∙ stopped)))

pub run_goes : (t : Tables) (new : View) (d : Decision) (slot : ℕ) (p : Process ℕ) (c : Call) → running_at t.processes slot ≡ Some p → is_stopped p ≡ false
    → Does (view_of t) new d (call_row (view_of t) slot c) → Does (view_of t) new d (run_row (view_of t) slot (caller_of (view_of t) slot) c)
run_goes t new d slot p c running stopped does =
    front_passes (view_of t) new d (check (is_stopped (caller_of (view_of t) slot)) (asleep Stop) []) (call_row (view_of t) slot c)
    (ap (λ b. check b (asleep Stop) []) (stopped-seen t slot p running ∙ stopped)) does

-- ---- what is done besides, where a decision sleeps and where it does not

awake : (given : Given) → is_sleep (answer_of given) ≡ false
awake (number n) = refl
awake (pair r w) = refl
awake (child pid how) = refl
awake (image i args) = refl
awake (bytes bs) = refl
awake (text t) = refl
awake gone = refl
awake (taken bs) = refl
awake noted = refl

pub first-ended : (sleeping waking : List Effect) (cs : List (Option Check)) → first (map (option_map (also sleeping waking)) cs) ≡ option_map (also sleeping waking) (first cs)
first-ended sleeping waking [] = refl
first-ended sleeping waking (None ∷ cs) = first-ended sleeping waking cs
first-ended sleeping waking (Some c ∷ cs) = refl

chosen : (b c : Bool) (sleeping waking : List Effect) (v : View) → b ≡ c → change_all v (cond b sleeping waking) ≡ change_all v (cond c sleeping waking)
chosen b c sleeping waking v is = ap (λ x. change_all v (cond x sleeping waking)) is

state-by : (old mid new : View) (d : Decision) (es : List Effect) (given : Given) (sleeping waking : List Effect) (o : Option Check)
    → mid ≡ change_all old (effects_by o es) → d ≡ decision_by o given → new ≡ change_all mid (cond (is_sleep d) sleeping waking)
    → new ≡ change_all old (effects_by (option_map (also sleeping waking) o) (es ++ waking))
state-by old mid new d es given sleeping waking None before answer is =
    is ∙ chosen (is_sleep d) false sleeping waking mid (ap is_sleep answer ∙ awake given) ∙ ap (λ v. change_all v waking) before ∙ sym (change_more old es waking)
state-by old mid new d es given sleeping waking (Some (refused rule, fs)) before answer is =
    is ∙ chosen (is_sleep d) false sleeping waking mid (ap is_sleep answer) ∙ ap (λ v. change_all v waking) before ∙ sym (change_more old fs waking)
state-by old mid new d es given sleeping waking (Some (early g, fs)) before answer is =
    is ∙ chosen (is_sleep d) false sleeping waking mid (ap is_sleep answer ∙ awake g) ∙ ap (λ v. change_all v waking) before ∙ sym (change_more old fs waking)
state-by old mid new d es given sleeping waking (Some (asleep why, fs)) before answer is =
    is ∙ chosen (is_sleep d) true sleeping waking mid (ap is_sleep answer) ∙ ap (λ v. change_all v sleeping) before ∙ sym (change_more old fs sleeping)

answer-by : (sleeping waking : List Effect) (given : Given) (o : Option Check) → decision_by o given ≡ decision_by (option_map (also sleeping waking) o) given
answer-by sleeping waking given None = refl
answer-by sleeping waking given (Some (refused rule, fs)) = refl
answer-by sleeping waking given (Some (early g, fs)) = refl
answer-by sleeping waking given (Some (asleep why, fs)) = refl

pub ended : (old mid new : View) (d : Decision) (r : Row) (sleeping waking : List Effect) → Does old mid d r
    → new ≡ change_all mid (cond (is_sleep d) sleeping waking) → Does old new d (ended_by sleeping waking r)
unfolding ended_by
ended old mid new d r sleeping waking does is = record {
  state =
      state-by old mid new d r.effects r.answer sleeping waking (first r.checks) does.state does.answer is
      ∙ ap (λ o. change_all old (effects_by o (r.effects ++ waking))) (sym (first-ended sleeping waking r.checks));
  answer =
      does.answer ∙ answer-by sleeping waking r.answer (first r.checks)
      ∙ ap (λ o. decision_by o r.answer) (sym (first-ended sleeping waking r.checks));
}

-- ---- a call that is asked

pub enter_denied : (t : Tables) (slot : ℕ) (c : Call) (who : Process Path) → is_some (pending_at t.processes slot) ≡ true
    → Does (view_of t) (view_of t) (Answer (Denied Asleep)) (enter_row (view_of t) slot c (Some who))
enter_denied t slot c who is =
    front_refuses (view_of t) (deny (is_some (pending_at (view_of t).processes slot)) Asleep)
    (ended_by (on_processes (set_pending slot (Some c)) ∷ []) [] (run_row (view_of t) slot who c)) Asleep
    (ap (λ o. deny (is_some o) Asleep) (pending_is t slot) ∙ ap (λ b. deny b Asleep) is)

pub enter_done : (t : Tables) (mid new : View) (d : Decision) (slot : ℕ) (c : Call) (who : Process Path) → is_some (pending_at t.processes slot) ≡ false
    → Does (view_of t) mid d (run_row (view_of t) slot who c) → new ≡ change_all mid (cond (is_sleep d) (on_processes (set_pending slot (Some c)) ∷ []) [])
    → Does (view_of t) new d (enter_row (view_of t) slot c (Some who))
enter_done t mid new d slot c who free does is =
    front_passes (view_of t) new d (deny (is_some (pending_at (view_of t).processes slot)) Asleep)
    (ended_by (on_processes (set_pending slot (Some c)) ∷ []) [] (run_row (view_of t) slot who c))
    (ap (λ o. deny (is_some o) Asleep) (pending_is t slot) ∙ ap (λ b. deny b Asleep) free)
    (ended (view_of t) mid new d (run_row (view_of t) slot who c) (on_processes (set_pending slot (Some c)) ∷ []) [] does is)

-- ---- one that is tried again

pub retry_done : (t : Tables) (mid new : View) (d : Decision) (slot : ℕ) (c : Call) (who : Process Path) (pending : Option Call) → pending ≡ Some c
    → Does (view_of t) mid d (run_row (view_of t) slot who c) → new ≡ change_all mid (cond (is_sleep d) [] (on_processes (set_pending slot None) ∷ []))
    → Does (view_of t) new d (retry_row (view_of t) slot who pending)
retry_done t mid new d slot c who pending same does is =
    rw same (ended (view_of t) mid new d (run_row (view_of t) slot who c) [] (on_processes (set_pending slot None) ∷ []) does is)

pub is_some_copied : {T : Type 0} → (o : Option (Bor T)) → is_some (option_copied o) ≡ is_some o
is_some_copied None = refl
is_some_copied (Some x) = refl

-- ---- a slot without a running process

pub retry_begins : (v new : View) (slot : ℕ) → is_begin_pending (pending_at v.processes slot) ≡ true → new ≡ change_all v (tell_if_left v slot)
    → Does v new (Sleep Begin) (again_row v slot None)
retry_begins v new slot begins is =
    rw begins (holds_first v new (begin_sleeps v slot []) (asleep Begin, tell_if_left v slot ++ []) refl (is ∙ ap (change_all v) (sym (append-nil (tell_if_left v slot)))))

pub retry_gone : (v new : View) (slot : ℕ) → is_begin_pending (pending_at v.processes slot) ≡ false
    → new ≡ change (change_all v (tell_if_left v slot)) (on_processes (set_pending slot None)) → Does v new (Answer Gone) (again_row v slot None)
retry_gone v new slot begins is =
    rw begins (goes_on v new (gone_row v slot) refl (is ∙ sym (change_more v (tell_if_left v slot) (on_processes (set_pending slot None) ∷ []))))

-- ---- who runs in a slot

none-there : {A B : Type 0} (f : A → B) (o : Option (Bor A)) (r : Option B) → option_map f (option_copied o) ≡ r → is_some o ≡ false → r ≡ None
none-there f None r is none = sym is
none-there f (Some x) r is none = absurd cc

some-there : {A B : Type 0} (f : A → B) (o : Option (Bor A)) (r : Option B) → option_map f (option_copied o) ≡ r → is_some o ≡ true → is_some r ≡ true
some-there f None r is some = absurd cc
some-there f (Some x) r is some = ap is_some (sym is)

pub nobody_runs : {A : Type 0} (t : Tables) (slot : ℕ) (f : A → Process ℕ) (o : Option (Bor A)) → option_map f (option_copied o) ≡ running_at t.processes slot
    → is_some o ≡ false → running_at (view_of t).processes slot ≡ None
nobody_runs t slot f o is none =
    running_is t slot ∙ ap (option_map (seen_process t.nodes)) (none-there f o (running_at t.processes slot) is none)

some-of : {A : Type 0} (o : Option A) (d : A) → is_some o ≡ true → o ≡ Some (unwrap_or o d)
some-of None d is = absurd cc
some-of (Some x) d is = refl

some-map : {A B : Type 0} (f : A → B) (o : Option A) → is_some o ≡ true → is_some (option_map f o) ≡ true
some-map f None is = is
some-map f (Some x) is = refl

pub somebody_runs : {A : Type 0} (t : Tables) (slot : ℕ) (f : A → Process ℕ) (o : Option (Bor A)) → option_map f (option_copied o) ≡ running_at t.processes slot
    → is_some o ≡ true → running_at (view_of t).processes slot ≡ Some (caller_of (view_of t) slot)
somebody_runs t slot f o is some =
    some-of (running_at (view_of t).processes slot) (first_process [])
    (ap is_some (running_is t slot) ∙ some-map (seen_process t.nodes) (running_at t.processes slot) (some-there f o (running_at t.processes slot) is some))

-- a slot that waits in no call
pub retry_awake : (v : View) (slot : ℕ) (who : Process Path) (pending : Option Call) → pending ≡ None
    → Does v v (Answer (Denied Awake)) (retry_row v slot who pending)
retry_awake v slot who pending none = rw none (refuses v (retry_row v slot who None) Awake refl)

-- ---- a system that is halted, and one that is not

pub err_any : {T E : Type 0} {P : Type 0} (r : Result T E) → P → OnErr r P
err_any (Ok x) is = tt
err_any (Err e) is = is

pub halted_gone : (t : Tables) (e : Event) → t.halted ≡ true → Does (view_of t) (view_of t) (Answer Gone) (row (view_of t) e)
halted_gone t e halted =
    answers_early (view_of t) (row (view_of t) e) gone
    (stops (answer_if (view_of t).halted gone) (event_row (view_of t) e).checks (early gone, []) (ap (λ b. answer_if b gone) (halted_is t ∙ halted)))

pub live_does : (t : Tables) (new : View) (d : Decision) (e : Event) → t.halted ≡ false → Does (view_of t) new d (event_row (view_of t) e)
    → Does (view_of t) new d (row (view_of t) e)
live_does t new d e live does =
    front_passes (view_of t) new d (answer_if (view_of t).halted gone) (event_row (view_of t) e) (ap (λ b. answer_if b gone) (halted_is t ∙ live)) does

pub live_free : (t : Tables) (e : Event) → t.halted ≡ false → first (event_row (view_of t) e).checks ≡ None → first (row (view_of t) e).checks ≡ None
live_free t e live free =
    passes (answer_if (view_of t).halted gone) (event_row (view_of t) e).checks (ap (λ b. answer_if b gone) (halted_is t ∙ live)) ∙ free

-- ---- no check holds: neither of a call, nor of what stands before it

pub run_free : (t : Tables) (slot : ℕ) (p : Process ℕ) (c : Call) → running_at t.processes slot ≡ Some p → is_stopped p ≡ false
    → first (call_row (view_of t) slot c).checks ≡ None → first (run_row (view_of t) slot (caller_of (view_of t) slot) c).checks ≡ None
run_free t slot p c running awake free =
    passes (check (is_stopped (caller_of (view_of t) slot)) (asleep Stop) []) (call_row (view_of t) slot c).checks
    (ap (λ b. check b (asleep Stop) []) (stopped-seen t slot p running ∙ awake)) ∙ free

ended-free : (sleeping waking : List Effect) (r : Row) → first r.checks ≡ None → first (ended_by sleeping waking r).checks ≡ None
unfolding ended_by
ended-free sleeping waking r free = first-ended sleeping waking r.checks ∙ ap (option_map (also sleeping waking)) free

pub enter_free : (t : Tables) (slot : ℕ) (c : Call) (who : Process Path) → is_some (pending_at t.processes slot) ≡ false
    → first (run_row (view_of t) slot who c).checks ≡ None → first (enter_row (view_of t) slot c (Some who)).checks ≡ None
enter_free t slot c who awake free =
    passes (deny (is_some (pending_at (view_of t).processes slot)) Asleep)
    (ended_by (on_processes (set_pending slot (Some c)) ∷ []) [] (run_row (view_of t) slot who c)).checks
    (ap (λ o. deny (is_some o) Asleep) (pending_is t slot) ∙ ap (λ b. deny b Asleep) awake)
    ∙ ended-free (on_processes (set_pending slot (Some c)) ∷ []) [] (run_row (view_of t) slot who c) free

pub retry_free : (v : View) (slot : ℕ) (c : Call) (who : Process Path) (pending : Option Call) → pending ≡ Some c
    → first (run_row v slot who c).checks ≡ None → first (retry_row v slot who pending).checks ≡ None
retry_free v slot c who pending same free = rw same (ended-free [] (on_processes (set_pending slot None) ∷ []) (run_row v slot who c) free)
