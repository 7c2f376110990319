-- A call that puts an open file at a number, and is answered with a number, met no check: it did all that its row does.
use Rattle.std.proofs.Common.{◌≡◌, ℕ, Bool, true, false, cond, List, [], ◌∷◌, ◌++◌, refl, ap, subst, ◌∙◌}
use Rattle.std.specs.Prelude.{Option, Some, None, is_some, option_map}
use Rattle.sys_types.specs.declared.rules.Rule.{Rule}
use Rattle.sys_types.specs.declared.rules.Rule.TheVariants.{Asleep, Signal}
use Rattle.sys_types.specs.declared.node.Kind.{Kind}
use Rattle.sys_types.specs.declared.node.Kind.TheVariants as kind
use Rattle.call_words.specs.declared.call.Call.{Call}
use Rattle.call_words.specs.declared.call.Call.TheVariants as call
use Rattle.call_words.specs.declared.event.Event.{Event}
use Rattle.call_words.specs.declared.event.Event.TheVariants as event
use Rattle.call_words.specs.declared.event.Reason.{Reason}
use Rattle.call_words.specs.declared.event.Reason.TheVariants as reason
use Rattle.call_words.specs.declared.open.Access.{Access}
use Rattle.call_words.specs.declared.open.OpenFlags.{OpenFlags}
use Rattle.tree_model.specs.Tree.{NodeRecord, WalkEnd, found, absent, missing, not_dir, name_long, path_long}
use Rattle.proc_table.specs.Processes.{Process, is_stopped, running_at, pending_at}
use Rattle.system_model.specs.Parts.{Path}
use Rattle.system_model.specs.State.{View}
use Rattle.system_model.specs.ProcessEffects.{set_pending}
use Rattle.system_model.specs.Effects.{Effect, on_processes}
use Rattle.system_model.specs.Rows.{Given, gone, Outcome, refused, early, asleep, Check, check, deny, deny_by, sleep_if, has_caught, first, decision_by, decision, done}
use Rattle.system_model.specs.Rows.{answer_of, also, ended_by, effects_by}
use Rattle.system_model.specs.Looks.{caller_of}
use Rattle.system_model.specs.OpenCalls as opens
use Rattle.system_model.specs.Step.{call_row, run_row, enter_row, retry_row, again_row, row, answer_to}
use Rattle.system_laws.specs.Laws.{asks_call, CanRun}
use Rattle.system_laws.proofs.Labels.{is_own, own-behind, own-gone, own-ended, own-answer}
use Rattle.system_laws.proofs.Revocations.{entered, retried}
use Rattle.system_laws.proofs.CarriedRows.{IsAnswer, asked_now, asked_before}
use Rattle.system_laws.proofs.PutNumbers.{is_maker}

-- ---- rows without early answers

abbrev is_early : Option Check → Bool
is_early None = false
is_early (Some (refused rule, es)) = false
is_early (Some (early given, es)) = true
is_early (Some (asleep reason, es)) = false

data NoEarly : List (Option Check) → Type 0 where
  early_end : NoEarly []
  early_next : (o : Option Check) (cs : List (Option Check)) → is_early o ≡ false → NoEarly cs → NoEarly (o ∷ cs)

early-append : (cs ds : List (Option Check)) → NoEarly cs → NoEarly ds → NoEarly (cs ++ ds)
early-append [] ds early_end more = more
early-append (c ∷ cs) ds (early_next _ _ is rest) more = early_next c (cs ++ ds) is (early-append cs ds rest more)

early-deny : (t : Bool) (rule : Rule) → is_early (deny t rule) ≡ false
early-deny true rule = refl
early-deny false rule = refl

early-by : (rule : Option Rule) → is_early (deny_by rule) ≡ false
early-by None = refl
early-by (Some rule) = refl

early-sleep : (t : Bool) (who : Process Path) (why : Reason) → is_early (sleep_if t who why) ≡ false
early-sleep false who why = refl
early-sleep true who why = by_case (has_caught who)
  where
    by_case : (b : Bool) → is_early (Some (cond b (refused Signal) (asleep why), [])) ≡ false
    by_case true = refl
    by_case false = refl

early-tty : (v : View) (slot : ℕ) (flags : OpenFlags) (n : ℕ) → NoEarly (opens.tty_checks v slot flags n)
early-tty v slot flags n =
    early_next _ _ (early-deny _ _) (early_next _ _ (early-deny _ _) (early_next _ _ (early-sleep (opens.waits_for_carrier v flags n) (caller_of v slot) reason.Carrier) (early_next _ _ (early-deny _ _) early_end)))

early-own : (v : View) (slot : ℕ) (access : Access) (flags : OpenFlags) (n : Option ℕ) → NoEarly (opens.own_tty_checks v slot access flags n)
early-own v slot access flags None = early_next _ _ refl early_end
early-own v slot access flags (Some n) = early_next _ _ (early-by _) (early-tty v slot flags n)

early-kind : (v : View) (slot : ℕ) (access : Access) (flags : OpenFlags) (k : Kind) → NoEarly (opens.kind_checks v slot access flags k)
early-kind v slot access flags kind.File = early_end
early-kind v slot access flags kind.Dir = early_end
early-kind v slot access flags (kind.Line n) = early-tty v slot flags n
early-kind v slot access flags kind.Tty = early-own v slot access flags (opens.own_tty v slot)

early-place : (v : View) (slot : ℕ) (access : Access) (flags : OpenFlags) (what : Option NodeRecord) → NoEarly (opens.place_checks v slot access flags what)
early-place v slot access flags None = early_end
early-place v slot access flags (Some what) = early-kind v slot access flags what.kind

early-open : (v : View) (slot : ℕ) (access : Access) (flags : OpenFlags) (mode : ℕ) (end : WalkEnd)
    → NoEarly (opens.open_at v slot access flags mode end).checks
early-open v slot access flags mode (found place) =
    early_next _ _ (early-deny _ _) (early_next _ _ (early-deny _ _) (early_next _ _ (early-by _)
    (early-append (opens.place_checks v slot access flags _) _ (early-place v slot access flags _) (early_next _ _ (early-by _) early_end))))
early-open v slot access flags mode (absent dir name) =
    early_next _ _ (early-deny _ _) (early_next _ _ (early-by _) (early_next _ _ (early-by _) early_end))
early-open v slot access flags mode missing = early_end
early-open v slot access flags mode not_dir = early_end
early-open v slot access flags mode name_long = early_end
early-open v slot access flags mode path_long = early_end

early-maker : (v : View) (slot : ℕ) (c : Call) → is_maker c ≡ true → NoEarly (call_row v slot c).checks
early-maker v slot (call.Open path access flags mode) is =
    early_next _ _ (early-deny _ _) (early_next _ _ (early-by _) (early-open v slot access flags mode _))
early-maker v slot call.Pipe is = early_next _ _ (early-by _) (early_next _ _ (early-deny _ _) early_end)
early-maker v slot (call.Dup fd) is = early_next _ _ (early-deny _ _) (early_next _ _ (early-deny _ _) early_end)
early-maker v slot (call.Dup2 fd into) is = early_next _ _ (early-deny _ _) (early_next _ _ (early-deny _ _) early_end)
early-maker v slot (call.Fork note) is = early_next _ _ (early-deny _ _) early_end
early-maker v slot _ is = cc

none-own : (cs : List (Option Check)) (g : Given) → NoEarly cs → is_own (decision_by (first cs) g) ≡ true → first cs ≡ None
none-own [] g early_end own = refl
none-own (None ∷ cs) g (early_next _ _ is more) own = none-own cs g more own
none-own (Some (refused rule, es) ∷ cs) g (early_next _ _ is more) own = cc
none-own (Some (early given, es) ∷ cs) g (early_next _ _ is more) own = cc
none-own (Some (asleep why, es) ∷ cs) g (early_next _ _ is more) own = cc

-- ---- who is answered so runs

run-stopped : (v : View) (slot : ℕ) (c : Call) (who : Process Path) → is_own (decision (run_row v slot who c)) ≡ true → is_stopped who ≡ false
run-stopped v slot c who own = by_case (is_stopped who) own
  where
    by_case : (t : Bool) → is_own (decision_by (first (check t (asleep reason.Stop) [] ∷ (call_row v slot c).checks)) (call_row v slot c).answer) ≡ true
        → t ≡ false
    by_case true is = cc
    by_case false is = refl

run-behind : (t : Bool) (o : Outcome) (cs : List (Option Check)) (g : Given) → is_own (decision_by (Some (o, [])) g) ≡ false
    → is_own (decision_by (first (check t o [] ∷ cs)) g) ≡ true → t ≡ false
run-behind true o cs g other is = cc
run-behind false o cs g other is = refl

run-enter : (v : View) (slot : ℕ) (c : Call) → v.halted ≡ false → (w : Option (Process Path)) → running_at v.processes slot ≡ w
    → is_own (decision (enter_row v slot c w)) ≡ true → CanRun v slot × (is_some (pending_at v.processes slot) ≡ false)
run-enter v slot c up None runs own = absurd (own-gone v slot _ _ own)
run-enter v slot c up (Some who) runs own =
    let ended = ended_by (on_processes (set_pending slot (Some c)) ∷ []) [] (run_row v slot who c) in
    let past = own-behind (is_some (pending_at v.processes slot)) (refused Asleep) ended.checks ended.answer refl own in
    let run = own-ended v slot c who (on_processes (set_pending slot (Some c)) ∷ []) [] in
    let awake = run-stopped v slot c who (subst (λ d. is_own d ≡ true) (past ∙ run) own) in (
      record { who = who; runs = runs; awake = awake; up = up },
      run-behind (is_some (pending_at v.processes slot)) (refused Asleep) ended.checks ended.answer refl own,
    )

run-again : (v : View) (slot : ℕ) (c : Call) → v.halted ≡ false → pending_at v.processes slot ≡ Some c → (w : Option (Process Path))
    → running_at v.processes slot ≡ w → is_own (decision (again_row v slot w)) ≡ true → CanRun v slot
run-again v slot c up pends None runs own = absurd (own-gone v slot _ _ own)
run-again v slot c up pends (Some who) runs own =
    let past = ap (λ asked. decision (retry_row v slot who asked)) pends in
    let run = own-ended v slot c who [] (on_processes (set_pending slot None) ∷ []) in
    record { who = who; runs = runs; awake = run-stopped v slot c who (subst (λ d. is_own d ≡ true) (past ∙ run) own); up = up }

run-called : (v : View) (slot : ℕ) (c : Call) → is_own (answer_to v (event.Call slot c)) ≡ true
    → CanRun v slot × (is_some (pending_at v.processes slot) ≡ false)
unfolding answer_to
run-called v slot c own =
    let r = enter_row v slot c (running_at v.processes slot) in
    run-enter v slot c (run-behind v.halted (early gone) r.checks r.answer refl own) (running_at v.processes slot) refl
    (subst (λ d. is_own d ≡ true) (own-behind v.halted (early gone) r.checks r.answer refl own) own)

run-retried : (v : View) (slot : ℕ) (c : Call) → pending_at v.processes slot ≡ Some c → is_own (answer_to v (event.Again slot)) ≡ true → CanRun v slot
unfolding answer_to
run-retried v slot c pends own =
    let r = again_row v slot (running_at v.processes slot) in
    run-again v slot c (run-behind v.halted (early gone) r.checks r.answer refl own) pends (running_at v.processes slot) refl
    (subst (λ d. is_own d ≡ true) (own-behind v.halted (early gone) r.checks r.answer refl own) own)

-- who is answered bytes or a number runs, and none of its calls was pending that it does not try again
pub own_runs : (v : View) (e : Event) (slot : ℕ) (c : Call) → asks_call v e slot c → is_own (answer_to v e) ≡ true → CanRun v slot
own_runs v (event.Call asker asked) slot c (same, is, free) own = subst (CanRun v) same (run-called v asker asked own).0
own_runs v (event.Again asker) slot c (same, pends) own = subst (CanRun v) same (run-retried v asker c pends own)
own_runs v (event.Byte n b) slot c asks own = absurd asks
own_runs v (event.Carrier n up) slot c asks own = absurd asks
own_runs v (event.Take n max) slot c asks own = absurd asks
own_runs v (event.Ended n) slot c asks own = absurd asks

pub own_asks : (v : View) (slot : ℕ) (c : Call) → is_own (answer_to v (event.Call slot c)) ≡ true → asks_call v (event.Call slot c) slot c
own_asks v slot c own = (refl, refl, (run-called v slot c own).1)

-- ---- what such a call does

-- the event does what the call's row does, and answers so
pub record Does (v : View) (e : Event) (slot : ℕ) (c : Call) : Type 0 where
  pub none : first (call_row v slot c).checks ≡ None
  pub rest : List Effect
  pub answered : IsAnswer slot rest
  pub does : done (row v e) ≡ (call_row v slot c).effects ++ rest
  pub says : answer_to v e ≡ answer_of (call_row v slot c).answer

none-by : (o : Option Check) (sleeps wakes es : List Effect) → o ≡ None → effects_by (option_map (also sleeps wakes) o) es ≡ es
none-by o sleeps wakes es is = rw is refl

called-effects : (v : View) (slot : ℕ) (c : Call) (who : Process Path) → running_at v.processes slot ≡ Some who
    → (row v (event.Call slot c)).effects ≡ (call_row v slot c).effects ++ []
unfolding ended_by
called-effects v slot c who runs = ap (λ w. (enter_row v slot c w).effects) runs

retried-effects : (v : View) (slot : ℕ) (c : Call) (who : Process Path) → running_at v.processes slot ≡ Some who → pending_at v.processes slot ≡ Some c
    → (row v (event.Again slot)).effects ≡ (call_row v slot c).effects ++ on_processes (set_pending slot None) ∷ []
unfolding ended_by
retried-effects v slot c who runs pends = ap (λ w. (again_row v slot w).effects) runs ∙ ap (λ asked. (retry_row v slot who asked).effects) pends

maker-none : (v : View) (e : Event) (slot : ℕ) (c : Call) → asks_call v e slot c → is_maker c ≡ true → is_own (answer_to v e) ≡ true
    → first (call_row v slot c).checks ≡ None
maker-none v e slot c asks makes own =
    let past = own-answer v e slot c asks own in
    none-own (call_row v slot c).checks (call_row v slot c).answer (early-maker v slot c makes) (subst (λ d. is_own d ≡ true) past own)

says-own : (v : View) (e : Event) (slot : ℕ) (c : Call) → asks_call v e slot c → first (call_row v slot c).checks ≡ None → is_own (answer_to v e) ≡ true
    → answer_to v e ≡ answer_of (call_row v slot c).answer
says-own v e slot c asks none own = own-answer v e slot c asks own ∙ ap (λ o. decision_by o (call_row v slot c).answer) none

called-does : (v : View) (slot : ℕ) (c : Call) → asks_call v (event.Call slot c) slot c → first (call_row v slot c).checks ≡ None
    → is_own (answer_to v (event.Call slot c)) ≡ true → Does v (event.Call slot c) slot c
called-does v slot c asks none own =
    let able = own_runs v (event.Call slot c) slot c asks own in
    record {
      none = none;
      rest = [];
      answered = asked_now;
      does =
          ap (λ o. effects_by o (row v (event.Call slot c)).effects) (entered v slot c able asks.2)
          ∙ none-by (first (call_row v slot c).checks) (on_processes (set_pending slot (Some c)) ∷ []) [] (row v (event.Call slot c)).effects none
          ∙ called-effects v slot c able.who able.runs;
      says = says-own v (event.Call slot c) slot c asks none own;
    }

retried-does : (v : View) (slot : ℕ) (c : Call) → asks_call v (event.Again slot) slot c → first (call_row v slot c).checks ≡ None
    → is_own (answer_to v (event.Again slot)) ≡ true → Does v (event.Again slot) slot c
retried-does v slot c asks none own =
    let able = own_runs v (event.Again slot) slot c asks own in
    record {
      none = none;
      rest = on_processes (set_pending slot None) ∷ [];
      answered = asked_before;
      does =
          ap (λ o. effects_by o (row v (event.Again slot)).effects) (retried v slot c able asks.1)
          ∙ none-by (first (call_row v slot c).checks) [] (on_processes (set_pending slot None) ∷ []) (row v (event.Again slot)).effects none
          ∙ retried-effects v slot c able.who able.runs asks.1;
      says = says-own v (event.Again slot) slot c asks none own;
    }

called-as : (v : View) (asker : ℕ) (asked : Call) (slot : ℕ) (c : Call) → asker ≡ slot → asked ≡ c → Does v (event.Call asker asked) asker asked
    → Does v (event.Call asker asked) slot c
called-as v asker asked slot c same is does = subst (Does v (event.Call asker asked) slot) is (subst (λ n. Does v (event.Call asker asked) n asked) same does)

-- so does each call that is answered bytes or a number where no check holds
pub own_does : (v : View) (e : Event) (slot : ℕ) (c : Call) → asks_call v e slot c → first (call_row v slot c).checks ≡ None → is_own (answer_to v e) ≡ true
    → Does v e slot c
own_does v (event.Call asker asked) slot c (same, is, free) none own =
    called-as v asker asked slot c same is
    (called-does v asker asked (refl, refl, free)
    (ap (λ d. first (call_row v asker d).checks) is ∙ ap (λ n. first (call_row v n c).checks) same ∙ none) own)
own_does v (event.Again asker) slot c (same, pends) none own =
    subst (λ n. Does v (event.Again asker) n c) same
    (retried-does v asker c (refl, pends) (ap (λ n. first (call_row v n c).checks) same ∙ none) own)
own_does v (event.Byte n b) slot c asks none own = absurd asks
own_does v (event.Carrier n up) slot c asks none own = absurd asks
own_does v (event.Take n max) slot c asks none own = absurd asks
own_does v (event.Ended n) slot c asks none own = absurd asks

pub maker_does : (v : View) (e : Event) (slot : ℕ) (c : Call) → asks_call v e slot c → is_maker c ≡ true → is_own (answer_to v e) ≡ true → Does v e slot c
maker_does v e slot c asks makes own = own_does v e slot c asks (maker-none v e slot c asks makes own) own
