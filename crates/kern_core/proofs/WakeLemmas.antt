-- Who can go on, and what the others wait for.
use Rattle.std.proofs.Common.{◌≡◌, ℕ, ◌+◌, Bool, true, false, not, cond, List, [], ◌∷◌, ◌++◌, length, take, eqb, Option, Some, None, option_map, refl, sym, ap, ◌∙◌, arith}
use Rattle.std.specs.Prelude.{◌&&◌, ◌==◌, is_some, unwrap_or, filter}
use Rattle.std.specs.List.{range_with_len}
use Rattle.std.proofs.lemmas.Bool.Decides.{nat_tests}
use Rattle.std.proofs.lemmas.List.{append-nil, length-take}
use Rattle.std.proofs.lemmas.List.Elements.{filter-append}
use Rattle.call_words.specs.declared.call.Call.{Call}
use Rattle.call_words.specs.declared.call.Call.TheVariants as call
use Rattle.call_words.specs.declared.proc.WaitFlags.{WaitFlags}
use Rattle.call_words.specs.declared.open.Access.{Access}
use Rattle.call_words.specs.declared.open.OpenFlags.{OpenFlags}
use Rattle.call_words.specs.declared.event.Event.TheVariants as event
use Rattle.call_words.specs.declared.event.Reason.{Reason}
use Rattle.call_words.specs.declared.event.Reason.TheVariants.{Stop, Begin}
use Rattle.block_pool.proofs.TimesLemmas.{range_more}
use Rattle.system_laws.specs.WaitingCalls.{may_wait}
use Rattle.line_disc.specs.Discipline.{Discipline}
use Rattle.line_disc.specs.Transfers as transfers
use Rattle.line_disc.specs.Device.{output_of, is_takeable}
use Rattle.line_disc.specs.Lines.{line_at}
use Rattle.proc_table.specs.Processes.{Process, is_stopped, running_at, pending_at, is_left}
use Rattle.tty_dev.specs.Table.{devices}
use Rattle.system_model.specs.State.{View}
use Rattle.system_model.specs.Effects.{Effect, on_processes}
use Rattle.system_model.specs.ProcessEffects.{set_pending}
use Rattle.system_model.specs.Looks.{caller_of}
use Rattle.system_model.specs.Rows.{Check, Row, refused, early, asleep, check, answer_if, gone, first, also, ended_by}
use Rattle.system_model.specs.Step.{call_row, run_row, retry_row, again_row, row, answer_to, waits, can_go_on, is_idle_check, reason_of_check, has_none}
use Rattle.system_model.specs.Step.{gives_a_byte, is_begin_pending}
use Rattle.system_model.specs.Tables.{Tables, view_of}
use Rattle.system_model.proofs.RowLemmas.{stops, passes}
use Rattle.kern_core.proofs.SlotLemmas.{pending_is, left_is, halted_is}
use Rattle.kern_core.proofs.BehindLemmas.{first-ended, stopped-seen}

-- ---- what a call waits for, whatever is done besides where it goes on

reason-also : (waking : List Effect) (o : Option Check) → reason_of_check (option_map (also [] waking) o) ≡ reason_of_check o
reason-also waking None = refl
reason-also waking (Some (refused rule, es)) = refl
reason-also waking (Some (early given, es)) = refl
reason-also waking (Some (asleep reason, es)) = ap (λ fs. cond (has_none fs) (Some reason) None) (append-nil es)

reason-ended : (waking : List Effect) (r : Row) → reason_of_check (first (ended_by [] waking r).checks) ≡ reason_of_check (first r.checks)
unfolding ended_by
reason-ended waking r = ap reason_of_check (first-ended [] waking r.checks) ∙ reason-also waking (first r.checks)

pub run_waits : (t : Tables) (slot : ℕ) (p : Process ℕ) (c : Call) → running_at t.processes slot ≡ Some p → is_stopped p ≡ true
    → Some Stop ≡ reason_of_check (first (run_row (view_of t) slot (caller_of (view_of t) slot) c).checks)
run_waits t slot p c running stopped =
    sym
    (ap reason_of_check
    (stops (check (is_stopped (caller_of (view_of t) slot)) (asleep Stop) []) (call_row (view_of t) slot c).checks (asleep Stop, [])
    (ap (λ b. check b (asleep Stop) []) (stopped-seen t slot p running ∙ stopped))))

pub run_asks : (t : Tables) (slot : ℕ) (p : Process ℕ) (c : Call) (reason : Option Reason) → running_at t.processes slot ≡ Some p → is_stopped p ≡ false
    → reason ≡ reason_of_check (first (call_row (view_of t) slot c).checks)
    → reason ≡ reason_of_check (first (run_row (view_of t) slot (caller_of (view_of t) slot) c).checks)
run_asks t slot p c reason running awake is =
    is
    ∙ sym
    (ap reason_of_check
    (passes (check (is_stopped (caller_of (view_of t) slot)) (asleep Stop) []) (call_row (view_of t) slot c).checks
    (ap (λ b. check b (asleep Stop) []) (stopped-seen t slot p running ∙ awake))))

-- ---- what a slot waits for

again-checks : (v : View) (slot : ℕ) → v.halted ≡ false → first (row v (event.Again slot)).checks ≡ first (again_row v slot (running_at v.processes slot)).checks
again-checks v slot live = passes (answer_if v.halted gone) (again_row v slot (running_at v.processes slot)).checks (ap (λ b. answer_if b gone) live)

waits-pending : (v : View) (slot : ℕ) → is_some (pending_at v.processes slot) ≡ true → waits v slot ≡ reason_of_check (first (row v (event.Again slot)).checks)
unfolding waits
waits-pending v slot pends = ap (λ b. cond b (reason_of_check (first (row v (event.Again slot)).checks)) None) pends

pub waits_none : (t : Tables) (slot : ℕ) → pending_at t.processes slot ≡ None → None ≡ waits (view_of t) slot
unfolding waits
waits_none t slot none =
    sym (ap (λ o. cond (is_some o) (reason_of_check (first (row (view_of t) (event.Again slot)).checks)) None) (pending_is t slot ∙ none))

pub waits_halted : (t : Tables) (slot : ℕ) → is_some (pending_at t.processes slot) ≡ true → t.halted ≡ true → None ≡ waits (view_of t) slot
waits_halted t slot pends halted =
    sym
    (waits-pending (view_of t) slot (ap is_some (pending_is t slot) ∙ pends)
    ∙ ap reason_of_check
    (stops (answer_if (view_of t).halted gone) (again_row (view_of t) slot (running_at (view_of t).processes slot)).checks (early gone, [])
    (ap (λ b. answer_if b gone) (halted_is t ∙ halted))))

pub waits_running : (t : Tables) (slot : ℕ) (c : Call) (reason : Option Reason) → pending_at t.processes slot ≡ Some c → t.halted ≡ false
    → running_at (view_of t).processes slot ≡ Some (caller_of (view_of t) slot)
    → reason ≡ reason_of_check (first (run_row (view_of t) slot (caller_of (view_of t) slot) c).checks) → reason ≡ waits (view_of t) slot
waits_running t slot c reason pends live runs is =
    is ∙ sym (reason-ended (on_processes (set_pending slot None) ∷ []) (run_row (view_of t) slot (caller_of (view_of t) slot) c))
    ∙ ap (λ o. reason_of_check (first (retry_row (view_of t) slot (caller_of (view_of t) slot) o).checks)) (sym (pending_is t slot ∙ pends))
    ∙ ap (λ o. reason_of_check (first (again_row (view_of t) slot o).checks)) (sym runs)
    ∙ ap reason_of_check (sym (again-checks (view_of t) slot (halted_is t ∙ live)))
    ∙ sym (waits-pending (view_of t) slot (ap is_some (pending_is t slot ∙ pends)))

pub waits_empty : (t : Tables) (slot : ℕ) (reason : Option Reason) → is_some (pending_at t.processes slot) ≡ true → t.halted ≡ false
    → running_at (view_of t).processes slot ≡ None → reason ≡ reason_of_check (first (again_row (view_of t) slot None).checks) → reason ≡ waits (view_of t) slot
waits_empty t slot reason pends live nobody is =
    is ∙ ap (λ o. reason_of_check (first (again_row (view_of t) slot o).checks)) (sym nobody)
    ∙ ap reason_of_check (sym (again-checks (view_of t) slot (halted_is t ∙ live)))
    ∙ sym (waits-pending (view_of t) slot (ap is_some (pending_is t slot) ∙ pends))

-- a slot without a running process
empty-reason : (v : View) (slot : ℕ) (begins left : Bool) → is_begin_pending (pending_at v.processes slot) ≡ begins → is_left v.processes slot ≡ left
    → cond (begins && not left) (Some Begin) None ≡ reason_of_check (first (again_row v slot None).checks)
empty-reason v slot true true begins left = rw (begins, left) refl
empty-reason v slot true false begins left = rw (begins, left) refl
empty-reason v slot false true begins left = rw begins refl
empty-reason v slot false false begins left = rw begins refl

pub empty_waits : (t : Tables) (slot : ℕ) (begins left : Bool) → begins ≡ is_begin_pending (pending_at (view_of t).processes slot)
    → left ≡ is_left t.processes slot → cond (begins && not left) (Some Begin) None ≡ reason_of_check (first (again_row (view_of t) slot None).checks)
empty_waits t slot begins left begins_is left_as = empty-reason (view_of t) slot begins left (sym begins_is) (left_is t slot ∙ sym left_as)

-- ---- who can go on

idle-some : (o : Option Check) → is_some (reason_of_check o) ≡ is_idle_check o
idle-some None = refl
idle-some (Some (refused rule, es)) = refl
idle-some (Some (early given, es)) = refl
idle-some (Some (asleep reason, [])) = refl
idle-some (Some (asleep reason, e ∷ es)) = refl

goes_by : (v : View) (slot : ℕ) (pends : Bool) → is_some (pending_at v.processes slot) ≡ pends
    → (pends && not (is_some (waits v slot))) ≡ can_go_on v slot
goes_by v slot false none = ap (λ b. b && not (is_idle_check (first (row v (event.Again slot)).checks))) (sym none)
goes_by v slot true pends =
    ap (λ o. not (is_some o)) (waits-pending v slot pends) ∙ ap not (idle-some (first (row v (event.Again slot)).checks))
    ∙ ap (λ b. b && not (is_idle_check (first (row v (event.Again slot)).checks))) (sym pends)

pub goes_by_pending : (t : Tables) (slot : ℕ) (pends : Bool) → is_some (pending_at t.processes slot) ≡ pends
    → (pends && not (is_some (waits (view_of t) slot))) ≡ can_go_on (view_of t) slot
goes_by_pending t slot pends is = goes_by (view_of t) slot pends (ap is_some (pending_is t slot) ∙ is)

-- ---- output to take

none-taken : (xs : List ℕ) → eqb (length (take 512 xs)) 0 ≡ transfers.has_none xs
none-taken [] = refl
none-taken (x ∷ xs) = grind (arith, nat_tests, length-take {A = ℕ})

some-taken : (xs : List ℕ) → not (length (take 512 xs) == 0) ≡ not (transfers.has_none xs)
some-taken xs = ap not (none-taken xs)

gives-front : (d : Discipline ℕ) (b : Bool) → d.stopped ≡ b → not (length (transfers.output_front d 512) == 0) ≡ transfers.is_takeable d
gives-front d true is = rw is refl
gives-front d false is = rw is (some-taken d.output)

gives-some : (o : Option (Discipline ℕ)) → not (length (output_of 512 o) == 0) ≡ unwrap_or (option_map (λ d. transfers.is_takeable d) o) false
gives-some None = refl
gives-some (Some d) = gives-front d d.stopped refl

pub output_gives : (v : View) (n : ℕ) (halted : Bool) → v.halted ≡ halted
    → (not halted && is_takeable (line_at v.lines n)) ≡ gives_a_byte (answer_to v (event.Take n 512))
unfolding answer_to
output_gives v n true is = rw is refl
output_gives v n false is = rw is (sym (gives-some (line_at v.lines n).discipline))

pub lines_is : (t : Tables) → (view_of t).lines ≡ devices t.pool t.lines
unfolding view_of
lines_is t = refl

pub gives_output : (t : Tables) (n : ℕ) (halted takeable : Bool) → t.halted ≡ halted → takeable ≡ is_takeable (line_at (devices t.pool t.lines) n)
    → (not halted && takeable) ≡ gives_a_byte (answer_to (view_of t) (event.Take n 512))
gives_output t n halted takeable same is =
    ap (λ b. not halted && b) (is ∙ ap (λ lines. is_takeable (line_at lines n)) (sym (lines_is t)))
    ∙ output_gives (view_of t) n halted (halted_is t ∙ same)

-- ---- numbers of a range that pass a test

pub filter_next : (test : ℕ → Bool) (i : ℕ) → filter test (range_with_len 0 (i + 1)) ≡ filter test (range_with_len 0 i) ++ cond (test i) (i ∷ []) []
filter_next test i =
    let same : 0 + i ≡ i = omega arith in
    ap (filter test) (range_more 0 i ∙ ap (λ n. range_with_len 0 i ++ n ∷ []) same) ∙ filter-append test (range_with_len 0 i) (i ∷ [])

pub filter_taken : (test : ℕ → Bool) (i : ℕ) → test i ≡ true → filter test (range_with_len 0 (i + 1)) ≡ filter test (range_with_len 0 i) ++ i ∷ []
filter_taken test i is = filter_next test i ∙ ap (λ b. filter test (range_with_len 0 i) ++ cond b (i ∷ []) []) is

pub filter_left : (test : ℕ → Bool) (i : ℕ) → test i ≡ false → filter test (range_with_len 0 (i + 1)) ≡ filter test (range_with_len 0 i)
filter_left test i is =
    filter_next test i ∙ ap (λ b. filter test (range_with_len 0 i) ++ cond b (i ∷ []) []) is ∙ append-nil (filter test (range_with_len 0 i))

-- ---- a call that is none of the six that can wait

pub no_waiter : (c : Call) → ((path : List ℕ) (access : Access) (flags : OpenFlags) (mode : ℕ) → c ≡ call.Open path access flags mode → ⊥)
    → ((fd max : ℕ) → c ≡ call.Read fd max → ⊥) → ((fd : ℕ) (bytes : List ℕ) → c ≡ call.Write fd bytes → ⊥)
    → ((pid : ℕ) (flags : WaitFlags) → c ≡ call.Wait pid flags → ⊥) → (c ≡ call.Pause → ⊥) → ((fd : ℕ) → c ≡ call.TcDrain fd → ⊥) → may_wait c ≡ false
no_waiter (call.Open path access flags mode) opens reads writes waits pauses drains = absurd (opens path access flags mode refl)
no_waiter (call.Read fd max) opens reads writes waits pauses drains = absurd (reads fd max refl)
no_waiter (call.Write fd bytes) opens reads writes waits pauses drains = absurd (writes fd bytes refl)
no_waiter (call.Wait pid flags) opens reads writes waits pauses drains = absurd (waits pid flags refl)
no_waiter call.Pause opens reads writes waits pauses drains = absurd (pauses refl)
no_waiter (call.TcDrain fd) opens reads writes waits pauses drains = absurd (drains fd refl)
no_waiter other opens reads writes waits pauses drains = refl
