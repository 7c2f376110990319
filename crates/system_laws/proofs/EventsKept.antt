-- What an event leaves: the calls that slots wait in stay fit, and the next pid rises by one at the most.
use Rattle.std.proofs.Common.{◌≡◌, ℕ, zero, suc, ◌+◌, ◌≤◌, Bool, true, false, cond, List, [], ◌∷◌, ◌++◌, length, get_or, set, Option, Some, None, refl, sym}
use Rattle.std.proofs.Common.{subst}
use Rattle.std.specs.Prelude.{◌==◌, filter, is_some, option_map, slice_get}
use Rattle.std.specs.List.{range_with_len}
use Rattle.sys_types.specs.declared.limits.TheConstants.{SLOTS, DESCRIPTORS}
use Rattle.sys_types.specs.declared.sig.Sig.{Sig}
use Rattle.sys_types.specs.declared.rules.Rule.TheVariants.{Asleep}
use Rattle.call_words.specs.Calls.{HasFitMode}
use Rattle.call_words.specs.Events.{MayBeUsed}
use Rattle.call_words.specs.declared.call.Call.{Call}
use Rattle.call_words.specs.declared.event.Event.{Event}
use Rattle.call_words.specs.declared.event.Event.TheVariants as event
use Rattle.call_words.specs.declared.event.How.{How}
use Rattle.call_words.specs.declared.event.Reason.TheVariants as reason
use Rattle.fd_table.specs.Shared.{descriptor_at}
use Rattle.proc_table.specs.Forks.{is_begin}
use Rattle.proc_table.specs.Processes.{Process, Slot, empty_slot, is_stopped, is_left, running_at, pending_at}
use Rattle.system_model.specs.Parts.{Path}
use Rattle.system_model.specs.State.{View}
use Rattle.system_model.specs.ProcessEffects.{set_pending, clear_ending, change_processes}
use Rattle.system_model.specs.Effects.{Effect, on_processes, change_all}
use Rattle.system_model.specs.Rows.{Check, Row, refused, early, asleep, noted, gone, deny, answer_if, behind, first, effects_by, done, also, ended_by}
use Rattle.system_model.specs.Looks.{caller_of, line_of, line_of_session}
use Rattle.system_model.specs.LineEvents.{byte_row, carrier_row, take_row, end_row, signal_foreground, signal_by, hang_up, hang_up_leader}
use Rattle.system_model.specs.Endings.{close_all, leave_line, leave_session, end_one, end_next, endings, endings_of}
use Rattle.system_model.specs.Step.{run_row, tell_if_left, gone_row, begin_sleeps, enter_row, retry_row, again_row, is_begin_pending, event_row, row}
use Rattle.system_model.specs.Step.{view_after}
use Rattle.system_laws.specs.PendingCalls.{IsFitCall}
use Rattle.system_laws.proofs.Refusals.{IsQuiet, where_none, where_some, AreQuiet, no_check, next_check, quiet-none, quiet_call, first-quiet}
use Rattle.system_laws.proofs.Revocations.{first-map}
use Rattle.system_laws.proofs.Runs.{change_more}
use Rattle.system_laws.proofs.PlainRows.{ArePlain, no_effect, next_effect, pln-append, pln-if, pln-fds}
use Rattle.system_laws.proofs.CallsKept.{Keeps, effects-kept, quiet-effects, KeepsCalls, weaker, of-call}

-- ---- one list of effects after another

-- what effects do keeps the calls fit, and takes one pid at the most
abbrev DoKeep : View → List Effect → Type 0
DoKeep v es = KeepsCalls v.processes (change_all v es).processes

plain-do : (v : View) (es : List Effect) → ArePlain es → DoKeep v es
plain-do v es plain = weaker v.processes (change_all v es).processes (effects-kept v es plain)

kept-then : (v : View) (es fs : List Effect) → DoKeep v es → Keeps (change_all v es).processes (change_all (change_all v es) fs).processes → DoKeep v (es ++ fs)
kept-then v es fs kept more =
    subst (λ (w : View). KeepsCalls v.processes w.processes) (sym (change_more v es fs))
    (record { calls = λ fit. more.calls (kept.calls fit); pid = subst (λ n. n ≤ v.processes.next_pid + 1) (sym more.pid) kept.pid })

plain-then : (v : View) (es fs : List Effect) → DoKeep v es → ArePlain fs → DoKeep v (es ++ fs)
plain-then v es fs kept plain = kept-then v es fs kept (effects-kept (change_all v es) fs plain)

-- a slot waits in a fit call
fit-call : (slots : List (Slot Path)) (i k : ℕ) (c : Call) → HasFitMode c → IsFitCall (get_or slots k empty_slot).pending
    → IsFitCall (get_or (set slots i (record (get_or slots i empty_slot) { pending = Some c })) k empty_slot).pending
fit-call [] i k c fit was = was
fit-call (x ∷ slots) zero zero c fit was = fit
fit-call (x ∷ slots) zero (suc k) c fit was = was
fit-call (x ∷ slots) (suc i) zero c fit was = was
fit-call (x ∷ slots) (suc i) (suc k) c fit was = fit-call slots i k c fit was

wait-kept : (v : View) (slot : ℕ) (c : Call) → HasFitMode c → Keeps v.processes (change_all v (on_processes (set_pending slot (Some c)) ∷ [])).processes
unfolding change_processes
wait-kept v slot c fit = record { calls = λ were. record { each = λ k. fit-call v.processes.slots slot k c fit (were.each k) }; pid = refl }

-- ---- rows

-- what a row does keeps the calls fit, and takes one pid at the most
abbrev RowKeeps : View → Row → Type 0
RowKeeps v r = DoKeep v (done r)

quiet-checks : (cs : List (Option Check)) → AreQuiet cs → (c : Check) → first cs ≡ Some c → ArePlain c.1
quiet-checks cs quiet c is = quiet-effects c.1 (first-quiet cs c.0 c.1 quiet is)

first-kept : (v : View) (o : Option Check) (es : List Effect) → ((c : Check) → o ≡ Some c → ArePlain c.1) → DoKeep v es → DoKeep v (effects_by o es)
first-kept v None es checks kept = kept
first-kept v (Some c) es checks kept = plain-do v c.1 (checks c refl)

row-kept : (v : View) (r : Row) → AreQuiet r.checks → DoKeep v r.effects → RowKeeps v r
row-kept v r quiet kept = first-kept v (first r.checks) r.effects (quiet-checks r.checks quiet) kept

behind-kept : (v : View) (c : Option Check) (r : Row) → IsQuiet c → RowKeeps v r → RowKeeps v (behind (c ∷ []) r)
behind-kept v None r where_none kept = kept
behind-kept v (Some c) r (where_some o es may) kept = plain-do v es (quiet-effects es may)

if-kept : (v : View) (t : Bool) (r q : Row) → RowKeeps v r → RowKeeps v q → RowKeeps v (cond t r q)
if-kept v true r q this other = this
if-kept v false r q this other = other

also-kept : (v : View) (sleeps wakes es : List Effect) (o : Option Check) → ((w : View) → Keeps w.processes (change_all w sleeps).processes) → ArePlain wakes
    → ((c : Check) → o ≡ Some c → ArePlain c.1) → DoKeep v es → DoKeep v (effects_by (option_map (also sleeps wakes) o) (es ++ wakes))
also-kept v sleeps wakes es None sleep plain checks kept = plain-then v es wakes kept plain
also-kept v sleeps wakes es (Some (refused rule, fs)) sleep plain checks kept =
    plain-then v fs wakes (plain-do v fs (checks (refused rule, fs) refl)) plain
also-kept v sleeps wakes es (Some (early given, fs)) sleep plain checks kept =
    plain-then v fs wakes (plain-do v fs (checks (early given, fs) refl)) plain
also-kept v sleeps wakes es (Some (asleep why, fs)) sleep plain checks kept =
    kept-then v fs sleeps (plain-do v fs (checks (asleep why, fs) refl)) (sleep (change_all v fs))

ended-kept : (v : View) (sleeps wakes : List Effect) (r : Row) → ((w : View) → Keeps w.processes (change_all w sleeps).processes) → ArePlain wakes
    → AreQuiet r.checks → DoKeep v r.effects → RowKeeps v (ended_by sleeps wakes r)
unfolding ended_by
ended-kept v sleeps wakes r sleep plain quiet kept =
    subst (λ (o : Option Check). DoKeep v (effects_by o (r.effects ++ wakes))) (sym (first-map (also sleeps wakes) r.checks))
    (also-kept v sleeps wakes r.effects (first r.checks) sleep plain (quiet-checks r.checks quiet) kept)

-- ---- calls

pln-tell : (v : View) (slot : ℕ) → ArePlain (tell_if_left v slot)
pln-tell v slot = pln-if (is_left v.processes slot) _ _ (next_effect _ _ refl no_effect) no_effect

pln-wakes : (slot : ℕ) → ArePlain (on_processes (set_pending slot None) ∷ [])
pln-wakes slot = next_effect _ _ refl no_effect

gone-kept : (v : View) (slot : ℕ) → RowKeeps v (gone_row v slot)
gone-kept v slot = plain-do v (gone_row v slot).effects (pln-append (tell_if_left v slot) _ (pln-tell v slot) (pln-wakes slot))

begin-kept : (v : View) (slot : ℕ) (pending : List Effect) → ((w : View) → Keeps w.processes (change_all w pending).processes)
    → RowKeeps v (begin_sleeps v slot pending)
begin-kept v slot pending sleep =
    kept-then v (tell_if_left v slot) pending (plain-do v _ (pln-tell v slot)) (sleep (change_all v (tell_if_left v slot)))

quiet-run : (v : View) (slot : ℕ) (who : Process Path) (c : Call) → AreQuiet (run_row v slot who c).checks
quiet-run v slot who c = next_check _ _ (quiet-none (is_stopped who) (asleep reason.Stop)) (quiet_call v slot c)

enter-kept : (v : View) (slot : ℕ) (c : Call) (who : Option (Process Path)) → HasFitMode c → RowKeeps v (enter_row v slot c who)
enter-kept v slot c None fit =
    if-kept v (is_begin c) (begin_sleeps v slot (on_processes (set_pending slot (Some c)) ∷ [])) (gone_row v slot)
    (begin-kept v slot (on_processes (set_pending slot (Some c)) ∷ []) (λ w. wait-kept w slot c fit)) (gone-kept v slot)
enter-kept v slot c (Some who) fit =
    let sleeps = on_processes (set_pending slot (Some c)) ∷ [] in
    behind-kept v (deny (is_some (pending_at v.processes slot)) Asleep) (ended_by sleeps [] (run_row v slot who c))
    (quiet-none (is_some (pending_at v.processes slot)) (refused Asleep))
    (ended-kept v sleeps [] (run_row v slot who c) (λ w. wait-kept w slot c fit) no_effect (quiet-run v slot who c) (of-call v slot c))

retry-kept : (v : View) (slot : ℕ) (who : Process Path) (c : Option Call) → RowKeeps v (retry_row v slot who c)
retry-kept v slot who None = plain-do v [] no_effect
retry-kept v slot who (Some c) =
    ended-kept v [] (on_processes (set_pending slot None) ∷ []) (run_row v slot who c) (λ w. effects-kept w [] no_effect) (pln-wakes slot)
    (quiet-run v slot who c) (of-call v slot c)

again-kept : (v : View) (slot : ℕ) (who : Option (Process Path)) → RowKeeps v (again_row v slot who)
again-kept v slot None =
    if-kept v (is_begin_pending (pending_at v.processes slot)) (begin_sleeps v slot []) (gone_row v slot)
    (begin-kept v slot [] (λ w. effects-kept w [] no_effect)) (gone-kept v slot)
again-kept v slot (Some who) = retry-kept v slot who (pending_at v.processes slot)

-- ---- what happens at a line

pln-signal : (group : ℕ) (signal : Option Sig) (session : Option ℕ) → ArePlain (signal_foreground group signal session)
pln-signal group None session = no_effect
pln-signal group (Some signal) None = no_effect
pln-signal group (Some signal) (Some session) = next_effect _ _ refl no_effect

pln-leader : (session : Option ℕ) → ArePlain (hang_up_leader session)
pln-leader None = no_effect
pln-leader (Some session) = next_effect _ _ refl no_effect

pln-hang : (v : View) (n : ℕ) (up : Bool) → ArePlain (hang_up (line_of v n) up)
pln-hang v n up = pln-if _ _ _ (pln-leader (line_of v n).session) no_effect

-- ---- all events

event-kept : (v : View) (e : Event) → MayBeUsed e → RowKeeps v (event_row v e)
event-kept v (event.Call slot c) used = enter-kept v slot c (running_at v.processes slot) used.1
event-kept v (event.Again slot) used = again-kept v slot (running_at v.processes slot)
event-kept v (event.Byte n b) used =
    plain-do v (byte_row v n b).effects (next_effect _ _ refl (pln-signal (line_of v n).foreground (signal_by (line_of v n) b) (line_of v n).session))
event-kept v (event.Carrier n up) used = plain-do v (carrier_row v n up).effects (next_effect _ _ refl (pln-hang v n up))
event-kept v (event.Take n max) used = plain-do v (take_row v n max).effects (next_effect _ _ refl no_effect)
event-kept v (event.Ended n) used =
    row-kept v (end_row v n) (next_check _ _ (quiet-none (line_of v n).ended (early noted)) no_check)
    (plain-do v (end_row v n).effects (next_effect _ _ refl
    (pln-append (hang_up (line_of v n) false) _ (pln-hang v n false) (pln-if _ _ _ (next_effect _ _ refl no_effect) no_effect))))

-- before the endings of an event
pub row_keeps : (v : View) (e : Event) → MayBeUsed e → KeepsCalls v.processes (change_all v (done (row v e))).processes
row_keeps v e used = behind-kept v (answer_if v.halted gone) (event_row v e) (quiet-none v.halted (early gone)) (event-kept v e used)

-- ---- endings

pln-leave : (v : View) (n : Option ℕ) → ArePlain (leave_line v n)
pln-leave v None = no_effect
pln-leave v (Some n) = next_effect _ _ refl (next_effect _ _ refl no_effect)

pln-session : (v : View) (who : Process Path) → ArePlain (leave_session v who)
pln-session v who = pln-if _ _ _ (pln-leave v (line_of_session v who.session)) no_effect

pln-one : (v : View) (slot : ℕ) (why : How) → ArePlain (end_one v slot why)
pln-one v slot why =
    pln-append (close_all v slot ++ leave_session v (caller_of v slot)) _
    (pln-append (close_all v slot) _ (pln-fds slot (filter (λ fd. is_some (descriptor_at v.descriptors.table slot fd)) (range_with_len 0 DESCRIPTORS)))
    (pln-session v (caller_of v slot)))
    (next_effect _ _ refl no_effect)

pln-next : (v : View) (next : Option (ℕ × How)) → ArePlain (end_next v next)
pln-next v None = no_effect
pln-next v (Some next) = pln-one v next.0 next.1

pln-endings : (fuel place : ℕ) (v : View) → ArePlain (endings fuel place v)
unfolding endings
pln-endings zero place v = no_effect
pln-endings (suc fuel) place v =
    let now = end_next v (slice_get v.ending place) in
    pln-append now (endings fuel (place + 1) (change_all v now)) (pln-next v (slice_get v.ending place)) (pln-endings fuel (place + 1) (change_all v now))

pln-endings_of : (v : View) → ArePlain (endings_of v)
pln-endings_of v =
    pln-if (length v.ending == 0) [] (endings SLOTS 0 v ++ on_processes clear_ending ∷ []) no_effect
    (pln-append (endings SLOTS 0 v) _ (pln-endings SLOTS 0 v) (next_effect _ _ refl no_effect))

-- the endings of an event
pub endings_keep : (v : View) → KeepsCalls v.processes (change_all v (endings_of v)).processes
endings_keep v = plain-do v (endings_of v) (pln-endings_of v)

-- and an event with them
pub event_keeps : (v : View) (e : Event) → MayBeUsed e → KeepsCalls v.processes (view_after v e).processes
unfolding view_after
event_keeps v e used =
    let now = done (row v e) in plain-then v now (endings_of (change_all v now)) (row_keeps v e used) (pln-endings_of (change_all v now))
