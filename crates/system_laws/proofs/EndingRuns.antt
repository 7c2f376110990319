-- Those whom an event puts on the list of those to be ended run until its endings begin.
use Rattle.std.proofs.Common.{◌≡◌, ℕ, Bool, true, false, cond, List, [], ◌∷◌, ◌++◌, Option, Some, None, refl, sym, ap, subst}
use Rattle.std.specs.Prelude.{is_some, option_map}
use Rattle.std.specs.List.{list_all}
use Rattle.sys_types.specs.declared.sig.Sig.{Sig}
use Rattle.sys_types.specs.declared.rules.Rule.TheVariants.{Asleep}
use Rattle.call_words.specs.declared.call.Call.{Call}
use Rattle.call_words.specs.declared.call.Call.TheVariants as call
use Rattle.call_words.specs.declared.event.Event.{Event}
use Rattle.call_words.specs.declared.event.Event.TheVariants as event
use Rattle.call_words.specs.declared.event.How.TheVariants as how
use Rattle.call_words.specs.declared.event.Reason.TheVariants as reason
use Rattle.proc_table.specs.Forks.{is_begin}
use Rattle.proc_table.specs.Processes.{Process, is_stopped, is_left, running_at, pending_at}
use Rattle.system_model.specs.Parts.{Path}
use Rattle.system_model.specs.State.{View}
use Rattle.system_model.specs.ProcessEffects.{ProcessEffect, set_process, fork_process, reap_child, set_pending, tell, post, add_ending, bury, clear_ending}
use Rattle.system_model.specs.ProcessEffects.{change_processes}
use Rattle.system_model.specs.Effects.{Effect, on_files, on_pipes, on_lines, on_tree, on_processes, halt, change_all}
use Rattle.system_model.specs.Rows.{Check, Row, refused, early, asleep, noted, gone, deny, answer_if, behind, first, effects_by, done, also, ended_by}
use Rattle.system_model.specs.Looks.{line_of}
use Rattle.system_model.specs.LineEvents.{byte_row, carrier_row, take_row, end_row, signal_foreground, signal_by, hang_up, hang_up_leader}
use Rattle.system_model.specs.Step.{call_row, run_row, tell_if_left, gone_row, begin_sleeps, enter_row, retry_row, again_row, is_begin_pending, event_row, row}
use Rattle.system_laws.specs.Laws.{may_still_do}
use Rattle.system_laws.specs.EndingLists.{AreRunning}
use Rattle.system_laws.proofs.Refusals.{IsQuiet, where_none, where_some, AreQuiet, no_check, next_check, quiet-none, quiet_call, first-quiet, all-both}
use Rattle.system_laws.proofs.Revocations.{first-map}
use Rattle.system_laws.proofs.RunningRows.{is_lively, is_exit, AreLively, no_effect, next_effect, lvl-append, lvl-if, lvl_call}
use Rattle.system_laws.proofs.RunningEffects.{LeaveRunning, run-joins, lively-run, lively-then}

-- ---- calls

exit-runs : (v : View) (slot status : ℕ) → is_some (running_at v.processes slot) ≡ true → LeaveRunning v (call_row v slot (call.Exit status)).effects
unfolding change_processes
exit-runs v slot status runs running = run-joins v.processes v.ending slot (how.Exit status) runs running

call-runs : (v : View) (slot : ℕ) (c : Call) → is_some (running_at v.processes slot) ≡ true → LeaveRunning v (call_row v slot c).effects
call-runs v slot c runs = by_exit c (is_exit c) refl
  where
    by_exit : (c : Call) (b : Bool) → is_exit c ≡ b → LeaveRunning v (call_row v slot c).effects
    by_exit (call.Exit status) b is = exit-runs v slot status runs
    by_exit c true is = impossible c is
      where
        impossible : (c : Call) → is_exit c ≡ true → LeaveRunning v (call_row v slot c).effects
        impossible (call.Exit status) is = exit-runs v slot status runs
        impossible other is = cc
    by_exit c false is = lively-run v (call_row v slot c).effects (lvl_call v slot c is)

-- ---- checks: they do nothing but what a denied event may still do

quiet-process : (e : ProcessEffect) → may_still_do (on_processes e) ≡ true → is_lively (on_processes e) ≡ true
quiet-process (set_process slot p) may = cc
quiet-process (fork_process slot note) may = refl
quiet-process (reap_child slot who untraced) may = refl
quiet-process (set_pending slot c) may = refl
quiet-process (tell slot) may = refl
quiet-process (post signal whom) may = refl
quiet-process (add_ending slot why) may = cc
quiet-process (bury slot why) may = cc
quiet-process clear_ending may = refl

quiet-effect : (e : Effect) → may_still_do e ≡ true → is_lively e ≡ true
quiet-effect (on_files e) may = refl
quiet-effect (on_pipes e) may = refl
quiet-effect (on_lines e) may = refl
quiet-effect (on_tree e) may = refl
quiet-effect (on_processes e) may = quiet-process e may
quiet-effect halt may = refl

quiet-effects : (es : List Effect) → list_all may_still_do es ≡ true → AreLively es
quiet-effects [] may = no_effect
quiet-effects (e ∷ es) may =
    let two = all-both (may_still_do e) (list_all may_still_do es) may in
    next_effect e es (quiet-effect e two.0) (quiet-effects es two.1)

quiet-checks : (cs : List (Option Check)) → AreQuiet cs → (c : Check) → first cs ≡ Some c → AreLively c.1
quiet-checks cs quiet c is = quiet-effects c.1 (first-quiet cs c.0 c.1 quiet is)

-- ---- rows

first-runs : (v : View) (o : Option Check) (es : List Effect) → ((c : Check) → o ≡ Some c → AreLively c.1) → LeaveRunning v es
    → LeaveRunning v (effects_by o es)
first-runs v None es checks leave = leave
first-runs v (Some c) es checks leave = lively-run v c.1 (checks c refl)

row-runs : (v : View) (r : Row) → AreQuiet r.checks → LeaveRunning v r.effects → LeaveRunning v (done r)
row-runs v r quiet leave = first-runs v (first r.checks) r.effects (quiet-checks r.checks quiet) leave

behind-runs : (v : View) (c : Option Check) (r : Row) → IsQuiet c → LeaveRunning v (done r) → LeaveRunning v (done (behind (c ∷ []) r))
behind-runs v None r where_none leave = leave
behind-runs v (Some c) r (where_some o es may) leave = lively-run v es (quiet-effects es may)

if-runs : (v : View) (t : Bool) (r q : Row) → LeaveRunning v (done r) → LeaveRunning v (done q) → LeaveRunning v (done (cond t r q))
if-runs v true r q this other = this
if-runs v false r q this other = other

also-runs : (v : View) (sleeps wakes es : List Effect) (o : Option Check) → AreLively sleeps → AreLively wakes
    → ((c : Check) → o ≡ Some c → AreLively c.1) → LeaveRunning v es → LeaveRunning v (effects_by (option_map (also sleeps wakes) o) (es ++ wakes))
also-runs v sleeps wakes es None sleep wake checks leave = lively-then v es wakes leave wake
also-runs v sleeps wakes es (Some (refused rule, fs)) sleep wake checks leave =
    lively-run v (fs ++ wakes) (lvl-append fs wakes (checks (refused rule, fs) refl) wake)
also-runs v sleeps wakes es (Some (early given, fs)) sleep wake checks leave =
    lively-run v (fs ++ wakes) (lvl-append fs wakes (checks (early given, fs) refl) wake)
also-runs v sleeps wakes es (Some (asleep why, fs)) sleep wake checks leave =
    lively-run v (fs ++ sleeps) (lvl-append fs sleeps (checks (asleep why, fs) refl) sleep)

ended-runs : (v : View) (sleeps wakes : List Effect) (r : Row) → AreLively sleeps → AreLively wakes → AreQuiet r.checks → LeaveRunning v r.effects
    → LeaveRunning v (done (ended_by sleeps wakes r))
unfolding ended_by
ended-runs v sleeps wakes r sleep wake quiet leave =
    subst (λ (o : Option Check). LeaveRunning v (effects_by o (r.effects ++ wakes))) (sym (first-map (also sleeps wakes) r.checks))
    (also-runs v sleeps wakes r.effects (first r.checks) sleep wake (quiet-checks r.checks quiet) leave)

lvl-pending : (slot : ℕ) (c : Option Call) → AreLively (on_processes (set_pending slot c) ∷ [])
lvl-pending slot c = next_effect _ _ refl no_effect

lvl-tell : (v : View) (slot : ℕ) → AreLively (tell_if_left v slot)
lvl-tell v slot = lvl-if (is_left v.processes slot) _ _ (next_effect _ _ refl no_effect) no_effect

gone-runs : (v : View) (slot : ℕ) → LeaveRunning v (done (gone_row v slot))
gone-runs v slot = lively-run v (gone_row v slot).effects (lvl-append (tell_if_left v slot) _ (lvl-tell v slot) (lvl-pending slot None))

begin-runs : (v : View) (slot : ℕ) (pending : List Effect) → AreLively pending → LeaveRunning v (done (begin_sleeps v slot pending))
begin-runs v slot pending lively = lively-run v (tell_if_left v slot ++ pending) (lvl-append (tell_if_left v slot) pending (lvl-tell v slot) lively)

asked-runs : (v : View) (slot : ℕ) (who : Process Path) (c : Call) (sleeps wakes : List Effect) → running_at v.processes slot ≡ Some who → AreLively sleeps
    → AreLively wakes → LeaveRunning v (done (ended_by sleeps wakes (run_row v slot who c)))
asked-runs v slot who c sleeps wakes is sleep wake =
    ended-runs v sleeps wakes (run_row v slot who c) sleep wake (next_check _ _ (quiet-none (is_stopped who) (asleep reason.Stop)) (quiet_call v slot c))
    (call-runs v slot c (ap is_some is))

enter-runs : (v : View) (slot : ℕ) (c : Call) (who : Option (Process Path)) → running_at v.processes slot ≡ who → LeaveRunning v (done (enter_row v slot c who))
enter-runs v slot c None is =
    if-runs v (is_begin c) (begin_sleeps v slot (on_processes (set_pending slot (Some c)) ∷ [])) (gone_row v slot)
    (begin-runs v slot _ (lvl-pending slot (Some c))) (gone-runs v slot)
enter-runs v slot c (Some who) is =
    behind-runs v (deny (is_some (pending_at v.processes slot)) Asleep)
    (ended_by (on_processes (set_pending slot (Some c)) ∷ []) [] (run_row v slot who c))
    (quiet-none (is_some (pending_at v.processes slot)) (refused Asleep))
    (asked-runs v slot who c (on_processes (set_pending slot (Some c)) ∷ []) [] is (lvl-pending slot (Some c)) no_effect)

retry-runs : (v : View) (slot : ℕ) (who : Process Path) (c : Option Call) → running_at v.processes slot ≡ Some who
    → LeaveRunning v (done (retry_row v slot who c))
retry-runs v slot who None is = lively-run v [] no_effect
retry-runs v slot who (Some c) is = asked-runs v slot who c [] (on_processes (set_pending slot None) ∷ []) is no_effect (lvl-pending slot None)

again-runs : (v : View) (slot : ℕ) (who : Option (Process Path)) → running_at v.processes slot ≡ who → LeaveRunning v (done (again_row v slot who))
again-runs v slot None is =
    if-runs v (is_begin_pending (pending_at v.processes slot)) (begin_sleeps v slot []) (gone_row v slot) (begin-runs v slot [] no_effect) (gone-runs v slot)
again-runs v slot (Some who) is = retry-runs v slot who (pending_at v.processes slot) is

-- ---- what happens at a line

lvl-signal : (group : ℕ) (signal : Option Sig) (session : Option ℕ) → AreLively (signal_foreground group signal session)
lvl-signal group None session = no_effect
lvl-signal group (Some signal) None = no_effect
lvl-signal group (Some signal) (Some session) = next_effect _ _ refl no_effect

lvl-leader : (session : Option ℕ) → AreLively (hang_up_leader session)
lvl-leader None = no_effect
lvl-leader (Some session) = next_effect _ _ refl no_effect

lvl-hang : (v : View) (n : ℕ) (up : Bool) → AreLively (hang_up (line_of v n) up)
lvl-hang v n up = lvl-if _ _ _ (lvl-leader (line_of v n).session) no_effect

-- ---- all events

event-runs : (v : View) (e : Event) → LeaveRunning v (done (event_row v e))
event-runs v (event.Call slot c) = enter-runs v slot c (running_at v.processes slot) refl
event-runs v (event.Again slot) = again-runs v slot (running_at v.processes slot) refl
event-runs v (event.Byte n b) =
    lively-run v (byte_row v n b).effects (next_effect _ _ refl (lvl-signal (line_of v n).foreground (signal_by (line_of v n) b) (line_of v n).session))
event-runs v (event.Carrier n up) = lively-run v (carrier_row v n up).effects (next_effect _ _ refl (lvl-hang v n up))
event-runs v (event.Take n max) = lively-run v (take_row v n max).effects (next_effect _ _ refl no_effect)
event-runs v (event.Ended n) =
    row-runs v (end_row v n) (next_check _ _ (quiet-none (line_of v n).ended (early noted)) no_check)
    (lively-run v (end_row v n).effects (next_effect _ _ refl
    (lvl-append (hang_up (line_of v n) false) _ (lvl-hang v n false) (lvl-if _ _ _ (next_effect _ _ refl no_effect) no_effect))))

-- what an event does leaves it that those on the list run
pub row_runs : (v : View) (e : Event) → AreRunning v.processes v.ending
    → AreRunning (change_all v (done (row v e))).processes (change_all v (done (row v e))).ending
row_runs v e = behind-runs v (answer_if v.halted gone) (event_row v e) (quiet-none v.halted (early gone)) (event-runs v e)

-- so where nobody was to be ended before an event, each that is to be ended after its row runs
pub row_ends : (v : View) (e : Event) → v.ending ≡ [] → AreRunning (change_all v (done (row v e))).processes (change_all v (done (row v e))).ending
row_ends v e nobody = row_runs v e (subst (AreRunning v.processes) (sym nobody) tt)
