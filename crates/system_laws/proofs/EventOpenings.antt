-- What an event does opens no file, or revokes nothing and ends nobody.
use Rattle.std.proofs.Common.{◌≡◌, ℕ, Bool, true, false, cond, inl, inr, List, [], ◌∷◌, ◌++◌, map, refl}
use Rattle.std.specs.Prelude.{Option, Some, None, is_some, option_map}
use Rattle.std.specs.List.{list_all}
use Rattle.sys_types.specs.declared.sig.Sig.{Sig}
use Rattle.call_words.specs.declared.call.Call.{Call}
use Rattle.call_words.specs.declared.event.Event.{Event}
use Rattle.call_words.specs.declared.event.Event.TheVariants as event
use Rattle.proc_table.specs.Processes.{Process, is_left, is_stopped, running_at, pending_at}
use Rattle.proc_table.specs.Forks.{is_begin}
use Rattle.line_disc.specs.Device.{Device, hangs_up}
use Rattle.system_model.specs.Parts.{Path}
use Rattle.system_model.specs.State.{View}
use Rattle.system_model.specs.ProcessEffects.{set_pending, tell}
use Rattle.system_model.specs.Effects.{Effect, on_files, on_pipes, on_lines, on_tree, on_processes, halt}
use Rattle.sys_types.specs.declared.rules.Rule.TheVariants.{Asleep}
use Rattle.call_words.specs.declared.event.Reason.TheVariants as reason
use Rattle.system_model.specs.Rows.{noted, gone, Outcome, refused, early, asleep, Check, deny, answer_if, Row, behind, first, effects_by, done, also, ended_by}
use Rattle.system_model.specs.Looks.{line_of}
use Rattle.system_model.specs.LineEvents as events
use Rattle.system_model.specs.Step.{run_row, tell_if_left, begin_sleeps, gone_row, enter_row, retry_row, again_row, is_begin_pending, event_row, row}
use Rattle.system_laws.specs.Laws.{may_still_do}
use Rattle.system_laws.proofs.Refusals.{AreQuiet, next_check, no_check, IsQuiet, where_none, where_some, all-both, quiet-none, quiet_call}
use Rattle.system_laws.proofs.Openings.{opens_file, NoOpen, no_effect, next_effect, open-append, open-process, open-if, open-halt, open-line, Calm, calm_end}
use Rattle.system_laws.proofs.Openings.{calm_next, calm-append, Ordered, ordered_call}

-- ---- checks

may-not-open : (e : Effect) → may_still_do e ≡ true → opens_file e ≡ false
may-not-open (on_files e) is = cc
may-not-open (on_pipes e) is = refl
may-not-open (on_lines e) is = refl
may-not-open (on_tree e) is = refl
may-not-open (on_processes e) is = refl
may-not-open halt is = refl

quiet-open : (es : List Effect) → list_all may_still_do es ≡ true → NoOpen es
quiet-open [] are = no_effect
quiet-open (e ∷ es) are =
    let both = all-both (may_still_do e) (list_all may_still_do es) are in
    next_effect e es (may-not-open e both.0) (quiet-open es both.1)

-- the own effects of the checks open no file
pub data Unopened : List (Option Check) → Type 0 where
  unopened_end : Unopened []
  unopened_none : (cs : List (Option Check)) → Unopened cs → Unopened (None ∷ cs)
  unopened_some : (o : Outcome) (es : List Effect) (cs : List (Option Check)) → NoOpen es → Unopened cs → Unopened (Some (o, es) ∷ cs)

quiet-unopened : (cs : List (Option Check)) → AreQuiet cs → Unopened cs
quiet-unopened [] no_check = unopened_end
quiet-unopened (None ∷ cs) (next_check _ _ where_none more) = unopened_none cs (quiet-unopened cs more)
quiet-unopened (Some c ∷ cs) (next_check _ _ (where_some o es are) more) = unopened_some o es cs (quiet-open es are) (quiet-unopened cs more)

also-unopened : (sleeps wakes : List Effect) (cs : List (Option Check)) → NoOpen sleeps → NoOpen wakes → Unopened cs
    → Unopened (map (option_map (also sleeps wakes)) cs)
also-unopened sleeps wakes [] asleep_none awake_none unopened_end = unopened_end
also-unopened sleeps wakes (None ∷ cs) asleep_none awake_none (unopened_none _ more) =
    unopened_none _ (also-unopened sleeps wakes cs asleep_none awake_none more)
also-unopened sleeps wakes (Some c ∷ cs) asleep_none awake_none (unopened_some (refused rule) es _ none more) =
    unopened_some (refused rule) _ _ (open-append es wakes none awake_none) (also-unopened sleeps wakes cs asleep_none awake_none more)
also-unopened sleeps wakes (Some c ∷ cs) asleep_none awake_none (unopened_some (early given) es _ none more) =
    unopened_some (early given) _ _ (open-append es wakes none awake_none) (also-unopened sleeps wakes cs asleep_none awake_none more)
also-unopened sleeps wakes (Some c ∷ cs) asleep_none awake_none (unopened_some (asleep reason) es _ none more) =
    unopened_some (asleep reason) _ _ (open-append es sleeps none asleep_none) (also-unopened sleeps wakes cs asleep_none awake_none more)

-- ---- rows

pub record IsOrdered (r : Row) : Type 0 where
  pub checks : Unopened r.checks
  pub effects : Ordered r.effects

done-unopened : (cs : List (Option Check)) (es : List Effect) → Unopened cs → Ordered es → Ordered (effects_by (first cs) es)
unfolding Ordered
done-unopened [] es unopened_end is = is
done-unopened (None ∷ cs) es (unopened_none _ more) is = done-unopened cs es more is
done-unopened (Some c ∷ cs) es (unopened_some o fs _ none more) is = inl none

pub ordered_done : (r : Row) → IsOrdered r → Ordered (done r)
ordered_done r is = done-unopened r.checks r.effects is.checks is.effects

no-open : (es : List Effect) → NoOpen es → Ordered es
unfolding Ordered
no-open es none = inl none

both-more : (es fs : List Effect) → Ordered es → NoOpen fs → Calm fs → Ordered (es ++ fs)
unfolding Ordered
both-more es fs (inl none) opens calm = inl (open-append es fs none opens)
both-more es fs (inr calms) opens calm = inr (calm-append es fs calms calm)

ordered-ended : (sleeps wakes : List Effect) (r : Row) → NoOpen sleeps → NoOpen wakes → Calm wakes → IsOrdered r → IsOrdered (ended_by sleeps wakes r)
unfolding ended_by
ordered-ended sleeps wakes r asleep_none awake_none calm is = record {
  checks = also-unopened sleeps wakes r.checks asleep_none awake_none is.checks;
  effects = both-more r.effects wakes is.effects awake_none calm;
}

ordered-behind : (c : Option Check) (r : Row) → IsQuiet c → IsOrdered r → IsOrdered (behind (c ∷ []) r)
ordered-behind None r where_none is = record { checks = unopened_none _ is.checks; effects = is.effects }
ordered-behind (Some c) r (where_some o es are) is = record { checks = unopened_some o es _ (quiet-open es are) is.checks; effects = is.effects }

ordered-if : (t : Bool) (r q : Row) → IsOrdered r → IsOrdered q → IsOrdered (cond t r q)
ordered-if true r q first second = first
ordered-if false r q first second = second

ordered-run : (v : View) (slot : ℕ) (who : Process Path) (c : Call) → IsOrdered (run_row v slot who c)
ordered-run v slot who c = record {
  checks = quiet-unopened (run_row v slot who c).checks (next_check _ _ (quiet-none (is_stopped who) (asleep reason.Stop)) (quiet_call v slot c));
  effects = ordered_call v slot c;
}

left-open : (v : View) (slot : ℕ) → NoOpen (tell_if_left v slot)
left-open v slot = open-if (is_left v.processes slot) _ _ (open-process (tell slot) [] no_effect) no_effect

ordered-begin : (v : View) (slot : ℕ) (pending : List Effect) → NoOpen pending → IsOrdered (begin_sleeps v slot pending)
ordered-begin v slot pending none = record {
  checks = unopened_some _ _ _ (open-append _ _ (left-open v slot) none) unopened_end;
  effects = no-open [] no_effect;
}

ordered-gone : (v : View) (slot : ℕ) → IsOrdered (gone_row v slot)
ordered-gone v slot = record {
  checks = unopened_end;
  effects = no-open _ (open-append _ _ (left-open v slot) (open-process (set_pending slot None) [] no_effect));
}

ordered-enter : (v : View) (slot : ℕ) (c : Call) (who : Option (Process Path)) → IsOrdered (enter_row v slot c who)
ordered-enter v slot c None =
    ordered-if (is_begin c) _ _ (ordered-begin v slot _ (open-process (set_pending slot (Some c)) [] no_effect)) (ordered-gone v slot)
ordered-enter v slot c (Some who) =
    ordered-behind (deny (is_some (pending_at v.processes slot)) Asleep) _ (quiet-none (is_some (pending_at v.processes slot)) (refused Asleep))
    (ordered-ended _ [] (run_row v slot who c) (open-process (set_pending slot (Some c)) [] no_effect) no_effect calm_end (ordered-run v slot who c))

ordered-retry : (v : View) (slot : ℕ) (who : Process Path) (c : Option Call) → IsOrdered (retry_row v slot who c)
ordered-retry v slot who None = record { checks = unopened_some _ _ _ no_effect unopened_end; effects = no-open [] no_effect }
ordered-retry v slot who (Some c) =
    ordered-ended [] _ (run_row v slot who c) no_effect (open-process (set_pending slot None) [] no_effect)
    (calm_next _ _ refl calm_end) (ordered-run v slot who c)

ordered-again : (v : View) (slot : ℕ) (who : Option (Process Path)) → IsOrdered (again_row v slot who)
ordered-again v slot None =
    ordered-if (is_begin_pending (pending_at v.processes slot)) _ _ (ordered-begin v slot [] no_effect) (ordered-gone v slot)
ordered-again v slot (Some who) = ordered-retry v slot who (pending_at v.processes slot)

-- ---- lines

open-signal : (group : ℕ) (signal : Option Sig) (session : Option ℕ) → NoOpen (events.signal_foreground group signal session)
open-signal group None session = no_effect
open-signal group (Some signal) None = no_effect
open-signal group (Some signal) (Some session) = open-process _ [] no_effect

open-leader : (session : Option ℕ) → NoOpen (events.hang_up_leader session)
open-leader None = no_effect
open-leader (Some session) = open-process _ [] no_effect

open-hang_up : (line : Device ℕ) (up : Bool) → NoOpen (events.hang_up line up)
open-hang_up line up = open-if (hangs_up line up) _ _ (open-leader line.session) no_effect

open-last : (v : View) (n : ℕ) → NoOpen (events.halt_with_last v n)
open-last v n = open-if _ (halt ∷ []) [] (open-halt [] no_effect) no_effect

ordered-event : (v : View) (e : Event) → IsOrdered (event_row v e)
ordered-event v (event.Call slot c) = ordered-enter v slot c (running_at v.processes slot)
ordered-event v (event.Again slot) = ordered-again v slot (running_at v.processes slot)
ordered-event v (event.Byte n b) = record { checks = unopened_end; effects = no-open _ (open-line _ _ (open-signal _ _ (line_of v n).session)) }
ordered-event v (event.Carrier n up) = record { checks = unopened_end; effects = no-open _ (open-line _ _ (open-hang_up (line_of v n) up)) }
ordered-event v (event.Take n max) = record { checks = unopened_end; effects = no-open _ (open-line _ _ no_effect) }
ordered-event v (event.Ended n) = record {
  checks = quiet-unopened (events.end_row v n).checks (next_check _ _ (quiet-none (line_of v n).ended (early noted)) no_check);
  effects = no-open _ (open-line _ _ (open-append _ _ (open-hang_up (line_of v n) false) (open-last v n)));
}

pub ordered_row : (v : View) (e : Event) → IsOrdered (row v e)
ordered_row v e = ordered-behind (answer_if v.halted gone) (event_row v e) (quiet-none v.halted (early gone)) (ordered-event v e)
