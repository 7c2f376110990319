-- A call's row with what is around it: it rests, or it does all that the call's row does, and answers the call.
use Rattle.std.proofs.Common.{◌≡◌, ℕ, Bool, true, false, cond, List, [], ◌∷◌, ◌++◌, refl, ap, sym, subst, ◌∙◌}
use Rattle.std.specs.Prelude.{Option, Some, None, option_map}
use Rattle.std.specs.List.{list_all}
use Rattle.call_words.specs.declared.call.Call.{Call}
use Rattle.call_words.specs.declared.event.Reason.TheVariants as reason
use Rattle.proc_table.specs.Processes.{Process, is_stopped}
use Rattle.system_model.specs.Parts.{Path}
use Rattle.system_model.specs.State.{View}
use Rattle.system_model.specs.ProcessEffects.{ProcessEffect, set_process, fork_process, reap_child, set_pending, tell, post, add_ending, bury, clear_ending}
use Rattle.system_model.specs.Effects.{Effect, on_files, on_pipes, on_lines, on_tree, on_processes, halt}
use Rattle.system_model.specs.Rows.{refused, early, asleep, Check, check, Row, first, effects_by, done, also, ended_by}
use Rattle.system_model.specs.Rows.{answer_of, decision_by, decision}
use Rattle.system_model.specs.Step.{call_row, run_row}
use Rattle.system_laws.specs.Laws.{may_still_do}
use Rattle.system_laws.proofs.Refusals.{quiet_call, first-quiet, all-both}
use Rattle.system_laws.proofs.Revocations.{first-map}
use Rattle.system_laws.proofs.Labels.{own-ended}

-- the effect leaves who the processes are
abbrev pub is_still_process : ProcessEffect → Bool
is_still_process (set_process slot process) = false
is_still_process (fork_process slot note) = false
is_still_process _ = true

-- the effect leaves open files, pipes and nodes, and who the processes are
abbrev pub is_still : Effect → Bool
is_still (on_files e) = false
is_still (on_pipes e) = false
is_still (on_lines e) = true
is_still (on_tree e) = false
is_still (on_processes e) = is_still_process e
is_still halt = true

-- so do all of some
pub data AreStill : List Effect → Type 0 where
  still_end : AreStill []
  still_next : (e : Effect) (es : List Effect) → is_still e ≡ true → AreStill es → AreStill (e ∷ es)

pub still-append : (es fs : List Effect) → AreStill es → AreStill fs → AreStill (es ++ fs)
still-append [] fs still_end are = are
still-append (e ∷ es) fs (still_next _ _ is more) are = still_next e (es ++ fs) is (still-append es fs more are)

pub still-if : (t : Bool) (es fs : List Effect) → AreStill es → AreStill fs → AreStill (cond t es fs)
still-if true es fs first second = first
still-if false es fs first second = second

pub still-one : (e : Effect) → is_still e ≡ true → AreStill (e ∷ [])
still-one e is = still_next e [] is still_end

may-still-process : (e : ProcessEffect) → may_still_do (on_processes e) ≡ true → is_still_process e ≡ true
may-still-process (set_process slot process) may = cc
may-still-process (fork_process slot note) may = cc
may-still-process (reap_child slot who untraced) may = refl
may-still-process (set_pending slot call) may = refl
may-still-process (tell slot) may = refl
may-still-process (post signal to) may = refl
may-still-process (add_ending slot how) may = refl
may-still-process (bury slot how) may = refl
may-still-process clear_ending may = refl

may-still : (e : Effect) → may_still_do e ≡ true → is_still e ≡ true
may-still (on_files e) may = cc
may-still (on_pipes e) may = cc
may-still (on_lines e) may = refl
may-still (on_tree e) may = cc
may-still (on_processes e) may = may-still-process e may
may-still halt may = refl

pub still-quiet : (es : List Effect) → list_all may_still_do es ≡ true → AreStill es
still-quiet [] may = still_end
still-quiet (e ∷ es) may =
    let both = all-both (may_still_do e) (list_all may_still_do es) may in
    still_next e es (may-still e both.0) (still-quiet es both.1)

-- ---- what follows the effects of a call's row: nothing, or that a call that was pending is so no more
pub data IsAnswer (slot : ℕ) : List Effect → Type 0 where
  asked_now : IsAnswer slot []
  asked_before : IsAnswer slot (on_processes (set_pending slot None) ∷ [])

-- ---- a row of a call, with what is around it

pub data Carries (v : View) (slot : ℕ) (who : Process Path) (c : Call) (r : Row) : Type 0 where
  row_rests : AreStill (done r) → Carries v slot who c r
  row_carries : (rest : List Effect) → is_stopped who ≡ false → first (call_row v slot c).checks ≡ None → done r ≡ (call_row v slot c).effects ++ rest
      → IsAnswer slot rest → decision r ≡ answer_of (call_row v slot c).answer → Carries v slot who c r

ended-done : (sleeps wakes : List Effect) (r : Row)
    → done (ended_by sleeps wakes r) ≡ effects_by (option_map (also sleeps wakes) (first r.checks)) (r.effects ++ wakes)
unfolding ended_by
ended-done sleeps wakes r = ap (λ o. effects_by o (r.effects ++ wakes)) (first-map (also sleeps wakes) r.checks)

also-still : (sleeps wakes es : List Effect) (c : Check) → AreStill sleeps → AreStill wakes → AreStill c.1
    → AreStill (effects_by (option_map (also sleeps wakes) (Some c)) es)
also-still sleeps wakes es (refused rule, fs) s w are = still-append fs wakes are w
also-still sleeps wakes es (early given, fs) s w are = still-append fs wakes are w
also-still sleeps wakes es (asleep why, fs) s w are = still-append fs sleeps are s

answer-still : (slot : ℕ) (rest : List Effect) → IsAnswer slot rest → AreStill rest
answer-still slot rest asked_now = still_end
answer-still slot rest asked_before = still-one _ refl

-- the first check of a call's row, where its process is not stopped
run-first : (t : Bool) (cs : List (Option Check)) → t ≡ false → first (check t (asleep reason.Stop) [] ∷ cs) ≡ first cs
run-first true cs is = cc
run-first false cs is = refl

stop-first : (t : Bool) (cs : List (Option Check)) → t ≡ true → first (check t (asleep reason.Stop) [] ∷ cs) ≡ Some (asleep reason.Stop, [])
stop-first true cs is = refl
stop-first false cs is = cc

pub carries-run : (v : View) (slot : ℕ) (who : Process Path) (c : Call) (sleeps wakes : List Effect) → AreStill sleeps → IsAnswer slot wakes
    → Carries v slot who c (ended_by sleeps wakes (run_row v slot who c))
carries-run v slot who c sleeps wakes s w = by_stop (is_stopped who) refl
  where
    r : Row
    r = run_row v slot who c

    by_first : is_stopped who ≡ false → (o : Option Check) → first (call_row v slot c).checks ≡ o → Carries v slot who c (ended_by sleeps wakes r)
    by_first up None is =
        let none : first r.checks ≡ None = run-first (is_stopped who) (call_row v slot c).checks up ∙ is in
        row_carries wakes up is
        (ended-done sleeps wakes r ∙ ap (λ o. effects_by (option_map (also sleeps wakes) o) ((call_row v slot c).effects ++ wakes)) none) w
        (own-ended v slot c who sleeps wakes ∙ ap (λ o. decision_by o (call_row v slot c).answer) none)
    by_first up (Some d) is =
        let some : first r.checks ≡ Some d = run-first (is_stopped who) (call_row v slot c).checks up ∙ is in
        row_rests (subst AreStill
        (sym (ended-done sleeps wakes r ∙ ap (λ o. effects_by (option_map (also sleeps wakes) o) ((call_row v slot c).effects ++ wakes)) some))
        (also-still sleeps wakes ((call_row v slot c).effects ++ wakes) d s (answer-still slot wakes w)
        (still-quiet d.1 (first-quiet (call_row v slot c).checks d.0 d.1 (quiet_call v slot c) is))))

    by_stop : (t : Bool) → is_stopped who ≡ t → Carries v slot who c (ended_by sleeps wakes r)
    by_stop true is = row_rests (subst AreStill
        (sym (ended-done sleeps wakes r
        ∙ ap (λ o. effects_by (option_map (also sleeps wakes) o) ((call_row v slot c).effects ++ wakes))
        (stop-first (is_stopped who) (call_row v slot c).checks is)))
        s)
    by_stop false is = by_first is (first (call_row v slot c).checks) refl
