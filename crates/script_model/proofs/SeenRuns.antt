-- What a run writes depends on what calls see alone, and one event at a time.
use Rattle.std.proofs.Common.{◌≡◌, ℕ, zero, suc, ◌+◌, List, [], ◌∷◌, ◌++◌, length, map, take, Option, None, Some, refl, ap, ◌∙◌, arith, append_assoc, ltb}
use Rattle.std.proofs.Common.{lt-ltb, le-ltb}
use Rattle.sys_types.specs.declared.limits.TheConstants.{TRAIL_EVENTS}
use Rattle.call_words.specs.declared.event.Event.{Event}
use Rattle.user_db.specs.declared.boot.Boot.{Boot}
use Rattle.system_model.specs.State.{State, View, view, boot}
use Rattle.system_model.specs.Step.{step, view_after, answer_to, wakes}
use Rattle.system_laws.specs.Stands.{Within}
use Rattle.script_model.specs.Reading.{ScriptEvents}
use Rattle.script_text.specs.Answers.{answer_line}
use Rattle.script_model.specs.Script.{answers_from, stop_before, stops_from, stops, full_end, text_end, run_end, run_out}
use Rattle.script_model.specs.Seen.{answers_seen, stops_seen, out_seen, with_line}
use Rattle.system_laws.proofs.Runs.{step_seen, step_within, boot_within}

ltb-suc : (m n : ℕ) → ltb (suc m) (suc n) ≡ ltb m n
ltb-suc m n = grind arith

answers_seen-from : (es : List Event) (s : State) (n : ℕ) → Within n s → answers_from s (n + 1) es ≡ answers_seen (view s) es
unfolding answers_seen
answers_seen-from [] s n h = refl
answers_seen-from (e ∷ es) s n h =
    let after = (step s (n + 1) e).0 in
    ap (λ v. answer_line e (answer_to (view s) e) (wakes v) ++ answers_from after (n + 1 + 1) es) (step_seen s n e h)
    ∙ ap (λ more. answer_line e (answer_to (view s) e) (wakes (view_after (view s) e)) ++ more)
    (answers_seen-from es after (n + 1) (step_within s n e h) ∙ ap (λ v. answers_seen v es) (step_seen s n e h))

stops_seen-from : (es : List Event) (s : State) (n : ℕ) → Within n s → stops_from s (n + 1) es ≡ stops_seen (view s) es
unfolding stops_seen
stops_seen-from [] s n h = refl
stops_seen-from (e ∷ es) s n h =
    let after = (step s (n + 1) e).0 in
    ap (λ v. stop_before (view s) e ++ map (λ front. answer_line e (answer_to (view s) e) (wakes v) ++ front) (stops_from after (n + 1 + 1) es))
    (step_seen s n e h)
    ∙ ap (λ more. stop_before (view s) e ++ map (λ front. answer_line e (answer_to (view s) e) (wakes (view_after (view s) e)) ++ front) more)
    (stops_seen-from es after (n + 1) (step_within s n e h) ∙ ap (λ v. stops_seen v es) (step_seen s n e h))

-- from boot all of a run is still to come
pub run_out-seen : (says : Boot) (script : ScriptEvents) → run_out says script ≡ out_seen (view (boot says)) TRAIL_EVENTS script
unfolding out_seen
run_out-seen says script =
    let es = take TRAIL_EVENTS script.events in
    ap (λ bs. record { bytes = bs ++ (run_end TRAIL_EVENTS script).bytes; status = (run_end TRAIL_EVENTS script).status; stops = stops says es })
    (answers_seen-from es (boot says) 0 (boot_within says))
    ∙ ap
    (λ fronts. record {
      bytes = answers_seen (view (boot says)) es ++ (run_end TRAIL_EVENTS script).bytes;
      status = (run_end TRAIL_EVENTS script).status;
      stops = fronts;
    })
    (stops_seen-from es (boot says) 0 (boot_within says))

-- with no event left to come the end is written
pub out_seen-end : (v : View) (room : ℕ) (bad : Option ℕ) → out_seen v room (record { events = []; bad = bad }) ≡ text_end bad
unfolding out_seen answers_seen stops_seen text_end
out_seen-end v zero None = refl
out_seen-end v zero (Some n) = refl
out_seen-end v (suc room) None = rw (le-ltb (suc room) 0 (omega arith)) refl
out_seen-end v (suc room) (Some n) = rw (le-ltb (suc room) 0 (omega arith)) refl

-- an event for which there is no room ends the run
pub out_seen-full : (v : View) (e : Event) (es : List Event) (bad : Option ℕ) → out_seen v 0 (record { events = e ∷ es; bad = bad }) ≡ full_end
unfolding out_seen answers_seen stops_seen
out_seen-full v e es bad = rw (lt-ltb 0 (length (e ∷ es)) (omega arith)) refl

-- an event for which there is room is answered, and the others come after it
pub out_seen-event : (v : View) (room : ℕ) (e : Event) (es : List Event) (bad : Option ℕ)
    → out_seen v (suc room) (record { events = e ∷ es; bad = bad })
    ≡ with_line v e (answer_line e (answer_to v e) (wakes (view_after v e))) (out_seen (view_after v e) room (record { events = es; bad = bad }))
unfolding out_seen answers_seen stops_seen
out_seen-event v room e es bad =
    rw (ltb-suc room (length es))
    (ap
    (λ bs. record {
      bytes = bs;
      status = (run_end room (record { events = es; bad = bad })).status;
      stops = stop_before v e ++ map (λ front. answer_line e (answer_to v e) (wakes (view_after v e)) ++ front)
          (stops_seen (view_after v e) (take room es));
    })
    (append_assoc (answer_line e (answer_to v e) (wakes (view_after v e))) (answers_seen (view_after v e) (take room es))
    (run_end room (record { events = es; bad = bad })).bytes))
