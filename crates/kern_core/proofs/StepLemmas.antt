-- One step: what the event does, and then what it ends.
use Rattle.std.proofs.Common.{◌≡◌, ℕ, ◌+◌, ◌≤◌, ◌<◌, List, [], ◌∷◌, length, Option, Some, None, option_map, refl, sym, ap, subst, ◌∙◌, arith}
use Rattle.std.specs.Prelude.{◌-◌, ◌^◌, is_some}
use Rattle.call_words.specs.declared.event.Event.{Event}
use Rattle.call_words.specs.declared.event.Decision.{Decision}
use Rattle.call_words.specs.declared.event.How.{How}
use Rattle.call_words.specs.Events.{MayBeUsed}
use Rattle.tree_model.specs.Tree.{NodeAt}
use Rattle.proc_calls.specs.Ends as ends
use Rattle.proc_table.specs.Processes.{Process, running_at}
use Rattle.system_model.specs.State.{State, View}
use Rattle.system_model.specs.Effects.{change_all}
use Rattle.system_model.specs.Endings.{endings_of}
use Rattle.system_model.specs.Fit.{AreRevokedAtMost}
use Rattle.system_model.specs.Rows.{done}
use Rattle.system_model.specs.Step.{row, step, answer_to, view_after}
use Rattle.system_model.specs.Tables.{Tables, seen_process, view_of}
use Rattle.system_laws.specs.PendingCalls.{IsFitCall, AreFitCalls}
use Rattle.system_laws.specs.EndingLists.{AreRunning}
use Rattle.system_laws.specs.Stands.{Stands}
use Rattle.system_laws.proofs.Runs.{change_more, stands_after}
use Rattle.system_laws.proofs.CallsKept.{KeepsCalls}
use Rattle.system_laws.proofs.EventsKept.{event_keeps}
use Rattle.system_laws.proofs.EndingRuns.{row_ends}
use Rattle.kern_core.specs.Bounds.{RevokesNone, RevokesOnce, HasRoom, IsAfter, HasEventLeft}
use Rattle.kern_core.proofs.SlotLemmas.{pending_is, running_is, pid_is}

-- ---- bounds

pub raised : (t : Tables) (few many : ℕ) → few ≤ many → AreRevokedAtMost few t.pool t.lines → AreRevokedAtMost many t.pool t.lines
raised t few many more at = record { each = λ n. omega (arith, more, at.each n) }

in-room : (n : ℕ) → n < 2147483648 → n + 1 ≤ 2 ^ 63 - 1
in-room n few = omega (arith, few)

pids-room : (n pid : ℕ) → n < 2147483648 → pid ≤ n + 2 → pid + 1 < 2 ^ 32
pids-room n pid few most = omega (arith, few, most)

pub has_room : (t : Tables) → HasEventLeft t → HasRoom t
has_room t more = record {
  revokes = raised t more.most (2 ^ 63 - 1) (omega (arith, in-room more.most more.left)) more.after.revokes;
  pids = pids-room more.most t.processes.next_pid more.left more.after.pids;
}

-- what an event leaves may be ended
pub few_after : (old mid : Tables) → HasEventLeft old → RevokesOnce old mid → AreRevokedAtMost (2 ^ 63 - 1) mid.pool mid.lines
few_after old mid more once = raised mid (more.most + 1) (2 ^ 63 - 1) (in-room more.most more.left) (once more.most more.after.revokes)

-- ---- what calls see

pub step_seen : (v mid new : View) (e : Event) → mid ≡ change_all v (done (row v e)) → new ≡ change_all mid (endings_of mid) → new ≡ view_after v e
unfolding view_after
step_seen v mid new e first then =
    then ∙ ap (λ m. change_all m (endings_of m)) first
    ∙ sym (change_more v (done (row v e)) (endings_of (change_all v (done (row v e)))))

pub step_stands : (v new : View) (e : Event) (d : Decision) → new ≡ view_after v e → d ≡ answer_to v e → (n : ℕ) (s : State) → Stands v n s
    → Stands new (n + 1) (step s (n + 1) e).0 × (d ≡ (step s (n + 1) e).1)
step_stands v new e d seen answer n s stands =
    (subst (λ w. Stands w (n + 1) (step s (n + 1) e).0) (sym seen) (stands_after v n s e stands), answer ∙ ap (λ w. answer_to w e) stands.seen)

-- ---- the calls that slots wait in

pub calls_seen : (t : Tables) → AreFitCalls t.processes → AreFitCalls (view_of t).processes
calls_seen t fit = record { each = λ slot. subst IsFitCall (sym (pending_is t slot)) (fit.each slot) }

pub calls_kept : (t : Tables) → AreFitCalls (view_of t).processes → AreFitCalls t.processes
calls_kept t fit = record { each = λ slot. subst IsFitCall (pending_is t slot) (fit.each slot) }

pub pids_kept : (old new : Tables) (n : ℕ) → (view_of new).processes.next_pid ≤ (view_of old).processes.next_pid + 1 → old.processes.next_pid ≤ n + 2
    → new.processes.next_pid ≤ n + 1 + 2
pids_kept old new n more at = omega (arith, more, at, pid_is old, pid_is new)

-- ---- those who are still to be ended

none-left : (xs : List (ℕ × How)) → length xs ≡ 0 → xs ≡ []
none-left [] is = refl
none-left (x ∷ xs) is = absurd cc

ending-is : (t : Tables) → (view_of t).ending ≡ t.ending
unfolding view_of
ending-is t = refl

some-map : (nodes : List (Option NodeAt)) (o : Option (Process ℕ)) → is_some (option_map (seen_process nodes) o) ≡ is_some o
some-map nodes None = refl
some-map nodes (Some p) = refl

all-run : (t : Tables) (es : List (ℕ × How)) → AreRunning (view_of t).processes es → ends.AreRunning t.processes es
all-run t [] running = tt
all-run t (e ∷ es) running =
    (sym (some-map t.nodes (running_at t.processes e.0)) ∙ sym (ap is_some (running_is t e.0)) ∙ running.0, all-run t es running.1)

-- each of them runs
pub row_leaves : (old mid : Tables) (e : Event) → length old.ending ≡ 0 → view_of mid ≡ change_all (view_of old) (done (row (view_of old) e))
    → ends.AreRunning mid.processes mid.ending
row_leaves old mid e none is =
    all-run mid mid.ending
    (subst (AreRunning (view_of mid).processes) (ending-is mid)
    (subst (λ v. AreRunning v.processes v.ending) (sym is) (row_ends (view_of old) e (ending-is old ∙ none-left old.ending none))))

-- ---- what an event leaves

pub after_one : (old mid new : Tables) (e : Event) → MayBeUsed e → RevokesOnce old mid → RevokesNone mid new → new.ending ≡ []
    → view_of new ≡ view_after (view_of old) e → (n : ℕ) → IsAfter n old → IsAfter (n + 1) new
after_one old mid new e used once none ended seen n after =
    let kept = subst (λ v. KeepsCalls (view_of old).processes v.processes) (sym seen) (event_keeps (view_of old) e used) in
    record {
      revokes = none (n + 1) (once n after.revokes);
      pids = pids_kept old new n kept.pid after.pids;
      calls = calls_kept new (kept.calls (calls_seen old after.calls));
      ending = ap length ended;
    }
