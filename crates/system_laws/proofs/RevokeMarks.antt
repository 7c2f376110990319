-- A line is revoked by a call of revoke(2) that is answered, or by the end of the leader of the line's session.
use Rattle.std.proofs.Common.{◌≡◌, ℕ, zero, suc, ◌+◌, Bool, true, false, cond, length, ◌⊎◌, inl, inr, List, [], ◌∷◌, ◌++◌, refl, ap, sym, ◌∙◌, subst}
use Rattle.std.proofs.Common.{arith}
use Rattle.std.specs.Prelude.{◌||◌, ◌==◌, not, filter, Option, Some, None, is_none, is_some, option_map, slice_get}
use Rattle.std.specs.List.{list_all, list_any, range_with_len}
use Rattle.std.proofs.lemmas.List.{append-nil}
use Rattle.std.proofs.lemmas.Bool.Decides.{nat_tests}
use Rattle.sys_types.specs.declared.limits.TheConstants.{SLOTS, DESCRIPTORS}
use Rattle.fd_table.specs.Shared.{descriptor_at}
use Rattle.sys_types.specs.declared.sig.Sig.{Sig}
use Rattle.sys_types.specs.declared.sig.Sig.TheVariants as sig
use Rattle.call_words.specs.declared.signal.To.TheVariants.{Pid}
use Rattle.sys_types.specs.declared.rules.Rule.{Rule}
use Rattle.sys_types.specs.declared.rules.Rule.TheVariants.{Asleep, NoRevoke as NoRevokeRule, LabelWrite, Owner}
use Rattle.call_words.specs.declared.call.Call.{Call}
use Rattle.call_words.specs.declared.call.Call.TheVariants as call
use Rattle.call_words.specs.declared.event.Event.{Event}
use Rattle.call_words.specs.declared.event.Event.TheVariants as event
use Rattle.call_words.specs.declared.event.How.{How}
use Rattle.call_words.specs.declared.event.Reason.TheVariants as reason
use Rattle.call_words.specs.declared.event.Reply.TheVariants.{Num}
use Rattle.call_words.specs.declared.event.Decision.TheVariants.{Answer}
use Rattle.proc_table.specs.Processes.{Process, is_stopped, running_at, pending_at, is_left}
use Rattle.proc_table.specs.Forks.{is_begin}
use Rattle.line_disc.specs.Device.{Device, hangs_up}
use Rattle.tree_model.specs.Paths.{path_at, node_rule}
use Rattle.tree_model.specs.Tree.{at_path}
use Rattle.system_model.specs.Parts.{Path}
use Rattle.system_model.specs.State.{State, View, view}
use Rattle.system_model.specs.ProcessEffects.{set_pending, tell, post, bury, clear_ending}
use Rattle.system_model.specs.LineEffects.{end_line}
use Rattle.system_model.specs.Effects.{Effect, on_files, on_pipes, on_lines, on_tree, on_processes, halt, change_all}
use Rattle.system_model.specs.Rows.{Given, number, Outcome, refused, early, asleep, gone, noted, Check, Row, check, deny, deny_by, answer_if, behind, first}
use Rattle.system_model.specs.Rows.{effects_by, done, decision}
use Rattle.system_model.specs.Rows.{decision_by, answer_of, also, ended_by}
use Rattle.system_model.specs.Looks.{caller_of, line_of, line_of_session, node_at, end_of, node_dominates, is_not_owner}
use Rattle.system_model.specs.ProcCalls.{close_fds}
use Rattle.system_model.specs.TtyCalls.{tell_leader, revoke_effects, tty_of_node}
use Rattle.system_model.specs.LineEvents as events
use Rattle.system_model.specs.Endings.{close_all, leave_line, leave_session, end_one, end_next, endings, endings_of}
use Rattle.system_model.specs.Step.{call_row, run_row, tell_if_left, begin_sleeps, gone_row, enter_row, retry_row, again_row, is_begin_pending, event_row, row}
use Rattle.system_model.specs.Step.{answer_to, effects_of}
use Rattle.system_laws.specs.Laws.{may_still_do, asks_call, CanRun, is_revoke_of, revokes_line, before_ending, IsRevokedBy, by_call, by_end, MarksRevokes}
use Rattle.system_laws.proofs.Refusals.{all-both, first-quiet, quiet_call}
use Rattle.system_laws.proofs.Revocations.{first-map, entered, retried}
use Rattle.system_laws.proofs.NoRevokes.{NoRevoke, no_effect, next_effect, rev-append, rev-if, rev-process, rev-halt, rev-receive, rev-carrier, rev-take}
use Rattle.system_laws.proofs.NoRevokes.{rev-ends, is_revoke_call, rev_call}
use Rattle.system_laws.proofs.Revoking.{all_mark}
use Rattle.system_laws.proofs.Runs.{change_more}
use Rattle.system_laws.proofs.Labels.{is_own, own-gone, own-behind, own-ended, own-answer}
use Rattle.system_laws.proofs.Fuel.{endings-parts}
use Rattle.system_laws.proofs.LeaderEnds.{leader_ends}

-- ---- lists of effects

none-any : (n : ℕ) (es : List Effect) → NoRevoke n es → list_any (is_revoke_of n) es ≡ false
none-any n [] no_effect = refl
none-any n (e ∷ es) (next_effect _ _ is more) = rw (is, none-any n es more) refl

or-more : (t a b c : Bool) → a ≡ (b || c) → (t || a) ≡ ((t || b) || c)
or-more true a b c is = refl
or-more false a b c is = is

either-any : (n : ℕ) (es fs : List Effect) → list_any (is_revoke_of n) (es ++ fs) ≡ (list_any (is_revoke_of n) es || list_any (is_revoke_of n) fs)
either-any n [] fs = refl
either-any n (e ∷ es) fs =
    or-more (is_revoke_of n e) (list_any (is_revoke_of n) (es ++ fs)) (list_any (is_revoke_of n) es) (list_any (is_revoke_of n) fs) (either-any n es fs)

one-of : (a b : Bool) → (a || b) ≡ true → (a ≡ true) ⊎ (b ≡ true)
one-of true b is = inl refl
one-of false b is = inr is

not-both : (b : Bool) → b ≡ false → b ≡ true → ⊥
not-both true isnt is = cc
not-both false isnt is = cc

-- what a denied event may do revokes nothing
may-not-revoke : (n : ℕ) (e : Effect) → may_still_do e ≡ true → is_revoke_of n e ≡ false
may-not-revoke n (on_files e) is = refl
may-not-revoke n (on_pipes e) is = refl
may-not-revoke n (on_lines e) is = cc
may-not-revoke n (on_tree e) is = refl
may-not-revoke n (on_processes e) is = refl
may-not-revoke n halt is = refl

quiet-any : (n : ℕ) (es : List Effect) → list_all may_still_do es ≡ true → list_any (is_revoke_of n) es ≡ false
quiet-any n [] are = refl
quiet-any n (e ∷ es) are =
    let both = all-both (may_still_do e) (list_all may_still_do es) are in
    rw (may-not-revoke n e both.0, quiet-any n es both.1) refl

-- ---- rows: what revokes stands in the effects of a row of which no check holds

below-first : (n : ℕ) (o : Option Check) (es : List Effect)
    → ((p : Outcome) (fs : List Effect) → o ≡ Some (p, fs) → list_any (is_revoke_of n) fs ≡ false)
    → list_any (is_revoke_of n) (effects_by o es) ≡ true → (o ≡ None) × (list_any (is_revoke_of n) es ≡ true)
below-first n None es none is = (refl, is)
below-first n (Some c) es none is = absurd (not-both (list_any (is_revoke_of n) c.1) (none c.0 c.1 refl) is)

-- a call: the one is a revoke
below-call : (n : ℕ) (v : View) (slot : ℕ) (c : Call) → list_any (is_revoke_of n) (done (call_row v slot c)) ≡ true
    → (first (call_row v slot c).checks ≡ None) × (list_any (is_revoke_of n) (call_row v slot c).effects ≡ true)
below-call n v slot c is =
    below-first n (first (call_row v slot c).checks) (call_row v slot c).effects
    (λ o es found. quiet-any n es (first-quiet (call_row v slot c).checks o es (quiet_call v slot c) found)) is

below-more : (n : ℕ) (es fs : List Effect) → list_any (is_revoke_of n) fs ≡ false → list_any (is_revoke_of n) (es ++ fs) ≡ true
    → list_any (is_revoke_of n) es ≡ true
below-more n es fs none is = by_case (one-of _ _ (sym (either-any n es fs) ∙ is))
  where
    by_case : (list_any (is_revoke_of n) es ≡ true) ⊎ (list_any (is_revoke_of n) fs ≡ true) → list_any (is_revoke_of n) es ≡ true
    by_case (inl there) = there
    by_case (inr behind) = absurd (not-both (list_any (is_revoke_of n) fs) none behind)

-- behind a check that revokes nothing
below-behind : (n : ℕ) (t : Bool) (o : Outcome) (r : Row) → list_any (is_revoke_of n) (done (behind (check t o [] ∷ []) r)) ≡ true
    → (t ≡ false) × (list_any (is_revoke_of n) (done r) ≡ true)
below-behind n true o r is = cc
below-behind n false o r is = (refl, is)

-- with effects behind it that revoke nothing
below-also : (n : ℕ) (sleeps wakes es : List Effect) (o : Option Check) → list_any (is_revoke_of n) sleeps ≡ false → list_any (is_revoke_of n) wakes ≡ false
    → list_any (is_revoke_of n) (effects_by (option_map (also sleeps wakes) o) (es ++ wakes)) ≡ true → list_any (is_revoke_of n) (effects_by o es) ≡ true
below-also n sleeps wakes es None asleep_none awake_none is = below-more n es wakes awake_none is
below-also n sleeps wakes es (Some (refused rule, fs)) asleep_none awake_none is = below-more n fs wakes awake_none is
below-also n sleeps wakes es (Some (early given, fs)) asleep_none awake_none is = below-more n fs wakes awake_none is
below-also n sleeps wakes es (Some (asleep reason, fs)) asleep_none awake_none is = below-more n fs sleeps asleep_none is

below-ended : (n : ℕ) (sleeps wakes : List Effect) (r : Row) → list_any (is_revoke_of n) sleeps ≡ false → list_any (is_revoke_of n) wakes ≡ false
    → list_any (is_revoke_of n) (done (ended_by sleeps wakes r)) ≡ true → list_any (is_revoke_of n) (done r) ≡ true
unfolding ended_by
below-ended n sleeps wakes r asleep_none awake_none is =
    below-also n sleeps wakes r.effects (first r.checks) asleep_none awake_none
    (subst (λ o. list_any (is_revoke_of n) (effects_by o (r.effects ++ wakes)) ≡ true) (first-map (also sleeps wakes) r.checks) is)

below-run : (n : ℕ) (v : View) (slot : ℕ) (who : Process Path) (c : Call) → list_any (is_revoke_of n) (done (run_row v slot who c)) ≡ true
    → (is_stopped who ≡ false) × (list_any (is_revoke_of n) (done (call_row v slot c)) ≡ true)
below-run n v slot who c is = below-behind n (is_stopped who) (asleep reason.Stop) (call_row v slot c) is

-- a slot without a process revokes nothing
left-any : (n : ℕ) (v : View) (slot : ℕ) (more : List Effect) → list_any (is_revoke_of n) more ≡ false
    → list_any (is_revoke_of n) (tell_if_left v slot ++ more) ≡ false
left-any n v slot more none = by_case (is_left v.processes slot)
  where
    by_case : (t : Bool) → list_any (is_revoke_of n) (cond t (on_processes (tell slot) ∷ []) [] ++ more) ≡ false
    by_case true = none
    by_case false = none

none-gone : (n : ℕ) (v : View) (slot : ℕ) (t : Bool) (pending : List Effect) → list_any (is_revoke_of n) pending ≡ false
    → list_any (is_revoke_of n) (done (cond t (begin_sleeps v slot pending) (gone_row v slot))) ≡ false
none-gone n v slot true pending none = left-any n v slot pending none
none-gone n v slot false pending none = left-any n v slot (on_processes (set_pending slot None) ∷ []) refl

-- ---- the call

revoke-path : (c : Call) → is_revoke_call c ≡ true → (path : List ℕ) × (c ≡ call.Revoke path)
revoke-path (call.Revoke path) is = (path, refl)
revoke-path _ is = cc

same-number : (m n : ℕ) → (m == n) ≡ true → m ≡ n
same-number m n is = grind (arith, nat_tests, is)

leader-any : (n : ℕ) (who : Process Path) (session : Option ℕ) → list_any (is_revoke_of n) (tell_leader who session) ≡ false
leader-any n who None = refl
leader-any n who (Some session) = by_case (who.pid == session)
  where
    by_case : (t : Bool) → list_any (is_revoke_of n) (cond t [] (on_processes (post sig.HUP (Pid session)) ∷ [])) ≡ false
    by_case true = refl
    by_case false = refl

revoked-line : (n : ℕ) (v : View) (who : Process Path) (m : Option ℕ) → list_any (is_revoke_of n) (revoke_effects v who m) ≡ true → m ≡ Some n
revoked-line n v who None is = cc
revoked-line n v who (Some m) is = by_case (one-of (m == n) _ is)
  where
    by_case : ((m == n) ≡ true) ⊎ (list_any (is_revoke_of n) (tell_leader who (line_of v m).session) ≡ true) → Some m ≡ Some n
    by_case (inl same) = ap Some (same-number m n same)
    by_case (inr leader) = absurd (not-both _ (leader-any n who (line_of v m).session) leader)

-- what a call is that revokes the line
pub record IsRevokeCall (n : ℕ) (v : View) (slot : ℕ) (c : Call) : Type 0 where
  pub path : List ℕ
  pub is : c ≡ call.Revoke path
  pub line : tty_of_node (node_at v (path_at (end_of v slot path))) ≡ Some n
  pub none : first (call_row v slot c).checks ≡ None

revoke-call : (n : ℕ) (v : View) (slot : ℕ) (c : Call) → list_any (is_revoke_of n) (done (call_row v slot c)) ≡ true → IsRevokeCall n v slot c
revoke-call n v slot c is = by_case (is_revoke_call c) refl
  where
    below : (first (call_row v slot c).checks ≡ None) × (list_any (is_revoke_of n) (call_row v slot c).effects ≡ true)
    below = below-call n v slot c is

    by_case : (t : Bool) → is_revoke_call c ≡ t → IsRevokeCall n v slot c
    by_case false other = absurd (not-both _ (none-any n (call_row v slot c).effects (rev_call n v slot c other)) below.1)
    by_case true one =
        let found = revoke-path c one in
        record {
          path = found.0;
          is = found.1;
          line =
              revoked-line n v (caller_of v slot) (tty_of_node (node_at v (path_at (end_of v slot found.0))))
              (subst (λ d. list_any (is_revoke_of n) (call_row v slot d).effects ≡ true) found.1 below.1);
          none = below.0;
        }

-- an event whose call revokes the line
entered-revoke : (n : ℕ) (v : View) (slot : ℕ) (c : Call) (able : CanRun v slot) → is_some (pending_at v.processes slot) ≡ false → IsRevokeCall n v slot c
    → IsRevokedBy v (event.Call slot c) n
unfolding answer_to ended_by
entered-revoke n v slot c able free one =
    by_call slot one.path (refl, one.is, free)
    (ap (λ o. decision_by o (row v (event.Call slot c)).answer) (entered v slot c able free ∙ ap (option_map (also _ [])) one.none)
    ∙ ap answer_of (ap (λ who. (enter_row v slot c who).answer) able.runs ∙ ap (λ d. (call_row v slot d).answer) one.is))
    one.line

retried-revoke : (n : ℕ) (v : View) (slot : ℕ) (c : Call) (able : CanRun v slot) → pending_at v.processes slot ≡ Some c → IsRevokeCall n v slot c
    → IsRevokedBy v (event.Again slot) n
unfolding answer_to ended_by
retried-revoke n v slot c able pends one =
    by_call slot one.path (refl, pends ∙ ap Some one.is)
    (ap (λ o. decision_by o (row v (event.Again slot)).answer) (retried v slot c able pends ∙ ap (option_map (also [] _)) one.none)
    ∙ ap answer_of
    (ap (λ who. (again_row v slot who).answer) able.runs
    ∙ ap (λ asked. (retry_row v slot able.who asked).answer) pends
    ∙ ap (λ d. (call_row v slot d).answer) one.is))
    one.line

asked-revoke : (n : ℕ) (v : View) (slot : ℕ) (c : Call) (who : Option (Process Path)) → running_at v.processes slot ≡ who → v.halted ≡ false
    → list_any (is_revoke_of n) (done (enter_row v slot c who)) ≡ true → IsRevokedBy v (event.Call slot c) n
asked-revoke n v slot c None runs up is =
    absurd (not-both _ (none-gone n v slot (is_begin c) (on_processes (set_pending slot (Some c)) ∷ []) refl) is)
asked-revoke n v slot c (Some who) runs up is =
    let past =
    below-behind n (is_some (pending_at v.processes slot)) (refused Asleep)
    (ended_by (on_processes (set_pending slot (Some c)) ∷ []) [] (run_row v slot who c)) is in
    let ran = below-run n v slot who c (below-ended n (on_processes (set_pending slot (Some c)) ∷ []) [] (run_row v slot who c) refl refl past.1) in
    entered-revoke n v slot c (record { who = who; runs = runs; awake = ran.0; up = up }) past.0 (revoke-call n v slot c ran.1)

again-pending : (n : ℕ) (v : View) (slot : ℕ) (who : Process Path) (asked : Option Call) → pending_at v.processes slot ≡ asked
    → running_at v.processes slot ≡ Some who → v.halted ≡ false → list_any (is_revoke_of n) (done (retry_row v slot who asked)) ≡ true
    → IsRevokedBy v (event.Again slot) n
again-pending n v slot who None pends runs up is = cc
again-pending n v slot who (Some c) pends runs up is =
    let ran = below-run n v slot who c (below-ended n [] (on_processes (set_pending slot None) ∷ []) (run_row v slot who c) refl refl is) in
    retried-revoke n v slot c (record { who = who; runs = runs; awake = ran.0; up = up }) pends (revoke-call n v slot c ran.1)

again-revoke : (n : ℕ) (v : View) (slot : ℕ) (who : Option (Process Path)) → running_at v.processes slot ≡ who → v.halted ≡ false
    → list_any (is_revoke_of n) (done (again_row v slot who)) ≡ true → IsRevokedBy v (event.Again slot) n
again-revoke n v slot None runs up is = absurd (not-both _ (none-gone n v slot (is_begin_pending (pending_at v.processes slot)) [] refl) is)
again-revoke n v slot (Some who) runs up is = again-pending n v slot who (pending_at v.processes slot) refl runs up is

-- ---- what happens at a line revokes none

signal-none : (n group : ℕ) (signal : Option Sig) (session : Option ℕ) → NoRevoke n (events.signal_foreground group signal session)
signal-none n group None session = no_effect
signal-none n group (Some signal) None = no_effect
signal-none n group (Some signal) (Some session) = rev-process n _ [] no_effect

leader-none : (n : ℕ) (session : Option ℕ) → NoRevoke n (events.hang_up_leader session)
leader-none n None = no_effect
leader-none n (Some session) = rev-process n _ [] no_effect

hang-none : (n : ℕ) (line : Device ℕ) (up : Bool) → NoRevoke n (events.hang_up line up)
hang-none n line up = rev-if n (hangs_up line up) _ _ (leader-none n line.session) no_effect

last-none : (n : ℕ) (v : View) (m : ℕ) → NoRevoke n (events.halt_with_last v m)
last-none n v m = rev-if n _ (halt ∷ []) [] (rev-halt n [] no_effect) no_effect

line-none : (n : ℕ) (v : View) (m : ℕ) → list_any (is_revoke_of n) (done (events.end_row v m)) ≡ false
line-none n v m = by_case (line_of v m).ended
  where
    by_case : (t : Bool)
        → list_any (is_revoke_of n)
        (effects_by (first (answer_if t noted ∷ [])) (on_lines (end_line m) ∷ events.hang_up (line_of v m) false ++ events.halt_with_last v m)) ≡ false
    by_case true = refl
    by_case false = none-any n _ (rev-ends n m _ (rev-append n _ _ (hang-none n (line_of v m) false) (last-none n v m)))

own-revoke : (n : ℕ) (v : View) (e : Event) → v.halted ≡ false → list_any (is_revoke_of n) (done (event_row v e)) ≡ true → IsRevokedBy v e n
own-revoke n v (event.Call slot c) up is = asked-revoke n v slot c (running_at v.processes slot) refl up is
own-revoke n v (event.Again slot) up is = again-revoke n v slot (running_at v.processes slot) refl up is
own-revoke n v (event.Byte m b) up is =
    absurd (not-both _
    (none-any n _ (rev-receive n m b _ (signal-none n (line_of v m).foreground (events.signal_by (line_of v m) b) (line_of v m).session))) is)
own-revoke n v (event.Carrier m carrier) up is = absurd (not-both _ (none-any n _ (rev-carrier n m carrier _ (hang-none n (line_of v m) carrier))) is)
own-revoke n v (event.Take m max) up is = absurd (not-both _ (none-any n _ (rev-take n m max [] no_effect)) is)
own-revoke n v (event.Ended m) up is = absurd (not-both _ (line-none n v m) is)

-- ---- endings

fds-none : (n slot : ℕ) (fds : List ℕ) → list_any (is_revoke_of n) (close_fds slot fds) ≡ false
fds-none n slot [] = refl
fds-none n slot (fd ∷ fds) = fds-none n slot fds

-- where the end of a process revokes the line, it leads a session, and the line is that of the session
pub record Leads (n : ℕ) (u : View) (slot : ℕ) : Type 0 where
  pub leads : ((caller_of u slot).pid == (caller_of u slot).session) ≡ true
  pub line : line_of_session u (caller_of u slot).session ≡ Some n

left-line : (n : ℕ) (u : View) (m : Option ℕ) → list_any (is_revoke_of n) (leave_line u m) ≡ true → m ≡ Some n
left-line n u None is = cc
left-line n u (Some m) is = by_case (one-of (m == n) false is)
  where
    by_case : ((m == n) ≡ true) ⊎ (false ≡ true) → Some m ≡ Some n
    by_case (inl same) = ap Some (same-number m n same)
    by_case (inr never) = cc

left-session : (n : ℕ) (u : View) (who : Process Path) → list_any (is_revoke_of n) (leave_session u who) ≡ true
    → ((who.pid == who.session) ≡ true) × (line_of_session u who.session ≡ Some n)
left-session n u who is = by_case (who.pid == who.session) refl is
  where
    by_case : (t : Bool) → (who.pid == who.session) ≡ t → list_any (is_revoke_of n) (cond t (leave_line u (line_of_session u who.session)) []) ≡ true
        → ((who.pid == who.session) ≡ true) × (line_of_session u who.session ≡ Some n)
    by_case true leads is = (leads, left-line n u (line_of_session u who.session) is)
    by_case false leads is = cc

end-leads : (n : ℕ) (u : View) (slot : ℕ) (why : How) → list_any (is_revoke_of n) (end_one u slot why) ≡ true → Leads n u slot
end-leads n u slot why is =
    let front = below-more n (close_all u slot ++ leave_session u (caller_of u slot)) (on_processes (bury slot why) ∷ []) refl is in
    by_case (one-of _ _ (sym (either-any n (close_all u slot) (leave_session u (caller_of u slot))) ∙ front))
  where
    by_case : (list_any (is_revoke_of n) (close_all u slot) ≡ true) ⊎ (list_any (is_revoke_of n) (leave_session u (caller_of u slot)) ≡ true) → Leads n u slot
    by_case (inl closes) =
        absurd (not-both _ (fds-none n slot (filter (λ fd. is_some (descriptor_at u.descriptors.table slot fd)) (range_with_len 0 DESCRIPTORS))) closes)
    by_case (inr leaves) = let both = left-session n u (caller_of u slot) leaves in record { leads = both.0; line = both.1 }

-- the view before the next ending is that after this one
next-ending : (v : View) (e : Event) (place : ℕ)
    → change_all (before_ending v e place) (end_next (before_ending v e place) (slice_get (before_ending v e place).ending place))
    ≡ before_ending v e (place + 1)
unfolding endings
next-ending v e place =
    let own = change_all v (done (row v e)) in
    let now = end_next (before_ending v e place) (slice_get (before_ending v e place).ending place) in
    let parts : endings (place + 1) 0 own ≡ endings place 0 own ++ endings 1 (0 + place) (change_all own (endings place 0 own)) =
    endings-parts (place + 1) place 1 0 own refl
    in
    let at : 0 + place ≡ place = omega arith in
    sym
    (ap (change_all own) (parts ∙ ap (λ p. endings place 0 own ++ endings 1 p (change_all own (endings place 0 own))) at
    ∙ ap (λ es. endings place 0 own ++ es) (append-nil now))
    ∙ change_more own (endings place 0 own) now)

by-place : (n : ℕ) (v : View) (e : Event) (place : ℕ) (next : Option (ℕ × How)) → slice_get (before_ending v e place).ending place ≡ next
    → list_any (is_revoke_of n) (end_next (before_ending v e place) next) ≡ true → IsRevokedBy v e n
by-place n v e place None at is = cc
by-place n v e place (Some next) at is =
    let leader = end-leads n (before_ending v e place) next.0 next.1 is in
    by_end place next.0 next.1 at leader.leads leader.line

by-ending : (n : ℕ) (v : View) (e : Event) (fuel place : ℕ) → list_any (is_revoke_of n) (endings fuel place (before_ending v e place)) ≡ true
    → IsRevokedBy v e n
unfolding endings
by-ending n v e zero place is = cc
by-ending n v e (suc fuel) place is =
    let u = before_ending v e place in
    let now = end_next u (slice_get u.ending place) in
    later fuel (one-of _ _ (sym (either-any n now (endings fuel (place + 1) (change_all u now))) ∙ is))
    (λ more. by-ending n v e fuel (place + 1) (subst (λ w. list_any (is_revoke_of n) (endings fuel (place + 1) w) ≡ true) (next-ending v e place) more))
  where
    later : (fuel : ℕ)
        → (list_any (is_revoke_of n) (end_next (before_ending v e place) (slice_get (before_ending v e place).ending place)) ≡ true)
        ⊎ (list_any (is_revoke_of n)
        (endings fuel (place + 1)
        (change_all (before_ending v e place) (end_next (before_ending v e place) (slice_get (before_ending v e place).ending place))))
        ≡ true)
        → (list_any (is_revoke_of n)
        (endings fuel (place + 1)
        (change_all (before_ending v e place) (end_next (before_ending v e place) (slice_get (before_ending v e place).ending place))))
        ≡ true
        → IsRevokedBy v e n)
        → IsRevokedBy v e n
    later fuel (inl this) go_on = by-place n v e place (slice_get (before_ending v e place).ending place) refl this
    later fuel (inr more) go_on = go_on more

all-endings : (n : ℕ) (v : View) (e : Event) → list_any (is_revoke_of n) (endings_of (change_all v (done (row v e)))) ≡ true → IsRevokedBy v e n
unfolding endings
all-endings n v e is = by_case (length own.ending == 0) is
  where
    own : View
    own = change_all v (done (row v e))

    by_case : (t : Bool) → list_any (is_revoke_of n) (cond t [] (endings SLOTS 0 own ++ on_processes clear_ending ∷ [])) ≡ true → IsRevokedBy v e n
    by_case true is = cc
    by_case false is = by-ending n v e SLOTS 0 (below-more n (endings SLOTS 0 own) (on_processes clear_ending ∷ []) refl is)

-- ---- the law

revoked-by : (n : ℕ) (v : View) (e : Event) → revokes_line v e n ≡ true → IsRevokedBy v e n
revoked-by n v e is = by_case (one-of _ _ (sym (either-any n (done (row v e)) (endings_of (change_all v (done (row v e))))) ∙ is))
  where
    by_case : (list_any (is_revoke_of n) (done (row v e)) ≡ true) ⊎ (list_any (is_revoke_of n) (endings_of (change_all v (done (row v e)))) ≡ true)
        → IsRevokedBy v e n
    by_case (inl own) = let past = below-behind n v.halted (early gone) (event_row v e) own in own-revoke n v e past.0 past.1
    by_case (inr ends) = all-endings n v e ends

-- ---- each answered call revokes its line

own-done-behind : (t : Bool) (o : Outcome) (cs : List (Option Check)) (g : Given) (es : List Effect) → is_own (decision_by (Some (o, [])) g) ≡ false
    → is_own (decision_by (first (check t o [] ∷ cs)) g) ≡ true → effects_by (first (check t o [] ∷ cs)) es ≡ effects_by (first cs) es
own-done-behind true o cs g es other is = cc
own-done-behind false o cs g es other is = refl

own-done-also : (o : Option Check) (sleeps wakes es : List Effect) (g : Given) → is_own (decision_by o g) ≡ true
    → effects_by (option_map (also sleeps wakes) o) (es ++ wakes) ≡ effects_by o es ++ wakes
own-done-also None sleeps wakes es g is = refl
own-done-also (Some (refused rule, fs)) sleeps wakes es g is = refl
own-done-also (Some (early given, fs)) sleeps wakes es g is = refl
own-done-also (Some (asleep reason, fs)) sleeps wakes es g is = cc

own-done-ended : (v : View) (slot : ℕ) (c : Call) (who : Process Path) (sleeps wakes : List Effect) → is_own (decision (run_row v slot who c)) ≡ true
    → done (ended_by sleeps wakes (run_row v slot who c)) ≡ done (call_row v slot c) ++ wakes
unfolding ended_by
own-done-ended v slot c who sleeps wakes is =
    ap (λ o. effects_by o ((call_row v slot c).effects ++ wakes)) (first-map (also sleeps wakes) (run_row v slot who c).checks)
    ∙ own-done-also (first (run_row v slot who c).checks) sleeps wakes (call_row v slot c).effects (call_row v slot c).answer is
    ∙ ap (λ es. es ++ wakes)
    (own-done-behind (is_stopped who) (asleep reason.Stop) (call_row v slot c).checks (call_row v slot c).answer (call_row v slot c).effects refl is)

-- what such an event does begins with what its call's row does
own-done-enter : (v : View) (slot : ℕ) (c : Call) (who : Option (Process Path)) → is_own (decision (enter_row v slot c who)) ≡ true
    → (more : List Effect) × (done (enter_row v slot c who) ≡ done (call_row v slot c) ++ more)
own-done-enter v slot c None is = absurd (own-gone v slot (is_begin c) (on_processes (set_pending slot (Some c)) ∷ []) is)
own-done-enter v slot c (Some who) is =
    let sleeps = on_processes (set_pending slot (Some c)) ∷ [] in
    let ended = ended_by sleeps [] (run_row v slot who c) in
    let past : decision (enter_row v slot c (Some who)) ≡ decision (run_row v slot who c) =
    own-behind (is_some (pending_at v.processes slot)) (refused Asleep) ended.checks ended.answer refl is ∙ own-ended v slot c who sleeps []
    in (
      [],
      own-done-behind (is_some (pending_at v.processes slot)) (refused Asleep) ended.checks ended.answer ended.effects refl is
          ∙ own-done-ended v slot c who sleeps [] (subst (λ d. is_own d ≡ true) past is),
    )

own-done-again : (v : View) (slot : ℕ) (c : Call) (who : Option (Process Path)) → pending_at v.processes slot ≡ Some c
    → is_own (decision (again_row v slot who)) ≡ true → (more : List Effect) × (done (again_row v slot who) ≡ done (call_row v slot c) ++ more)
own-done-again v slot c None pends is = absurd (own-gone v slot (is_begin_pending (pending_at v.processes slot)) [] is)
own-done-again v slot c (Some who) pends is =
    let wakes = on_processes (set_pending slot None) ∷ [] in
    let past : decision (again_row v slot (Some who)) ≡ decision (run_row v slot who c) =
    ap (λ asked. decision (retry_row v slot who asked)) pends ∙ own-ended v slot c who [] wakes
    in (
      wakes,
      ap (λ asked. done (retry_row v slot who asked)) pends ∙ own-done-ended v slot c who [] wakes (subst (λ d. is_own d ≡ true) past is),
    )

own-done : (v : View) (e : Event) (slot : ℕ) (c : Call) → asks_call v e slot c → is_own (answer_to v e) ≡ true
    → (more : List Effect) × (done (row v e) ≡ done (call_row v slot c) ++ more)
unfolding answer_to
own-done v (event.Call asker asked) slot c (same, is, free) own =
    let r = enter_row v asker asked (running_at v.processes asker) in
    let past : decision (row v (event.Call asker asked)) ≡ decision r = own-behind v.halted (early gone) r.checks r.answer refl own in
    let found = own-done-enter v asker asked (running_at v.processes asker) (subst (λ d. is_own d ≡ true) past own) in (
      found.0,
      own-done-behind v.halted (early gone) r.checks r.answer r.effects refl own
          ∙ found.1
          ∙ ap (λ n. done (call_row v n asked) ++ found.0) same
          ∙ ap (λ d. done (call_row v slot d) ++ found.0) is,
    )
own-done v (event.Again asker) slot c (same, pends) own =
    let r = again_row v asker (running_at v.processes asker) in
    let past : decision (row v (event.Again asker)) ≡ decision r = own-behind v.halted (early gone) r.checks r.answer refl own in
    let found = own-done-again v asker c (running_at v.processes asker) pends (subst (λ d. is_own d ≡ true) past own) in (
      found.0,
      own-done-behind v.halted (early gone) r.checks r.answer r.effects refl own ∙ found.1 ∙ ap (λ n. done (call_row v n c) ++ found.0) same,
    )
own-done v (event.Byte n b) slot c asks own = absurd asks
own-done v (event.Carrier n up) slot c asks own = absurd asks
own-done v (event.Take n max) slot c asks own = absurd asks
own-done v (event.Ended n) slot c asks own = absurd asks

-- a revoke that is answered is denied by nothing
revoke-checks : (path : Option Rule) (line label owner : Bool)
    → decision_by (first (deny_by path ∷ deny line NoRevokeRule ∷ deny label LabelWrite ∷ deny owner Owner ∷ [])) (number 0) ≡ Answer (Num 0)
    → first (deny_by path ∷ deny line NoRevokeRule ∷ deny label LabelWrite ∷ deny owner Owner ∷ []) ≡ None
revoke-checks (Some r) line label owner is = cc
revoke-checks None true label owner is = cc
revoke-checks None false true owner is = cc
revoke-checks None false false true is = cc
revoke-checks None false false false is = refl

same-line : (n : ℕ) → (n == n) ≡ true
same-line n = grind arith

revoke-does : (n : ℕ) (v : View) (slot : ℕ) (path : List ℕ) → decision (call_row v slot (call.Revoke path)) ≡ Answer (Num 0)
    → tty_of_node (node_at v (path_at (end_of v slot path))) ≡ Some n → list_any (is_revoke_of n) (done (call_row v slot (call.Revoke path))) ≡ true
revoke-does n v slot path is line =
    let place = path_at (end_of v slot path) in
    let none : first (call_row v slot (call.Revoke path)).checks ≡ None =
    revoke-checks (node_rule (at_path v.tree) (caller_of v slot).cred (caller_of v slot).label (caller_of v slot).directory path)
    (is_none (tty_of_node (node_at v place))) (not (node_dominates (caller_of v slot) (node_at v place)))
    (is_not_owner (caller_of v slot) (node_at v place)) is
    in
    ap (λ o. list_any (is_revoke_of n) (effects_by o (call_row v slot (call.Revoke path)).effects)) none
    ∙ ap (λ m. list_any (is_revoke_of n) (revoke_effects v (caller_of v slot) m)) line
    ∙ ap (λ t. t || list_any (is_revoke_of n) (tell_leader (caller_of v slot) (line_of v n).session)) (same-line n)

calls-revoke : (v : View) (e : Event) (slot n : ℕ) (path : List ℕ) → asks_call v e slot (call.Revoke path) → answer_to v e ≡ Answer (Num 0)
    → tty_of_node (node_at v (path_at (end_of v slot path))) ≡ Some n → revokes_line v e n ≡ true
calls-revoke v e slot n path asks is line =
    let own : is_own (answer_to v e) ≡ true = rw is refl in
    let found = own-done v e slot (call.Revoke path) asks own in
    let does = revoke-does n v slot path (sym (own-answer v e slot (call.Revoke path) asks own) ∙ is) line in
    let ends = endings_of (change_all v (done (row v e))) in
    either-any n (done (row v e)) ends
    ∙ ap (λ es. list_any (is_revoke_of n) es || list_any (is_revoke_of n) ends) found.1
    ∙ ap (λ t. t || list_any (is_revoke_of n) ends) (either-any n (done (call_row v slot (call.Revoke path))) found.0)
    ∙ ap (λ t. (t || list_any (is_revoke_of n) found.0) || list_any (is_revoke_of n) ends) does

-- the law of which events revoke a line, of every event in every state
pub marks_revokes : (s : State) (p : ℕ) (e : Event) → MarksRevokes s p e
marks_revokes s p e = record {
  marks = λ n. all_mark s p n (effects_of (view s) e);
  only = λ n is. revoked-by n (view s) e is;
  calls = λ slot n path asks is line. calls-revoke (view s) e slot n path asks is line;
  ends = λ place slot n why below is leads line. leader_ends (view s) e place slot n why below is leads line;
}
