-- What a wait learns, as calls see it.
use Rattle.std.proofs.Common.{◌≡◌, ℕ, Bool, true, false, ◌&&◌, List, [], ◌∷◌, Option, Some, None, Ok, Err, refl, sym, ap, ◌∙◌}
use Rattle.std.specs.Prelude.{Result, is_some}
use Rattle.std.specs.Result.{is_err}
use Rattle.sys_types.specs.declared.rules.Rule.{Rule}
use Rattle.sys_types.specs.declared.rules.Rule.TheVariants.{NoChild}
use Rattle.call_words.specs.declared.event.How.{How}
use Rattle.call_words.specs.declared.event.Reason.TheVariants.{Child}
use Rattle.call_words.specs.declared.proc.WaitFlags.{WaitFlags}
use Rattle.tree_model.specs.Numbers.{path_of}
use Rattle.proc_table.specs.Processes.{Process, Processes}
use Rattle.proc_table.specs.Reaping.{AfterWait, reap}
use Rattle.proc_table.proofs.MapLemmas.{map_after_wait, reap-map}
use Rattle.proc_table.proofs.CallMapLemmas.{child_news-map}
use Rattle.system_model.specs.Parts.{Path}
use Rattle.system_model.specs.Looks.{caller_of}
use Rattle.system_model.specs.ProcCalls.{wait_row, no_news}
use Rattle.system_model.specs.ProcessEffects.{reap_child, change_processes}
use Rattle.system_model.specs.Effects.{on_processes, change}
use Rattle.system_model.specs.Rows.{Check, deny, answer_if, sleep_if, number, first, effects_by}
use Rattle.system_model.specs.declared.verdict.Verdict.{Verdict}
use Rattle.system_model.specs.declared.verdict.Verdict.TheVariants.{Refused, Empty, Zero, Asleep, Stopped, Interrupted, Broken, Go}
use Rattle.system_model.specs.Verdicts.{check_of, is_held}
use Rattle.system_model.specs.Tables.{Tables, view_of}
use Rattle.system_model.proofs.SeenProcesses.{processes_mapped}
use Rattle.proc_calls.proofs.Kills.{seen_before}

abbrev pub News : Type 0
News = Result (Option (ℕ × How)) Rule

abbrev pub wait_checks : News → Bool → Process Path → List (Option Check)
wait_checks news no_hang who =
    deny (is_err news) NoChild ∷ answer_if (no_news news && no_hang) (number 0) ∷ sleep_if (no_news news) who Child ∷ []

pub news_seen : (t : Tables) (old : Processes ℕ) (slot pid : ℕ) (untraced : Bool) → t.processes ≡ old
    → (reap (view_of t).processes slot pid untraced).1 ≡ (reap old slot pid untraced).1
news_seen t old slot pid untraced processes =
    ap (λ (ps : Processes Path). (reap ps slot pid untraced).1) (seen_before t old processes) ∙ child_news-map (path_of t.nodes) old slot pid untraced

pub first_check : (t : Tables) (old : Processes ℕ) (slot pid : ℕ) (flags : WaitFlags) (news : News) → t.processes ≡ old
    → news ≡ (reap old slot pid flags.untraced).1
    → first (wait_checks news flags.no_hang (caller_of (view_of t) slot)) ≡ first (wait_row (view_of t) slot pid flags).checks
first_check t old slot pid flags news processes is =
    ap (λ n. first (wait_checks n flags.no_hang (caller_of (view_of t) slot))) (is ∙ sym (news_seen t old slot pid flags.untraced processes))

pub none_denied : (e : Rule) (no_hang : Bool) (who : Process Path) → first (wait_checks (Err e) no_hang who) ≡ first (deny true NoChild ∷ [])
none_denied e no_hang who = refl

pub news_go_on : (news : Option (ℕ × How)) (no_hang : Bool) (who : Process Path) → is_some news ≡ true → None ≡ first (wait_checks (Ok news) no_hang who)
news_go_on None no_hang who never = absurd cc
news_go_on (Some news) no_hang who is = refl

pub no_news_here : (news : Option (ℕ × How)) (no_hang : Bool) (who : Process Path) → is_some news ≡ false
    → first (answer_if no_hang (number 0) ∷ sleep_if true who Child ∷ []) ≡ first (wait_checks (Ok news) no_hang who)
no_news_here None no_hang who is = refl
no_news_here (Some news) no_hang who never = absurd cc

-- the checks of a wait change nothing
checks-change : (news : News) (no_hang : Bool) (who : Process Path) → effects_by (first (wait_checks news no_hang who)) [] ≡ []
checks-change (Err e) no_hang who = refl
checks-change (Ok (Some news)) no_hang who = refl
checks-change (Ok None) true who = refl
checks-change (Ok None) false who = refl

pub wait_effects : (t : Tables) (slot pid : ℕ) (flags : WaitFlags) → effects_by (first (wait_row (view_of t) slot pid flags).checks) [] ≡ []
wait_effects t slot pid flags = checks-change (reap (view_of t).processes slot pid flags.untraced).1 flags.no_hang (caller_of (view_of t) slot)

-- a verdict to go on has no check, and one of a check is held
pub not_held : (who : Process Path) (v : Verdict) → is_held v ≡ false → check_of who v ≡ None
not_held who Go is = refl
not_held who (Refused rule) is = absurd cc
not_held who Empty is = absurd cc
not_held who Zero is = absurd cc
not_held who (Asleep reason) is = absurd cc
not_held who (Stopped signal) is = absurd cc
not_held who (Interrupted signal) is = absurd cc
not_held who Broken is = absurd cc

pub held_is : (who : Process Path) (v : Verdict) (c : Check) → check_of who v ≡ Some c → is_held v ≡ true
held_is who Go c is = absurd cc
held_is who (Refused rule) c is = refl
held_is who Empty c is = refl
held_is who Zero c is = refl
held_is who (Asleep reason) c is = refl
held_is who (Stopped signal) c is = refl
held_is who (Interrupted signal) c is = refl
held_is who Broken c is = refl

reaped : (t : Tables) (done : AfterWait ℕ)
    → view_of (record t { processes = done.0 }) ≡ record (view_of t) { processes = (map_after_wait (path_of t.nodes) done).0 }
unfolding view_of
reaped t done = ap (λ (ps : Processes Path). record (view_of t) { processes = ps }) (processes_mapped t.nodes done.0)

reap-in : (t : Tables) (slot pid : ℕ) (untraced : Bool)
    → record (view_of t) { processes = (reap (view_of t).processes slot pid untraced).0 } ≡ change (view_of t) (on_processes (reap_child slot pid untraced))
unfolding change_processes
reap-in t slot pid untraced = refl

pub reap_changes : (t : Tables) (old : Processes ℕ) (slot pid : ℕ) (untraced : Bool) (done : AfterWait ℕ) → t.processes ≡ old → done ≡ reap old slot pid untraced
    → view_of (record t { processes = done.0 }) ≡ change (view_of t) (on_processes (reap_child slot pid untraced))
reap_changes t old slot pid untraced done processes is =
    reaped t done
    ∙ ap (λ (d : AfterWait ℕ). record (view_of t) { processes = (map_after_wait (path_of t.nodes) d).0 }) is
    ∙ ap (λ (d : AfterWait Path). record (view_of t) { processes = d.0 }) (sym (reap-map (path_of t.nodes) old slot pid untraced))
    ∙ ap (λ (ps : Processes Path). record (view_of t) { processes = (reap ps slot pid untraced).0 }) (sym (seen_before t old processes))
    ∙ reap-in t slot pid untraced
