-- The run of a load: what its events come to, one after another.
use Rattle.std.proofs.Common.{◌≡◌, ℕ, zero, suc, ◌+◌, ◌<◌, ◌≤◌, Bool, true, false, List, [], ◌∷◌, ◌++◌, length, length-append, refl, sym, ap, subst, ◌∙◌, arith, append_assoc, append-nil}
use Rattle.std.specs.Prelude.{filter, count_by, sum_by, if◌then◌else◌}
use Rattle.std.proofs.lemmas.List.Sums.{length-filter, count_by-le-length, sum_by-append}
use Rattle.std.proofs.lemmas.List.Elements.{filter-append}
use Rattle.sha2.specs.Hashers.{Holds256}
use Rattle.call_words.specs.declared.event.Event.{Event}
use Rattle.call_words.specs.declared.event.Decision.{Decision}
use Rattle.call_words.specs.declared.event.Wakes.{Wakes}
use Rattle.call_words.specs.Events.{wake_list}
use Rattle.user_db.specs.Lines.{lines}
use Rattle.user_db.specs.declared.boot.Boot.{Boot}
use Rattle.user_db.specs.Boot.{boot_of, IsBoot}
use Rattle.event_load.specs.Load.{drawn_events, load_events}
use Rattle.system_model.specs.State.{State, view, boot}
use Rattle.system_model.specs.Step.{step, wakes}
use Rattle.system_model.specs.Run.{decisions_from, decisions, state_from}
use Rattle.kern_core.specs.Trails.{state_of, decision_after, wakes_after}
use Rattle.script_text.specs.Answers.{answer_line}
use Rattle.script_model.specs.Script.{answers_from, answers}
use Rattle.script_model.specs.Load.{standard_boot, is_denied, is_sleep, bytes_moved}
use Rattle.tty_host.specs.declared.load.Counts.{Counts}
use Rattle.tty_host.specs.declared.load.LoadRun.{LoadRun}
use Rattle.tty_host.specs.Loads.{counts_of, with_decision, AreFew, IsSummed}
use Rattle.tty_host.proofs.TrailEvents.{Took}

-- the boot of a load is one that a boot text says: the empty one
pub is_standard : IsBoot standard_boot
unfolding boot_of lines
is_standard = record { text = []; says = refl }

-- ---- one event more

one : (p n : ℕ) → p + 1 + n ≡ p + suc n
one p n = omega arith

none : (p : ℕ) → p ≡ p + 0
none p = omega arith

next-position : (n : ℕ) → 1 + n ≡ n + 1
next-position n = omega arith

decisions-last : (s : State) (p : ℕ) (es : List Event) (e : Event)
    → decisions_from s p (es ++ e ∷ []) ≡ decisions_from s p es ++ (step (state_from s p es) (p + length es) e).1 ∷ []
decisions-last s p [] e = ap (λ q. (step s q e).1 ∷ []) (none p)
decisions-last s p (f ∷ es) e =
    ap (λ ds. (step s p f).1 ∷ ds) (decisions-last (step s p f).0 (p + 1) es e)
    ∙ ap (λ q. (step s p f).1 ∷ (decisions_from (step s p f).0 (p + 1) es ++ (step (state_from (step s p f).0 (p + 1) es) q e).1 ∷ [])) (one p (length es))

decisions-more : (says : Boot) (es : List Event) (e : Event) → decisions says (es ++ e ∷ []) ≡ decisions says es ++ decision_after says es e ∷ []
decisions-more says es e =
    decisions-last (boot says) 1 es e ∙ ap (λ q. decisions says es ++ (step (state_of says es) q e).1 ∷ []) (next-position (length es))

abbrev line_at : State → ℕ → Event → List ℕ
line_at s p e = answer_line e (step s p e).1 (wakes (view (step s p e).0))

answers-last : (s : State) (p : ℕ) (es : List Event) (e : Event)
    → answers_from s p (es ++ e ∷ []) ≡ answers_from s p es ++ line_at (state_from s p es) (p + length es) e
answers-last s p [] e = append-nil (line_at s p e) ∙ ap (λ q. line_at s q e) (none p)
answers-last s p (f ∷ es) e =
    ap (λ bs. line_at s p f ++ bs) (answers-last (step s p f).0 (p + 1) es e)
    ∙ sym (append_assoc (line_at s p f) (answers_from (step s p f).0 (p + 1) es) (line_at (state_from (step s p f).0 (p + 1) es) (p + 1 + length es) e))
    ∙ ap (λ q. (line_at s p f ++ answers_from (step s p f).0 (p + 1) es) ++ line_at (state_from (step s p f).0 (p + 1) es) q e) (one p (length es))

answers-more : (says : Boot) (es : List Event) (e : Event)
    → answers says (es ++ e ∷ []) ≡ answers says es ++ answer_line e (decision_after says es e) (wakes_after says es e)
answers-more says es e = answers-last (boot says) 1 es e ∙ ap (λ q. answers says es ++ line_at (state_of says es) q e) (next-position (length es))

-- ---- counts

test-alone : {X : Type 0} (p : X → Bool) (x : X) → length (filter p (x ∷ [])) ≡ (if p x then 1 else 0)
test-alone p x = elim (p x) as (λ b. p x ≡ b → length (filter p (x ∷ [])) ≡ (if b then 1 else 0)) [ true ↦ λ h. rw h refl | false ↦ λ h. rw h refl ] refl

count-more : {X : Type 0} (p : X → Bool) (xs : List X) (x : X) → count_by p (xs ++ x ∷ []) ≡ count_by p xs + (if p x then 1 else 0)
count-more p xs x =
    sym (length-filter p (xs ++ x ∷ [])) ∙ ap length (filter-append p xs (x ∷ [])) ∙ length-append (filter p xs) (filter p (x ∷ []))
    ∙ ap (λ n. n + length (filter p (x ∷ []))) (length-filter p xs) ∙ ap (λ n. count_by p xs + n) (test-alone p x)

sum-more : {X : Type 0} (f : X → ℕ) (xs : List X) (x : X) → sum_by f (xs ++ x ∷ []) ≡ sum_by f xs + f x
sum-more f xs x =
    let last : sum_by f (x ∷ []) ≡ f x = alone (f x) in
    sum_by-append f xs (x ∷ []) ∙ ap (λ n. sum_by f xs + n) last
  where
    alone : (n : ℕ) → 0 + n ≡ n
    alone n = omega arith

counts-more : (ds : List Decision) (d : Decision) → counts_of (ds ++ d ∷ []) ≡ with_decision (counts_of ds) d
counts-more ds d = rw (count-more is_denied ds d, count-more is_sleep ds d, sum-more bytes_moved ds d) refl

decisions-length : (s : State) (p : ℕ) (es : List Event) → length (decisions_from s p es) ≡ length es
decisions-length s p [] = refl
decisions-length s p (e ∷ es) = ap suc (decisions-length (step s p e).0 (p + 1) es)

-- fewer events than a trail has come to few
pub are_few : (run : LoadRun) → IsSummed run → length run.trail.events < 262144 → AreFew run.counts
are_few run h less =
    let es = run.trail.events in
    let ds = decisions standard_boot es in
    let count : length ds ≡ length es = decisions-length (boot standard_boot) 1 es in
    let denied : run.counts.denied ≡ count_by is_denied ds = ap (λ (c : Counts). c.denied) h.counts in
    let slept : run.counts.slept ≡ count_by is_sleep ds = ap (λ (c : Counts). c.slept) h.counts in
    record {
      denied = omega (arith, denied, count, less, count_by-le-length is_denied ds);
      slept = omega (arith, slept, count, less, count_by-le-length is_sleep ds);
      moved = omega (arith, less, h.few);
    }

-- ---- the run

-- the summary goes on with an event
pub summed-more : (old new : LoadRun) (e : Event) (d : Decision) (w : Wakes) (line : List ℕ) → IsSummed old → Took old.trail new.trail e d w
    → new.counts ≡ with_decision old.counts d → new.counts.moved ≤ old.counts.moved + 512 → line ≡ answer_line e d (wake_list w)
    → Holds256 new.digest (answers standard_boot old.trail.events ++ line) → IsSummed new
summed-more old new e d w line h took counts more printed holds =
    let es = old.trail.events in
    let root : new.trail.root ≡ standard_boot = ap (λ t. t.root) took.trail ∙ h.root in
    let events : new.trail.events ≡ es ++ e ∷ [] = ap (λ t. t.events) took.trail in
    let decided : d ≡ decision_after standard_boot es e = took.decision ∙ ap (λ r. decision_after r es e) h.root in
    let woken : wake_list w ≡ wakes_after standard_boot es e = ap wake_list took.wakeups ∙ ap (λ r. wakes_after r es e) h.root in
    let text : line ≡ answer_line e (decision_after standard_boot es e) (wakes_after standard_boot es e) =
    printed ∙ ap (λ k. answer_line e k (wake_list w)) decided ∙ ap (λ k. answer_line e (decision_after standard_boot es e) k) woken in
    let count : length new.trail.events ≡ length es + 1 = ap length events ∙ length-append es (e ∷ []) in
    record {
      root = root;
      most = ap (λ t. t.most) took.trail ∙ h.most;
      counts = counts ∙ ap (λ c. with_decision c d) h.counts ∙ ap (with_decision (counts_of (decisions standard_boot es))) decided
          ∙ sym (counts-more (decisions standard_boot es) (decision_after standard_boot es e)) ∙ ap counts_of (sym (decisions-more standard_boot es e))
          ∙ ap (λ k. counts_of (decisions standard_boot k)) (sym events);
      few = omega (arith, count, more, h.few);
      digest = subst (λ m. Holds256 new.digest m)
          (ap (λ l. answers standard_boot es ++ l) text ∙ sym (answers-more standard_boot es e) ∙ ap (answers standard_boot) (sym events)) holds;
    }

-- a load has four events more than it draws
drawn-length : (n : ℕ) (generator : _) → length (drawn_events n generator) ≡ n
drawn-length zero generator = refl
drawn-length (suc n) generator = ap suc (drawn-length n _)

pub load-length : (n start : ℕ) → length (load_events n start) ≡ n + 4
load-length n start = ap (λ k. suc (suc (suc (suc k)))) (drawn-length n _) ∙ four n
  where
    four : (n : ℕ) → suc (suc (suc (suc n))) ≡ n + 4
    four n = omega arith

-- while events are still to come there is room for one
pub room-left : (n start : ℕ) (run left more : List Event) (e : Event) → run ++ left ≡ load_events n start → left ≡ e ∷ more → n ≤ 262140
    → length run < 262144
room-left n start run left more e all is few =
    let count : length run + length left ≡ n + 4 = sym (length-append run left) ∙ ap length all ∙ load-length n start in
    let some : length left ≡ suc (length more) = ap length is in
    omega (arith, count, some, few)
