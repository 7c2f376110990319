-- One event more of a trail.
use Rattle.std.proofs.Common.{◌≡◌, ℕ, ◌+◌, ◌-◌, ◌<◌, ◌≤◌, List, [], ◌∷◌, ◌++◌, Option, Ok, Err, Result, length, get_or, length-append, refl, sym, ap, subst, ◌∙◌, arith}
use Rattle.std.specs.Prelude.{◌↔◌}
use Rattle.call_words.specs.declared.event.Event.{Event}
use Rattle.call_words.specs.declared.event.Decision.{Decision}
use Rattle.call_words.specs.declared.event.Wakes.{Wakes}
use Rattle.call_words.specs.Events.{wake_list}
use Rattle.trail_core.specs.declared.recorded.Refused.{Refused}
use Rattle.trail_core.specs.declared.recorded.Refused.TheVariants as refused
use Rattle.trail_core.specs.Trail.{Trail, event_of}
use Rattle.user_db.specs.declared.boot.Boot.{Boot}
use Rattle.system_model.specs.State.{View, view}
use Rattle.system_model.specs.Step.{wakes}
use Rattle.kern_core.specs.Trails.{state_of, decision_after, wakes_after, wakes_of}
use Rattle.kern_core.proofs.TrailLemmas.{state_more, seen_more}
use Rattle.script_text.specs.Answers.{answer_line}
use Rattle.script_model.specs.Seen.{out_seen, with_line}
use Rattle.tty_host.proofs.OneEvent.{IsAnswered, is_answered, script_of, next}

-- what calls see after the events of a trail, and for how many more there is room
abbrev pub seen : Trail Boot Event → View
seen trail = view (state_of trail.root trail.events)

abbrev pub left : Trail Boot Event → ℕ
left trail = 262144 - length trail.events

-- ---- what a trail makes of an event

-- The trail has taken an event, with the machine's decision and wakeup list.
pub record Took (old new : Trail Boot Event) (e : Event) (d : Decision) (w : Wakes) : Type 0 where
  pub decision : d ≡ decision_after old.root old.events e
  pub wakeups : w ≡ wakes_of (wakes_after old.root old.events e)
  pub trail : new ≡ record old { events = old.events ++ e ∷ [] }

seen-next : (old new : Trail Boot Event) (e : Event) → new ≡ record old { events = old.events ++ e ∷ [] } → seen new ≡ view (state_of old.root (old.events ++ e ∷ []))
seen-next old new e is = ap seen is

pub answered : (old new : Trail Boot Event) (e : Event) (d : Decision) (w : Wakes) (line : List ℕ) → Took old new e d w → line ≡ answer_line e d (wake_list w)
    → IsAnswered (seen old) (seen new) e line
answered old new e d w line took printed =
    is_answered (seen old) (seen new) e d (wake_list w) line (seen-next old new e took.trail ∙ seen_more old.root old.events e) took.decision
    (ap wake_list took.wakeups ∙ ap (λ s. wakes (view s)) (sym (state_more old.root old.events e)) ∙ ap wakes (sym (seen-next old new e took.trail))) printed

one-less : (n : ℕ) → 262144 - (n + 1) ≡ 262144 - n - 1
one-less n = omega arith

pub left-after : (old new : Trail Boot Event) (e : Event) → new ≡ record old { events = old.events ++ e ∷ [] } → left new ≡ left old - 1
left-after old new e is = ap left is ∙ ap (λ n. 262144 - n) (length-append old.events (e ∷ [])) ∙ one-less (length old.events)

-- the last event of a trail is the one that it took last
last-is : (es : List Event) (e x : Event) → get_or (es ++ e ∷ []) (length es) x ≡ e
last-is [] e x = refl
last-is (f ∷ es) e x = last-is es e x

one-back : (n : ℕ) → n + 1 - 1 ≡ n
one-back n = omega arith

pub last-taken : (old new : Trail Boot Event) (e x : Event) → new ≡ record old { events = old.events ++ e ∷ [] }
    → x ≡ get_or new.events (length new.events - 1) x → x ≡ e
last-taken old new e x is at =
    let es : List Event = old.events ++ e ∷ [] in
    let last : length es - 1 ≡ length old.events = ap (λ n. n - 1) (length-append old.events (e ∷ [])) ∙ one-back (length old.events) in
    subst (λ (t : Trail Boot Event). x ≡ get_or t.events (length t.events - 1) x) is at ∙ ap (λ n. get_or es n x) last ∙ last-is old.events e x

-- ---- whether there was room

-- where there was none, the trail hands the event back as too many
pub is-full : {D : Type 0} (r : Result D (Refused Event)) (why : Refused Event) (x e : Event) (n most : ℕ) → r ≡ Err why → why ≡ refused.Full x → event_of why ≡ e
    → ((r ≡ Err (refused.Full e)) ↔ (n ≡ most)) → n ≡ most
is-full r why x e n most is full event iff = iff.0 (is ∙ ap Err (full ∙ ap refused.Full (sym (ap event_of full) ∙ event)))

pub none-left : (n most : ℕ) → n ≡ most → most ≡ 262144 → 262144 - n ≡ 0
none-left n most is all = omega (arith, is, all)

-- else there was some
some-left : (n : ℕ) → n ≤ 262144 → (n ≡ 262144 → ⊥) → 0 < 262144 - n
some-left n most not = omega (arith, not)

pub room-ok : {D : Type 0} (r : Result D (Refused Event)) (d : D) (e : Event) (n most : ℕ) → r ≡ Ok d → ((r ≡ Err (refused.Full e)) ↔ (n ≡ most)) → most ≡ 262144
    → n ≤ 262144 → 0 < 262144 - n
room-ok r d e n most ok iff all few = some-left n few (λ is. ok-not-err (sym ok ∙ iff.1 (is ∙ sym all)))
  where
    ok-not-err : {D E : Type 0} {d : D} {x : E} → Ok d ≡ Err x → ⊥
    ok-not-err same = cc

pub room-memory : {D : Type 0} (r : Result D (Refused Event)) (why : Refused Event) (x e : Event) (n most : ℕ) → r ≡ Err why → why ≡ refused.NoMemory x
    → ((r ≡ Err (refused.Full e)) ↔ (n ≡ most)) → most ≡ 262144 → n ≤ 262144 → 0 < 262144 - n
room-memory r why x e n most is lost iff all few = some-left n few (λ same. kinds r x e (is ∙ ap Err lost) (iff.1 (same ∙ sym all)))
  where
    kinds : {D : Type 0} (r : Result D (Refused Event)) (x e : Event) → r ≡ Err (refused.NoMemory x) → r ≡ Err (refused.Full e) → ⊥
    kinds r x e memory full = cc

pub is-memory : {D : Type 0} (r : Result D (Refused Event)) (why : Refused Event) (x e : Event) → r ≡ Err why → why ≡ refused.NoMemory x → event_of why ≡ e
    → r ≡ Err (refused.NoMemory e)
is-memory r why x e is lost event = is ∙ ap Err (lost ∙ ap refused.NoMemory (sym (ap event_of lost) ∙ event))

-- ---- what is still written

-- the answer comes first, and then what the other events are answered
pub trail-next : (old new : Trail Boot Event) (e : Event) (d : Decision) (w : Wakes) (es : List Event) (bad : Option ℕ) (line : List ℕ)
    → Took old new e d w → line ≡ answer_line e d (wake_list w) → 0 < left old
    → out_seen (seen old) (left old) (script_of (e ∷ es) bad) ≡ with_line (seen old) e line (out_seen (seen new) (left new) (script_of es bad))
trail-next old new e d w es bad line took printed some =
    next (seen old) (seen new) (left old) e es bad line some (answered old new e d w line took printed)
    ∙ ap (λ n. with_line (seen old) e line (out_seen (seen new) n (script_of es bad))) (sym (left-after old new e took.trail))
