-- One event of a run.
use Rattle.std.proofs.Common.{◌≡◌, ℕ, zero, suc, ◌+◌, ◌-◌, ◌<◌, true, List, [], ◌∷◌, ◌++◌, Option, Some, Result, length, drop, get_or, drop-cons, add-one, refl, sym, ap, subst, ◌∙◌, arith}
use Rattle.std.specs.Prelude.{slice_get}
use Rattle.std.specs.Prelude.{option_map}
use Rattle.std.proofs.lemmas.Option.{slice_get_within, get_or_from_slice_get, slice_get-map, slice_get-get_or}
use Rattle.call_words.specs.declared.event.Event.{Event}
use Rattle.call_words.specs.declared.event.Event.TheVariants as event
use Rattle.script_text.specs.Reading.{arrivals}
use Rattle.call_words.specs.declared.event.Decision.{Decision}
use Rattle.call_words.specs.Events.{WakeList}
use Rattle.system_model.specs.State.{View}
use Rattle.system_model.specs.Step.{view_after, answer_to, wakes}
use Rattle.script_model.specs.Reading.{ScriptEvents}
use Rattle.script_text.specs.Answers.{answer_line}
use Rattle.script_model.specs.Script.{Output, full_end}
use Rattle.system_laws.specs.Memory.{finds_no_memory}
use Rattle.script_model.specs.Seen.{out_seen, with_line}
use Rattle.script_model.proofs.SeenRuns.{out_seen-full, out_seen-event}
use Rattle.tty_host.specs.declared.run.Stop.{Stop}
use Rattle.tty_host.specs.Outputs.{Among, Keeps, Goes}
use Rattle.tty_host.proofs.OutputLemmas.{keeps-more, goes-more, stops-before}

abbrev pub script_of : List Event → Option ℕ → ScriptEvents
script_of es bad = record { events = es; bad = bad }

pub full : (v : View) (room : ℕ) (e : Event) (es : List Event) (bad : Option ℕ) → room ≡ 0 → out_seen v room (script_of (e ∷ es) bad) ≡ full_end
full v room e es bad none = rw none (out_seen-full v e es bad)

-- what the kernel made of an event, and the line of its answer
pub record IsAnswered (v v' : View) (e : Event) (line : List ℕ) : Type 0 where
  pub after : v' ≡ view_after v e
  pub printed : line ≡ answer_line e (answer_to v e) (wakes (view_after v e))

pub is_answered : (v v' : View) (e : Event) (d : Decision) (w : WakeList) (line : List ℕ) → v' ≡ view_after v e → d ≡ answer_to v e → w ≡ wakes v'
    → line ≡ answer_line e d w → IsAnswered v v' e line
is_answered v v' e d w line after answer woken printed = record {
  after = after;
  printed = printed ∙ ap (λ d. answer_line e d w) answer ∙ ap (λ w. answer_line e (answer_to v e) w) (woken ∙ ap wakes after);
}

-- where there is room, the answer comes first, and then what the other events are answered
pub next : (v v' : View) (room : ℕ) (e : Event) (es : List Event) (bad : Option ℕ) (line : List ℕ) → 0 < room → IsAnswered v v' e line
    → out_seen v room (script_of (e ∷ es) bad) ≡ with_line v e line (out_seen v' (room - 1) (script_of es bad))
next v v' zero e es bad line some h = absurd (omega arith)
next v v' (suc room) e es bad line some h =
    let left : suc room - 1 ≡ room = omega arith in
    out_seen-event v room e es bad ∙ ap (λ l. with_line v e l (out_seen (view_after v e) room (script_of es bad))) (sym h.printed)
    ∙ ap (λ u. with_line v e line (out_seen u room (script_of es bad))) (sym h.after) ∙ ap (λ n. with_line v e line (out_seen v' n (script_of es bad))) (sym left)

-- where memory runs out at an event for which there is room, nothing of it is written
pub stops-at : (v : View) (room : ℕ) (e : Event) (es : List Event) (bad : Option ℕ) → 0 < room → finds_no_memory v e ≡ true
    → Among (out_seen v room (script_of (e ∷ es) bad)).stops []
stops-at v zero e es bad some wants = absurd (omega arith)
stops-at v (suc room) e es bad some wants =
    subst (λ (out : Output). Among out.stops []) (sym (out_seen-event v room e es bad))
    (stops-before v e (answer_line e (answer_to v e) (wakes (view_after v e))) (out_seen (view_after v e) room (script_of es bad)) wants)

-- the events from i on are the one at i and those after it
events-cons : (events es : List Event) (i : ℕ) (e : Event) → slice_get events i ≡ Some e → drop i events ++ es ≡ e ∷ (drop (i + 1) events ++ es)
events-cons events es i e h =
    let within : i < length events = slice_get_within events i e h in
    rw (drop-cons events i e within, get_or_from_slice_get events i e e h, add-one i) refl

pub keeps-next : (a b c : Option (List ℕ)) (x z : Output) (come : List Event → Output) (events es : List Event) (i : ℕ) (e : Event) → slice_get events i ≡ Some e
    → Keeps a x b (come (drop i events ++ es)) → Keeps b (come (e ∷ (drop (i + 1) events ++ es))) c z → Keeps a x c z
keeps-next a b c x z come events es i e h before call = keeps-more a b c x _ z (rw (events-cons events es i e h) at before) call

pub goes-next : (r : Result (Unit {0}) Stop) (a b c : Option (List ℕ)) (x z : Output) (come : List Event → Output) (events es : List Event) (i : ℕ) (e : Event)
    → slice_get events i ≡ Some e → Keeps a x b (come (drop i events ++ es)) → Goes r b (come (e ∷ (drop (i + 1) events ++ es))) c z → Goes r a x c z
goes-next r a b c x z come events es i e h before call = goes-more r a b c x _ z (rw (events-cons events es i e h) at before) call

-- the event at a place of the arrivals of bytes is that of the byte there
pub arrival-at : (line : ℕ) (bytes : List ℕ) (i : ℕ) → i < length bytes → slice_get (arrivals line bytes) i ≡ Some (event.Byte line (get_or bytes i 0))
arrival-at line bytes i h = slice_get-map (λ b. event.Byte line b) bytes i ∙ ap (option_map (λ b. event.Byte line b)) (slice_get-get_or bytes i 0 h)

-- the text from i on is the byte at i and what follows it
pub text-cons : (bytes text : List ℕ) (i : ℕ) → i < length bytes → drop i bytes ++ text ≡ get_or bytes i 0 ∷ (drop (i + 1) bytes ++ text)
text-cons bytes text i h = rw (drop-cons bytes i 0 h, add-one i) refl
