-- Each answer is that of the first check that holds, or of the row where none does.
use Rattle.std.proofs.Common.{◌≡◌, ℕ, List, ap}
use Rattle.std.specs.Prelude.{Option, Some, None}
use Rattle.sys_types.specs.declared.rules.Rule.{Rule}
use Rattle.call_words.specs.declared.event.Event.{Event}
use Rattle.call_words.specs.declared.event.Reason.{Reason}
use Rattle.call_words.specs.declared.event.Reply.TheVariants.{Denied}
use Rattle.call_words.specs.declared.event.Decision.TheVariants.{Answer, Sleep}
use Rattle.system_model.specs.State.{State, view}
use Rattle.system_model.specs.Effects.{Effect}
use Rattle.system_model.specs.Rows.{Given, number, pair, child, image, bytes, text, gone, taken, noted, refused, early, asleep, Check, answer_of}
use Rattle.system_model.specs.Rows.{decision_by, effects_by, first, done}
use Rattle.system_model.specs.Step.{row, answer_to}
use Rattle.system_laws.specs.Laws.{Refuses}
use Rattle.system_laws.proofs.Refusals.{careful}

-- an answer that is given is no denial and no sleep
given-denied : (g : Given) (rule : Rule) → answer_of g ≡ Answer (Denied rule) → ⊥
given-denied (number n) rule is = cc
given-denied (pair r w) rule is = cc
given-denied (child pid how) rule is = cc
given-denied (image i args) rule is = cc
given-denied (bytes bs) rule is = cc
given-denied (text t) rule is = cc
given-denied gone rule is = cc
given-denied (taken bs) rule is = cc
given-denied noted rule is = cc

given-slept : (g : Given) (reason : Reason) → answer_of g ≡ Sleep reason → ⊥
given-slept (number n) reason is = cc
given-slept (pair r w) reason is = cc
given-slept (child pid how) reason is = cc
given-slept (image i args) reason is = cc
given-slept (bytes bs) reason is = cc
given-slept (text t) reason is = cc
given-slept gone reason is = cc
given-slept (taken bs) reason is = cc
given-slept noted reason is = cc

same-denied : (rule other : Rule) → Answer (Denied rule) ≡ Answer (Denied other) → rule ≡ other
same-denied rule other is = cc

same-slept : (reason other : Reason) → Sleep reason ≡ Sleep other → reason ≡ other
same-slept reason other is = cc

denied-first : (o : Option Check) (g : Given) (es : List Effect) (rule : Rule) → decision_by o g ≡ Answer (Denied rule)
    → o ≡ Some (refused rule, effects_by o es)
denied-first None g es rule is = absurd (given-denied g rule is)
denied-first (Some (refused other, fs)) g es rule is = ap (λ r. Some (refused r, fs)) (same-denied other rule is)
denied-first (Some (early given, fs)) g es rule is = absurd (given-denied given rule is)
denied-first (Some (asleep reason, fs)) g es rule is = cc

slept-first : (o : Option Check) (g : Given) (es : List Effect) (reason : Reason) → decision_by o g ≡ Sleep reason → o ≡ Some (asleep reason, effects_by o es)
slept-first None g es reason is = absurd (given-slept g reason is)
slept-first (Some (refused rule, fs)) g es reason is = cc
slept-first (Some (early given, fs)) g es reason is = absurd (given-slept given reason is)
slept-first (Some (asleep other, fs)) g es reason is = ap (λ r. Some (asleep r, fs)) (same-slept other reason is)

-- the law of refusals, of every event in every state
pub refuses : (s : State) (p : ℕ) (e : Event) → Refuses s p e
unfolding answer_to
refuses s p e =
    let r = row (view s) e in
    record {
      denied = λ rule is. denied-first (first r.checks) r.answer r.effects rule is;
      denies = λ rule es is. ap (λ o. decision_by o r.answer) is;
      slept = λ reason is. slept-first (first r.checks) r.answer r.effects reason is;
      sleeps = λ reason es is. ap (λ o. decision_by o r.answer) is;
      early = λ given es is. ap (λ o. decision_by o r.answer) is;
      answered = λ is. ap (λ o. decision_by o r.answer) is;
      quiet = λ rule is. careful (view s) e rule (done r) (denied-first (first r.checks) r.answer r.effects rule is);
    }
