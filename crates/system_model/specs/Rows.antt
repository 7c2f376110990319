-- A row: for an event its checks in order, and what it does and answers where none of them holds. A check is a rule, a sleep or an early
-- answer, with its condition; it may have effects of its own, as a read in the background sends TTIN before it sleeps.
use Rattle.std.specs.Prelude.{◌≡◌, ℕ, Bool, List, [], ◌∷◌, ◌++◌, map, Option, Some, None, is_some, option_map, if◌then◌else◌}
use Rattle.sys_types.specs.declared.rules.Rule.{Rule}
use Rattle.sys_types.specs.declared.rules.Rule.TheVariants.{NotReady, Signal}
use Rattle.sys_types.specs.declared.image.Image.{Image}
use Rattle.call_words.specs.declared.event.How.{How}
use Rattle.call_words.specs.declared.event.Reason.{Reason}
use Rattle.call_words.specs.declared.event.Reply.TheVariants as reply
use Rattle.call_words.specs.declared.event.Decision.{Decision}
use Rattle.call_words.specs.declared.event.Decision.TheVariants.{Answer, Sleep, Taken, Noted}
use Rattle.proc_table.specs.Processes.{Process, least_caught}
use Rattle.system_model.specs.Parts.{Path, File}
use Rattle.system_model.specs.State.{View}
use Rattle.system_model.specs.Effects.{Effect, change_all}

-- an answer that is no refusal and no sleep
pub data Given : Type 0 where
  number : ℕ → Given
  pair : ℕ → ℕ → Given
  child : ℕ → How → Given
  image : Image → List ℕ → Given
  bytes : List ℕ → Given
  text : List ℕ → Given
  gone : Given
  taken : List ℕ → Given
  noted : Given

pub data Outcome : Type 0 where
  refused : Rule → Outcome
  early : Given → Outcome
  asleep : Reason → Outcome

-- what a check gives that holds, and its own effects
abbrev pub Check : Type 0
Check = Outcome × List Effect

abbrev pub check : Bool → Outcome → List Effect → Option Check
check condition outcome effects = if condition then Some (outcome, effects) else None

-- a rule that denies
abbrev pub deny : Bool → Rule → Option Check
deny condition rule = check condition (refused rule) []

-- the same of a rule that is looked up
abbrev pub deny_by : Option Rule → Option Check
deny_by rule = option_map (λ r. (refused r, [])) rule

-- an answer before the later checks are looked at
abbrev pub answer_if : Bool → Given → Option Check
answer_if condition given = check condition (early given) []

-- a caught signal of the process is pending
abbrev pub has_caught : Process Path → Bool
has_caught who = is_some (least_caught who)

-- A call that would sleep is interrupted where a caught signal is pending (sigaction(2), EINTR).
abbrev pub sleep_of : Process Path → Reason → Outcome
sleep_of who reason = if has_caught who then refused Signal else asleep reason

abbrev pub sleep_if : Bool → Process Path → Reason → Option Check
sleep_if condition who reason = check condition (sleep_of who reason) []

-- A read or a write of a nonblocking file is denied in place of the sleep (open(2), O_NONBLOCK).
abbrev pub wait_if : Bool → File → Process Path → Reason → Option Check
wait_if condition file who reason = check condition (if file.nonblock then refused NotReady else sleep_of who reason) []

pub record Row : Type 0 where
  pub checks : List (Option Check)
  pub effects : List Effect
  pub answer : Given

-- a row with checks in front
abbrev pub behind : List (Option Check) → Row → Row
behind checks row = record row { checks = checks ++ row.checks }

-- a row without checks and effects
abbrev pub only : Given → Row
only given = record { checks = []; effects = []; answer = given }

-- a row that no event comes to, since a check in front of it holds
abbrev pub no_row : Row
no_row = only noted

-- the first check that holds
abbrev pub first : List (Option Check) → Option Check
first [] = None
first (None ∷ cs) = first cs
first (Some c ∷ cs) = Some c

abbrev pub answer_of : Given → Decision
answer_of (number n) = Answer (reply.Num n)
answer_of (pair r w) = Answer (reply.Pair r w)
answer_of (child pid how) = Answer (reply.Child pid how)
answer_of (image i args) = Answer (reply.Image i args)
answer_of (bytes bs) = Answer (reply.Bytes bs)
answer_of (text t) = Answer (reply.Text t)
answer_of gone = Answer reply.Gone
answer_of (taken bs) = Taken bs
answer_of noted = Noted

abbrev pub decision_of : Outcome → Decision
decision_of (refused rule) = Answer (reply.Denied rule)
decision_of (early given) = answer_of given
decision_of (asleep reason) = Sleep reason

abbrev pub decision_by : Option Check → Given → Decision
decision_by None answer = answer_of answer
decision_by (Some c) answer = decision_of c.0

abbrev pub effects_by : Option Check → List Effect → List Effect
effects_by None effects = effects
effects_by (Some c) effects = c.1

abbrev pub decision : Row → Decision
decision r = decision_by (first r.checks) r.answer

-- what the row does: the effects of the first check that holds, or those of the row
abbrev pub done : Row → List Effect
done r = effects_by (first r.checks) r.effects

-- what a call does that has this row: the view after it, and the decision
pub record Does (old new : View) (d : Decision) (r : Row) : Type 0 where
  pub state : new ≡ change_all old (done r)
  pub answer : d ≡ decision r

-- effects that a check has besides, where it sleeps and where it does not
abbrev pub also : List Effect → List Effect → Check → Check
also sleeps wakes (refused rule, es) = (refused rule, es ++ wakes)
also sleeps wakes (early given, es) = (early given, es ++ wakes)
also sleeps wakes (asleep reason, es) = (asleep reason, es ++ sleeps)

-- a row that ends with these effects where it sleeps, and with those where it does not
unfoldable pub ended_by : List Effect → List Effect → Row → Row
ended_by sleeps wakes r = record { checks = map (option_map (also sleeps wakes)) r.checks; effects = r.effects ++ wakes; answer = r.answer }
