-- What a turn of its seat makes of a pass.
use Rattle.std.proofs.Common.{◌≡◌, ℕ, List, [], ◌∷◌, ◌++◌, length, sym, ap, ◌∙◌, subst}
use mathlib.Core.List.{IsPrefix}
use Rattle.trail_core.specs.Trail.{Trail}
use Rattle.atomic_table.specs.declared.shared.Seat.{Seat}
use Rattle.turn_lock.specs.declared.rule.Entry.{Entry}
use Rattle.turn_lock.specs.declared.rule.SeatView.{SeatView}
use Rattle.turn_lock.specs.declared.turn.Turn.{Turn}
use Rattle.turn_lock.specs.Histories.{entries, events_by}
use Rattle.turn_lock.specs.Passes.{LockView, PassView, machine_at, HasSeenMine}
use Rattle.turn_lock.specs.Answers.{new_events, Answers, TakesTurn}
use Rattle.turn_lock.specs.Rule.{claim, ClaimsHold}
use Rattle.turn_lock.specs.Steps.{with_ticket, with_machine, with_events, after_turn}
use Rattle.turn_lock.specs.Seats.{first_number, first_mine, pass_of}
use Rattle.turn_lock.proofs.HistoryLemmas.{claims-head, claim_more}
use Rattle.turn_lock.proofs.SeatLemmas.{one_claim, seen-with_events, claims-with_events}

module _ {Root E : Type 0} where
  -- the steps of a turn of a seat with the view v: it saw this history, and entered these events
  pub record Steps (v w : SeatView (Trail Root E) E) (history : List (Entry E)) (events : List E) : Type 0 where
    pub one_number : length v.claims ≡ 1
    pub claims : ClaimsHold history v.claims
    pub seen_is : w.seen ≡ history ++ entries (first_number v.claims) events
    pub claims_are : w.claims ≡ claim (first_number v.claims) (first_mine v.claims ++ events) ∷ []

  pub steps : (v x y w : SeatView (Trail Root E) E) (ticket : ℕ) (events : List E) → length v.claims ≡ 1 → ClaimsHold x.seen v.claims
      → x ≡ with_machine x.seen (with_ticket ticket v) → y ≡ with_events events x.claims x → w ≡ after_turn y → Steps v w x.seen events
  steps v x y w ticket events one all takes enters passes =
      let same : x.claims ≡ v.claims = ap (λ (z : SeatView (Trail Root E) E). z.claims) takes in
      let one_there : length x.claims ≡ 1 = ap length same ∙ one in record {
        one_number = one;
        claims = all;
        seen_is = ap (λ (z : SeatView (Trail Root E) E). z.seen) passes ∙ (ap (λ (z : SeatView (Trail Root E) E). z.seen) enters
            ∙ (seen-with_events events x.claims x one_there ∙ ap (λ cs. x.seen ++ entries (first_number cs) events) same));
        claims_are = ap (λ (z : SeatView (Trail Root E) E). z.claims) passes ∙ (ap (λ (z : SeatView (Trail Root E) E). z.claims) enters
            ∙ (claims-with_events events x.claims x one_there ∙ ap (λ cs. claim (first_number cs) (first_mine cs ++ events) ∷ []) same));
      }

  -- a pass has seen what it entered
  pub sees_mine : (s : Seat (Trail Root E) (SeatView (Trail Root E) E)) (v : SeatView (Trail Root E) E) (history : List (Entry E))
      (events : List E) → Steps v s.me.0 history events → HasSeenMine (pass_of s)
  sees_mine s v history events t =
      let n : ℕ = first_number v.claims in
      let mine : List E = first_mine v.claims in
      let before : events_by n history ≡ mine =
      claims-head history (claim n mine) [] (subst (ClaimsHold history) (one_claim v.claims t.one_number) t.claims) in
      ap (λ cs. events_by (first_number cs) s.me.0.seen) t.claims_are ∙ (ap (events_by n) t.seen_is
      ∙ (claim_more history n mine events before ∙ ap first_mine (sym t.claims_are)))

module _ {M E D W Root : Type 0} (decision : Root → List E → E → D) (wakeups : Root → List E → E → W) (is_idle : Root → List E → E → Type 0)
    (needs_no_memory : E → Type 0) where
  -- a pass took a turn
  pub takes_turn : (lock : LockView Root) (old : PassView Root E) (event : E) (turn : Turn M E D W Root)
      (s s' : Seat (Trail Root E) (SeatView (Trail Root E) E)) (history : List (Entry E)) → pass_of s ≡ old → IsPrefix s.me.0.seen history
      → Answers decision wakeups is_idle needs_no_memory (machine_at lock history) event turn
      → Steps s.me.0 s'.me.0 history (new_events event turn)
      → TakesTurn decision wakeups is_idle needs_no_memory lock old (pass_of s') event turn
  takes_turn lock old event turn s s' history is had answer t =
      subst (λ (p : PassView Root E). TakesTurn decision wakeups is_idle needs_no_memory lock p (pass_of s') event turn) is record {
        history = history;
        had_seen = had;
        answer = answer;
        seen = t.seen_is;
        mine = ap first_mine t.claims_are;
      }
