-- What each step on a word tells the seat that makes it.
use Rattle.std.specs.Prelude.{◌≡◌, ◌≢◌, ℕ, ◌%◌, ◌^◌, List, [], ◌∷◌, ◌++◌, length, drop, true, false, None, IfSome}
use mathlib.Core.List.{IsPrefix}
use Rattle.trail_core.specs.Trail.{Trail}
use Rattle.atomic_table.specs.Table.{Me, Step}
use Rattle.turn_lock.specs.declared.rule.Entry.{Entry}
use Rattle.turn_lock.specs.declared.rule.Claim.{Claim}
use Rattle.turn_lock.specs.declared.rule.SeatView.{SeatView}
use Rattle.turn_lock.specs.Histories.{entries}
use Rattle.turn_lock.specs.Rule.{claim, ClaimsHold, machine_after}

-- a seat: its view, and the slot that it may have taken
abbrev pub SeatState : Type 0 → Type 0 → Type 0
SeatState Root E = Me (Trail Root E) (SeatView (Trail Root E) E)

abbrev StepOf : Type 0 → Type 0 → Type 0
StepOf Root E = Step (Trail Root E)

module _ {Root E : Type 0} where
  abbrev pub with_ticket : ℕ → SeatView (Trail Root E) E → SeatView (Trail Root E) E
  with_ticket ticket v = record v { tickets = ticket ∷ [] }

  -- with the machine, which took the events of this history
  abbrev pub with_machine : List (Entry E) → SeatView (Trail Root E) E → SeatView (Trail Root E) E
  with_machine history v = record v { has_machine = true; seen = history }

  -- without a ticket and the machine
  abbrev pub after_turn : SeatView (Trail Root E) E → SeatView (Trail Root E) E
  after_turn v = record v { tickets = []; has_machine = false }

  -- once its one number entered these events
  abbrev pub with_events : List E → List (Claim E) → SeatView (Trail Root E) E → SeatView (Trail Root E) E
  with_events events (c ∷ cs) v = record v { claims = claim c.number (c.mine ++ events) ∷ cs; seen = v.seen ++ entries c.number events }
  with_events events [] v = v

  abbrev pub with_claims : List (Claim E) → SeatView (Trail Root E) E → SeatView (Trail Root E) E
  with_claims claims v = record v { claims = claims }

  -- what a new seat gets of a view: these claims, and what was seen
  abbrev pub new_view : List (Claim E) → SeatView (Trail Root E) E → SeatView (Trail Root E) E
  new_view claims v = record v { claims = claims; tickets = []; has_machine = false; other_seen = [] }

  -- a view that takes in another has the claims of both, and knows what the other saw
  abbrev pub both_views : SeatView (Trail Root E) E → SeatView (Trail Root E) E → SeatView (Trail Root E) E
  both_views v w = record v { claims = v.claims ++ w.claims; other_seen = w.seen }

  abbrev pub empty_view : SeatView (Trail Root E) E
  empty_view = record { setup = None; claims = []; tickets = []; has_machine = false; seen = []; other_seen = [] }

  -- the events that the machine in the slot took after what was seen
  abbrev pub events_since : List (Entry E) → List (ℕ × Trail Root E) → List E
  events_since history ((slot, machine) ∷ slots) = drop (length history) machine.events
  events_since history [] = []

  -- the next ticket is drawn
  abbrev pub DrawsTicket : StepOf Root E → SeatState Root E → ℕ → SeatState Root E → Type 0
  DrawsTicket st m found m' = (ticket : ℕ) × (found ≡ ticket % 2 ^ 64) × (m' ≡ (with_ticket ticket m.0, m.1))

  -- the machine is taken out, with all that was entered
  abbrev pub TakesMachine : SeatState Root E → SeatState Root E → Type 0
  TakesMachine m m' =
      (history : List (Entry E)) × IsPrefix m.0.seen history × ClaimsHold history m.0.claims
      × (m'.0 ≡ with_machine history m.0) × IfSome m.0.setup (λ setup. m'.1 ≡ (0, machine_after setup history) ∷ m.1)

  -- where the ticket is served, the machine is taken out, and else nothing changes
  abbrev pub LooksForTurn : StepOf Root E → SeatState Root E → ℕ → SeatState Root E → Type 0
  LooksForTurn st m found m' =
      (ticket : ℕ) → m.0.tickets ≡ ticket ∷ []
      → (found ≡ ticket % 2 ^ 64 → TakesMachine m m') × (found ≢ ticket % 2 ^ 64 → m' ≡ m)

  -- the events that the machine took are entered
  abbrev pub CountsEvents : StepOf Root E → SeatState Root E → ℕ → SeatState Root E → Type 0
  CountsEvents st m found m' = m' ≡ (with_events (events_since m.0.seen m.1) m.0.claims m.0, m.1)

  -- the machine is at home again, and the next ticket is served
  abbrev pub PassesTurn : StepOf Root E → SeatState Root E → ℕ → SeatState Root E → Type 0
  PassesTurn st m found m' = m' ≡ (after_turn m.0, [])

  -- a seat comes without a number
  abbrev pub Comes : StepOf Root E → SeatState Root E → ℕ → SeatState Root E → Type 0
  Comes st m found m' = m' ≡ (with_claims [] m.0, [])

  -- the whole history is seen, of which that which was seen and that which another seat saw are prefixes
  abbrev pub SeesHistory : StepOf Root E → SeatState Root E → ℕ → SeatState Root E → Type 0
  SeesHistory st m found m' =
      IsPrefix m.0.seen m'.0.seen × IsPrefix m.0.other_seen m'.0.seen × ClaimsHold m'.0.seen m.0.claims
      × (m' ≡ (record (m.0) { seen = m'.0.seen }, m.1))
