-- Seats as locks and passes.
use Rattle.std.specs.Prelude.{◌≡◌, ℕ, List, [], ◌∷◌, length, true, false, All, Contains, Option, Some}
use Rattle.std.specs.Option.{option_map}
use mathlib.Core.List.{IsPrefix}
use Rattle.trail_core.specs.Trail.{Trail}
use Rattle.atomic_table.specs.Seated.{TableId}
use Rattle.atomic_table.specs.declared.shared.Seat.{Seat}
use Rattle.turn_lock.specs.declared.rule.Setup.{Setup}
use Rattle.turn_lock.specs.declared.rule.Entry.{Entry}
use Rattle.turn_lock.specs.declared.rule.Claim.{Claim}
use Rattle.turn_lock.specs.declared.rule.SeatView.{SeatView}
use Rattle.turn_lock.specs.Passes.{LockView, PassView, machine_at}
use Rattle.turn_lock.specs.Rule.{claim}
use Rattle.turn_lock.specs.Steps.{SeatState}

abbrev pub first_number : {E : Type 0} → List (Claim E) → ℕ
first_number [] = 0
first_number (c ∷ cs) = c.number

abbrev pub first_mine : {E : Type 0} → List (Claim E) → List E
first_mine [] = []
first_mine (c ∷ cs) = c.mine

module _ {Root E : Type 0} where
  abbrev pub lock_at : TableId → Setup (Trail Root E) → LockView Root
  lock_at table setup = record { table = table; passes = setup.passes; root = setup.machine.value.root; most = setup.machine.value.most }

  -- the lock that a seat is of
  abbrev pub lock_of : Seat (Trail Root E) (SeatView (Trail Root E) E) → Option (LockView Root)
  lock_of seat = option_map (lock_at seat.table_id) seat.me.0.setup

  abbrev pub pass_of : Seat (Trail Root E) (SeatView (Trail Root E) E) → PassView Root E
  pass_of seat = record { lock = lock_of seat; number = first_number seat.me.0.claims; seen = seat.me.0.seen; mine = first_mine seat.me.0.claims }

  -- the pass of a lock that has the first claim of a view
  abbrev pub first_pass : LockView Root → SeatView (Trail Root E) E → PassView Root E
  first_pass lock v = record { lock = Some lock; number = first_number v.claims; seen = v.seen; mine = first_mine v.claims }

  abbrev pub IsSame : Seat (Trail Root E) (SeatView (Trail Root E) E) → Seat (Trail Root E) (SeatView (Trail Root E) E) → Type 0
  IsSame old new = (new.table_id ≡ old.table_id) × (new.id ≡ old.id)

  -- a seat outside of a turn
  pub record IsFree (m : SeatState Root E) : Type 0 where
    pub no_ticket : m.0.tickets ≡ []
    pub no_machine : m.0.has_machine ≡ false
    pub no_slot : m.1 ≡ []

  -- a pass between two turns
  pub record Rests (m : SeatState Root E) : Type 0 where
    pub one_number : length m.0.claims ≡ 1
    pub free : IsFree m

  -- a pass in its turn: it has the machine, which took the events of the history that it has seen
  pub record HasTurn (lock : LockView Root) (m : SeatState Root E) : Type 0 where
    pub one_number : length m.0.claims ≡ 1
    pub has_machine : m.0.has_machine ≡ true
    pub slot : m.1 ≡ (0, machine_at lock m.0.seen) ∷ []

  -- what each of these passes has seen is a prefix of the history, and its number and what it entered stand among the claims
  abbrev pub Covers : List (Entry E) → List (Claim E) → List (PassView Root E) → Type 0
  Covers history claims passes = All (λ p. IsPrefix p.seen history × Contains claims (claim p.number p.mine)) passes
