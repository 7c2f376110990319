-- What the steps of a turn ask of seats, by what contracts see of these.
use Rattle.std.proofs.Common.{◌≡◌, ◌≢◌, ℕ, ◌+◌, ◌-◌, ◌%◌, ◌^◌, ◌<◌, List, [], ◌∷◌, ◌++◌, length, get_or, drop, Some, None, refl, sym, ap, ◌∙◌, subst, arith, length-append}
use Rattle.std.specs.Prelude.{IfSome, Option}
use Rattle.std.specs.Option.{option_map}
use mathlib.Core.List.{IsPrefix}
use mathlib.Core.Option as maybe
use Rattle.trail_core.specs.Trail.{Trail}
use Rattle.atomic_table.specs.Seated.{TableId}
use Rattle.atomic_table.specs.Table.{step, Allows, rest}
use Rattle.turn_lock.specs.declared.rule.Setup.{Setup}
use Rattle.turn_lock.specs.declared.rule.Entry.{Entry}
use Rattle.turn_lock.specs.declared.rule.Claim.{Claim}
use Rattle.turn_lock.specs.declared.rule.SeatView.{SeatView}
use Rattle.turn_lock.specs.Histories.{entries, events_of}
use Rattle.turn_lock.specs.Passes.{LockView, machine_at}
use Rattle.turn_lock.specs.Rule.{claim, machine_after, LockRule, ClaimsHold}
use Rattle.turn_lock.specs.Steps.{SeatState, with_ticket, with_machine, with_events, TakesMachine, CountsEvents, PassesTurn}
use Rattle.turn_lock.specs.Seats.{first_number, first_mine, lock_at, HasTurn}
use Rattle.turn_lock.proofs.HistoryLemmas.{drop-append, events_of-append, events_of-entries, length-events_of}
use Rattle.turn_lock.proofs.StepLemmas.{counts, passes_on}

pub one_claim : {E : Type 0} (cs : List (Claim E)) → length cs ≡ 1 → cs ≡ claim (first_number cs) (first_mine cs) ∷ []
one_claim [] e = absurd (omega arith)
one_claim (c ∷ []) e = refl
one_claim (c ∷ d ∷ cs) e = absurd (omega arith)

-- what follows the events of a history is what was added to it
pub since-append : {E : Type 0} (history : List (Entry E)) (events : List E) → drop (length history) (events_of history ++ events) ≡ events
since-append history events =
    ap (λ n. drop n (events_of history ++ events)) (sym (length-events_of history)) ∙ drop-append (events_of history) events

module _ {Root E : Type 0} where
  pub same_table : (table : TableId) (o : Option (Setup (Trail Root E))) (lock : LockView Root) → option_map (lock_at table) o ≡ Some lock
      → table ≡ lock.table
  same_table table None lock e = absurd cc
  same_table table (Some s) lock e = let is : lock_at table s ≡ lock = cc in ap (λ l. l.table) is

  -- a seat of a lock is at the lock's table
  pub in_table : (t : TableId) (o : Option (Setup (Trail Root E))) (lock : LockView Root) (table : TableId) (key : Setup (Trail Root E))
      → option_map (lock_at t) o ≡ Some lock → lock_at table key ≡ lock → t ≡ table
  in_table t o lock table key of is = same_table t o lock of ∙ sym (ap (λ (l : LockView Root). l.table) is)

  has_setup : (table : TableId) (o : Option (Setup (Trail Root E))) (lock : LockView Root) → option_map (lock_at table) o ≡ Some lock
      → o ≢ None
  has_setup table None lock e none = absurd cc
  has_setup table (Some s) lock e none = absurd cc

  -- the machine by the lock, and by the view
  machine_by_lock : (table : TableId) (o : Option (Setup (Trail Root E))) (lock : LockView Root) (history : List (Entry E))
      (P : Trail Root E → Type 0) → option_map (lock_at table) o ≡ Some lock → IfSome o (λ x. P (machine_after x history))
      → P (machine_at lock history)
  machine_by_lock table None lock history P e by = absurd cc
  machine_by_lock table (Some s) lock history P e by =
      let is : lock_at table s ≡ lock = cc in subst (λ (l : LockView Root). P (machine_at l history)) is by

  machine_by_view : (table : TableId) (o : Option (Setup (Trail Root E))) (lock : LockView Root) (history : List (Entry E))
      (P : Trail Root E → Type 0) → option_map (lock_at table) o ≡ Some lock → P (machine_at lock history)
      → IfSome o (λ x. P (machine_after x history))
  machine_by_view table None lock history P e by = tt
  machine_by_view table (Some s) lock history P e by =
      let is : lock_at table s ≡ lock = cc in subst (λ (l : LockView Root). P (machine_at l history)) (sym is) by

  -- what a seat has once it took the machine
  pub takes_out : (table : TableId) (lock : LockView Root) (v : SeatView (Trail Root E) E) (ticket : ℕ) (m m' : SeatState Root E)
      → option_map (lock_at table) v.setup ≡ Some lock → m ≡ (with_ticket ticket v, []) → TakesMachine m m'
      → IsPrefix v.seen m'.0.seen × ClaimsHold m'.0.seen v.claims
      × (m' ≡ (with_machine m'.0.seen (with_ticket ticket v), (0, machine_at lock m'.0.seen) ∷ []))
  takes_out table lock v ticket m m' of is takes =
      let t = subst (λ (x : SeatState Root E). TakesMachine x m') is takes in
      let all : t.0 ≡ m'.0.seen = sym (ap (λ (x : SeatView (Trail Root E) E). x.seen) t.3) in
      let slot : m'.1 ≡ (0, machine_at lock t.0) ∷ [] = machine_by_lock table v.setup lock t.0 (λ x. m'.1 ≡ (0, x) ∷ []) of t.4 in (
        subst (IsPrefix v.seen) all t.1,
        subst (λ (h : List (Entry E)). ClaimsHold h v.claims) all t.2,
        λ j. (
          (t.3 ∙ ap (λ h. with_machine h (with_ticket ticket v)) all) j,
          (slot ∙ ap (λ h. (0, machine_at lock h) ∷ []) all) j,
        ),
      )

  -- the machine that took the events of what was seen is given back
  pub passes_turn : (setup : Setup (Trail Root E)) (slots id : ℕ) (m : SeatState Root E) (table : TableId) (lock : LockView Root)
      → option_map (lock_at table) m.0.setup ≡ Some lock → HasTurn lock m
      → Allows (LockRule setup) slots id m 1 (λ n. (n + 1) % 2 ^ 64) (PassesTurn (step slots 1 1 0 maybe.none) m)
  passes_turn setup slots id m table lock of turn =
      passes_on setup slots id m (machine_at lock m.0.seen) turn.has_machine turn.slot
      (machine_by_view table m.0.setup lock m.0.seen (λ x. machine_at lock m.0.seen ≡ x) of refl) (has_setup table m.0.setup lock of)

  -- the slot that a seat took
  pub first_slot : (cs : List (ℕ × Trail Root E)) (x : Trail Root E) → cs ≡ (0, x) ∷ [] → (y : Trail Root E) × (cs ≡ (0, y) ∷ rest cs)
  first_slot cs x e = (x, e ∙ ap (λ (r : List (ℕ × Trail Root E)). (0, x) ∷ rest r) (sym e))

  -- the machine in it, read twice
  in_slot : (cs : List (ℕ × Trail Root E)) (x y : Trail Root E) → cs ≡ (0, x) ∷ [] → cs ≡ (0, y) ∷ rest cs → y ≡ x
  in_slot cs x y one two = ap (λ (l : List (ℕ × Trail Root E)). (get_or l 0 (0, x)).1) (sym two ∙ one)

  -- what a view has once its one number entered events
  pub machine-with_events : (events : List E) (cs : List (Claim E)) (v : SeatView (Trail Root E) E)
      → (with_events events cs v).has_machine ≡ v.has_machine
  machine-with_events events [] v = refl
  machine-with_events events (c ∷ cs) v = refl

  pub seen-with_events : (events : List E) (cs : List (Claim E)) (v : SeatView (Trail Root E) E) → length cs ≡ 1
      → (with_events events cs v).seen ≡ v.seen ++ entries (first_number cs) events
  seen-with_events events [] v one = absurd (omega arith)
  seen-with_events events (c ∷ cs) v one = refl

  pub claims-with_events : (events : List E) (cs : List (Claim E)) (v : SeatView (Trail Root E) E) → length cs ≡ 1
      → (with_events events cs v).claims ≡ claim (first_number cs) (first_mine cs ++ events) ∷ []
  claims-with_events events [] v one = absurd (omega arith)
  claims-with_events events (c ∷ []) v one = refl
  claims-with_events events (c ∷ d ∷ cs) v one = absurd (omega arith)

  pub events-with_events : (events : List E) (cs : List (Claim E)) (v : SeatView (Trail Root E) E) → length cs ≡ 1
      → events_of (with_events events cs v).seen ≡ events_of v.seen ++ events
  events-with_events events cs v one =
      ap events_of (seen-with_events events cs v one) ∙ (events_of-append v.seen (entries (first_number cs) events)
      ∙ ap (λ l. events_of v.seen ++ l) (events_of-entries (first_number cs) events))

  -- a seat in its turn, whose machine took some events
  pub record HasAsked (lock : LockView Root) (m : SeatState Root E) (old new : Trail Root E) (events : List E) : Type 0 where
    pub turn : HasTurn lock m
    pub old_is : m.1 ≡ (0, old) ∷ rest m.1
    pub new_is : new ≡ record old { events = old.events ++ events }

  pub has_asked : (lock : LockView Root) (m : SeatState Root E) (old new : Trail Root E) (events : List E) → HasTurn lock m
      → m.1 ≡ (0, old) ∷ rest m.1 → new ≡ record old { events = old.events ++ events } → HasAsked lock m old new events
  has_asked lock m old new events turn old_is new_is = record { turn = turn; old_is = old_is; new_is = new_is }

  pub old_machine : (lock : LockView Root) (m : SeatState Root E) (old new : Trail Root E) (events : List E) → HasAsked lock m old new events
      → old ≡ machine_at lock m.0.seen
  old_machine lock m old new events a = in_slot m.1 (machine_at lock m.0.seen) old a.turn.slot a.old_is

  new_machine : (lock : LockView Root) (m : SeatState Root E) (old new : Trail Root E) (events : List E) → HasAsked lock m old new events
      → new ≡ record (machine_at lock m.0.seen) { events = events_of m.0.seen ++ events }
  new_machine lock m old new events a =
      a.new_is ∙ ap (λ (x : Trail Root E). record x { events = x.events ++ events }) (old_machine lock m old new events a)

  new_slot : (lock : LockView Root) (m : SeatState Root E) (old new : Trail Root E) (events : List E) → HasAsked lock m old new events
      → ◌≡◌ {A = SeatState Root E} (m.0, (0, new) ∷ rest m.1) (m.0, (0, new) ∷ [])
  new_slot lock m old new events a = ap (λ (cs : List (ℕ × Trail Root E)). (m.0, (0, new) ∷ rest cs)) a.turn.slot

  -- they are counted
  pub counts_new : (setup : Setup (Trail Root E)) (slots id : ℕ) (lock : LockView Root) (m : SeatState Root E) (old new : Trail Root E)
      (events : List E) (before after k : ℕ) → HasAsked lock m old new events → before ≡ length old.events → after ≡ length new.events
      → k ≡ after - before → length new.events < 2 ^ 64
      → Allows (LockRule setup) slots id (m.0, (0, new) ∷ rest m.1) 2 (λ n. (n + k) % 2 ^ 64)
      (CountsEvents (step slots 2 k 0 maybe.none) (m.0, (0, new) ∷ rest m.1))
  counts_new setup slots id lock m old new events before after k a first second between room =
      let there = sym (new_slot lock m old new events a) in
      let events_are : new.events ≡ old.events ++ events = ap (λ (x : Trail Root E). x.events) a.new_is in
      let long : k ≡ length events = let l = ap length events_are in let b = length-append old.events events in omega arith in
      let took = ap (λ (x : Trail Root E). x.events) (new_machine lock m old new events a) in
      subst (λ (x : SeatState Root E). Allows (LockRule setup) slots id x 2 (λ n. (n + k) % 2 ^ 64) (CountsEvents (step slots 2 k 0 maybe.none) x))
      there
      (counts setup slots id (first_number m.0.claims) (first_mine m.0.claims) events (m.0, (0, new) ∷ []) new k a.turn.has_machine
      (one_claim m.0.claims a.turn.one_number) refl took long room)

  -- and then the seat is in its turn still
  pub turn_goes_on : (lock : LockView Root) (m m' : SeatState Root E) (old new : Trail Root E) (events : List E) → HasAsked lock m old new events
      → m' ≡ (with_events (drop (length m.0.seen) new.events) m.0.claims m.0, (0, new) ∷ rest m.1)
      → (m'.0 ≡ with_events events m.0.claims m.0) × HasTurn lock m'
  turn_goes_on lock m m' old new events a counted =
      let v : SeatView (Trail Root E) E = m.0 in
      let took = new_machine lock m old new events a in
      let all = ap (λ (x : Trail Root E). drop (length v.seen) x.events) took ∙ since-append v.seen events in
      let slot = ap (λ (x : SeatState Root E). x.1) (new_slot lock m old new events a) in
      let there : m' ≡ (with_events events v.claims v, (0, new) ∷ []) = counted ∙ λ j. (with_events (all j) v.claims v, slot j) in (
        ap (λ (x : SeatState Root E). x.0) there,
        subst (HasTurn lock) (sym there) record {
          one_number = ap length (claims-with_events events v.claims v a.turn.one_number);
          has_machine = machine-with_events events v.claims v ∙ a.turn.has_machine;
          slot = ap (λ x. (0, x) ∷ [])
              (took ∙ ap (λ l. record (machine_at lock v.seen) { events = l }) (sym (events-with_events events v.claims v a.turn.one_number)));
        },
      )
