-- The rule of a lock: what its words, its slot and the views of its seats have to do with one another.
-- Tickets and turns are counted without end here; the words have them modulo 2^64.
use Rattle.std.specs.Prelude.{◌≡◌, ℕ, ◌+◌, ◌%◌, ◌^◌, ◌<◌, ◌≤◌, ◌⊎◌, List, [], ◌∷◌, map, length, All, sum_by, true, false, Some, IfSome}
use Rattle.std.specs.List.{range_with_len}
use mathlib.Core.Option.{some}
use mathlib.Core.Option as maybe
use mathlib.Core.List.{IsPrefix}
use lib.ListN.{get_elem?}
use Rattle.trail_core.specs.Trail.{Trail}
use Rattle.atomic_table.specs.Table.{State}
use Rattle.turn_lock.specs.declared.rule.Setup.{Setup}
use Rattle.turn_lock.specs.declared.rule.Entry.{Entry}
use Rattle.turn_lock.specs.declared.rule.Claim.{Claim}
use Rattle.turn_lock.specs.declared.rule.SeatView.{SeatView}
use Rattle.turn_lock.specs.Histories.{events_of, events_by, AreBelow}

module _ {E : Type 0} where
  abbrev pub claim : ℕ → List E → Claim E
  claim number mine = record { number = number; mine = mine }

  abbrev pub numbers_of : List (Claim E) → List ℕ
  numbers_of claims = map (λ c. c.number) claims

  -- what is claimed is what each of the numbers entered
  abbrev pub ClaimsHold : List (Entry E) → List (Claim E) → Type 0
  ClaimsHold history claims = All (λ c. events_by c.number history ≡ c.mine) claims

  -- so many numbers, from the first on, which entered nothing
  abbrev pub fresh_claims : ℕ → ℕ → List (Claim E)
  fresh_claims first count = map (λ number. claim number []) (range_with_len first count)

  -- the first of these claims, and the others
  abbrev pub first_claim : List (Claim E) → List (Claim E)
  first_claim [] = []
  first_claim (c ∷ cs) = c ∷ []

  abbrev pub other_claims : List (Claim E) → List (Claim E)
  other_claims [] = []
  other_claims (c ∷ cs) = cs

module _ {Root E : Type 0} where
  -- the machine of a lock that took the events of a history
  abbrev pub machine_after : Setup (Trail Root E) → List (Entry E) → Trail Root E
  machine_after setup history = record { root = setup.machine.value.root; most = setup.machine.value.most; events = events_of history }

  -- the first seat has all numbers
  abbrev pub first_view : Setup (Trail Root E) → SeatView (Trail Root E) E
  first_view setup = record { setup = Some setup; claims = fresh_claims 0 setup.passes; tickets = []; has_machine = false; seen = []; other_seen = [] }

  -- the machine is out with a seat whose turn it is, and which has seen the whole history
  pub record IsServed (history : List (Entry E)) (serving : ℕ) (homes : List (maybe.Option (Trail Root E))) (v : SeatView (Trail Root E) E)
      : Type 0 where
    pub out : homes ≡ maybe.none ∷ []
    pub turn : v.tickets ≡ serving ∷ []
    pub all : v.seen ≡ history

  -- what a view says is so
  pub record Agrees (setup : Setup (Trail Root E)) (history : List (Entry E)) (serving : ℕ) (homes : List (maybe.Option (Trail Root E)))
      (v : SeatView (Trail Root E) E) : Type 0 where
    pub setup_is : IfSome v.setup (λ s. s ≡ setup)
    pub claims : ClaimsHold history v.claims
    pub few : length v.tickets ≤ length v.claims
    pub single : length v.tickets ≤ 1
    pub seen : IsPrefix v.seen history
    pub other_seen : IsPrefix v.other_seen history
    pub serves : v.has_machine ≡ true → IsServed history serving homes v

  -- some seat has the machine
  abbrev pub IsOut : List (SeatView (Trail Root E) E) → Type 0
  IsOut views = (j : ℕ) × (v : SeatView (Trail Root E) E) × (get_elem? views j ≡ some v) × (v.has_machine ≡ true)

  -- the rule: the words are the tickets that were drawn, those that were served, and the length of the history
  pub record LockRule (setup : Setup (Trail Root E)) (s : State (Trail Root E) (SeatView (Trail Root E) E)) : Type 0 where
    pub history : List (Entry E)
    pub serving : ℕ
    pub queue : ℕ
    pub words : s.words ≡ (serving + queue) % 2 ^ 64 ∷ serving % 2 ^ 64 ∷ length history ∷ []
    -- however they are weighed: each number below `passes` stands in one view, and each ticket that is not served yet in one
    pub numbers : (h : ℕ → ℕ) → sum_by (λ v. sum_by h (numbers_of v.claims)) s.views ≡ sum_by h (range_with_len 0 setup.passes)
    pub tickets : (h : ℕ → ℕ) → sum_by (λ v. sum_by h v.tickets) s.views ≡ sum_by h (range_with_len serving queue)
    pub below : AreBelow setup.passes history
    pub views : (j : ℕ) (v : SeatView (Trail Root E) E) → get_elem? s.views j ≡ some v → Agrees setup history serving s.homes v
    -- the machine is at home with the events of the history, or out with a seat
    pub machine : (s.homes ≡ some (machine_after setup history) ∷ []) ⊎ IsOut s.views
    pub bound : setup.passes < 2 ^ 8
