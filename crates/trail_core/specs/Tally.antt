-- The tally, over the list of its events.
use Rattle.std.specs.Prelude.{ℕ, ◌+◌, ◌-◌, ◌%◌, ◌^◌, ◌<◌, List, fold, nat_le, if◌then◌else◌}
use Rattle.trail_core.specs.declared.toy.TallyEvent.{TallyEvent}
use Rattle.trail_core.specs.declared.toy.TallyEvent.TheVariants.{Add, Draw}
use Rattle.trail_core.specs.declared.toy.TallyDecision.{TallyDecision}
use Rattle.trail_core.specs.declared.toy.TallyDecision.TheVariants.{Sum, Wait}

-- the sum after one more event
abbrev pub sum_after : ℕ → TallyEvent → ℕ
sum_after sum (Add n) = (sum + n) % 2 ^ 32
sum_after sum (Draw n) = if nat_le n sum then sum - n else sum

-- the sum after the events, first 0
abbrev pub sum_of : List TallyEvent → ℕ
sum_of events = fold sum_after 0 events

-- the decision of an event at a sum
abbrev pub decision_at : ℕ → TallyEvent → TallyDecision
decision_at sum (Add n) = Sum ((sum + n) % 2 ^ 32)
decision_at sum (Draw n) = if nat_le n sum then Sum (sum - n) else Wait

-- an event at a sum waits and changes nothing
abbrev pub MustWait : ℕ → TallyEvent → Type 0
MustWait sum (Add n) = ⊥
MustWait sum (Draw n) = sum < n
