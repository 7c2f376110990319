-- Where a machine is in its trail.
use Rattle.std.specs.Prelude.{◌≡◌, ℕ, ◌+◌, List, length}

-- pos is the position, counted from 1, of the next event after one of the lists for which a machine stands
abbrev pub IsNextPosition : {Event : Type 0} → (List Event → Type 0) → ℕ → Type 0
IsNextPosition {Event} stands pos = (events : List Event) × stands events × (pos ≡ length events + 1)
