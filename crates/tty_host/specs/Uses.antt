-- What a call did with the outside.
use Rattle.std.specs.Prelude.{◌≡◌, ℕ, List, Option}
use Rattle.edge_io.specs.Outside.{Rose}

-- a source: what was left before the call and after it, where the source tells that, and its
-- count of faults before and after
pub record SourceUse : Type 0 where
  pub left : Option (List ℕ)
  pub rest : Option (List ℕ)
  pub faults : ℕ
  pub later : ℕ

-- a sink: what was written before and after, where the sink tells that, and its count of faults
pub record SinkUse : Type 0 where
  pub before : Option (List ℕ)
  pub after : Option (List ℕ)
  pub faults : ℕ
  pub later : ℕ

abbrev pub source_use : {S : Type 0} → (S → Option (List ℕ)) → (S → ℕ) → S → S → SourceUse
source_use left faults old new = record { left = left old; rest = left new; faults = faults old; later = faults new }

abbrev pub sink_use : {K : Type 0} → (K → Option (List ℕ)) → (K → ℕ) → K → K → SinkUse
sink_use written faults old new = record { before = written old; after = written new; faults = faults old; later = faults new }

abbrev pub SourceFailed : SourceUse → Type 0
SourceFailed u = Rose u.faults u.later

abbrev pub SinkFailed : SinkUse → Type 0
SinkFailed u = Rose u.faults u.later

-- as before the call
abbrev pub IsUnread : SourceUse → Type 0
IsUnread u = (u.rest ≡ u.left) × (u.later ≡ u.faults)

abbrev pub Unwritten : SinkUse → Type 0
Unwritten u = (u.after ≡ u.before) × (u.later ≡ u.faults)
