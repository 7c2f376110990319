-- What the source and the sink in memory hold.
use Rattle.std.specs.Prelude.{ℕ, List}

-- What is left of a source, how often it was called, the numbers of the calls that are to fail
-- (the first call has number 1), and how many did.
pub record SourceState : Type 0 where
  pub left : List ℕ
  pub calls : ℕ
  pub failing : List ℕ
  pub faults : ℕ

-- The same of a sink: what was written, and how many bytes more it takes.
pub record SinkState : Type 0 where
  pub written : List ℕ
  pub room : ℕ
  pub calls : ℕ
  pub failing : List ℕ
  pub faults : ℕ
