-- What crews count.
use Rattle.std.specs.Prelude.{ℕ, List}

-- how many calls of a crew failed, and how many jobs it ran
pub record CrewCounts : Type 0 where
  pub faults : ℕ
  pub job_count : ℕ

-- The same of a crew that can be told to fail, with its calls and which of them are to fail (the first
-- has number 1).
pub record CrewState : Type 0 where
  pub calls : ℕ
  pub failing : List ℕ
  pub faults : ℕ
  pub job_count : ℕ
