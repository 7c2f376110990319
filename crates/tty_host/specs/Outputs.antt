-- What was written, and what is still to come.
use Rattle.std.specs.Prelude.{◌≡◌, ◌⊎◌, ℕ, List, [], ◌∷◌, ◌++◌, map, Option, Result, Ok, Err}
use Rattle.edge_io.specs.Outside.{Appended}
use Rattle.script_model.specs.Script.{Output}
use Rattle.tty_host.specs.declared.run.Stop.{Stop}
use Rattle.tty_host.specs.declared.run.Stop.TheVariants.{BadLine, Full, Failed, NoMemory}

-- a front of the bytes was written
pub record Began (before : Option (List ℕ)) (bytes : List ℕ) (after : Option (List ℕ)) : Type 0 where
  pub wrote : List ℕ
  pub left : List ℕ
  pub appended : Appended before after wrote
  pub whole : bytes ≡ wrote ++ left

-- a front is one of some
abbrev pub Among : List (List ℕ) → List ℕ → Type 0
Among [] front = ⊥
Among (f ∷ fronts) front = (f ≡ front) ⊎ Among fronts front

-- one of these fronts was written
pub record StoppedAt (before : Option (List ℕ)) (fronts : List (List ℕ)) (after : Option (List ℕ)) : Type 0 where
  pub front : List ℕ
  pub among : Among fronts front
  pub appended : Appended before after front

-- What was to come is what was written since, followed by what is still to come.
pub record Keeps (before : Option (List ℕ)) (come : Output) (after : Option (List ℕ)) (more : Output) : Type 0 where
  pub wrote : List ℕ
  pub appended : Appended before after wrote
  pub bytes : come.bytes ≡ wrote ++ more.bytes
  pub status : come.status ≡ more.status
  pub stops : (front : List ℕ) → Among more.stops front → Among come.stops (wrote ++ front)

-- these bytes are written before the rest
abbrev pub behind : List ℕ → Output → Output
behind bytes more = record { bytes = bytes ++ more.bytes; status = more.status; stops = map (λ front. bytes ++ front) more.stops }

-- nothing is still to come but the status
abbrev pub status_alone : ℕ → Output
status_alone status = record { bytes = []; status = status; stops = [] }

-- The same of a call that may stop the run.
unfoldable pub Goes : Result (Unit {0}) Stop → Option (List ℕ) → Output → Option (List ℕ) → Output → Type 0
Goes (Ok x) before come after more = Keeps before come after more
Goes (Err BadLine) before come after more = Keeps before come after (status_alone 2)
Goes (Err Full) before come after more = Keeps before come after (status_alone 6)
Goes (Err Failed) before come after more = Began before come.bytes after
Goes (Err NoMemory) before come after more = StoppedAt before come.stops after
