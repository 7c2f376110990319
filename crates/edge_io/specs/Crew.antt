-- What a crew promises of the jobs that it was handed.
use Rattle.std.specs.Prelude.{◌≡◌, ℕ, Bool, true, false, List}
use Rattle.edge_io.specs.Outside.{Rose}
use Rattle.edge_io.specs.declared.crew.Refused.{Refused}
use Rattle.edge_io.specs.declared.crew.Refused.TheVariants as refused

-- the jobs that were handed back
abbrev pub jobs_of : {J : Type 0} → Refused J → List J
jobs_of (refused.NoWorker jobs) = jobs.items
jobs_of (refused.NoMemory jobs) = jobs.items

-- The count of faults rose exactly where there was no worker.
abbrev pub CountsFault : {J : Type 0} → ℕ → ℕ → Refused J → Type 0
CountsFault old new (refused.NoWorker jobs) = Rose old new
CountsFault old new (refused.NoMemory jobs) = new ≡ old

-- What became of a job where the word at the flag is this: it was run, or it was not begun.
abbrev pub Went : {J : Type 0} → (J → J → Type 0) → Bool → J → J → Type 0
Went ran word before after = (word ≡ true → ran before after) × (word ≡ false → after ≡ before)
