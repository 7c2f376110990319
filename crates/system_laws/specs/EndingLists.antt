-- The list of those to be ended, of any processes (_exit(2)).
use Rattle.std.specs.Prelude.{◌≡◌, ℕ, true, List, [], ◌∷◌, is_some}
use Rattle.call_words.specs.declared.event.How.{How}
use Rattle.proc_table.specs.Processes.{Processes, running_at}

-- the process of each entry runs
abbrev pub AreRunning : {D : Type 0} → Processes D → List (ℕ × How) → Type 0
AreRunning t [] = Unit {0}
AreRunning t (e ∷ es) = (is_some (running_at t e.0) ≡ true) × AreRunning t es
