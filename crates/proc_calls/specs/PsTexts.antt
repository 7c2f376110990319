-- What ps(1) tells, slot by slot.
use Rattle.std.specs.Prelude.{ℕ, List, [], ◌∷◌, ◌++◌, codes, Option, Some, None}
use Rattle.std.specs.List.{flat_map}
use Rattle.proc_table.specs.Processes.{Process, Processes, process_at}
use Rattle.proc_table.specs.Listing.{process_text}

abbrev pub text_of : Processes ℕ → ℕ → Option (Process ℕ) → List ℕ
text_of t slot None = []
text_of t slot (Some p) = process_text t (slot, p)

-- what is told of the process of a slot
abbrev pub text_at : Processes ℕ → ℕ → List ℕ
text_at t slot = text_of t slot (process_at t slot)

-- the same of others, each after a slash
abbrev pub texts_after : Processes ℕ → List ℕ → List ℕ
texts_after t slots = flat_map (λ slot. codes "/" ++ text_at t slot) slots

-- of all of them, with a slash between
abbrev pub texts_of : Processes ℕ → List ℕ → List ℕ
texts_of t [] = []
texts_of t (slot ∷ slots) = text_at t slot ++ texts_after t slots
