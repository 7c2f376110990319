-- The terminal lines by their numbers.
use Rattle.std.specs.Prelude.{ℕ, List, slice_index_or, slice_set}
use Rattle.line_disc.specs.Device.{Device, closed_device}

abbrev pub line_at : {C : Type 0} → List (Device C) → ℕ → Device C
line_at lines n = slice_index_or lines n closed_device

-- a line is changed
abbrev pub change_line : {C : Type 0} → (Device C → Device C) → List (Device C) → ℕ → List (Device C)
change_line how lines n = slice_set lines n (how (line_at lines n))
