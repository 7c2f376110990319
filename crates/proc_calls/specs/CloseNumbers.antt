-- Which numbers of a slot are closed with others (close(2)).
use Rattle.std.specs.Prelude.{ℕ, Bool, true, false, List, filter, Option, Some, None}
use Rattle.std.specs.List.{range_with_len}
use Rattle.fd_table.specs.declared.open.Descriptor.{Descriptor}
use Rattle.fd_table.specs.Shared.{Table, descriptor_at}
use Rattle.proc_calls.specs.declared.closing.Numbers.{Numbers}
use Rattle.proc_calls.specs.declared.closing.Numbers.TheVariants.{Open, OnExec}

-- a number that is open is one of these
abbrev pub is_one_of : Numbers → Option Descriptor → Bool
is_one_of numbers None = false
is_one_of Open (Some d) = true
is_one_of OnExec (Some d) = d.on_exec

-- those of a slot from a number on, in rising order
abbrev pub numbers_from : Numbers → Table → ℕ → ℕ → ℕ → List ℕ
numbers_from numbers table slot from count = filter (λ fd. is_one_of numbers (descriptor_at table slot fd)) (range_with_len from count)
