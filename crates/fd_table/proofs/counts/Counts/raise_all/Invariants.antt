use Rattle.std.proofs.Common.{◌≡◌, ℕ, ◌+◌, length, take, count_by, slice_index}
use Rattle.fd_table.specs.Shared.{refers}
use Rattle.fd_table.proofs.counts.Counts.raise_all.Given as goal

-- the numbers so far are counted
abbrev pub invariant-loop-descriptor : goal.invariant-loop-descriptor
invariant-loop-descriptor l =
    (length l.self ≡ length l.fn.self)
    × ((entry : ℕ) → slice_index l.self entry ≡ slice_index l.fn.self entry + count_by (refers entry) (take l.descriptor-index l.row))
