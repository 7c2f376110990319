use Rattle.std.proofs.Common.{◌≡◌, ◌++◌, take, drop, map}
use Rattle.proc_table.specs.Endings.{adopt_in}
use Rattle.proc_table.proofs.lookup.adopt_all.Given as goal

-- the slots so far are changed
abbrev pub invariant-loop-place : goal.invariant-loop-place
invariant-loop-place l = l.places ≡ map (adopt_in l.parent) (take l.place-index l.fn.places) ++ drop l.place-index l.fn.places
