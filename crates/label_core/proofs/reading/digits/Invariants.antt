use Rattle.std.proofs.Common.{◌≡◌, ◌<◌, ◌^◌, drop}
use Rattle.label_core.specs.Reading.{digits_at}
use Rattle.label_core.proofs.reading.digits.Given as goal

-- the bytes that are left go on with the number so far
abbrev pub invariant-loop-i : goal.invariant-loop-i
invariant-loop-i l = record {
  value : digits_at l.kind l.most l.n (drop l.i l.bytes) ≡ digits_at l.kind l.most l.fn.n l.bytes;
  fits : l.n < 2 ^ 16;
}
