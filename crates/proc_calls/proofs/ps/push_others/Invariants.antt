use Rattle.std.proofs.Common.{◌≡◌, ◌+◌, ◌*◌, ◌≤◌, ◌++◌, length, take}
use Rattle.std.specs.Prelude.{All}
use Rattle.proc_calls.specs.PsTexts.{text_at, texts_after}
use Rattle.proc_calls.proofs.ps.push_others.Given as goal

-- the processes so far are told of
abbrev pub invariant-loop-slot : goal.invariant-loop-slot
invariant-loop-slot l = record {
  bytes : l.out.items ≡ l.fn.out.items ++ texts_after l.procs (take l.slot-index l.slots);
  len : length l.out.items ≤ length l.fn.out.items + 70 * l.slot-index;
  most : All (λ slot. length (text_at l.procs slot) ≤ 69) (take l.slot-index l.slots);
}
