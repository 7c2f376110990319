use Rattle.std.proofs.Common.{◌≡◌, ◌+◌, ◌*◌, ◌≤◌, ◌++◌, length, take}
use Rattle.std.specs.Prelude.{flat_map}
use Rattle.script_text.specs.Paths.{byte_text}
use Rattle.script_text.proofs.push.push_escapes.Given as goal

-- the bytes so far are written
abbrev pub invariant-loop-byte : goal.invariant-loop-byte
invariant-loop-byte l = record {
  bytes : l.out.items ≡ l.fn.out.items ++ flat_map byte_text (take l.byte-index l.bytes);
  len : length l.out.items ≤ length l.fn.out.items + 3 * l.byte-index;
}
