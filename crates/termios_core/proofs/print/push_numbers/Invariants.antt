use Rattle.std.proofs.Common.{◌≡◌, ◌+◌, ◌*◌, ◌≤◌, ◌++◌, take, map}
use Rattle.std.specs.List.{join_with_byte}
use Rattle.std.specs.Fmt.{decimal}
use Rattle.arrayvec.specs.ArrayVec.{array_vec_len}
use Rattle.termios_core.specs.Text.{plus}
use Rattle.termios_core.proofs.print.push_numbers.Given as goal

-- the numbers so far are written
abbrev pub invariant-loop-i : goal.invariant-loop-i
invariant-loop-i l = record {
  text : l.out.items ≡ l.fn.out.items ++ join_with_byte plus (map decimal (take l.i l.numbers));
  room : array_vec_len l.out ≤ array_vec_len l.fn.out + 4 * l.i;
}
