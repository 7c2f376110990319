use Rattle.std.proofs.Common.{◌≡◌, ◌+◌, ◌*◌, ◌≤◌, ◌++◌, eqb, length, take, map, filter}
use Rattle.std.specs.List.{join_with_byte}
use Rattle.arrayvec.specs.ArrayVec.{array_vec_len}
use Rattle.termios_core.specs.Flags.{word, is_on}
use Rattle.termios_core.specs.Text.{comma}
use Rattle.termios_core.proofs.print.push_flags.Given as goal

-- the words of the flags so far are written
abbrev pub invariant-loop-flag : goal.invariant-loop-flag
invariant-loop-flag l = record {
  text : l.out.items ≡ l.fn.out.items ++ join_with_byte comma (map word (filter (is_on l.flags) (take l.flag-index l.candidates)));
  none : l.none_yet ≡ eqb (length (filter (is_on l.flags) (take l.flag-index l.candidates))) 0;
  room : array_vec_len l.out ≤ array_vec_len l.fn.out + 8 * l.flag-index;
}
