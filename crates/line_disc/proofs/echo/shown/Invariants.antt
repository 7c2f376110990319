use Rattle.std.proofs.Common.{◌≡◌, ◌*◌, ◌≤◌, length, take}
use Rattle.line_disc.specs.Echo.{shown}
use Rattle.line_disc.proofs.echo.shown.Given as goal

abbrev pub invariant-loop-byte : goal.invariant-loop-byte
invariant-loop-byte l = record {
  shown : l.out.items ≡ shown l.termios (take l.byte-index l.byte-items);
  most : length l.out.items ≤ 2 * l.byte-index;
}
