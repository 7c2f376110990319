use Rattle.std.proofs.Common.{◌≡◌}
use Rattle.line_disc.specs.Echo.{wipes}
use Rattle.line_disc.proofs.echo.erase_echo.Given as goal

abbrev pub invariant-loop-column : goal.invariant-loop-column
invariant-loop-column l = l.out.items ≡ wipes l._column
