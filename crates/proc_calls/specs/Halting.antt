-- A halt of the system (reboot(2)).
use Rattle.std.specs.Prelude.{Bool, true}
use Rattle.call_words.specs.declared.event.Decision.{Decision}
use Rattle.call_words.specs.declared.event.Decision.TheVariants.{Answer}
use Rattle.call_words.specs.declared.event.Reply.TheVariants.{Denied}

-- whether the system is halted after a halt was decided so: it is, unless that was denied
abbrev pub halted_after : Bool → Decision → Bool
halted_after before (Answer (Denied rule)) = before
halted_after before other = true
