-- Which decisions are sleeps.
use Rattle.std.specs.Prelude.{Bool, true, false}
use Rattle.call_words.specs.declared.event.Decision.{Decision}
use Rattle.call_words.specs.declared.event.Decision.TheVariants.{Answer, Sleep, Taken, Noted}

-- a decision is a sleep
abbrev pub is_sleep : Decision → Bool
is_sleep (Sleep reason) = true
is_sleep (Answer reply) = false
is_sleep (Taken bytes) = false
is_sleep Noted = false
