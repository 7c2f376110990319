-- Which calls may wait.
use Rattle.std.specs.Prelude.{Bool, true, false}
use Rattle.call_words.specs.declared.call.Call.{Call}
use Rattle.call_words.specs.declared.call.Call.TheVariants as call

-- The calls that may wait for something to come: a carrier, bytes or room, a child, a caught signal, the end of the output. Calls that change a line
-- sleep too, in the background; but they send a signal first, so another try changes something.
abbrev pub may_wait : Call → Bool
may_wait (call.Open path access flags mode) = true
may_wait (call.Read fd max) = true
may_wait (call.Write fd bytes) = true
may_wait (call.Wait pid flags) = true
may_wait call.Pause = true
may_wait (call.TcDrain fd) = true
may_wait _ = false
