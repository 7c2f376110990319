-- The generated load: the events that open it, and the event that each word of the generator draws. All of it is this project's own.
use Rattle.std.specs.Prelude.{ℕ, zero, suc, ◌/◌, ◌%◌, ◌==◌, false, List, [], ◌∷◌, ◌++◌, if◌then◌else◌, codes}
use Rattle.rand_pcg.specs.Lcg.{Lcg, started, increment_of}
use Rattle.rand_pcg.specs.Pcg.{multiplier_64, pcg32}
use Rattle.sys_types.specs.declared.limits.TheConstants.{RAW_LINE}
use Rattle.call_words.specs.declared.open.Access.TheVariants as access
use Rattle.call_words.specs.declared.open.OpenFlags.{OpenFlags}
use Rattle.call_words.specs.declared.call.Call.{Call}
use Rattle.call_words.specs.declared.call.Call.TheVariants as call
use Rattle.call_words.specs.declared.event.Event.{Event}
use Rattle.call_words.specs.declared.event.Event.TheVariants as event

-- the flags of an open that names none
abbrev pub no_flags : OpenFlags
no_flags = record { create = false; exclusive = false; truncate = false; append = false; nonblock = false; on_exec = false }

-- `SLOT open /dev/tty7 rw`: without flags, and with the mode 666, which is 438 in decimal
abbrev pub open_line : ℕ → Event
open_line slot = event.Call slot (call.Open (codes "/dev/tty7") access.ReadWrite no_flags 438)

-- `0 fork`
abbrev pub fork : Event
fork = event.Call 0 (call.Fork [])

-- slot 0 opens the line, and its three children share the descriptor
abbrev pub opening : List Event
opening = open_line 0 ∷ fork ∷ fork ∷ fork ∷ []

-- `revoke /dev/tty7` for the descriptor 0, and else `dup` of another one
abbrev pub revoke_or_dup : ℕ → ℕ → Call
revoke_or_dup fd other = if fd == 0 then call.Revoke (codes "/dev/tty7") else call.Dup other

-- The event that a word draws. Its last three bits say which, the next two the slot, and the next three a descriptor, where there is one.
abbrev pub drawn_event : ℕ → Event
drawn_event word =
    let slot = word / 8 % 4 in
    let fd = word / 32 % 8 in
    if word % 8 == 0 then open_line slot
    else if word % 8 == 1 then event.Call slot (call.Read fd 16)
    else if word % 8 == 2 then event.Call slot (call.Write fd (word / 256 % 256 ∷ []))
    else if word % 8 == 3 then event.Call slot (call.Close fd)
    else if word % 8 == 4 then event.Byte RAW_LINE (word / 32 % 256)
    else if word % 8 == 5 then event.Take RAW_LINE 64
    else if word % 8 == 6 then event.Again slot
    else event.Call slot (revoke_or_dup fd (word / 256 % 8))

-- so many events of the words that a generator gives
abbrev pub drawn_events : ℕ → Lcg → List Event
drawn_events zero generator = []
drawn_events (suc n) generator = drawn_event (pcg32 generator).0 ∷ drawn_events n (pcg32 generator).1

-- the generator of a load, from the state that it is given, on the stream 1
abbrev pub generator_of : ℕ → Lcg
generator_of start = started 64 multiplier_64 start (increment_of 64 1)

-- the events of a load
abbrev pub load_events : ℕ → ℕ → List Event
load_events n start = opening ++ drawn_events n (generator_of start)
