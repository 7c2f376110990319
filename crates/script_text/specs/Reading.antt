-- The events of a line, by functions that compute; none where the line is bad. The grammar of
-- `Grammar` says the same.
use Rattle.std.specs.Prelude.{ℕ, Bool, true, false, not, ◌==◌, List, [], ◌∷◌, length, map, Option, Some, None, nat_le, if◌then◌else◌, option_map}
use Rattle.std.specs.Prelude.{option_and_then, codes}
use Rattle.std.specs.Str.{bytes_eq}
use Rattle.sys_types.specs.declared.limits.TheConstants.{SCRIPT_LINE_BYTES}
use Rattle.call_words.specs.declared.event.Event.{Event}
use Rattle.call_words.specs.declared.event.Event.TheVariants as event
use Rattle.script_text.specs.Words.{words, only_if, bytes_of_word}
use Rattle.script_text.specs.Values.{slot_of, line_of, take_max_of}
use Rattle.script_text.specs.Args.{alone, with_one}
use Rattle.script_text.specs.Calls.{call_of}

-- for each byte its arrival at a line
abbrev pub arrivals : ℕ → List ℕ → List Event
arrivals line bs = map (λ b. event.Byte line b) bs

-- `in ttyN HEX`: 1 to 512 bytes, an event for each
abbrev pub in_of : List (List ℕ) → Option (List Event)
in_of (tty ∷ bytes ∷ []) =
    option_and_then (λ n. option_and_then (λ bs. only_if (not (length bs == 0)) (Some (arrivals n bs))) (bytes_of_word bytes)) (line_of tty)
in_of _ = None

-- `take ttyN MAX`: MAX is 1 to 512
abbrev pub take_of : List (List ℕ) → Option (List Event)
take_of (tty ∷ max ∷ []) = option_and_then (λ n. option_and_then (λ m. only_if (not (m == 0)) (Some (event.Take n m ∷ []))) (take_max_of max)) (line_of tty)
take_of _ = None

-- `up ttyN` and `down ttyN`: the carrier of the line comes, or is lost
abbrev pub carrier_of : Bool → List (List ℕ) → Option (List Event)
carrier_of up ws = with_one line_of (λ n. event.Carrier n up ∷ []) ws

-- `end ttyN`: the other side of the line is gone for good
abbrev pub end_of : List (List ℕ) → Option (List Event)
end_of ws = with_one line_of (λ n. event.Ended n ∷ []) ws

-- what a slot's line asks: `again` alone, or a call
abbrev pub slot_events_of : ℕ → List (List ℕ) → Option (List Event)
slot_events_of slot [] = None
slot_events_of slot (w ∷ ws) =
    if bytes_eq w (codes "again") then alone (event.Again slot ∷ []) ws
    else option_map (λ c. event.Call slot c ∷ []) (call_of w ws)

-- `SLOT again`, or `SLOT CALL`
abbrev pub slot_line_of : List ℕ → List (List ℕ) → Option (List Event)
slot_line_of slot ws = option_and_then (λ n. slot_events_of n ws) (slot_of slot)

-- a line of one event, by its first word
abbrev pub one_of : List ℕ → List (List ℕ) → Option (List Event)
one_of w ws =
    if bytes_eq w (codes "take") then take_of ws
    else if bytes_eq w (codes "up") then carrier_of true ws
    else if bytes_eq w (codes "down") then carrier_of false ws
    else if bytes_eq w (codes "end") then end_of ws
    else slot_line_of w ws

abbrev pub events_of_words : List (List ℕ) → Option (List Event)
events_of_words [] = None
events_of_words (w ∷ ws) = if bytes_eq w (codes "in") then in_of ws else one_of w ws

-- the events of a line of at most 4,096 bytes; any other line is bad
unfoldable pub events_of_line : List ℕ → Option (List Event)
events_of_line line = only_if (nat_le (length line) SCRIPT_LINE_BYTES) (events_of_words (words line))
