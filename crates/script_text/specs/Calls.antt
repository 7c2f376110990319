-- The call of a name and the words behind it, by functions that compute; none where the words are bad. The calls are in groups,
-- of which each goes on with the next.
use Rattle.std.specs.Prelude.{ℕ, List, Option}
use Rattle.call_words.specs.declared.call.Call.{Call}
use Rattle.script_text.specs.Open.{open_call_of}

-- the call of a name and the words behind it
abbrev pub call_of : List ℕ → List (List ℕ) → Option Call
call_of w ws = open_call_of w ws
