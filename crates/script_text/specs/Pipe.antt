-- The calls on pipes, as their words give them; none where the words are bad.
use Rattle.std.specs.Prelude.{ℕ, List, Option, if◌then◌else◌, codes}
use Rattle.std.specs.Str.{bytes_eq}
use Rattle.call_words.specs.declared.call.Call.{Call}
use Rattle.call_words.specs.declared.call.Call.TheVariants as call
use Rattle.script_text.specs.Args.{alone}
use Rattle.script_text.specs.Proc.{proc_call_of}

-- `pipe`
abbrev pub pipe_of : List (List ℕ) → Option Call
pipe_of ws = alone call.Pipe ws

-- a call on pipes: its name and its words, or one of the next groups
unfoldable pub pipe_call_of : List ℕ → List (List ℕ) → Option Call
pipe_call_of w ws =
    if bytes_eq w (codes "pipe") then pipe_of ws
    else proc_call_of w ws
