-- The calls on reads and writes, as their words give them; none where the words are bad.
use Rattle.std.specs.Prelude.{ℕ, List, Option, if◌then◌else◌, codes}
use Rattle.std.specs.Str.{bytes_eq}
use Rattle.call_words.specs.declared.call.Call.{Call}
use Rattle.call_words.specs.declared.call.Call.TheVariants as call
use Rattle.script_text.specs.Words.{bytes_of_word}
use Rattle.script_text.specs.Values.{fd_of, max_of}
use Rattle.script_text.specs.Args.{with_two}
use Rattle.script_text.specs.Dir.{dir_call_of}

-- `read FD MAX`
abbrev pub read_of : List (List ℕ) → Option Call
read_of ws = with_two fd_of max_of (λ n m. call.Read n m) ws

-- `write FD HEX`
abbrev pub write_of : List (List ℕ) → Option Call
write_of ws = with_two fd_of bytes_of_word (λ n bs. call.Write n bs) ws

-- a call on reads and writes: its name and its words, or one of the next groups
unfoldable pub io_call_of : List ℕ → List (List ℕ) → Option Call
io_call_of w ws =
    if bytes_eq w (codes "read") then read_of ws
    else if bytes_eq w (codes "write") then write_of ws
    else dir_call_of w ws
