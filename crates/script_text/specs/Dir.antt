-- The calls on directories, as their words give them; none where the words are bad.
use Rattle.std.specs.Prelude.{ℕ, List, Option, if◌then◌else◌, codes}
use Rattle.std.specs.Str.{bytes_eq}
use Rattle.call_words.specs.declared.call.Call.{Call}
use Rattle.call_words.specs.declared.call.Call.TheVariants as call
use Rattle.script_text.specs.Paths.{path_of}
use Rattle.script_text.specs.Values.{from_of, mode_of}
use Rattle.script_text.specs.Args.{with_one, with_two}
use Rattle.script_text.specs.Attr.{attr_call_of}

-- `chdir PATH`
abbrev pub chdir_of : List (List ℕ) → Option Call
chdir_of ws = with_one path_of (λ p. call.Chdir p) ws

-- `mkdir PATH MODE`
abbrev pub mkdir_of : List (List ℕ) → Option Call
mkdir_of ws = with_two path_of mode_of (λ p m. call.Mkdir p m) ws

-- `rmdir PATH`
abbrev pub rmdir_of : List (List ℕ) → Option Call
rmdir_of ws = with_one path_of (λ p. call.Rmdir p) ws

-- `unlink PATH`
abbrev pub unlink_of : List (List ℕ) → Option Call
unlink_of ws = with_one path_of (λ p. call.Unlink p) ws

-- `list PATH FROM`
abbrev pub list_of : List (List ℕ) → Option Call
list_of ws = with_two path_of from_of (λ p k. call.List p k) ws

-- a call on directories: its name and its words, or one of the next groups
unfoldable pub dir_call_of : List ℕ → List (List ℕ) → Option Call
dir_call_of w ws =
    if bytes_eq w (codes "chdir") then chdir_of ws
    else if bytes_eq w (codes "mkdir") then mkdir_of ws
    else if bytes_eq w (codes "rmdir") then rmdir_of ws
    else if bytes_eq w (codes "unlink") then unlink_of ws
    else if bytes_eq w (codes "list") then list_of ws
    else attr_call_of w ws
