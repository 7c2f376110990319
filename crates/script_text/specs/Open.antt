-- The calls on descriptors, as their words give them; none where the words are bad.
use Rattle.std.specs.Prelude.{ℕ, List, [], ◌∷◌, Option, Some, None, if◌then◌else◌, option_map, option_and_then, codes}
use Rattle.std.specs.Str.{bytes_eq}
use Rattle.call_words.specs.declared.open.OpenFlags.{OpenFlags}
use Rattle.call_words.specs.declared.call.Call.{Call}
use Rattle.call_words.specs.declared.call.Call.TheVariants as call
use Rattle.script_text.specs.Paths.{path_of}
use Rattle.script_text.specs.Values.{access_of, default_mode, fd_of, flags_of, mode_of, no_flags}
use Rattle.script_text.specs.Args.{with_one, with_two}
use Rattle.script_text.specs.Io.{io_call_of}

-- an open of these words, where they are all good
abbrev pub open_with : List ℕ → List ℕ → Option OpenFlags → Option ℕ → Option Call
open_with path access flags mode =
    option_and_then (λ p. option_and_then (λ a. option_and_then (λ f. option_map (λ m. call.Open p a f m) mode) flags) (access_of access)) (path_of path)

-- `open PATH ACCESS FLAGS MODE`, where FLAGS and MODE may be absent from the right
abbrev pub open_of : List (List ℕ) → Option Call
open_of (path ∷ access ∷ []) = open_with path access (Some no_flags) (Some default_mode)
open_of (path ∷ access ∷ flags ∷ []) = open_with path access (flags_of flags) (Some default_mode)
open_of (path ∷ access ∷ flags ∷ mode ∷ []) = open_with path access (flags_of flags) (mode_of mode)
open_of _ = None

-- `close FD`
abbrev pub close_of : List (List ℕ) → Option Call
close_of ws = with_one fd_of (λ n. call.Close n) ws

-- `dup FD`
abbrev pub dup_of : List (List ℕ) → Option Call
dup_of ws = with_one fd_of (λ n. call.Dup n) ws

-- `dup2 FD TO`
abbrev pub dup2_of : List (List ℕ) → Option Call
dup2_of ws = with_two fd_of fd_of (λ n m. call.Dup2 n m) ws

-- a call on descriptors: its name and its words, or one of the next groups
unfoldable pub open_call_of : List ℕ → List (List ℕ) → Option Call
open_call_of w ws =
    if bytes_eq w (codes "open") then open_of ws
    else if bytes_eq w (codes "close") then close_of ws
    else if bytes_eq w (codes "dup") then dup_of ws
    else if bytes_eq w (codes "dup2") then dup2_of ws
    else io_call_of w ws
