-- The calls on who asks, as their words give them; none where the words are bad.
use Rattle.std.specs.Prelude.{ℕ, List, Option, if◌then◌else◌, codes}
use Rattle.std.specs.Str.{bytes_eq}
use Rattle.call_words.specs.declared.call.Call.{Call}
use Rattle.call_words.specs.declared.call.Call.TheVariants as call
use Rattle.script_text.specs.Values.{mode_of}
use Rattle.script_text.specs.Rights.{groups_of, id_of, subject_label_of}
use Rattle.script_text.specs.Args.{alone, with_one, with_three}
use Rattle.script_text.specs.Pipe.{pipe_call_of}

-- `setproclabel SUBJECT`
abbrev pub setproclabel_of : List (List ℕ) → Option Call
setproclabel_of ws = with_one subject_label_of (λ s. call.SetProcLabel s) ws

-- `ident`
abbrev pub ident_of : List (List ℕ) → Option Call
ident_of ws = alone call.Ident ws

-- `setcred UID GID GROUPS`
abbrev pub setcred_of : List (List ℕ) → Option Call
setcred_of ws = with_three id_of id_of groups_of (λ u g gs. call.SetCred (record { uid = u; gid = g; groups = record { items = gs } })) ws

-- `umask MODE`
abbrev pub umask_of : List (List ℕ) → Option Call
umask_of ws = with_one mode_of (λ m. call.Umask m) ws

-- a call on who asks: its name and its words, or one of the next groups
unfoldable pub cred_call_of : List ℕ → List (List ℕ) → Option Call
cred_call_of w ws =
    if bytes_eq w (codes "setproclabel") then setproclabel_of ws
    else if bytes_eq w (codes "ident") then ident_of ws
    else if bytes_eq w (codes "setcred") then setcred_of ws
    else if bytes_eq w (codes "umask") then umask_of ws
    else pipe_call_of w ws
