-- The calls on what a node is, as their words give them; none where the words are bad.
use Rattle.std.specs.Prelude.{ℕ, List, Option, if◌then◌else◌, codes}
use Rattle.std.specs.Str.{bytes_eq}
use Rattle.call_words.specs.declared.call.Call.{Call}
use Rattle.call_words.specs.declared.call.Call.TheVariants as call
use Rattle.script_text.specs.Paths.{path_of}
use Rattle.script_text.specs.Values.{mode_of}
use Rattle.script_text.specs.Rights.{entries_of, id_of, label_of, which_of}
use Rattle.script_text.specs.Args.{with_one, with_three, with_two}
use Rattle.script_text.specs.Cred.{cred_call_of}

-- `info PATH`
abbrev pub info_of : List (List ℕ) → Option Call
info_of ws = with_one path_of (λ p. call.Info p) ws

-- `chmod PATH MODE`
abbrev pub chmod_of : List (List ℕ) → Option Call
chmod_of ws = with_two path_of mode_of (λ p m. call.Chmod p m) ws

-- `chown PATH UID GID`
abbrev pub chown_of : List (List ℕ) → Option Call
chown_of ws = with_three path_of id_of id_of (λ p u g. call.Chown p u g) ws

-- `setacl PATH WHICH LIST`
abbrev pub setacl_of : List (List ℕ) → Option Call
setacl_of ws = with_three path_of which_of entries_of (λ p l es. call.SetAcl p l es) ws

-- `getacl PATH WHICH`
abbrev pub getacl_of : List (List ℕ) → Option Call
getacl_of ws = with_two path_of which_of (λ p l. call.GetAcl p l) ws

-- `setlabel PATH ELEMENT`
abbrev pub setlabel_of : List (List ℕ) → Option Call
setlabel_of ws = with_two path_of label_of (λ p e. call.SetLabel p e) ws

-- `getlabel PATH`
abbrev pub getlabel_of : List (List ℕ) → Option Call
getlabel_of ws = with_one path_of (λ p. call.GetLabel p) ws

-- a call on what a node is: its name and its words, or one of the next groups
unfoldable pub attr_call_of : List ℕ → List (List ℕ) → Option Call
attr_call_of w ws =
    if bytes_eq w (codes "info") then info_of ws
    else if bytes_eq w (codes "chmod") then chmod_of ws
    else if bytes_eq w (codes "chown") then chown_of ws
    else if bytes_eq w (codes "setacl") then setacl_of ws
    else if bytes_eq w (codes "getacl") then getacl_of ws
    else if bytes_eq w (codes "setlabel") then setlabel_of ws
    else if bytes_eq w (codes "getlabel") then getlabel_of ws
    else cred_call_of w ws
