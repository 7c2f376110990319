-- The calls on processes, as their words give them; none where the words are bad.
use Rattle.std.specs.Prelude.{ℕ, true, false, ◌||◌, List, [], ◌∷◌, Option, Some, None, if◌then◌else◌, option_map, option_and_then, codes}
use Rattle.std.specs.Str.{bytes_eq}
use Rattle.call_words.specs.declared.proc.WaitFlags.{WaitFlags}
use Rattle.call_words.specs.declared.call.Call.{Call}
use Rattle.call_words.specs.declared.call.Call.TheVariants as call
use Rattle.script_text.specs.Words.{bytes_of_word}
use Rattle.script_text.specs.Paths.{path_of}
use Rattle.script_text.specs.Values.{pid_of, status_of}
use Rattle.script_text.specs.Args.{alone, with_one, with_two}
use Rattle.script_text.specs.Signal.{signal_call_of}

-- no flags of a wait (wait4(2))
abbrev pub no_wait_flags : WaitFlags
no_wait_flags = record { no_hang = false; untraced = false }

-- a dash for no flags, or the letters n and u, each at most once, in either order
abbrev pub wait_flags_of : List ℕ → Option WaitFlags
wait_flags_of w =
    if bytes_eq w (codes "-") then Some no_wait_flags
    else if bytes_eq w (codes "n") then Some (record { no_hang = true; untraced = false })
    else if bytes_eq w (codes "u") then Some (record { no_hang = false; untraced = true })
    else if bytes_eq w (codes "nu") || bytes_eq w (codes "un") then Some (record { no_hang = true; untraced = true })
    else None

-- the word that is printed of them, with n before u
abbrev pub wait_flags_word : WaitFlags → List ℕ
wait_flags_word f =
    if f.no_hang then (if f.untraced then codes "nu" else codes "n")
    else if f.untraced then codes "u"
    else codes "-"

-- `begin`
abbrev pub begin_of : List (List ℕ) → Option Call
begin_of ws = alone call.Begin ws

-- `fork HEX`, where HEX may be absent
abbrev pub fork_of : List (List ℕ) → Option Call
fork_of [] = Some (call.Fork [])
fork_of (note ∷ []) = option_map (λ bs. call.Fork bs) (bytes_of_word note)
fork_of _ = None

-- `exec PATH HEX`
abbrev pub exec_of : List (List ℕ) → Option Call
exec_of ws = with_two path_of bytes_of_word (λ p bs. call.Exec p bs) ws

-- `exit N`
abbrev pub exit_of : List (List ℕ) → Option Call
exit_of ws = with_one status_of (λ n. call.Exit n) ws

-- a wait of these words, where they are all good
abbrev pub wait_with : List ℕ → Option WaitFlags → Option Call
wait_with pid flags = option_and_then (λ n. option_map (λ f. call.Wait n f) flags) (pid_of pid)

-- `wait PID FLAGS`, where FLAGS may be absent
abbrev pub wait_of : List (List ℕ) → Option Call
wait_of (pid ∷ []) = wait_with pid (Some no_wait_flags)
wait_of (pid ∷ flags ∷ []) = wait_with pid (wait_flags_of flags)
wait_of _ = None

-- `setsid`
abbrev pub setsid_of : List (List ℕ) → Option Call
setsid_of ws = alone call.SetSid ws

-- `setpgid PID GROUP`
abbrev pub setpgid_of : List (List ℕ) → Option Call
setpgid_of ws = with_two pid_of pid_of (λ n g. call.SetPgid n g) ws

-- `ps`
abbrev pub ps_of : List (List ℕ) → Option Call
ps_of ws = alone call.Ps ws

-- `halt`
abbrev pub halt_of : List (List ℕ) → Option Call
halt_of ws = alone call.Halt ws

-- a call on processes: its name and its words, or one of the next groups
unfoldable pub proc_call_of : List ℕ → List (List ℕ) → Option Call
proc_call_of w ws =
    if bytes_eq w (codes "begin") then begin_of ws
    else if bytes_eq w (codes "fork") then fork_of ws
    else if bytes_eq w (codes "exec") then exec_of ws
    else if bytes_eq w (codes "exit") then exit_of ws
    else if bytes_eq w (codes "wait") then wait_of ws
    else if bytes_eq w (codes "setsid") then setsid_of ws
    else if bytes_eq w (codes "setpgid") then setpgid_of ws
    else if bytes_eq w (codes "ps") then ps_of ws
    else if bytes_eq w (codes "halt") then halt_of ws
    else signal_call_of w ws
