-- The calls on signals, as their words give them; none where the words are bad.
use Rattle.std.specs.Prelude.{ℕ, ◌++◌, List, take, drop, find, Option, Some, None, if◌then◌else◌, option_map, codes}
use Rattle.std.specs.Fmt.{decimal}
use Rattle.std.specs.Str.{bytes_eq}
use Rattle.sys_types.specs.declared.sig.Sig.{Sig}
use Rattle.sys_types.specs.Signals.{signals, sig_word}
use Rattle.call_words.specs.declared.signal.To.{To}
use Rattle.call_words.specs.declared.signal.To.TheVariants as to
use Rattle.call_words.specs.declared.signal.Action.{Action}
use Rattle.call_words.specs.declared.signal.Action.TheVariants as action
use Rattle.call_words.specs.declared.call.Call.{Call}
use Rattle.call_words.specs.declared.call.Call.TheVariants as call
use Rattle.script_text.specs.Values.{pid_of}
use Rattle.script_text.specs.Args.{alone, with_two}
use Rattle.script_text.specs.Tty.{tty_call_of}

-- the signal of a word of signal(3)
unfoldable pub signal_of : List ℕ → Option Sig
signal_of w = find (λ s. bytes_eq (sig_word s) w) signals

-- what a process does at a signal (sigaction(2))
abbrev pub action_of : List ℕ → Option Action
action_of w =
    if bytes_eq w (codes "default") then Some action.Normal
    else if bytes_eq w (codes "ignore") then Some action.Ignore
    else if bytes_eq w (codes "catch") then Some action.Catch
    else None

abbrev pub action_word : Action → List ℕ
action_word action.Normal = codes "default"
action_word action.Ignore = codes "ignore"
action_word action.Catch = codes "catch"

-- to whom a signal goes (kill(2)): a process by its number, or a group by its number behind a g
abbrev pub target_of : List ℕ → Option To
target_of w =
    if bytes_eq (take 1 w) (codes "g") then option_map (λ n. to.Group n) (pid_of (drop 1 w))
    else option_map (λ n. to.Pid n) (pid_of w)

abbrev pub target_word : To → List ℕ
target_word (to.Pid n) = decimal n
target_word (to.Group n) = codes "g" ++ decimal n

-- `kill PID SIG` or `kill gGROUP SIG`
abbrev pub kill_of : List (List ℕ) → Option Call
kill_of ws = with_two target_of signal_of (λ t s. call.Kill t s) ws

-- `sigset SIG ACTION`
abbrev pub sigset_of : List (List ℕ) → Option Call
sigset_of ws = with_two signal_of action_of (λ s a. call.SigSet s a) ws

-- `sigtake`
abbrev pub sigtake_of : List (List ℕ) → Option Call
sigtake_of ws = alone call.SigTake ws

-- `pause`
abbrev pub pause_of : List (List ℕ) → Option Call
pause_of ws = alone call.Pause ws

-- a call on signals: its name and its words, or one of the next groups
unfoldable pub signal_call_of : List ℕ → List (List ℕ) → Option Call
signal_call_of w ws =
    if bytes_eq w (codes "kill") then kill_of ws
    else if bytes_eq w (codes "sigset") then sigset_of ws
    else if bytes_eq w (codes "sigtake") then sigtake_of ws
    else if bytes_eq w (codes "pause") then pause_of ws
    else tty_call_of w ws
