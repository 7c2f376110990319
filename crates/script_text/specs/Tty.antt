-- The calls on terminal lines, as their words give them; none where the words are bad.
use Rattle.std.specs.Prelude.{ℕ, List, Option, Some, None, if◌then◌else◌, codes}
use Rattle.std.specs.Str.{bytes_eq}
use Rattle.termios_core.specs.Reading.{termios_of}
use Rattle.call_words.specs.declared.tty.When.{When}
use Rattle.call_words.specs.declared.tty.When.TheVariants as when
use Rattle.call_words.specs.declared.tty.WhichQueue.{WhichQueue}
use Rattle.call_words.specs.declared.tty.WhichQueue.TheVariants as queue
use Rattle.call_words.specs.declared.call.Call.{Call}
use Rattle.call_words.specs.declared.call.Call.TheVariants as call
use Rattle.script_text.specs.Paths.{path_of}
use Rattle.script_text.specs.Values.{fd_of, pid_of}
use Rattle.script_text.specs.Args.{with_one, with_three, with_two}

-- when new settings of a line act (tcsetattr(3))
abbrev pub when_of : List ℕ → Option When
when_of w =
    if bytes_eq w (codes "now") then Some when.Now
    else if bytes_eq w (codes "flush") then Some when.Flush
    else None

abbrev pub when_word : When → List ℕ
when_word when.Now = codes "now"
when_word when.Flush = codes "flush"

-- which queues of a line are emptied (tcflush(3))
abbrev pub queue_of : List ℕ → Option WhichQueue
queue_of w =
    if bytes_eq w (codes "in") then Some queue.In
    else if bytes_eq w (codes "out") then Some queue.Out
    else if bytes_eq w (codes "both") then Some queue.Both
    else None

abbrev pub queue_word : WhichQueue → List ℕ
queue_word queue.In = codes "in"
queue_word queue.Out = codes "out"
queue_word queue.Both = codes "both"

-- `setctty FD`
abbrev pub setctty_of : List (List ℕ) → Option Call
setctty_of ws = with_one fd_of (λ n. call.SetCtty n) ws

-- `tcgetattr FD`
abbrev pub tcgetattr_of : List (List ℕ) → Option Call
tcgetattr_of ws = with_one fd_of (λ n. call.TcGetAttr n) ws

-- `tcsetattr FD WHEN TERMIOS`
abbrev pub tcsetattr_of : List (List ℕ) → Option Call
tcsetattr_of ws = with_three fd_of when_of termios_of (λ n m t. call.TcSetAttr n m t) ws

-- `tcflush FD WHICH`
abbrev pub tcflush_of : List (List ℕ) → Option Call
tcflush_of ws = with_two fd_of queue_of (λ n q. call.TcFlush n q) ws

-- `tcdrain FD`
abbrev pub tcdrain_of : List (List ℕ) → Option Call
tcdrain_of ws = with_one fd_of (λ n. call.TcDrain n) ws

-- `tcsetpgrp FD GROUP`
abbrev pub tcsetpgrp_of : List (List ℕ) → Option Call
tcsetpgrp_of ws = with_two fd_of pid_of (λ n g. call.TcSetPgrp n g) ws

-- `tcgetpgrp FD`
abbrev pub tcgetpgrp_of : List (List ℕ) → Option Call
tcgetpgrp_of ws = with_one fd_of (λ n. call.TcGetPgrp n) ws

-- `fdname FD`
abbrev pub fdname_of : List (List ℕ) → Option Call
fdname_of ws = with_one fd_of (λ n. call.FdName n) ws

-- `revoke PATH`
abbrev pub revoke_of : List (List ℕ) → Option Call
revoke_of ws = with_one path_of (λ p. call.Revoke p) ws

-- a call on terminal lines: its name and its words
unfoldable pub tty_call_of : List ℕ → List (List ℕ) → Option Call
tty_call_of w ws =
    if bytes_eq w (codes "setctty") then setctty_of ws
    else if bytes_eq w (codes "tcgetattr") then tcgetattr_of ws
    else if bytes_eq w (codes "tcsetattr") then tcsetattr_of ws
    else if bytes_eq w (codes "tcflush") then tcflush_of ws
    else if bytes_eq w (codes "tcdrain") then tcdrain_of ws
    else if bytes_eq w (codes "tcsetpgrp") then tcsetpgrp_of ws
    else if bytes_eq w (codes "tcgetpgrp") then tcgetpgrp_of ws
    else if bytes_eq w (codes "fdname") then fdname_of ws
    else if bytes_eq w (codes "revoke") then revoke_of ws
    else None
