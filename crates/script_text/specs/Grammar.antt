-- The grammar of event lines. For each event there are its fields in order, each with its value,
-- and for each kind of field the words that say a value. Reading and printing share it: a call that
-- joins adds a case to `call_fields`, and a kind of field where it needs one.
use Rattle.std.specs.Prelude.{◌≡◌, ℕ, ◌^◌, ◌<◌, ◌≤◌, Bool, true, ◌&&◌, ◌||◌, nat_le, if◌then◌else◌, List, [], ◌∷◌, length, Some, codes}
use Rattle.std.specs.List.{AllByRecursion, list_all}
use Rattle.std.specs.Str.{byte}
use Rattle.std.specs.Fmt.{decimal}
use Rattle.label_core.specs.declared.element.Element.{Element}
use Rattle.label_core.specs.Element.{IsElement}
use Rattle.label_core.specs.Subject.{Parts, IsSubject}
use Rattle.label_core.specs.Text.{element_text, subject_text}
use Rattle.acl_core.specs.declared.entry.Entry.{Entry}
use Rattle.acl_core.specs.declared.cred.TheConstants.{MOST_GROUPS}
use Rattle.acl_core.specs.Text.{list_text, HasText}
use Rattle.termios_core.specs.declared.termios.Termios.{Termios}
use Rattle.termios_core.specs.Termios.{HasBytes}
use Rattle.termios_core.specs.Text.{termios_text}
use Rattle.termios_core.specs.Reading.{termios_of}
use Rattle.sys_types.specs.declared.sig.Sig.{Sig}
use Rattle.sys_types.specs.Signals.{sig_word}
use Rattle.sys_types.specs.declared.limits.TheConstants.{SLOTS, LINES, SCRIPT_LINE_BYTES}
use Rattle.sys_types.specs.declared.limits.TheConstants.{PIECE_BYTES, PATH_TEXT_BYTES}
use Rattle.call_words.specs.declared.open.Access.{Access}
use Rattle.call_words.specs.declared.open.OpenFlags.{OpenFlags}
use Rattle.call_words.specs.declared.call.Call.{Call}
use Rattle.call_words.specs.declared.call.Call.TheVariants as call
use Rattle.call_words.specs.declared.attr.WhichList.{WhichList}
use Rattle.call_words.specs.declared.proc.WaitFlags.{WaitFlags}
use Rattle.call_words.specs.declared.signal.To.{To}
use Rattle.call_words.specs.declared.signal.To.TheVariants as to
use Rattle.call_words.specs.declared.signal.Action.{Action}
use Rattle.call_words.specs.declared.tty.When.{When}
use Rattle.call_words.specs.declared.tty.WhichQueue.{WhichQueue}
use Rattle.call_words.specs.declared.event.Event.{Event}
use Rattle.call_words.specs.declared.event.Event.TheVariants as event
use Rattle.script_text.specs.Words.{words, bytes_of_word, hex_word}
use Rattle.script_text.specs.Paths.{path_of, path_word}
use Rattle.script_text.specs.Values.{slot_of, line_of, fd_of, status_of, pid_of, max_of, take_max_of, from_of, mode_of, access_of, flags_of, no_flags}
use Rattle.script_text.specs.Values.{default_mode, line_word, mode_word, access_word, flags_word}
use Rattle.script_text.specs.Rights.{id_of, groups_of, which_of, entries_of, label_of, subject_label_of, which_word}
use Rattle.script_text.specs.Proc.{wait_flags_of, no_wait_flags, wait_flags_word}
use Rattle.script_text.specs.Signal.{signal_of, action_of, target_of, action_word, target_word}
use Rattle.script_text.specs.Tty.{when_of, queue_of, when_word, queue_word}
use Rattle.call_words.specs.Groups.{groups_word}
use Rattle.script_text.specs.Reading.{arrivals}

pub data Field : Type 0 where
  -- the name of a call or of an event
  name : List ℕ → Field
  slot : ℕ → Field
  line : ℕ → Field
  path : List ℕ → Field
  access : Access → Field
  -- of an open, where they may be absent
  flags : OpenFlags → Field
  open_mode : ℕ → Field
  mode : ℕ → Field
  fd : ℕ → Field
  -- the most bytes of a read, and of a taking
  max : ℕ → Field
  take_max : ℕ → Field
  -- how many names a listing passes over
  from : ℕ → Field
  bytes : List ℕ → Field
  -- a user or a group, and the supplementary groups
  id : ℕ → Field
  groups : List ℕ → Field
  -- which list of a node, and its entries
  which : WhichList → Field
  entries : List Entry → Field
  -- the label of a node, and of a process
  element : Element → Field
  subject : Parts → Field
  -- a process or a group of processes, the status of an exit, and the flags of a wait, where they may be absent
  pid : ℕ → Field
  status : ℕ → Field
  wait_flags : WaitFlags → Field
  -- the arguments of a child, where they may be absent
  note : List ℕ → Field
  -- a signal, to whom it goes, and what is done at it
  signal : Sig → Field
  target : To → Field
  action : Action → Field
  -- when settings of a line act, which queues are emptied, and the settings
  when : When → Field
  queue : WhichQueue → Field
  termios : Termios → Field

-- the word says the field's value
abbrev pub Says : Field → List ℕ → Type 0
Says (name n) w = w ≡ n
Says (slot n) w = slot_of w ≡ Some n
Says (line n) w = line_of w ≡ Some n
Says (path p) w = path_of w ≡ Some p
Says (access a) w = access_of w ≡ Some a
Says (flags f) w = flags_of w ≡ Some f
Says (open_mode m) w = mode_of w ≡ Some m
Says (mode m) w = mode_of w ≡ Some m
Says (fd n) w = fd_of w ≡ Some n
Says (max n) w = max_of w ≡ Some n
Says (take_max n) w = take_max_of w ≡ Some n
Says (from n) w = from_of w ≡ Some n
Says (bytes bs) w = bytes_of_word w ≡ Some bs
Says (id n) w = id_of w ≡ Some n
Says (groups ns) w = groups_of w ≡ Some ns
Says (which l) w = which_of w ≡ Some l
Says (entries es) w = entries_of w ≡ Some es
Says (element e) w = label_of w ≡ Some e
Says (subject s) w = subject_label_of w ≡ Some s
Says (pid n) w = pid_of w ≡ Some n
Says (status n) w = status_of w ≡ Some n
Says (wait_flags f) w = wait_flags_of w ≡ Some f
Says (note bs) w = bytes_of_word w ≡ Some bs
Says (signal s) w = signal_of w ≡ Some s
Says (target t) w = target_of w ≡ Some t
Says (action a) w = action_of w ≡ Some a
Says (when a) w = when_of w ≡ Some a
Says (queue q) w = queue_of w ≡ Some q
Says (termios t) w = termios_of w ≡ Some t

-- where no word says it, the field has this value; other fields cannot be absent
abbrev pub IsUnsaid : Field → Type 0
IsUnsaid (name n) = ⊥
IsUnsaid (slot n) = ⊥
IsUnsaid (line n) = ⊥
IsUnsaid (path p) = ⊥
IsUnsaid (access a) = ⊥
IsUnsaid (flags f) = f ≡ no_flags
IsUnsaid (open_mode m) = m ≡ default_mode
IsUnsaid (mode m) = ⊥
IsUnsaid (fd n) = ⊥
IsUnsaid (max n) = ⊥
IsUnsaid (take_max n) = ⊥
IsUnsaid (from n) = ⊥
IsUnsaid (bytes bs) = ⊥
IsUnsaid (id n) = ⊥
IsUnsaid (groups ns) = ⊥
IsUnsaid (which l) = ⊥
IsUnsaid (entries es) = ⊥
IsUnsaid (element e) = ⊥
IsUnsaid (subject s) = ⊥
IsUnsaid (pid n) = ⊥
IsUnsaid (status n) = ⊥
IsUnsaid (wait_flags f) = f ≡ no_wait_flags
IsUnsaid (note bs) = bs ≡ []
IsUnsaid (signal s) = ⊥
IsUnsaid (target t) = ⊥
IsUnsaid (action a) = ⊥
IsUnsaid (when a) = ⊥
IsUnsaid (queue q) = ⊥
IsUnsaid (termios t) = ⊥

-- names have lower-case letters and digits
abbrev pub is_letter : ℕ → Bool
is_letter b = (nat_le (byte "a") b && nat_le b (byte "z")) || (nat_le (byte "0") b && nat_le b (byte "9"))

-- the values that a field can have
abbrev pub IsByte : ℕ → Type 0
IsByte b = b < 2 ^ 8

abbrev pub IsId : ℕ → Type 0
IsId n = n < 2 ^ 32

abbrev pub FitsTarget : To → Type 0
FitsTarget (to.Pid n) = IsId n
FitsTarget (to.Group n) = IsId n

abbrev pub Fits : Field → Type 0
Fits (name n) = list_all is_letter n ≡ true
Fits (slot n) = n < SLOTS
Fits (line n) = n < LINES
Fits (path p) = (length p ≤ PATH_TEXT_BYTES) × AllByRecursion IsByte p
Fits (access a) = Unit {0}
Fits (flags f) = Unit {0}
Fits (open_mode m) = m < 8 ^ 3
Fits (mode m) = m < 8 ^ 3
Fits (fd n) = n < 2 ^ 8
Fits (max n) = n < 2 ^ 16
Fits (take_max n) = n ≤ PIECE_BYTES
Fits (from n) = n < 2 ^ 16
Fits (bytes bs) = (length bs ≤ PIECE_BYTES) × AllByRecursion IsByte bs
Fits (id n) = IsId n
Fits (groups ns) = (length ns ≤ MOST_GROUPS) × AllByRecursion IsId ns
Fits (which l) = Unit {0}
Fits (entries es) = HasText es
Fits (element e) = IsElement e
Fits (subject s) = IsSubject s
Fits (pid n) = IsId n
Fits (status n) = n < 2 ^ 8
Fits (wait_flags f) = Unit {0}
Fits (note bs) = (length bs ≤ PIECE_BYTES) × AllByRecursion IsByte bs
Fits (signal s) = Unit {0}
Fits (target t) = FitsTarget t
Fits (action a) = Unit {0}
Fits (when a) = Unit {0}
Fits (queue q) = Unit {0}
Fits (termios t) = HasBytes t

-- the word that is printed of a field
abbrev pub word_of : Field → List ℕ
word_of (name n) = n
word_of (slot n) = decimal n
word_of (line n) = line_word n
word_of (path p) = path_word p
word_of (access a) = access_word a
word_of (flags f) = flags_word f
word_of (open_mode m) = mode_word m
word_of (mode m) = mode_word m
word_of (fd n) = decimal n
word_of (max n) = decimal n
word_of (take_max n) = decimal n
word_of (from n) = decimal n
word_of (bytes bs) = hex_word bs
word_of (id n) = decimal n
word_of (groups ns) = groups_word ns
word_of (which l) = which_word l
word_of (entries es) = list_text es
word_of (element e) = element_text e
word_of (subject s) = subject_text s
word_of (pid n) = decimal n
word_of (status n) = decimal n
word_of (wait_flags f) = wait_flags_word f
word_of (note bs) = hex_word bs
word_of (signal s) = sig_word s
word_of (target t) = target_word t
word_of (action a) = action_word a
word_of (when a) = when_word a
word_of (queue q) = queue_word q
word_of (termios t) = termios_text t

-- the words say the fields in order; those that may be absent are so from the right
abbrev pub SayAll : List Field → List (List ℕ) → Type 0
SayAll [] [] = Unit {0}
SayAll [] (w ∷ ws) = ⊥
SayAll (f ∷ fs) [] = IsUnsaid f × SayAll fs []
SayAll (f ∷ fs) (w ∷ ws) = Says f w × SayAll fs ws

-- the fields of a call
abbrev pub call_fields : Call → List Field
call_fields (call.Open p a f m) = name (codes "open") ∷ path p ∷ access a ∷ flags f ∷ open_mode m ∷ []
call_fields (call.Close n) = name (codes "close") ∷ fd n ∷ []
call_fields (call.Dup n) = name (codes "dup") ∷ fd n ∷ []
call_fields (call.Dup2 n m) = name (codes "dup2") ∷ fd n ∷ fd m ∷ []
call_fields (call.Read n m) = name (codes "read") ∷ fd n ∷ max m ∷ []
call_fields (call.Write n bs) = name (codes "write") ∷ fd n ∷ bytes bs ∷ []
call_fields (call.Chdir p) = name (codes "chdir") ∷ path p ∷ []
call_fields (call.Mkdir p m) = name (codes "mkdir") ∷ path p ∷ mode m ∷ []
call_fields (call.Rmdir p) = name (codes "rmdir") ∷ path p ∷ []
call_fields (call.Unlink p) = name (codes "unlink") ∷ path p ∷ []
call_fields (call.List p k) = name (codes "list") ∷ path p ∷ from k ∷ []
call_fields (call.Info p) = name (codes "info") ∷ path p ∷ []
call_fields (call.Chmod p m) = name (codes "chmod") ∷ path p ∷ mode m ∷ []
call_fields (call.Chown p u g) = name (codes "chown") ∷ path p ∷ id u ∷ id g ∷ []
call_fields (call.SetAcl p l es) = name (codes "setacl") ∷ path p ∷ which l ∷ entries es ∷ []
call_fields (call.GetAcl p l) = name (codes "getacl") ∷ path p ∷ which l ∷ []
call_fields (call.SetLabel p e) = name (codes "setlabel") ∷ path p ∷ element e ∷ []
call_fields (call.GetLabel p) = name (codes "getlabel") ∷ path p ∷ []
call_fields (call.SetProcLabel s) = name (codes "setproclabel") ∷ subject s ∷ []
call_fields call.Ident = name (codes "ident") ∷ []
call_fields (call.SetCred c) = name (codes "setcred") ∷ id c.uid ∷ id c.gid ∷ groups c.groups.items ∷ []
call_fields (call.Umask m) = name (codes "umask") ∷ mode m ∷ []
call_fields call.Pipe = name (codes "pipe") ∷ []
call_fields call.Begin = name (codes "begin") ∷ []
call_fields (call.Fork bs) = name (codes "fork") ∷ note bs ∷ []
call_fields (call.Exec p bs) = name (codes "exec") ∷ path p ∷ bytes bs ∷ []
call_fields (call.Exit n) = name (codes "exit") ∷ status n ∷ []
call_fields (call.Wait n f) = name (codes "wait") ∷ pid n ∷ wait_flags f ∷ []
call_fields call.SetSid = name (codes "setsid") ∷ []
call_fields (call.SetPgid n g) = name (codes "setpgid") ∷ pid n ∷ pid g ∷ []
call_fields call.Ps = name (codes "ps") ∷ []
call_fields call.Halt = name (codes "halt") ∷ []
call_fields (call.Kill t s) = name (codes "kill") ∷ target t ∷ signal s ∷ []
call_fields (call.SigSet s a) = name (codes "sigset") ∷ signal s ∷ action a ∷ []
call_fields call.SigTake = name (codes "sigtake") ∷ []
call_fields call.Pause = name (codes "pause") ∷ []
call_fields (call.SetCtty n) = name (codes "setctty") ∷ fd n ∷ []
call_fields (call.TcGetAttr n) = name (codes "tcgetattr") ∷ fd n ∷ []
call_fields (call.TcSetAttr n m t) = name (codes "tcsetattr") ∷ fd n ∷ when m ∷ termios t ∷ []
call_fields (call.TcFlush n q) = name (codes "tcflush") ∷ fd n ∷ queue q ∷ []
call_fields (call.TcDrain n) = name (codes "tcdrain") ∷ fd n ∷ []
call_fields (call.TcSetPgrp n g) = name (codes "tcsetpgrp") ∷ fd n ∷ pid g ∷ []
call_fields (call.TcGetPgrp n) = name (codes "tcgetpgrp") ∷ fd n ∷ []
call_fields (call.FdName n) = name (codes "fdname") ∷ fd n ∷ []
call_fields (call.Revoke p) = name (codes "revoke") ∷ path p ∷ []

-- the fields of the arrival of bytes at a line
abbrev pub in_fields : ℕ → List ℕ → List Field
in_fields n bs = name (codes "in") ∷ line n ∷ bytes bs ∷ []

-- the fields of an event
abbrev pub fields : Event → List Field
fields (event.Call n c) = slot n ∷ call_fields c
fields (event.Again n) = slot n ∷ name (codes "again") ∷ []
fields (event.Byte n b) = in_fields n (b ∷ [])
fields (event.Carrier n up) = name (if up then codes "up" else codes "down") ∷ line n ∷ []
fields (event.Take n m) = name (codes "take") ∷ line n ∷ take_max m ∷ []
fields (event.Ended n) = name (codes "end") ∷ line n ∷ []

-- the words ask these events: one with its fields, but no taking of no bytes, or the arrival of
-- some bytes at a line
pub data Ask (ws : List (List ℕ)) (es : List Event) : Type 0 where
  asks_call : (n : ℕ) (c : Call) → es ≡ event.Call n c ∷ [] → SayAll (fields (event.Call n c)) ws → Ask ws es
  asks_again : (n : ℕ) → es ≡ event.Again n ∷ [] → SayAll (fields (event.Again n)) ws → Ask ws es
  asks_carrier : (n : ℕ) (up : Bool) → es ≡ event.Carrier n up ∷ [] → SayAll (fields (event.Carrier n up)) ws → Ask ws es
  asks_take : (n m : ℕ) → 0 < m → es ≡ event.Take n m ∷ [] → SayAll (fields (event.Take n m)) ws → Ask ws es
  asks_end : (n : ℕ) → es ≡ event.Ended n ∷ [] → SayAll (fields (event.Ended n)) ws → Ask ws es
  asks_bytes : (n : ℕ) (bs : List ℕ) → 0 < length bs → es ≡ arrivals n bs → SayAll (in_fields n bs) ws → Ask ws es

-- the line, of at most 4,096 bytes, asks these events
pub record IsLine (text : List ℕ) (es : List Event) : Type 0 where
  pub short : length text ≤ SCRIPT_LINE_BYTES
  pub asks : Ask (words text) es
