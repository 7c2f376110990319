-- Laws of a run: of each of its events, with the state before it and its position.
use Rattle.std.specs.Prelude.{◌≡◌, ◌⊎◌, ℕ, ◌+◌, ◌<◌, ◌≤◌, Bool, true, false, List, [], ◌∷◌, ◌++◌, Option, Some, None, is_some, slice_get, ◌==◌, if◌then◌else◌}
use Rattle.std.specs.List.{list_all, list_any}
use Rattle.sys_types.specs.declared.limits.TheConstants.{SLOTS}
use Rattle.sys_types.specs.declared.sig.Sig.{Sig}
use Rattle.sys_types.specs.declared.sig.Sig.TheVariants as sig
use Rattle.sys_types.specs.declared.rules.Rule.{Rule}
use Rattle.sys_types.specs.declared.rules.Rule.TheVariants.{Size, FdMode, Dead}
use Rattle.call_words.specs.declared.call.Call.{Call}
use Rattle.call_words.specs.declared.call.Call.TheVariants as call
use Rattle.call_words.specs.declared.event.Event.{Event}
use Rattle.call_words.specs.declared.event.Event.TheVariants as event
use Rattle.call_words.specs.declared.event.Decision.{Decision}
use Rattle.call_words.specs.declared.event.How.{How}
use Rattle.call_words.specs.declared.event.Reason.{Reason}
use Rattle.call_words.specs.declared.event.Reply.TheVariants.{Num, Pair, Bytes, Denied}
use Rattle.call_words.specs.declared.event.Decision.TheVariants.{Answer, Sleep}
use Rattle.sys_types.specs.declared.node.Kind.{Kind}
use Rattle.sys_types.specs.declared.node.Kind.TheVariants as kind
use Rattle.call_words.specs.declared.open.Access.{Access}
use Rattle.call_words.specs.declared.open.OpenFlags.{OpenFlags}
use Rattle.call_words.specs.Calls.{can_read, can_write}
use Rattle.user_db.specs.declared.boot.Boot.{Boot}
use Rattle.fd_table.specs.Shared.{entry_at}
use Rattle.pipe_core.specs.Pipes.{element_at}
use Rattle.tree_model.specs.Tree.{NodeRecord, found, absent}
use Rattle.tree_model.specs.Paths.{path_at}
use Rattle.proc_table.specs.Processes.{Process, is_stopped, running_at, pending_at}
use Rattle.system_model.specs.Parts.{Path, Target, node, read_end, write_end, tty, File}
use Rattle.system_model.specs.State.{last_revoke, NamedFile, OpenFile, State, View, view}
use Rattle.system_model.specs.FileEffects.{at_offset}
use Rattle.system_model.specs.ProcessEffects.{ProcessEffect, set_pending, post}
use Rattle.system_model.specs.Effects.{Effect, on_files, on_pipes, on_lines, on_tree, on_processes, halt, change_all}
use Rattle.system_model.specs.Rows.{Given, refused, early, asleep, answer_of, first, done}
use Rattle.system_model.specs.LineEffects.{LineEffect, open_line, receive_byte, read_line, write_line, take_output, set_carrier, end_line, revoke_line}
use Rattle.system_model.specs.LineEffects.{flush_line, retune_line, set_session, set_foreground}
use Rattle.system_model.specs.Endings.{endings}
use Rattle.system_model.specs.Looks.{caller_of, file_at, holds_of, end_of, node_at, dominates_node, node_dominates, tty_path, line_of_session}
use Rattle.system_model.specs.Looks.{path_check, access_check, make_check}
use Rattle.system_model.specs.OpenCalls.{own_tty, file_for}
use Rattle.system_model.specs.PipeCalls.{pipe_file}
use Rattle.system_model.specs.IoCalls.{may_not_read, may_not_write}
use Rattle.system_model.specs.TtyCalls.{tty_of_node}
use Rattle.system_model.specs.Step.{row, answer_to, effects_of, step, view_after, waits, is_idle, can_go_on}
use Rattle.system_model.specs.Run.{state_after}

-- ---- refusals

-- the signals that a call in the background gets, and a write to a pipe without a reader (termios(4), write(2))
abbrev pub is_terminal_signal : Sig → Bool
is_terminal_signal sig.TTIN = true
is_terminal_signal sig.TTOU = true
is_terminal_signal sig.PIPE = true
is_terminal_signal _ = false

abbrev pub is_no_call : Option Call → Bool
is_no_call None = true
is_no_call (Some c) = false

-- what a denied event may do: it answers the pending call of its slot, and it sends one of these signals
abbrev pub may_still_do_to : ProcessEffect → Bool
may_still_do_to (set_pending slot call) = is_no_call call
may_still_do_to (post signal to) = is_terminal_signal signal
may_still_do_to _ = false

abbrev pub may_still_do : Effect → Bool
may_still_do (on_processes e) = may_still_do_to e
may_still_do _ = false

-- Each denial carries the rule that is the first check that holds, and each sleep is that check; every other answer is the early answer
-- of that check, or comes where no check holds. A denied event does nothing but answer the pending call and send TTIN, TTOU or PIPE, with
-- what these end.
pub record Refuses (s : State) (p : ℕ) (e : Event) : Type 0 where
  pub denied : (rule : Rule) → (step s p e).1 ≡ Answer (Denied rule) → first (row (view s) e).checks ≡ Some (refused rule, done (row (view s) e))
  pub denies : (rule : Rule) (es : List Effect) → first (row (view s) e).checks ≡ Some (refused rule, es) → (step s p e).1 ≡ Answer (Denied rule)
  pub slept : (reason : Reason) → (step s p e).1 ≡ Sleep reason → first (row (view s) e).checks ≡ Some (asleep reason, done (row (view s) e))
  pub sleeps : (reason : Reason) (es : List Effect) → first (row (view s) e).checks ≡ Some (asleep reason, es) → (step s p e).1 ≡ Sleep reason
  pub early : (given : Given) (es : List Effect) → first (row (view s) e).checks ≡ Some (early given, es) → (step s p e).1 ≡ answer_of given
  pub answered : first (row (view s) e).checks ≡ None → (step s p e).1 ≡ answer_of (row (view s) e).answer
  pub quiet : (rule : Rule) → (step s p e).1 ≡ Answer (Denied rule) → list_all may_still_do (done (row (view s) e)) ≡ true

-- ---- revokes

-- the number through which a call reads, writes or drains
abbrev pub fd_of : Call → Option ℕ
fd_of (call.Read fd max) = Some fd
fd_of (call.Write fd bytes) = Some fd
fd_of (call.TcDrain fd) = Some fd
fd_of _ = None

-- What such a call is answered through a dead file (revoke(2)): a read gets no bytes, a write and a drain are denied as dead; only that it asks
-- too many bytes, or that the file is not open for this, comes first.
abbrev pub IsDeadAnswer : Call → Decision → Type 0
IsDeadAnswer (call.Read fd max) d = (d ≡ Answer (Bytes [])) ⊎ (d ≡ Answer (Denied Size)) ⊎ (d ≡ Answer (Denied FdMode))
IsDeadAnswer (call.Write fd bytes) d = (d ≡ Answer (Denied Dead)) ⊎ (d ≡ Answer (Denied FdMode))
IsDeadAnswer (call.TcDrain fd) d = d ≡ Answer (Denied Dead)
IsDeadAnswer _ d = Unit {0}

-- the number is that of a dead file
abbrev pub is_dead_at : View → ℕ → Option ℕ → Bool
is_dead_at v slot None = false
is_dead_at v slot (Some fd) = holds_of (λ f. f.dead) (file_at v slot fd)

-- the call that a slot asks in an event: that of the event, or its pending one
abbrev pub asks_call : View → Event → ℕ → Call → Type 0
asks_call v (event.Call slot c) other asked = (slot ≡ other) × (c ≡ asked) × (is_some (pending_at v.processes slot) ≡ false)
asks_call v (event.Again slot) other asked = (slot ≡ other) × (pending_at v.processes slot ≡ Some asked)
asks_call v _ other asked = ⊥

-- the slot has a running process that is not stopped, in a system that is not halted
pub record CanRun (v : View) (slot : ℕ) : Type 0 where
  pub who : Process Path
  pub runs : running_at v.processes slot ≡ Some who
  pub awake : is_stopped who ≡ false
  pub up : v.halted ≡ false

-- Through a file of a line that was revoked after its open no byte moves: whatever has come since, a call through it is answered as a dead file
-- answers, and does nothing else than take the pending call away. A slot whose pending call is such a one can go on.
pub record Revokes (s : State) (p : ℕ) (e : Event) : Type 0 where
  pub answers : (slot : ℕ) (c : Call) → asks_call (view s) e slot c → CanRun (view s) slot → is_dead_at (view s) slot (fd_of c) ≡ true
      → IsDeadAnswer c (step s p e).1
  pub moves_nothing : (slot : ℕ) (c : Call) → asks_call (view s) e slot c → CanRun (view s) slot → is_dead_at (view s) slot (fd_of c) ≡ true
      → list_all may_still_do (done (row (view s) e)) ≡ true
  pub wakes : (slot : ℕ) (c : Call) → pending_at (view s).processes slot ≡ Some c → CanRun (view s) slot → is_dead_at (view s) slot (fd_of c) ≡ true
      → can_go_on (view s) slot ≡ true

-- ---- labels (mac_mls(4))

-- the caller's label dominates what it reads, and is dominated by what it writes: of a pipe always, of a file and a line where labels are
-- looked at again
abbrev pub MayRead : View → ℕ → OpenFile → Type 0
MayRead v slot f = (f.file.readable ≡ true) × (may_not_read v (caller_of v slot) f.file.target ≡ false)

abbrev pub MayWrite : View → ℕ → OpenFile → Type 0
MayWrite v slot f = (f.file.writable ≡ true) × (may_not_write v (caller_of v slot) f.file.target ≡ false)

-- A read through a file that is not dead answers bytes only where the caller may read it, and a write a count only where it may write it.
pub record ObeysLabels (s : State) (p : ℕ) (e : Event) : Type 0 where
  pub reads : (slot fd max : ℕ) (f : OpenFile) (bs : List ℕ) → asks_call (view s) e slot (call.Read fd max) → (step s p e).1 ≡ Answer (Bytes bs)
      → file_at (view s) slot fd ≡ Some f → f.dead ≡ false → MayRead (view s) slot f
  pub writes : (slot fd n : ℕ) (bs : List ℕ) (f : OpenFile) → asks_call (view s) e slot (call.Write fd bs) → (step s p e).1 ≡ Answer (Num n)
      → file_at (view s) slot fd ≡ Some f → f.dead ≡ false → MayWrite (view s) slot f

-- the caller's label allows this access to the node at a place
pub record MayOpen (v : View) (slot : ℕ) (access : Access) (place : Path) : Type 0 where
  pub reads : can_read access ≡ true → dominates_node (caller_of v slot) (node_at v place) ≡ true
  pub writes : can_write access ≡ true → node_dominates (caller_of v slot) (node_at v place) ≡ true

-- A node that is there is opened only for what the caller's label allows at the open, and the caller's own line only where its own node allows it too.
pub record OpensByLabels (s : State) (p : ℕ) (e : Event) : Type 0 where
  pub opens : (slot : ℕ) (path : List ℕ) (access : Access) (flags : OpenFlags) (mode n : ℕ) (place : Path)
      → asks_call (view s) e slot (call.Open path access flags mode) → (step s p e).1 ≡ Answer (Num n)
      → end_of (view s) slot path ≡ found place → MayOpen (view s) slot access place
  pub opens_own : (slot : ℕ) (path : List ℕ) (access : Access) (flags : OpenFlags) (mode n line : ℕ) (place : Path) (what : NodeRecord)
      → asks_call (view s) e slot (call.Open path access flags mode) → (step s p e).1 ≡ Answer (Num n)
      → end_of (view s) slot path ≡ found place → node_at (view s) place ≡ Some what → what.kind ≡ kind.Tty → own_tty (view s) slot ≡ Some line
      → MayOpen (view s) slot access (tty_path line)

-- ---- which events revoke a line

-- the effect revokes the line
abbrev pub line_revokes : ℕ → LineEffect → Bool
line_revokes n (open_line m t) = false
line_revokes n (receive_byte m b) = false
line_revokes n (read_line m max) = false
line_revokes n (write_line m bytes) = false
line_revokes n (take_output m max) = false
line_revokes n (set_carrier m up) = false
line_revokes n (end_line m) = false
line_revokes n (revoke_line m) = m == n
line_revokes n (flush_line m input output) = false
line_revokes n (retune_line m t) = false
line_revokes n (set_session m session group) = false
line_revokes n (set_foreground m group) = false

abbrev pub is_revoke_of : ℕ → Effect → Bool
is_revoke_of n (on_files e) = false
is_revoke_of n (on_pipes e) = false
is_revoke_of n (on_lines e) = line_revokes n e
is_revoke_of n (on_tree e) = false
is_revoke_of n (on_processes e) = false
is_revoke_of n halt = false

-- one of the effects of an event revokes the line
abbrev pub revokes_line : View → Event → ℕ → Bool
revokes_line v e n = list_any (is_revoke_of n) (effects_of v e)

-- what calls see where the event's own effects are through, and where so many of its endings are
abbrev pub before_ending : View → Event → ℕ → View
before_ending v e place = let own = change_all v (done (row v e)) in change_all own (endings place 0 own)

-- An event revokes a line by a call of revoke(2) that is answered 0 and whose path leads to the line's node, or by the end of a process that leads the
-- line's session.
pub data IsRevokedBy (v : View) (e : Event) (n : ℕ) : Type 0 where
  by_call : (slot : ℕ) (path : List ℕ) → asks_call v e slot (call.Revoke path) → answer_to v e ≡ Answer (Num 0)
      → tty_of_node (node_at v (path_at (end_of v slot path))) ≡ Some n → IsRevokedBy v e n
  by_end : (place slot : ℕ) (why : How) → slice_get (before_ending v e place).ending place ≡ Some (slot, why)
      → ((caller_of (before_ending v e place) slot).pid == (caller_of (before_ending v e place) slot).session) ≡ true
      → line_of_session (before_ending v e place) (caller_of (before_ending v e place) slot).session ≡ Some n → IsRevokedBy v e n

-- The position that a state keeps of a line's last revoke is that of the last event that revoked it. Each answered call of revoke(2) whose path leads to
-- the line's node revokes it, and each end of a process that leads the line's session; there are at most 32 endings.
pub record MarksRevokes (s : State) (p : ℕ) (e : Event) : Type 0 where
  pub marks : (n : ℕ) → last_revoke (step s p e).0.revokes n ≡ (if revokes_line (view s) e n then p else last_revoke s.revokes n)
  pub only : (n : ℕ) → revokes_line (view s) e n ≡ true → IsRevokedBy (view s) e n
  pub calls : (slot n : ℕ) (path : List ℕ) → asks_call (view s) e slot (call.Revoke path) → (step s p e).1 ≡ Answer (Num 0)
      → tty_of_node (node_at (view s) (path_at (end_of (view s) slot path))) ≡ Some n → revokes_line (view s) e n ≡ true
  pub ends : (place slot n : ℕ) (why : How) → place < SLOTS → slice_get (before_ending (view s) e place).ending place ≡ Some (slot, why)
      → ((caller_of (before_ending (view s) e place) slot).pid == (caller_of (before_ending (view s) e place) slot).session) ≡ true
      → line_of_session (before_ending (view s) e place) (caller_of (before_ending (view s) e place) slot).session ≡ Some n → revokes_line (view s) e n ≡ true

-- ---- who waits

-- Where another try of a slot's pending call would be idle, it sleeps for the reason that the slot waits for, and changes nothing.
pub record IsIdleTry (v : View) (slot : ℕ) : Type 0 where
  pub reason : Reason
  pub waits : waits v slot ≡ Some reason
  pub sleeps : answer_to v (event.Again slot) ≡ Sleep reason
  pub unchanged : view_after v (event.Again slot) ≡ v

pub record Waits (v : View) : Type 0 where
  pub idle : (slot : ℕ) → is_some (pending_at v.processes slot) ≡ true → is_idle v slot ≡ true → IsIdleTry v slot
  pub only : (slot : ℕ) (reason : Reason) → waits v slot ≡ Some reason → (is_some (pending_at v.processes slot) ≡ true) × (is_idle v slot ≡ true)

-- ---- endings

-- All whom an event ends are ended: with more endings than there are slots nobody more would be.
pub record EndsAll (s : State) (p : ℕ) (e : Event) : Type 0 where
  pub enough : (more : ℕ) → let now = change_all (view s) (done (row (view s) e)) in endings (SLOTS + more) 0 now ≡ endings SLOTS 0 now

-- ---- origins

-- At a place is a node of this kind, and no rule denies the caller this access to it, by its labels or by the node's access list.
pub record MayUse (v : View) (slot : ℕ) (access : Access) (place : Path) (k : Kind) : Type 0 where
  pub what : NodeRecord
  pub there : node_at v place ≡ Some what
  pub is : what.kind ≡ k
  pub allowed : access_check v slot place (can_read access) (can_write access) false ≡ None
  pub labels : MayOpen v slot access place

-- The event makes a regular file at a name where nothing was, in a directory in which no rule denies it the caller; the file has the caller's uid and
-- element.
pub record IsMadeBy (v : View) (e : Event) (slot : ℕ) (dir : Path) (name : List ℕ) : Type 0 where
  pub directory : NodeRecord
  pub inside : node_at v dir ≡ Some directory
  pub allowed : make_check v slot dir ≡ None
  pub free : node_at v (dir ++ name ∷ []) ≡ None
  pub what : NodeRecord
  pub there : node_at (view_after v e) (dir ++ name ∷ []) ≡ Some what
  pub is : what.kind ≡ kind.File
  pub owner : what.attrs.owner ≡ (caller_of v slot).cred.uid
  pub element : what.attrs.element ≡ (caller_of v slot).label.active

-- What an open of a path opens: the regular file that the path leads to; the line whose own node it leads to; where it leads to /dev/tty the line of the
-- caller's session, whose own node may be used too; or a new file.
pub data Opens (v : View) (e : Event) (slot : ℕ) (path : List ℕ) (access : Access) (flags : OpenFlags) (target : Target) : Type 0 where
  a_file : (place : Path) → end_of v slot path ≡ found place → MayUse v slot access place kind.File → target ≡ node place
      → Opens v e slot path access flags target
  a_line : (n : ℕ) → end_of v slot path ≡ found (tty_path n) → MayUse v slot access (tty_path n) (kind.Line n) → target ≡ tty n
      → Opens v e slot path access flags target
  own_line : (place : Path) (n : ℕ) → end_of v slot path ≡ found place → MayUse v slot access place kind.Tty → own_tty v slot ≡ Some n
      → MayUse v slot access (tty_path n) (kind.Line n) → target ≡ tty n → Opens v e slot path access flags target
  new_file : (dir : Path) (name : List ℕ) → end_of v slot path ≡ absent dir name → flags.create ≡ true → IsMadeBy v e slot dir name
      → target ≡ node (dir ++ name ∷ []) → Opens v e slot path access flags target

-- An event opens a file: it asks an open(2) that is answered a number, of a path on which no rule denies the caller a part, or a pipe(2), whose pipe is
-- new and has the caller's element.
pub data IsOpenedBy (v : View) (e : Event) (file : File) : Type 0 where
  by_open : (slot : ℕ) (path : List ℕ) (access : Access) (flags : OpenFlags) (mode n : ℕ) (target : Target)
      → asks_call v e slot (call.Open path access flags mode) → CanRun v slot → answer_to v e ≡ Answer (Num n)
      → path_check v slot path ≡ None → Opens v e slot path access flags target → file ≡ file_for access flags target → IsOpenedBy v e file
  by_pipe : (slot k r w : ℕ) (target : Target) → asks_call v e slot call.Pipe → CanRun v slot → answer_to v e ≡ Answer (Pair r w)
      → (target ≡ read_end k) ⊎ (target ≡ write_end k) → element_at v.pipes k ≡ None
      → element_at (view_after v e).pipes k ≡ Some (caller_of v slot).label.active → file ≡ pipe_file target → IsOpenedBy v e file

-- The name of an open file tells how many events were before the one that made it, which opened it as it is but for its offset.
pub record IsOpenedWell (says : Boot) (es : List Event) (n : ℕ) (f : NamedFile) : Type 0 where
  pub before : ℕ
  pub past : before < n
  pub made : f.name.made ≡ before + 1
  pub event : Event
  pub at : slice_get es before ≡ Some event
  pub opened : IsOpenedBy (view (state_after says es before)) event (at_offset 0 f.file)

-- At every moment of a run each open file was opened so.
pub record AreOpenedWell (says : Boot) (es : List Event) : Type 0 where
  pub each : (n entry : ℕ) (f : NamedFile) → entry_at (state_after says es n).parts.descriptors.files entry ≡ Some f → IsOpenedWell says es n f

-- ---- sleepers

-- the slot has a pending call through a number that is of an open file of the line
pub record WaitsThrough (v : View) (slot line : ℕ) (c : Call) : Type 0 where
  pub pends : pending_at v.processes slot ≡ Some c
  pub fd : ℕ
  pub number : fd_of c ≡ Some fd
  pub file : OpenFile
  pub there : file_at v slot fd ≡ Some file
  pub of_line : file.file.target ≡ tty line

-- The event that comes after q others revokes a line, and right after it the slot waits in a call through an open file of the line.
pub record SleepsAtRevoke (says : Boot) (es : List Event) (q slot : ℕ) (c : Call) : Type 0 where
  pub event : Event
  pub at : slice_get es q ≡ Some event
  pub line : ℕ
  pub revoked : revokes_line (view (state_after says es q)) event line ≡ true
  pub waits : WaitsThrough (view (state_after says es (q + 1))) slot line c

-- The call is the slot's pending one after that event and after each of k more, and then its process runs and is not stopped.
pub record StillWaits (says : Boot) (es : List Event) (q k slot : ℕ) (c : Call) : Type 0 where
  pub pends : (j : ℕ) → j ≤ k → pending_at (view (state_after says es (q + 1 + j))).processes slot ≡ Some c
  pub able : CanRun (view (state_after says es (q + 1 + k))) slot

-- Who sleeps at a revoke can go on right after it, unless its process is stopped, and whatever events come between, as long as its call is pending. The
-- next try of the call is answered as a dead file answers, and does nothing else than take the pending call away.
pub record WakesSleepers (says : Boot) (es : List Event) : Type 0 where
  pub listed : (q slot : ℕ) (c : Call) → SleepsAtRevoke says es q slot c → CanRun (view (state_after says es (q + 1))) slot
      → can_go_on (view (state_after says es (q + 1))) slot ≡ true
  pub still_listed : (q k slot : ℕ) (c : Call) → SleepsAtRevoke says es q slot c → StillWaits says es q k slot c
      → can_go_on (view (state_after says es (q + 1 + k))) slot ≡ true
  pub answered : (q k slot : ℕ) (c : Call) → SleepsAtRevoke says es q slot c → StillWaits says es q k slot c
      → slice_get es (q + 1 + k) ≡ Some (event.Again slot)
      → IsDeadAnswer c (answer_to (view (state_after says es (q + 1 + k))) (event.Again slot))
  pub moves_nothing : (q k slot : ℕ) (c : Call) → SleepsAtRevoke says es q slot c → StillWaits says es q k slot c
      → slice_get es (q + 1 + k) ≡ Some (event.Again slot)
      → effects_of (view (state_after says es (q + 1 + k))) (event.Again slot) ≡ on_processes (set_pending slot None) ∷ []
