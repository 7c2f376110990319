-- The processes of a system: what each is, and the slots in which they stand (fork(2), kill(2), setpgid(2), setsid(2)). What a working
-- directory is named by, D, may be one thing in a state of the machine and another in a kernel; all else is the same in both.
use Rattle.std.specs.Prelude.{ℕ, ◌+◌, ◌^◌, Bool, true, false, ◌==◌, ◌&&◌, not, List, [], ◌∷◌, map, length, replicate, fold, filter, filter_map, position, nat_lt}
use Rattle.std.specs.Prelude.{if◌then◌else◌, Option, Some, None, is_none, is_some, option_map, option_and_then, slice_index_or, slice_set, bit_or, bit_xor}
use Rattle.std.specs.List.{list_any, find, range_with_len}
use Rattle.std.specs.Int.{bit_at}
use Rattle.sys_types.specs.declared.limits.TheConstants.{SLOTS}
use Rattle.sys_types.specs.declared.image.Image.{Image}
use Rattle.sys_types.specs.declared.image.Image.TheVariants as image
use Rattle.sys_types.specs.declared.sig.Sig.{Sig}
use Rattle.sys_types.specs.Signals.{signals, sig_number}
use Rattle.label_core.specs.declared.element.Element.TheVariants.{Low, Equal, High}
use Rattle.label_core.specs.declared.subject.Subject.{Subject}
use Rattle.acl_core.specs.declared.cred.Cred.{Cred}
use Rattle.call_words.specs.declared.call.Call.{Call}
use Rattle.call_words.specs.declared.event.How.{How}
use Rattle.call_words.specs.declared.signal.Action.{Action}
use Rattle.call_words.specs.declared.signal.Action.TheVariants as action
use Rattle.proc_table.specs.declared.actions.TheConstants.{SIGNAL_NUMBERS}
use Rattle.proc_table.specs.declared.proc.TheConstants.{INIT}

-- what a process does at each signal, by the number of the signal (sigaction(2))
abbrev pub Actions : Type 0
Actions = List Action

abbrev pub action_of : Actions → Sig → Action
action_of actions sig = slice_index_or actions (sig_number sig) action.Normal

abbrev pub set_action : Actions → Sig → Action → Actions
set_action actions sig to = slice_set actions (sig_number sig) to

-- all signals do what they do by default
abbrev pub default_actions : Actions
default_actions = replicate SIGNAL_NUMBERS action.Normal

-- A process: its number, its parent's, its group and its session; who it is and what it may (credential and label); its working directory and its
-- umask; what it does at each signal; the caught signals that are pending, a bit for each number (sigpending(2)); how it ended, if it has, and is
-- a zombie that is not waited for yet; the signal that stopped it, and whether a wait has told that; whether it has begun its program and whether
-- it has called execve(2); its program and its arguments.
pub record Process (D : Type 0) : Type 0 where
  pub pid : ℕ
  pub parent : ℕ
  pub group : ℕ
  pub session : ℕ
  pub cred : Cred
  pub label : Subject
  pub directory : D
  pub umask : ℕ
  pub actions : Actions
  pub caught : ℕ
  pub ending : Option How
  pub stopped : Option Sig
  pub reported : Bool
  pub begun : Bool
  pub execed : Bool
  pub image : Image
  pub args : List ℕ

abbrev pub is_running : {D : Type 0} → Process D → Bool
is_running p = is_none p.ending

abbrev pub is_stopped : {D : Type 0} → Process D → Bool
is_stopped p = is_some p.stopped

-- the caught signals that are pending
abbrev pub is_caught : {D : Type 0} → Sig → Process D → Bool
is_caught sig p = bit_at p.caught (sig_number sig) == 1

abbrev pub add_caught : {D : Type 0} → Sig → Process D → Process D
add_caught sig p = record p { caught = bit_or p.caught (2 ^ sig_number sig) }

abbrev pub drop_caught : {D : Type 0} → Sig → Process D → Process D
drop_caught sig p = if is_caught sig p then record p { caught = bit_xor p.caught (2 ^ sig_number sig) } else p

-- the one of the least number
abbrev pub least_caught : {D : Type 0} → Process D → Option Sig
least_caught p = find (λ sig. is_caught sig p) signals

-- A slot: its process, if it has one; the call of it that is pending, which stays when its process ends and is waited for; and whether it is left:
-- a signal ended its last process, and no event of the slot has told that yet.
pub record Slot (D : Type 0) : Type 0 where
  pub process : Option (Process D)
  pub pending : Option Call
  pub left : Bool

abbrev pub empty_slot : {D : Type 0} → Slot D
empty_slot = record { process = None; pending = None; left = false }

-- the slots, and the pid of the next process: pids count up and are never used again
pub record Processes (D : Type 0) : Type 0 where
  pub slots : List (Slot D)
  pub next_pid : ℕ

abbrev pub slot_at : {D : Type 0} → Processes D → ℕ → Slot D
slot_at t slot = slice_index_or t.slots slot empty_slot

-- the process of a slot, a zombie too
abbrev pub process_at : {D : Type 0} → Processes D → ℕ → Option (Process D)
process_at t slot = (slot_at t slot).process

abbrev pub running_of : {D : Type 0} → Process D → Option (Process D)
running_of p = if is_running p then Some p else None

-- the running process of a slot
abbrev pub running_at : {D : Type 0} → Processes D → ℕ → Option (Process D)
running_at t slot = option_and_then running_of (process_at t slot)

-- the pending call of a slot
abbrev pub pending_at : {D : Type 0} → Processes D → ℕ → Option Call
pending_at t slot = (slot_at t slot).pending

-- whether a slot is left
abbrev pub is_left : {D : Type 0} → Processes D → ℕ → Bool
is_left t slot = (slot_at t slot).left

abbrev pub put_slot : {D : Type 0} → Processes D → ℕ → Slot D → Processes D
put_slot t slot what = record t { slots = slice_set t.slots slot what }

-- the process of a slot is another, or has changed
abbrev pub put_process : {D : Type 0} → Processes D → ℕ → Process D → Processes D
put_process t slot p = put_slot t slot (record (slot_at t slot) { process = Some p })

-- a call is pending, or none is
abbrev pub set_pending : {D : Type 0} → Processes D → ℕ → Option Call → Processes D
set_pending t slot call = put_slot t slot (record (slot_at t slot) { pending = call })

-- an event of the slot tells that its process was ended, so that it is not left any more
abbrev pub tell : {D : Type 0} → Processes D → ℕ → Processes D
tell t slot = put_slot t slot (record (slot_at t slot) { left = false })

-- the process of a slot changes, if there is one
abbrev pub change_process : {D : Type 0} → (Process D → Process D) → Processes D → ℕ → Processes D
change_process how t slot = put_slot t slot (record (slot_at t slot) { process = option_map how (slot_at t slot).process })

-- the process of a slot was waited for
abbrev pub remove : {D : Type 0} → Processes D → ℕ → Processes D
remove t slot = put_slot t slot (record (slot_at t slot) { process = None })

abbrev pub holds : {D : Type 0} → (Process D → Bool) → Option (Process D) → Bool
holds test None = false
holds test (Some p) = test p

-- the slot of a pid, of a zombie's too
abbrev pub slot_of : {D : Type 0} → Processes D → ℕ → Option ℕ
slot_of t pid = position (λ s. holds (λ p. p.pid == pid) s.process) t.slots

-- the running process of a pid
abbrev pub running_by_pid : {D : Type 0} → Processes D → ℕ → Option (Process D)
running_by_pid t pid = option_and_then (running_at t) (slot_of t pid)

-- whether a running process passes a test
abbrev pub any_running : {D : Type 0} → (Process D → Bool) → Processes D → Bool
any_running test t = list_any (λ s. holds (λ p. is_running p && test p) s.process) t.slots

-- a group has a running member
abbrev pub has_member : {D : Type 0} → Processes D → ℕ → Bool
has_member t group = any_running (λ p. p.group == group) t

-- a group has a running member in a session
abbrev pub has_member_in : {D : Type 0} → Processes D → ℕ → ℕ → Bool
has_member_in t group session = any_running (λ p. p.group == group && p.session == session) t

-- The parent of a process is in its session, and in another group. A parent that does not run, as that of pid 1, counts as being in another session.
abbrev pub has_parent_near : {D : Type 0} → Processes D → Process D → Bool
has_parent_near t p = holds (λ parent. parent.session == p.session && not (parent.group == p.group)) (running_by_pid t p.parent)

-- an orphaned process group (termios(4), "Orphaned Process Groups"): each running member's parent is in the group or in another session
abbrev pub is_orphaned : {D : Type 0} → Processes D → ℕ → Bool
is_orphaned t group = not (any_running (λ p. p.group == group && has_parent_near t p) t)

-- the pid of a slot's process, 0 without one
abbrev pub pid_of : {D : Type 0} → Option (Process D) → ℕ
pid_of None = 0
pid_of (Some p) = p.pid

-- slots in rising order of their pids, with one more
abbrev pub insert_by_pid : {D : Type 0} → Processes D → ℕ → List ℕ → List ℕ
insert_by_pid t slot [] = slot ∷ []
insert_by_pid t slot (other ∷ others) =
    if nat_lt (pid_of (process_at t slot)) (pid_of (process_at t other)) then slot ∷ other ∷ others else other ∷ insert_by_pid t slot others

-- the slots of the processes that pass a test, zombies too, in rising order of their pids
abbrev pub slots_by_pid : {D : Type 0} → (Process D → Bool) → Processes D → List ℕ
slots_by_pid test t =
    fold (λ slots slot. insert_by_pid t slot slots) [] (filter (λ slot. holds test (process_at t slot)) (range_with_len 0 (length t.slots)))

abbrev pub with_process : {D : Type 0} → Processes D → ℕ → Option (ℕ × Process D)
with_process t slot = option_map (λ p. (slot, p)) (process_at t slot)

-- all processes, each with its slot, in rising order of their pids
abbrev pub processes : {D : Type 0} → Processes D → List (ℕ × Process D)
processes t = filter_map (with_process t) (slots_by_pid (λ p. true) t)

-- the running ones
abbrev pub running : {D : Type 0} → Processes D → List (ℕ × Process D)
running t = filter_map (with_process t) (slots_by_pid is_running t)

-- init(8) at a boot: the superuser, who may take every label (mac_mls(4)), with the umask 022 in octal
abbrev pub first_process : {D : Type 0} → D → Process D
first_process root = record {
  pid = INIT;
  parent = 0;
  group = INIT;
  session = INIT;
  cred = record { uid = 0; gid = 0; groups = record { items = [] } };
  label = record { active = Equal; low = Low; high = High };
  directory = root;
  umask = 0o022;
  actions = default_actions;
  caught = 0;
  ending = None;
  stopped = None;
  reported = false;
  begun = false;
  execed = false;
  image = image.Init;
  args = [];
}

-- the processes at a boot, with the root directory: pid 1 in slot 0
abbrev pub at_boot : {D : Type 0} → D → Processes D
at_boot root = record { slots = slice_set (replicate SLOTS empty_slot) 0 (record empty_slot { process = Some (first_process root) }); next_pid = INIT + 1 }

-- a process whose working directory is named by something else
abbrev pub map_process : {D E : Type 0} → (D → E) → Process D → Process E
map_process f p = record {
  pid = p.pid;
  parent = p.parent;
  group = p.group;
  session = p.session;
  cred = p.cred;
  label = p.label;
  directory = f p.directory;
  umask = p.umask;
  actions = p.actions;
  caught = p.caught;
  ending = p.ending;
  stopped = p.stopped;
  reported = p.reported;
  begun = p.begun;
  execed = p.execed;
  image = p.image;
  args = p.args;
}

abbrev pub map_slot : {D E : Type 0} → (D → E) → Slot D → Slot E
map_slot f s = record { process = option_map (map_process f) s.process; pending = s.pending; left = s.left }

-- the same processes, whose working directories are named by something else
abbrev pub map_processes : {D E : Type 0} → (D → E) → Processes D → Processes E
map_processes f t = record { slots = map (map_slot f) t.slots; next_pid = t.next_pid }
