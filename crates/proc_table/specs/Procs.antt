-- A kernel's process and slot, as the definitions see them: a working directory is named by the number of its node.
use Rattle.std.specs.Prelude.{ℕ, Bool, Option, Some, None, option_map}
use Rattle.call_words.specs.declared.call.Call.{Call}
use Rattle.call_words.specs.declared.event.How.{How}
use Rattle.proc_table.specs.declared.proc.Proc.{Proc}
use Rattle.proc_table.specs.declared.proc.ProcState.{ProcState}
use Rattle.proc_table.specs.declared.proc.ProcState.TheVariants as state
use Rattle.proc_table.specs.Processes.{Process, Slot, Processes, slot_at, put_slot}

-- how a process ended, if it has
abbrev pub ending_of : ProcState → Option How
ending_of state.Running = None
ending_of (state.Zombie how) = Some how

abbrev pub process_of : Proc → Process ℕ
process_of p = record {
  pid = p.pid;
  parent = p.parent;
  group = p.group;
  session = p.session;
  cred = p.cred;
  label = p.label;
  directory = p.cwd;
  umask = p.umask;
  actions = p.actions;
  caught = p.caught;
  ending = ending_of p.state;
  stopped = p.stopped;
  reported = p.reported;
  begun = p.begun;
  execed = p.execed;
  image = p.image;
  args = p.args;
}

-- the pending call of a slot: its process's, or its own where it has none
abbrev pub pending_of : Option Proc → Option Call → Option Call
pending_of None pending = pending
pending_of (Some p) pending = p.pending

abbrev pub slot_seen : Option Proc → Option Call → Bool → Slot ℕ
slot_seen process pending left = record { process = option_map process_of process; pending = pending_of process pending; left = left }

-- a kernel's process is put into a slot, with its pending call
abbrev pub put_proc : Processes ℕ → ℕ → Proc → Processes ℕ
put_proc t slot p = put_slot t slot (record (slot_at t slot) { process = Some (process_of p); pending = p.pending })
