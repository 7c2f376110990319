-- What fork(2) makes of the processes.
use Rattle.std.specs.Prelude.{ℕ, ◌+◌, Bool, true, false, ◌&&◌, not, List, position, Option, Some, None, is_none}
use Rattle.call_words.specs.declared.call.Call.{Call}
use Rattle.call_words.specs.declared.call.Call.TheVariants as call
use Rattle.proc_table.specs.Processes.{Process, Slot, Processes, running_at, put_process}

abbrev pub is_begin : Call → Bool
is_begin call.Begin = true
is_begin _ = false

-- no call is pending, other than the first one of a process to come
abbrev pub may_begin : Option Call → Bool
may_begin None = true
may_begin (Some asked) = is_begin asked

-- a fork may take a slot without a process, of which nobody waits for an answer and whose last ending is told
abbrev pub is_free : {D : Type 0} → Slot D → Bool
is_free s = is_none s.process && may_begin s.pending && not s.left

-- the lowest such slot
abbrev pub lowest_slot : {D : Type 0} → Processes D → Option ℕ
lowest_slot t = position is_free t.slots

-- the child of a process: a copy of it, but for its pid, its parent and its arguments; it has not begun its program and not called execve(2), no
-- stop of it was reported, and no caught signal is pending
abbrev pub child_of : {D : Type 0} → Process D → ℕ → List ℕ → Process D
child_of parent pid note = record parent {
  pid = pid;
  parent = parent.pid;
  args = note;
  caught = 0;
  reported = false;
  begun = false;
  execed = false;
}

abbrev pub put_child : {D : Type 0} → Processes D → ℕ → List ℕ → Option (Process D) → Processes D
put_child t slot note None = t
put_child t slot note (Some parent) = record (put_process t slot (child_of parent t.next_pid note)) { next_pid = t.next_pid + 1 }

abbrev pub fork_into : {D : Type 0} → Processes D → ℕ → List ℕ → Option ℕ → Processes D
fork_into t slot note None = t
fork_into t slot note (Some free) = put_child t free note (running_at t slot)

-- the running process of a slot forks, with a note for its child's arguments: the child takes the lowest slot that a fork may take, if there is one
abbrev pub fork : {D : Type 0} → Processes D → ℕ → List ℕ → Processes D
fork t slot note = fork_into t slot note (lowest_slot t)
