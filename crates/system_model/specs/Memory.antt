-- Which events may find no memory: a write to a regular file alone.
use Rattle.std.specs.Prelude.{ℕ, Bool, true, false, Option, Some, None}
use Rattle.call_words.specs.declared.call.Call.{Call}
use Rattle.call_words.specs.declared.call.Call.TheVariants as call
use Rattle.call_words.specs.declared.event.Event.{Event}
use Rattle.call_words.specs.declared.event.Event.TheVariants as event
use Rattle.proc_table.specs.Processes.{pending_at}
use Rattle.system_model.specs.Parts.{Target, node, read_end, write_end, tty}
use Rattle.system_model.specs.State.{OpenFile, View}
use Rattle.system_model.specs.Looks.{file_at}

abbrev pub is_node : Target → Bool
is_node (node path) = true
is_node (read_end k) = false
is_node (write_end k) = false
is_node (tty n) = false

-- an open file is a regular one
abbrev pub is_regular : Option OpenFile → Bool
is_regular None = false
is_regular (Some f) = is_node f.file.target

abbrev pub wants_memory : View → ℕ → Call → Bool
wants_memory v slot (call.Write fd bytes) = is_regular (file_at v slot fd)
wants_memory v slot other = false

abbrev pub pending_wants : View → ℕ → Option Call → Bool
pending_wants v slot None = false
pending_wants v slot (Some c) = wants_memory v slot c

-- the write may be tried again, where its process was stopped
abbrev pub may_want_memory : View → Event → Bool
may_want_memory v (event.Call slot c) = wants_memory v slot c
may_want_memory v (event.Again slot) = pending_wants v slot (pending_at v.processes slot)
may_want_memory v (event.Byte n b) = false
may_want_memory v (event.Carrier n up) = false
may_want_memory v (event.Take n max) = false
may_want_memory v (event.Ended n) = false
