-- Before which events memory may run out.
use Rattle.std.specs.Prelude.{Bool, ◌&&◌, is_none}
use Rattle.call_words.specs.declared.event.Event.{Event}
use Rattle.system_model.specs.State.{View}
use Rattle.system_model.specs.Rows.{first}
use Rattle.system_model.specs.Step.{row}
use Rattle.system_model.specs.Memory.{may_want_memory}

-- an event may want memory, and no check of its row holds: it is a write to a regular file that nothing denies or puts to sleep
abbrev pub finds_no_memory : View → Event → Bool
finds_no_memory v e = may_want_memory v e && is_none (first (row v e).checks)
