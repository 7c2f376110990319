-- What ps(1) says of a process.
use Rattle.std.specs.Prelude.{ℕ, not, List, ◌++◌, codes, is_some, if◌then◌else◌}
use Rattle.std.specs.Fmt.{decimal}
use Rattle.sys_types.specs.Images.{image_name}
use Rattle.proc_table.specs.Processes.{Process, Processes, is_running, is_stopped, pending_at}

-- what a process does, by the later of the words that hold
abbrev pub state_word : {D : Type 0} → Processes D → ℕ × Process D → List ℕ
state_word t entry =
    if not (is_running entry.1) then codes "zombie"
    else (if is_stopped entry.1 then codes "stop"
    else (if is_some (pending_at t entry.0) then codes "sleep"
    else codes "run"))

abbrev pub process_text : {D : Type 0} → Processes D → ℕ × Process D → List ℕ
process_text t entry =
    decimal entry.1.pid ++ codes ":" ++ decimal entry.1.parent ++ codes ":" ++ decimal entry.1.group ++ codes ":" ++ decimal entry.1.session
    ++ codes ":" ++ decimal entry.1.cred.uid ++ codes ":" ++ state_word t entry ++ codes ":" ++ image_name entry.1.image
