-- The first rule by which a process does not join a group (setpgid(2)).
use Rattle.std.specs.Prelude.{ℕ, not, ◌&&◌, ◌==◌, Option, Some, None, if◌then◌else◌}
use Rattle.sys_types.specs.declared.rules.Rule.{Rule}
use Rattle.sys_types.specs.declared.rules.Rule.TheVariants as rule
use Rattle.proc_table.specs.Processes.{Process, Processes}
use Rattle.proc_table.specs.Jobs.{is_no_group}

abbrev pub setpgid_rule : {D : Type 0} → Processes D → Process D → Process D → ℕ → Option Rule
setpgid_rule t who target group =
    if not (target.pid == who.pid) && target.execed then Some rule.ChildExec
    else (if target.pid == target.session then Some rule.Leader
    else (if not (target.session == who.session) then Some rule.Session
    else (if is_no_group t target group then Some rule.Group
    else None)))
