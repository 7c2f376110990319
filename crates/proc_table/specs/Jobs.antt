-- Which process joins a group, and which group (setpgid(2)).
use Rattle.std.specs.Prelude.{ℕ, Bool, not, ◌&&◌, ◌||◌, ◌==◌, Option, Some, None, option_and_then, if◌then◌else◌}
use Rattle.proc_table.specs.Processes.{Process, Processes, running_by_pid, has_member_in}

-- the caller, or its child
abbrev pub is_target : {D : Type 0} → Process D → Process D → Bool
is_target who p = p.pid == who.pid || p.parent == who.pid

-- the caller, or its running child, that a pid names, of which 0 is the caller's
abbrev pub setpgid_target : {D : Type 0} → Processes D → Process D → ℕ → Option (Process D)
setpgid_target t who pid =
    option_and_then (λ p. if is_target who p then Some p else None) (running_by_pid t (if pid == 0 then who.pid else pid))

-- a group of a number, of which 0 is the target's pid
abbrev pub group_for : {D : Type 0} → Process D → ℕ → ℕ
group_for target group = if group == 0 then target.pid else group

-- neither the target's own new group, nor one of its session
abbrev pub is_no_group : {D : Type 0} → Processes D → Process D → ℕ → Bool
is_no_group t target group = not (group == target.pid) && not (has_member_in t group target.session)
