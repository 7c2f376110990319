-- What a process is to a post, a wait or a list.
use Rattle.std.specs.Prelude.{Bool, true, ◌&&◌}
use Rattle.proc_table.specs.declared.order.Role.{Role}
use Rattle.proc_table.specs.declared.order.Role.TheVariants as role
use Rattle.proc_table.specs.Processes.{Process, is_running}
use Rattle.proc_table.specs.Posts.{is_to}
use Rattle.proc_table.specs.Reaping.{is_zombie_child, is_stopped_child}

abbrev pub has_role : {D : Type 0} → Role → Process D → Bool
has_role role.Any p = true
has_role role.Running p = is_running p
has_role (role.Receiver whom) p = is_running p && is_to whom p
has_role (role.Zombie parent who) p = is_zombie_child parent who p
has_role (role.StoppedChild parent who) p = is_stopped_child parent who p
