-- What the end of a process makes of the processes (_exit(2), setpgid(2)).
use Rattle.std.specs.Prelude.{ℕ, Bool, true, false, ◌==◌, ◌&&◌, not, List, [], ◌∷◌, map, fold, filter, nat_lt, if◌then◌else◌, Option, Some, None, option_map}
use Rattle.sys_types.specs.declared.sig.Sig.TheVariants as sig
use Rattle.call_words.specs.declared.event.How.{How}
use Rattle.call_words.specs.declared.event.How.TheVariants as how
use Rattle.call_words.specs.declared.signal.To.TheVariants as to
use Rattle.proc_table.specs.declared.proc.TheConstants.{INIT}
use Rattle.proc_table.specs.Processes.{Process, Slot, Processes, is_running, is_stopped, slot_at, running_at, put_slot, change_process, any_running, is_orphaned}
use Rattle.proc_table.specs.Changes.{with_directory}
use Rattle.proc_table.specs.Posts.{Posted, post_child, post}

-- a child of a process gets init(8), pid 1, as its parent, a zombie too
abbrev pub adopt : {D : Type 0} → ℕ → Process D → Process D
adopt parent p = if p.parent == parent then record p { parent = INIT } else p

abbrev pub adopt_in : {D : Type 0} → ℕ → Slot D → Slot D
adopt_in parent s = record s { process = option_map (adopt parent) s.process }

abbrev pub adopt_all : {D : Type 0} → Processes D → ℕ → Processes D
adopt_all t parent = record t { slots = map (adopt_in parent) t.slots }

-- whether a signal ended it
abbrev pub is_by_signal : How → Bool
is_by_signal (how.Exit status) = false
is_by_signal (how.Signal signal) = true
is_by_signal (how.Stop signal) = false

abbrev pub end : {D : Type 0} → How → Process D → Process D
end why p = record p { ending = Some why }

-- the process of a slot is a zombie, and the slot is left where a signal ended it
abbrev pub end_in : {D : Type 0} → Processes D → ℕ → How → Processes D
end_in t slot why =
    let s = slot_at t slot in
    put_slot t slot (record s { process = option_map (end why) s.process; left = is_by_signal why })

-- the process of a slot ends: its children have another parent, it is a zombie, and its parent gets CHLD
abbrev pub end_process : {D : Type 0} → Processes D → ℕ → How → Option (Process D) → Processes D
end_process t slot why None = t
end_process t slot why (Some p) = post_child (end_in (adopt_all t p.pid) slot why) p.parent

unfoldable pub end_at : {D : Type 0} → Processes D → ℕ → How → Processes D
end_at t slot why = end_process t slot why (running_at t slot)

-- a number joins numbers in rising order, if it is not there
abbrev pub insert_rising : ℕ → List ℕ → List ℕ
insert_rising n [] = n ∷ []
insert_rising n (m ∷ ms) = if nat_lt n m then n ∷ m ∷ ms else (if n == m then m ∷ ms else m ∷ insert_rising n ms)

-- the group of a running process that is stopped
abbrev pub stopped_group : {D : Type 0} → Option (Process D) → Option ℕ
stopped_group None = None
stopped_group (Some p) = if is_running p && is_stopped p then Some p.group else None

abbrev pub insert_group : List ℕ → Option ℕ → List ℕ
insert_group groups None = groups
insert_group groups (Some group) = insert_rising group groups

-- the groups that have a stopped running member, in rising order
abbrev pub stopped_groups : {D : Type 0} → Processes D → List ℕ
stopped_groups t = fold (λ groups s. insert_group groups (stopped_group s.process)) [] t.slots

abbrev pub has_stopped : {D : Type 0} → Processes D → ℕ → Bool
has_stopped t group = any_running (λ p. p.group == group && is_stopped p) t

-- the groups that have become orphaned between two tables and have a stopped running member, in rising order
unfoldable pub groups_orphaned_by : {D : Type 0} → Processes D → Processes D → List ℕ
groups_orphaned_by t after =
    filter (λ group. is_orphaned after group && has_stopped after group) (filter (λ group. not (is_orphaned t group)) (stopped_groups t))

-- a group gets HUP, and then CONT
abbrev pub hang_up : {D : Type 0} → Posted D → ℕ → Posted D
hang_up posted group =
    let after = post posted.table sig.HUP (to.Group group) posted.ending in
    post after.table sig.CONT (to.Group group) after.ending

-- the running process of a slot is ended: the groups that become orphaned by this and have a stopped member get HUP and CONT, in rising order
abbrev pub bury : {D : Type 0} → Processes D → ℕ → How → List (ℕ × How) → Posted D
bury t slot why ending =
    let after = end_at t slot why in
    fold hang_up (record { table = after; ending = ending }) (groups_orphaned_by t after)

-- the same of a process that lets its working directory go first: a zombie's counts as the root
abbrev pub bury_in : {D : Type 0} → D → Processes D → ℕ → How → List (ℕ × How) → Posted D
bury_in root t slot why ending = bury (change_process (with_directory root) t slot) slot why ending
