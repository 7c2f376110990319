-- What a signal does to the processes that it is posted to (kill(2), sigaction(2)).
use Rattle.std.specs.Prelude.{◌≡◌, ◌<◌, ℕ, Bool, true, false, ◌==◌, ◌&&◌, List, [], ◌∷◌, ◌++◌, fold, if◌then◌else◌, Option, Some, None}
use Rattle.std.specs.List.{list_any}
use Rattle.sys_types.specs.declared.limits.TheConstants.{SLOTS}
use Rattle.sys_types.specs.declared.sig.Sig.{Sig}
use Rattle.sys_types.specs.declared.sig.Sig.TheVariants as sig
use Rattle.call_words.specs.declared.event.How.{How}
use Rattle.call_words.specs.declared.event.How.TheVariants as how
use Rattle.call_words.specs.declared.signal.Action.{Action}
use Rattle.call_words.specs.declared.signal.Action.TheVariants as action
use Rattle.call_words.specs.declared.signal.To.{To}
use Rattle.call_words.specs.declared.signal.To.TheVariants as to
use Rattle.proc_table.specs.declared.post.Disposition.{Disposition}
use Rattle.proc_table.specs.declared.post.Disposition.TheVariants as disposition
use Rattle.proc_table.specs.declared.proc.TheConstants.{INIT}
use Rattle.proc_table.specs.Processes.{Process, Processes, action_of, is_running, running_at, change_process, add_caught, holds, slot_of, is_orphaned}
use Rattle.proc_table.specs.Processes.{slots_by_pid}

-- what a post leaves: the processes, and those that are to be ended after the posts of an event, each slot with how, in the order in which they are
-- ended; a process stands on this list once, and stays on it through its event
pub record Posted (D : Type 0) : Type 0 where
  pub table : Processes D
  pub ending : List (ℕ × How)

abbrev pub table_and_list : {D : Type 0} → Processes D → List (ℕ × How) → Posted D
table_and_list t ending = record { table = t; ending = ending }

-- what a signal does by default (signal(3)); one that stops does so only unless the process group is orphaned
abbrev pub by_default : Sig → Bool → Disposition
by_default sig.CHLD orphaned = disposition.Nothing
by_default sig.CONT orphaned = disposition.Nothing
by_default sig.TSTP orphaned = if orphaned then disposition.Nothing else disposition.Stop
by_default sig.TTIN orphaned = if orphaned then disposition.Nothing else disposition.Stop
by_default sig.TTOU orphaned = if orphaned then disposition.Nothing else disposition.Stop
by_default sig.STOP orphaned = disposition.Stop
by_default signal orphaned = disposition.End

abbrev pub by_action : Action → Sig → Bool → Disposition
by_action action.Ignore signal orphaned = disposition.Nothing
by_action action.Catch signal orphaned = disposition.Catch
by_action action.Normal signal orphaned = by_default signal orphaned

-- KILL and STOP do the same whatever the action is
abbrev pub is_fixed : Sig → Bool
is_fixed sig.KILL = true
is_fixed sig.STOP = true
is_fixed signal = false

-- pid 1 is neither ended nor stopped
abbrev pub for_init : Disposition → Disposition
for_init disposition.Catch = disposition.Catch
for_init other = disposition.Nothing

abbrev pub unless_init : ℕ → Disposition → Disposition
unless_init pid what = if pid == INIT then for_init what else what

-- what a signal does to a process
unfoldable pub disposition_of : {D : Type 0} → Processes D → Process D → Sig → Disposition
disposition_of t p signal =
    unless_init p.pid (by_action (if is_fixed signal then action.Normal else action_of p.actions signal) signal (is_orphaned t p.group))

abbrev pub continue : {D : Type 0} → Process D → Process D
continue p = record p { stopped = None }

-- CONT continues a process that is stopped, whatever its action is
abbrev pub continue_at : {D : Type 0} → Sig → Processes D → ℕ → Processes D
continue_at sig.CONT t slot = change_process continue t slot
continue_at signal t slot = t

-- a process is put on the list of those to be ended, unless it stands there
abbrev pub is_ending : List (ℕ × How) → ℕ → Bool
is_ending ending slot = list_any (λ e. e.0 == slot) ending

abbrev pub add_ending : List (ℕ × How) → ℕ → How → List (ℕ × How)
add_ending ending slot why = if is_ending ending slot then ending else ending ++ (slot, why) ∷ []

-- the list of those to be ended: its slots are below 32, and none stands there twice
abbrev pub IsEndingList : List (ℕ × How) → Type 0
IsEndingList [] = Unit {0}
IsEndingList (e ∷ es) = (e.0 < SLOTS) × (is_ending es e.0 ≡ false) × IsEndingList es

abbrev pub is_catch : Action → Bool
is_catch action.Catch = true
is_catch other = false

abbrev pub catches_child : {D : Type 0} → Process D → Bool
catches_child p = is_catch (action_of p.actions sig.CHLD)

abbrev pub catch_child : {D : Type 0} → Processes D → Option ℕ → Processes D
catch_child t None = t
catch_child t (Some slot) = if holds catches_child (running_at t slot) then change_process (add_caught sig.CHLD) t slot else t

-- CHLD is posted to the parent of a child that stopped or ended: it becomes pending where the parent catches it, and does nothing else
unfoldable pub post_child : {D : Type 0} → Processes D → ℕ → Processes D
post_child t parent = catch_child t (slot_of t parent)

-- stopped by a signal, which no wait has told yet
abbrev pub stop : {D : Type 0} → Sig → Process D → Process D
stop signal p = record p { stopped = Some signal; reported = false }

-- a signal does this to the process of a slot, of this parent; a parent gets CHLD when its child stops
abbrev pub dispose : {D : Type 0} → Disposition → Sig → ℕ → ℕ → Posted D → Posted D
dispose disposition.End signal slot parent posted = record posted { ending = add_ending posted.ending slot (how.Signal signal) }
dispose disposition.Stop signal slot parent posted = record posted { table = post_child (change_process (stop signal) posted.table slot) parent }
dispose disposition.Catch signal slot parent posted = record posted { table = change_process (add_caught signal) posted.table slot }
dispose disposition.Nothing signal slot parent posted = posted

abbrev pub post_if_running : {D : Type 0} → Sig → ℕ → Posted D → Option (Process D) → Posted D
post_if_running signal slot posted None = posted
post_if_running signal slot posted (Some p) =
    dispose (disposition_of posted.table p signal) signal slot p.parent (record posted { table = continue_at signal posted.table slot })

-- a signal is posted to the running process of a slot
abbrev pub post_at : {D : Type 0} → Sig → Posted D → ℕ → Posted D
post_at signal posted slot = post_if_running signal slot posted (running_at posted.table slot)

-- to those of some slots, one after the other
abbrev pub post_all : {D : Type 0} → Sig → List ℕ → Posted D → Posted D
post_all signal slots posted = fold (post_at signal) posted slots

abbrev pub is_to : {D : Type 0} → To → Process D → Bool
is_to (to.Pid pid) p = p.pid == pid
is_to (to.Group group) p = p.group == group

-- the slots of the running processes to which a signal is posted, in rising order of their pids
abbrev pub receivers : {D : Type 0} → Processes D → To → List ℕ
receivers t whom = slots_by_pid (λ p. is_running p && is_to whom p) t

-- a signal is posted to a process or to each of a group, in rising order of their pids
abbrev pub post : {D : Type 0} → Processes D → Sig → To → List (ℕ × How) → Posted D
post t signal whom ending = post_all signal (receivers t whom) (table_and_list t ending)
