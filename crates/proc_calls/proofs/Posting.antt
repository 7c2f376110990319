-- Signals that are posted keep where the processes are.
use Rattle.std.proofs.Common.{ℕ, Bool, true, false, cond, List, [], ◌∷◌, Option, Some, None, eqb, refl}
use Rattle.std.specs.Prelude.{fold}
use Rattle.sys_types.specs.declared.sig.Sig.{Sig}
use Rattle.sys_types.specs.declared.sig.Sig.TheVariants as sig
use Rattle.call_words.specs.declared.signal.Action.{Action}
use Rattle.call_words.specs.declared.signal.Action.TheVariants as action
use Rattle.call_words.specs.declared.signal.To.TheVariants as to
use Rattle.proc_table.specs.declared.proc.TheConstants.{INIT}
use Rattle.proc_table.specs.Processes.{Process, Processes, running_at, change_process, add_caught, holds, slot_of, action_of, is_orphaned}
use Rattle.proc_table.specs.Posts.{Posted, by_default, by_action, for_init, is_fixed, continue, continue_at, catches_child, catch_child, post_child, stop, dispose, disposition_of}
use Rattle.proc_table.specs.Posts.{post_if_running, post_at, receivers}
use Rattle.proc_table.specs.Kills.{post_to, post_to_each}
use Rattle.proc_calls.proofs.Keeping.{Keeps, keeps_all, keeps_on, change_keeps}

continue_keeps : (signal : Sig) (t : Processes ℕ) (slot : ℕ) → Keeps t (continue_at signal t slot)
continue_keeps sig.CONT t slot = change_keeps continue (λ p. refl) (λ p. refl) t slot
continue_keeps signal t slot = keeps_all t

catch_keeps : (t : Processes ℕ) (slot : Option ℕ) → Keeps t (catch_child t slot)
catch_keeps t None = keeps_all t
catch_keeps t (Some slot) = by_case (holds catches_child (running_at t slot))
  where
    by_case : (b : Bool) → Keeps t (cond b (change_process (add_caught sig.CHLD) t slot) t)
    by_case true = change_keeps (add_caught sig.CHLD) (λ p. refl) (λ p. refl) t slot
    by_case false = keeps_all t

child_keeps : (t : Processes ℕ) (parent : ℕ) → Keeps t (post_child t parent)
unfolding post_child
child_keeps t parent = catch_keeps t (slot_of t parent)

stop_keeps : (signal : Sig) (slot parent : ℕ) (t : Processes ℕ) → Keeps t (post_child (change_process (stop signal) t slot) parent)
stop_keeps signal slot parent t =
    keeps_on t (change_process (stop signal) t slot) (post_child (change_process (stop signal) t slot) parent)
    (change_keeps (stop signal) (λ p. refl) (λ p. refl) t slot) (child_keeps (change_process (stop signal) t slot) parent)

-- what a signal does by default, to pid 1 or to another
default_keeps : (is_init : Bool) (signal : Sig) (orphaned : Bool) (also : Sig) (slot parent : ℕ) (posted : Posted ℕ)
    → Keeps posted.table (dispose (cond is_init (for_init (by_default signal orphaned)) (by_default signal orphaned)) also slot parent posted).table
default_keeps true sig.TSTP true also slot parent posted = keeps_all posted.table
default_keeps true sig.TSTP false also slot parent posted = keeps_all posted.table
default_keeps true sig.TTIN true also slot parent posted = keeps_all posted.table
default_keeps true sig.TTIN false also slot parent posted = keeps_all posted.table
default_keeps true sig.TTOU true also slot parent posted = keeps_all posted.table
default_keeps true sig.TTOU false also slot parent posted = keeps_all posted.table
default_keeps true signal orphaned also slot parent posted = keeps_all posted.table
default_keeps false sig.TSTP true also slot parent posted = keeps_all posted.table
default_keeps false sig.TSTP false also slot parent posted = stop_keeps also slot parent posted.table
default_keeps false sig.TTIN true also slot parent posted = keeps_all posted.table
default_keeps false sig.TTIN false also slot parent posted = stop_keeps also slot parent posted.table
default_keeps false sig.TTOU true also slot parent posted = keeps_all posted.table
default_keeps false sig.TTOU false also slot parent posted = stop_keeps also slot parent posted.table
default_keeps false sig.STOP orphaned also slot parent posted = stop_keeps also slot parent posted.table
default_keeps false signal orphaned also slot parent posted = keeps_all posted.table

action_keeps : (is_init : Bool) (what : Action) (signal : Sig) (orphaned : Bool) (also : Sig) (slot parent : ℕ) (posted : Posted ℕ)
    → Keeps posted.table (dispose (cond is_init (for_init (by_action what signal orphaned)) (by_action what signal orphaned)) also slot parent posted).table
action_keeps true action.Ignore signal orphaned also slot parent posted = keeps_all posted.table
action_keeps false action.Ignore signal orphaned also slot parent posted = keeps_all posted.table
action_keeps true action.Catch signal orphaned also slot parent posted = change_keeps (add_caught also) (λ p. refl) (λ p. refl) posted.table slot
action_keeps false action.Catch signal orphaned also slot parent posted = change_keeps (add_caught also) (λ p. refl) (λ p. refl) posted.table slot
action_keeps is_init action.Normal signal orphaned also slot parent posted = default_keeps is_init signal orphaned also slot parent posted

if_running_keeps : (signal : Sig) (slot : ℕ) (posted : Posted ℕ) (o : Option (Process ℕ)) → Keeps posted.table (post_if_running signal slot posted o).table
unfolding disposition_of
if_running_keeps signal slot posted None = keeps_all posted.table
if_running_keeps signal slot posted (Some p) =
    (let after = continue_at signal posted.table slot in
    keeps_on posted.table after _ (continue_keeps signal posted.table slot)
    (action_keeps (eqb p.pid INIT) (cond (is_fixed signal) action.Normal (action_of p.actions signal)) signal (is_orphaned posted.table p.group) signal slot
    p.parent (record { table = after; ending = posted.ending })))

fold_keeps : {X : Type 0} (step : Posted ℕ → X → Posted ℕ) → ((posted : Posted ℕ) (x : X) → Keeps posted.table (step posted x).table)
    → (posted : Posted ℕ) (xs : List X) → Keeps posted.table (fold step posted xs).table
fold_keeps step each posted [] = keeps_all posted.table
fold_keeps step each posted (x ∷ xs) =
    keeps_on posted.table (step posted x).table (fold step (step posted x) xs).table (each posted x) (fold_keeps step each (step posted x) xs)

post_to_keeps : (signal : Sig) (posted : Posted ℕ) (pid : ℕ) → Keeps posted.table (post_to signal posted pid).table
post_to_keeps signal posted pid =
    fold_keeps (post_at signal) (λ before slot. if_running_keeps signal slot before (running_at before.table slot))
    (record { table = posted.table; ending = posted.ending }) (receivers posted.table (to.Pid pid))

pub post_each_keeps : (signal : Sig) (pids : List ℕ) (posted : Posted ℕ) → Keeps posted.table (post_to_each signal pids posted).table
post_each_keeps signal pids posted = fold_keeps (post_to signal) (post_to_keeps signal) posted pids
