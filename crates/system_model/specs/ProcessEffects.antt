-- What events change of processes (fork(2), kill(2), _exit(2), wait4(2)).
use Rattle.std.specs.Prelude.{ℕ, Bool, List, [], Option}
use Rattle.call_words.specs.declared.call.Call.{Call}
use Rattle.call_words.specs.declared.event.How.{How}
use Rattle.call_words.specs.declared.signal.To.{To}
use Rattle.sys_types.specs.declared.sig.Sig.{Sig}
use Rattle.proc_table.specs.Processes as table
use Rattle.proc_table.specs.Processes.{Process, Processes}
use Rattle.proc_table.specs.Forks as forks
use Rattle.proc_table.specs.Posts as posts
use Rattle.proc_table.specs.Posts.{Posted}
use Rattle.proc_table.specs.Endings as endings
use Rattle.proc_table.specs.Reaping as reaping
use Rattle.system_model.specs.Parts.{Path, Parts}

pub data ProcessEffect : Type 0 where
  -- the process of a slot is this
  set_process : ℕ → Process Path → ProcessEffect
  -- the process of a slot forks, and its child has these bytes as arguments
  fork_process : ℕ → List ℕ → ProcessEffect
  -- the process of a slot reaps a child that a wait for this pid names, or learns that one was stopped where that is asked
  reap_child : ℕ → ℕ → Bool → ProcessEffect
  -- the call that a slot waits in, or none
  set_pending : ℕ → Option Call → ProcessEffect
  -- a slot is not left any more
  tell : ℕ → ProcessEffect
  -- a signal is sent
  post : Sig → To → ProcessEffect
  -- a process is to be ended
  add_ending : ℕ → How → ProcessEffect
  -- a process ends, and lets its working directory go
  bury : ℕ → How → ProcessEffect
  -- all that were to be ended were ended
  clear_ending : ProcessEffect

abbrev pub after_post : {F C : Type 0} → Parts F C → Posted Path → Parts F C
after_post m p = record m { processes = p.table; ending = p.ending }

unfoldable pub change_processes : {F C : Type 0} → Parts F C → ProcessEffect → Parts F C
change_processes m (reap_child slot who untraced) = record m { processes = (reaping.reap m.processes slot who untraced).0 }
change_processes m (set_process slot process) = record m { processes = table.put_process m.processes slot process }
change_processes m (fork_process slot note) = record m { processes = forks.fork m.processes slot note }
change_processes m (set_pending slot call) = record m { processes = table.set_pending m.processes slot call }
change_processes m (tell slot) = record m { processes = table.tell m.processes slot }
change_processes m (post sig to) = after_post m (posts.post m.processes sig to m.ending)
change_processes m (add_ending slot how) = record m { ending = posts.add_ending m.ending slot how }
change_processes m (bury slot how) = after_post m (endings.bury_in [] m.processes slot how m.ending)
change_processes m clear_ending = record m { ending = [] }
