-- What calls of a process change of itself (execve(2), chdir(2), setuid(2), mac_set_proc(3), umask(2), setsid(2), setpgid(2), sigaction(2)).
use Rattle.std.specs.Prelude.{ℕ, true, List, map}
use Rattle.label_core.specs.declared.subject.Subject.{Subject}
use Rattle.acl_core.specs.declared.cred.Cred.{Cred}
use Rattle.sys_types.specs.declared.image.Image.{Image}
use Rattle.sys_types.specs.declared.sig.Sig.{Sig}
use Rattle.call_words.specs.declared.signal.Action.{Action}
use Rattle.call_words.specs.declared.signal.Action.TheVariants as action
use Rattle.proc_table.specs.Processes.{Process, set_action, drop_caught}

-- it begins its program
abbrev pub begin : {D : Type 0} → Process D → Process D
begin p = record p { begun = true }

abbrev pub with_cred : {D : Type 0} → Cred → Process D → Process D
with_cred cred p = record p { cred = cred }

abbrev pub with_label : {D : Type 0} → Subject → Process D → Process D
with_label label p = record p { label = label }

abbrev pub with_umask : {D : Type 0} → ℕ → Process D → Process D
with_umask umask p = record p { umask = umask }

abbrev pub with_directory : {D : Type 0} → D → Process D → Process D
with_directory directory p = record p { directory = directory }

abbrev pub with_group : {D : Type 0} → ℕ → Process D → Process D
with_group group p = record p { group = group }

-- it leads a session and a group of its own
abbrev pub lead_session : {D : Type 0} → Process D → Process D
lead_session p = record p { session = p.pid; group = p.pid }

-- a signal that was caught does again what it does by default
abbrev pub reset_action : Action → Action
reset_action action.Normal = action.Normal
reset_action action.Ignore = action.Ignore
reset_action action.Catch = action.Normal

-- a program begins with these arguments: caught signals do again what they do by default, and those that are pending go
abbrev pub exec_process : {D : Type 0} → Process D → Image → List ℕ → Process D
exec_process who program args = record who {
  image = program;
  args = args;
  actions = map reset_action who.actions;
  caught = 0;
  execed = true;
}

-- what it does at a signal is set, and such a signal that is pending goes
abbrev pub act_on : {D : Type 0} → Sig → Action → Process D → Process D
act_on signal action who = drop_caught signal (record who { actions = set_action who.actions signal action })
