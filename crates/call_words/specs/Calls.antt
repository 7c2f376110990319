-- What an access allows (open(2)), the groups of calls, and the modes that a call can name.
use Rattle.std.specs.Prelude.{◌≤◌, Bool, true, false}
use Rattle.acl_core.specs.declared.mode.TheConstants.{MODE_MOST}
use Rattle.call_words.specs.declared.open.Access.{Access}
use Rattle.call_words.specs.declared.open.Access.TheVariants.{Read, Write, ReadWrite}
use Rattle.call_words.specs.declared.call.Call.{Call}
use Rattle.call_words.specs.declared.call.Call.TheVariants as call

abbrev pub can_read : Access → Bool
can_read Read = true
can_read Write = false
can_read ReadWrite = true

abbrev pub can_write : Access → Bool
can_write Read = false
can_write Write = true
can_write ReadWrite = true

-- the groups of calls: descriptors, reads and writes, pipes, directories, what a node is, who asks, processes, signals, lines
pub data CallGroup : Type 0 where
  open_call : CallGroup
  io_call : CallGroup
  pipe_call : CallGroup
  dir_call : CallGroup
  attr_call : CallGroup
  cred_call : CallGroup
  proc_call : CallGroup
  signal_call : CallGroup
  tty_call : CallGroup

abbrev pub group_of_call : Call → CallGroup
group_of_call (call.Open path access flags mode) = open_call
group_of_call (call.Close fd) = open_call
group_of_call (call.Dup fd) = open_call
group_of_call (call.Dup2 fd to) = open_call
group_of_call (call.Read fd max) = io_call
group_of_call (call.Write fd bytes) = io_call
group_of_call call.Pipe = pipe_call
group_of_call (call.Chdir path) = dir_call
group_of_call (call.Mkdir path mode) = dir_call
group_of_call (call.Rmdir path) = dir_call
group_of_call (call.Unlink path) = dir_call
group_of_call (call.List path from) = dir_call
group_of_call (call.Info path) = attr_call
group_of_call (call.Chmod path mode) = attr_call
group_of_call (call.Chown path uid gid) = attr_call
group_of_call (call.SetAcl path which list) = attr_call
group_of_call (call.GetAcl path which) = attr_call
group_of_call (call.SetLabel path element) = attr_call
group_of_call (call.GetLabel path) = attr_call
group_of_call (call.SetProcLabel subject) = cred_call
group_of_call call.Ident = cred_call
group_of_call (call.SetCred cred) = cred_call
group_of_call (call.Umask mode) = cred_call
group_of_call call.Begin = proc_call
group_of_call (call.Fork note) = proc_call
group_of_call (call.Exec path args) = proc_call
group_of_call (call.Exit status) = proc_call
group_of_call (call.Wait pid flags) = proc_call
group_of_call call.SetSid = proc_call
group_of_call (call.SetPgid pid group) = proc_call
group_of_call call.Ps = proc_call
group_of_call call.Halt = proc_call
group_of_call (call.Kill to sig) = signal_call
group_of_call (call.SigSet sig action) = signal_call
group_of_call call.SigTake = signal_call
group_of_call call.Pause = signal_call
group_of_call (call.SetCtty fd) = tty_call
group_of_call (call.TcGetAttr fd) = tty_call
group_of_call (call.TcSetAttr fd when termios) = tty_call
group_of_call (call.TcFlush fd which) = tty_call
group_of_call (call.TcDrain fd) = tty_call
group_of_call (call.TcSetPgrp fd group) = tty_call
group_of_call (call.TcGetPgrp fd) = tty_call
group_of_call (call.FdName fd) = tty_call
group_of_call (call.Revoke path) = tty_call

-- a mode that the call names is of the nine bits of chmod(2): at most octal 777
abbrev pub HasFitMode : Call → Type 0
HasFitMode (call.Open path access flags mode) = mode ≤ MODE_MOST
HasFitMode (call.Mkdir path mode) = mode ≤ MODE_MOST
HasFitMode (call.Chmod path mode) = mode ≤ MODE_MOST
HasFitMode (call.Umask mode) = mode ≤ MODE_MOST
HasFitMode _ = Unit {0}
