-- A call that is said by the grammar is read.
use Rattle.std.proofs.Common.{◌≡◌, ℕ, List, [], ◌∷◌, Some, refl}
use Rattle.call_words.specs.declared.call.Call.{Call}
use Rattle.call_words.specs.declared.call.Call.TheVariants as call
use Rattle.script_text.specs.Open.{open_call_of}
use Rattle.script_text.specs.Io.{io_call_of}
use Rattle.script_text.specs.Dir.{dir_call_of}
use Rattle.script_text.specs.Attr.{attr_call_of}
use Rattle.script_text.specs.Cred.{cred_call_of}
use Rattle.script_text.specs.Pipe.{pipe_call_of}
use Rattle.script_text.specs.Proc.{proc_call_of}
use Rattle.script_text.specs.Signal.{signal_call_of}
use Rattle.script_text.specs.Tty.{tty_call_of}
use Rattle.script_text.specs.Calls.{call_of}
use Rattle.script_text.specs.Grammar.{SayAll, call_fields}

pub call_is_read : (c : Call) (w : List ℕ) (ws : List (List ℕ)) → SayAll (call_fields c) (w ∷ ws) → call_of w ws ≡ Some c
unfolding open_call_of io_call_of dir_call_of attr_call_of cred_call_of pipe_call_of proc_call_of signal_call_of tty_call_of
call_is_read (call.Open p a f m) called [] h = absurd h.1.0
call_is_read (call.Open p a f m) called (p' ∷ []) h = absurd h.1.1.0
call_is_read (call.Open p a f m) called (p' ∷ a' ∷ []) h = rw (h.0, h.1.0, h.1.1.0, h.1.1.1.0, h.1.1.1.1.0) refl
call_is_read (call.Open p a f m) called (p' ∷ a' ∷ f' ∷ []) h = rw (h.0, h.1.0, h.1.1.0, h.1.1.1.0, h.1.1.1.1.0) refl
call_is_read (call.Open p a f m) called (p' ∷ a' ∷ f' ∷ m' ∷ []) h = rw (h.0, h.1.0, h.1.1.0, h.1.1.1.0, h.1.1.1.1.0) refl
call_is_read (call.Open p a f m) called (p' ∷ a' ∷ f' ∷ m' ∷ w ∷ ws) h = absurd h.1.1.1.1.1
call_is_read (call.Close n) called [] h = absurd h.1.0
call_is_read (call.Close n) called (x ∷ []) h = rw (h.0, h.1.0) refl
call_is_read (call.Close n) called (x ∷ w ∷ ws) h = absurd h.1.1
call_is_read (call.Dup n) called [] h = absurd h.1.0
call_is_read (call.Dup n) called (x ∷ []) h = rw (h.0, h.1.0) refl
call_is_read (call.Dup n) called (x ∷ w ∷ ws) h = absurd h.1.1
call_is_read (call.Dup2 n m) called [] h = absurd h.1.0
call_is_read (call.Dup2 n m) called (x ∷ []) h = absurd h.1.1.0
call_is_read (call.Dup2 n m) called (x ∷ y ∷ []) h = rw (h.0, h.1.0, h.1.1.0) refl
call_is_read (call.Dup2 n m) called (x ∷ y ∷ w ∷ ws) h = absurd h.1.1.1
call_is_read (call.Read n m) called [] h = absurd h.1.0
call_is_read (call.Read n m) called (x ∷ []) h = absurd h.1.1.0
call_is_read (call.Read n m) called (x ∷ y ∷ []) h = rw (h.0, h.1.0, h.1.1.0) refl
call_is_read (call.Read n m) called (x ∷ y ∷ w ∷ ws) h = absurd h.1.1.1
call_is_read (call.Write n bs) called [] h = absurd h.1.0
call_is_read (call.Write n bs) called (x ∷ []) h = absurd h.1.1.0
call_is_read (call.Write n bs) called (x ∷ y ∷ []) h = rw (h.0, h.1.0, h.1.1.0) refl
call_is_read (call.Write n bs) called (x ∷ y ∷ w ∷ ws) h = absurd h.1.1.1
call_is_read (call.Chdir p) called [] h = absurd h.1.0
call_is_read (call.Chdir p) called (x ∷ []) h = rw (h.0, h.1.0) refl
call_is_read (call.Chdir p) called (x ∷ w ∷ ws) h = absurd h.1.1
call_is_read (call.Mkdir p m) called [] h = absurd h.1.0
call_is_read (call.Mkdir p m) called (x ∷ []) h = absurd h.1.1.0
call_is_read (call.Mkdir p m) called (x ∷ y ∷ []) h = rw (h.0, h.1.0, h.1.1.0) refl
call_is_read (call.Mkdir p m) called (x ∷ y ∷ w ∷ ws) h = absurd h.1.1.1
call_is_read (call.Rmdir p) called [] h = absurd h.1.0
call_is_read (call.Rmdir p) called (x ∷ []) h = rw (h.0, h.1.0) refl
call_is_read (call.Rmdir p) called (x ∷ w ∷ ws) h = absurd h.1.1
call_is_read (call.Unlink p) called [] h = absurd h.1.0
call_is_read (call.Unlink p) called (x ∷ []) h = rw (h.0, h.1.0) refl
call_is_read (call.Unlink p) called (x ∷ w ∷ ws) h = absurd h.1.1
call_is_read (call.List p k) called [] h = absurd h.1.0
call_is_read (call.List p k) called (x ∷ []) h = absurd h.1.1.0
call_is_read (call.List p k) called (x ∷ y ∷ []) h = rw (h.0, h.1.0, h.1.1.0) refl
call_is_read (call.List p k) called (x ∷ y ∷ w ∷ ws) h = absurd h.1.1.1
call_is_read (call.Info p) called [] h = absurd h.1.0
call_is_read (call.Info p) called (x ∷ []) h = rw (h.0, h.1.0) refl
call_is_read (call.Info p) called (x ∷ w ∷ ws) h = absurd h.1.1
call_is_read (call.Chmod p m) called [] h = absurd h.1.0
call_is_read (call.Chmod p m) called (x ∷ []) h = absurd h.1.1.0
call_is_read (call.Chmod p m) called (x ∷ y ∷ []) h = rw (h.0, h.1.0, h.1.1.0) refl
call_is_read (call.Chmod p m) called (x ∷ y ∷ w ∷ ws) h = absurd h.1.1.1
call_is_read (call.Chown p u g) called [] h = absurd h.1.0
call_is_read (call.Chown p u g) called (x ∷ []) h = absurd h.1.1.0
call_is_read (call.Chown p u g) called (x ∷ y ∷ []) h = absurd h.1.1.1.0
call_is_read (call.Chown p u g) called (x ∷ y ∷ z ∷ []) h = rw (h.0, h.1.0, h.1.1.0, h.1.1.1.0) refl
call_is_read (call.Chown p u g) called (x ∷ y ∷ z ∷ w ∷ ws) h = absurd h.1.1.1.1
call_is_read (call.SetAcl p l es) called [] h = absurd h.1.0
call_is_read (call.SetAcl p l es) called (x ∷ []) h = absurd h.1.1.0
call_is_read (call.SetAcl p l es) called (x ∷ y ∷ []) h = absurd h.1.1.1.0
call_is_read (call.SetAcl p l es) called (x ∷ y ∷ z ∷ []) h = rw (h.0, h.1.0, h.1.1.0, h.1.1.1.0) refl
call_is_read (call.SetAcl p l es) called (x ∷ y ∷ z ∷ w ∷ ws) h = absurd h.1.1.1.1
call_is_read (call.GetAcl p l) called [] h = absurd h.1.0
call_is_read (call.GetAcl p l) called (x ∷ []) h = absurd h.1.1.0
call_is_read (call.GetAcl p l) called (x ∷ y ∷ []) h = rw (h.0, h.1.0, h.1.1.0) refl
call_is_read (call.GetAcl p l) called (x ∷ y ∷ w ∷ ws) h = absurd h.1.1.1
call_is_read (call.SetLabel p e) called [] h = absurd h.1.0
call_is_read (call.SetLabel p e) called (x ∷ []) h = absurd h.1.1.0
call_is_read (call.SetLabel p e) called (x ∷ y ∷ []) h = rw (h.0, h.1.0, h.1.1.0) refl
call_is_read (call.SetLabel p e) called (x ∷ y ∷ w ∷ ws) h = absurd h.1.1.1
call_is_read (call.GetLabel p) called [] h = absurd h.1.0
call_is_read (call.GetLabel p) called (x ∷ []) h = rw (h.0, h.1.0) refl
call_is_read (call.GetLabel p) called (x ∷ w ∷ ws) h = absurd h.1.1
call_is_read (call.SetProcLabel s) called [] h = absurd h.1.0
call_is_read (call.SetProcLabel s) called (x ∷ []) h = rw (h.0, h.1.0) refl
call_is_read (call.SetProcLabel s) called (x ∷ w ∷ ws) h = absurd h.1.1
call_is_read call.Ident called [] h = rw h.0 refl
call_is_read call.Ident called (w ∷ ws) h = absurd h.1
call_is_read (call.SetCred c) called [] h = absurd h.1.0
call_is_read (call.SetCred c) called (x ∷ []) h = absurd h.1.1.0
call_is_read (call.SetCred c) called (x ∷ y ∷ []) h = absurd h.1.1.1.0
call_is_read (call.SetCred c) called (x ∷ y ∷ z ∷ []) h = rw (h.0, h.1.0, h.1.1.0, h.1.1.1.0) refl
call_is_read (call.SetCred c) called (x ∷ y ∷ z ∷ w ∷ ws) h = absurd h.1.1.1.1
call_is_read (call.Umask m) called [] h = absurd h.1.0
call_is_read (call.Umask m) called (x ∷ []) h = rw (h.0, h.1.0) refl
call_is_read (call.Umask m) called (x ∷ w ∷ ws) h = absurd h.1.1
call_is_read call.Pipe called [] h = rw h.0 refl
call_is_read call.Pipe called (w ∷ ws) h = absurd h.1
call_is_read call.Begin called [] h = rw h.0 refl
call_is_read call.Begin called (w ∷ ws) h = absurd h.1
call_is_read (call.Fork bs) called [] h = rw (h.0, h.1.0) refl
call_is_read (call.Fork bs) called (b' ∷ []) h = rw (h.0, h.1.0) refl
call_is_read (call.Fork bs) called (b' ∷ w ∷ ws) h = absurd h.1.1
call_is_read (call.Exec p bs) called [] h = absurd h.1.0
call_is_read (call.Exec p bs) called (x ∷ []) h = absurd h.1.1.0
call_is_read (call.Exec p bs) called (x ∷ y ∷ []) h = rw (h.0, h.1.0, h.1.1.0) refl
call_is_read (call.Exec p bs) called (x ∷ y ∷ w ∷ ws) h = absurd h.1.1.1
call_is_read (call.Exit n) called [] h = absurd h.1.0
call_is_read (call.Exit n) called (x ∷ []) h = rw (h.0, h.1.0) refl
call_is_read (call.Exit n) called (x ∷ w ∷ ws) h = absurd h.1.1
call_is_read (call.Wait p f) called [] h = absurd h.1.0
call_is_read (call.Wait p f) called (p' ∷ []) h = rw (h.0, h.1.0, h.1.1.0) refl
call_is_read (call.Wait p f) called (p' ∷ f' ∷ []) h = rw (h.0, h.1.0, h.1.1.0) refl
call_is_read (call.Wait p f) called (p' ∷ f' ∷ w ∷ ws) h = absurd h.1.1.1
call_is_read call.SetSid called [] h = rw h.0 refl
call_is_read call.SetSid called (w ∷ ws) h = absurd h.1
call_is_read (call.SetPgid n g) called [] h = absurd h.1.0
call_is_read (call.SetPgid n g) called (x ∷ []) h = absurd h.1.1.0
call_is_read (call.SetPgid n g) called (x ∷ y ∷ []) h = rw (h.0, h.1.0, h.1.1.0) refl
call_is_read (call.SetPgid n g) called (x ∷ y ∷ w ∷ ws) h = absurd h.1.1.1
call_is_read call.Ps called [] h = rw h.0 refl
call_is_read call.Ps called (w ∷ ws) h = absurd h.1
call_is_read call.Halt called [] h = rw h.0 refl
call_is_read call.Halt called (w ∷ ws) h = absurd h.1
call_is_read (call.Kill t s) called [] h = absurd h.1.0
call_is_read (call.Kill t s) called (x ∷ []) h = absurd h.1.1.0
call_is_read (call.Kill t s) called (x ∷ y ∷ []) h = rw (h.0, h.1.0, h.1.1.0) refl
call_is_read (call.Kill t s) called (x ∷ y ∷ w ∷ ws) h = absurd h.1.1.1
call_is_read (call.SigSet s a) called [] h = absurd h.1.0
call_is_read (call.SigSet s a) called (x ∷ []) h = absurd h.1.1.0
call_is_read (call.SigSet s a) called (x ∷ y ∷ []) h = rw (h.0, h.1.0, h.1.1.0) refl
call_is_read (call.SigSet s a) called (x ∷ y ∷ w ∷ ws) h = absurd h.1.1.1
call_is_read call.SigTake called [] h = rw h.0 refl
call_is_read call.SigTake called (w ∷ ws) h = absurd h.1
call_is_read call.Pause called [] h = rw h.0 refl
call_is_read call.Pause called (w ∷ ws) h = absurd h.1
call_is_read (call.SetCtty n) called [] h = absurd h.1.0
call_is_read (call.SetCtty n) called (x ∷ []) h = rw (h.0, h.1.0) refl
call_is_read (call.SetCtty n) called (x ∷ w ∷ ws) h = absurd h.1.1
call_is_read (call.TcGetAttr n) called [] h = absurd h.1.0
call_is_read (call.TcGetAttr n) called (x ∷ []) h = rw (h.0, h.1.0) refl
call_is_read (call.TcGetAttr n) called (x ∷ w ∷ ws) h = absurd h.1.1
call_is_read (call.TcSetAttr n m t) called [] h = absurd h.1.0
call_is_read (call.TcSetAttr n m t) called (x ∷ []) h = absurd h.1.1.0
call_is_read (call.TcSetAttr n m t) called (x ∷ y ∷ []) h = absurd h.1.1.1.0
call_is_read (call.TcSetAttr n m t) called (x ∷ y ∷ z ∷ []) h = rw (h.0, h.1.0, h.1.1.0, h.1.1.1.0) refl
call_is_read (call.TcSetAttr n m t) called (x ∷ y ∷ z ∷ w ∷ ws) h = absurd h.1.1.1.1
call_is_read (call.TcFlush n q) called [] h = absurd h.1.0
call_is_read (call.TcFlush n q) called (x ∷ []) h = absurd h.1.1.0
call_is_read (call.TcFlush n q) called (x ∷ y ∷ []) h = rw (h.0, h.1.0, h.1.1.0) refl
call_is_read (call.TcFlush n q) called (x ∷ y ∷ w ∷ ws) h = absurd h.1.1.1
call_is_read (call.TcDrain n) called [] h = absurd h.1.0
call_is_read (call.TcDrain n) called (x ∷ []) h = rw (h.0, h.1.0) refl
call_is_read (call.TcDrain n) called (x ∷ w ∷ ws) h = absurd h.1.1
call_is_read (call.TcSetPgrp n g) called [] h = absurd h.1.0
call_is_read (call.TcSetPgrp n g) called (x ∷ []) h = absurd h.1.1.0
call_is_read (call.TcSetPgrp n g) called (x ∷ y ∷ []) h = rw (h.0, h.1.0, h.1.1.0) refl
call_is_read (call.TcSetPgrp n g) called (x ∷ y ∷ w ∷ ws) h = absurd h.1.1.1
call_is_read (call.TcGetPgrp n) called [] h = absurd h.1.0
call_is_read (call.TcGetPgrp n) called (x ∷ []) h = rw (h.0, h.1.0) refl
call_is_read (call.TcGetPgrp n) called (x ∷ w ∷ ws) h = absurd h.1.1
call_is_read (call.FdName n) called [] h = absurd h.1.0
call_is_read (call.FdName n) called (x ∷ []) h = rw (h.0, h.1.0) refl
call_is_read (call.FdName n) called (x ∷ w ∷ ws) h = absurd h.1.1
call_is_read (call.Revoke p) called [] h = absurd h.1.0
call_is_read (call.Revoke p) called (x ∷ []) h = rw (h.0, h.1.0) refl
call_is_read (call.Revoke p) called (x ∷ w ∷ ws) h = absurd h.1.1
