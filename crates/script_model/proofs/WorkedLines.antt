-- The definitions give the events of single lines, worked out by hand: every kind of call once, and each way for a line to be bad.
use Rattle.std.proofs.Common.{◌≡◌, ℕ, zero, suc, [], ◌∷◌, ◌++◌, List, length, refl}
use Rattle.std.specs.Prelude.{Option, Some, None, option_map, Bool, true, false, map, codes}
use Rattle.label_core.specs.declared.element.Element.TheVariants.{Low, Equal, Grade}
use Rattle.acl_core.specs.declared.entry.Entry.{Entry}
use Rattle.acl_core.specs.declared.entry.Tag.{Tag}
use Rattle.acl_core.specs.declared.entry.Tag.TheVariants.{User, Other}
use Rattle.acl_core.specs.Perm.{perm_of}
use Rattle.call_words.specs.declared.open.Access.TheVariants as access
use Rattle.call_words.specs.declared.call.Call.TheVariants as call
use Rattle.call_words.specs.declared.open.OpenFlags.{OpenFlags}
use Rattle.call_words.specs.declared.proc.WaitFlags.{WaitFlags}
use Rattle.call_words.specs.declared.signal.To.TheVariants as to
use Rattle.call_words.specs.declared.signal.Action.TheVariants as action
use Rattle.call_words.specs.declared.tty.When.TheVariants as when
use Rattle.call_words.specs.declared.tty.WhichQueue.TheVariants as queue
use Rattle.sys_types.specs.declared.sig.Sig.TheVariants as sig
use Rattle.termios_core.specs.Termios.{cooked, raw}
use Rattle.call_words.specs.declared.event.Event.{Event}
use Rattle.call_words.specs.declared.event.Event.TheVariants as event
use Rattle.call_words.specs.declared.attr.WhichList.TheVariants as which
use Rattle.script_text.specs.Values.{no_flags}
use Rattle.script_text.specs.Reading.{events_of_line}
use Rattle.script_model.proofs.Computing.{rows_compute}

-- an entry with the permission of an octal digit
abbrev entry : Tag → ℕ → Entry
entry tag digit = record { tag = tag; perm = perm_of digit }

abbrev all_flags : OpenFlags
all_flags = record { create = true; exclusive = true; truncate = true; append = true; nonblock = true; on_exec = true }

-- lines, and the events that each asks; modes are decimal here, so 438 is the mode 666
abbrev event_lines : List (List ℕ × List Event)
event_lines =
    (codes "0 open /dev/tty7 rw", event.Call 0 (call.Open (codes "/dev/tty7") access.ReadWrite no_flags 438) ∷ []) ∷
    (codes "31 open /tmp r", event.Call 31 (call.Open (codes "/tmp") access.Read no_flags 438) ∷ []) ∷
    (codes "0 open a w -", event.Call 0 (call.Open (codes "a") access.Write no_flags 438) ∷ []) ∷
    (codes "0 open a rw cxtane 640", event.Call 0 (call.Open (codes "a") access.ReadWrite all_flags 416) ∷ []) ∷
    (codes "0 open a rw enatxc", event.Call 0 (call.Open (codes "a") access.ReadWrite all_flags 438) ∷ []) ∷
    (codes "0 open a r t", event.Call 0 (call.Open (codes "a") access.Read (record no_flags { truncate = true }) 438) ∷ []) ∷
    (codes "0 open a r a", event.Call 0 (call.Open (codes "a") access.Read (record no_flags { append = true }) 438) ∷ []) ∷
    (codes "0 open a rw x", event.Call 0 (call.Open (codes "a") access.ReadWrite (record no_flags { exclusive = true }) 438) ∷ []) ∷
    (codes "0 open a rw - 600", event.Call 0 (call.Open (codes "a") access.ReadWrite no_flags 384) ∷ []) ∷
    (codes "0 open a rw n 0", event.Call 0 (call.Open (codes "a") access.ReadWrite (record no_flags { nonblock = true }) 0) ∷ []) ∷
    (codes "0 open a rw - 777", event.Call 0 (call.Open (codes "a") access.ReadWrite no_flags 511) ∷ []) ∷
    (codes "0 open % rw", event.Call 0 (call.Open [] access.ReadWrite no_flags 438) ∷ []) ∷
    (codes "0 open %25 r", event.Call 0 (call.Open (codes "%") access.Read no_flags 438) ∷ []) ∷
    (codes "0 open /a%20b r", event.Call 0 (call.Open (codes "/a b") access.Read no_flags 438) ∷ []) ∷
    (codes "0 open %0A%0a%7f r", event.Call 0 (call.Open (10 ∷ 10 ∷ 127 ∷ []) access.Read no_flags 438) ∷ []) ∷
    (codes "0 open %fF%00 r", event.Call 0 (call.Open (255 ∷ 0 ∷ []) access.Read no_flags 438) ∷ []) ∷
    (codes "0 open !~ r", event.Call 0 (call.Open (codes "!~") access.Read no_flags 438) ∷ []) ∷
    (codes "0 close 0", event.Call 0 (call.Close 0) ∷ []) ∷
    (codes "0 close 255", event.Call 0 (call.Close 255) ∷ []) ∷
    (codes "5 read 3 65535", event.Call 5 (call.Read 3 65535) ∷ []) ∷
    (codes "5 read 255 0", event.Call 5 (call.Read 255 0) ∷ []) ∷
    (codes "5 write 0 6aF0", event.Call 5 (call.Write 0 (codes "j" ++ 240 ∷ [])) ∷ []) ∷
    (codes "5 write 255 -", event.Call 5 (call.Write 255 []) ∷ []) ∷
    (codes "0 chdir /home/a", event.Call 0 (call.Chdir (codes "/home/a")) ∷ []) ∷
    (codes "0 mkdir /tmp/a 755", event.Call 0 (call.Mkdir (codes "/tmp/a") 493) ∷ []) ∷
    (codes "0 rmdir %20", event.Call 0 (call.Rmdir (codes " ")) ∷ []) ∷
    (codes "0 unlink ..", event.Call 0 (call.Unlink (codes "..")) ∷ []) ∷
    (codes "0 list / 0", event.Call 0 (call.List (codes "/") 0) ∷ []) ∷
    (codes "0 list % 65535", event.Call 0 (call.List [] 65535) ∷ []) ∷
    (codes "0 info /dev/tty", event.Call 0 (call.Info (codes "/dev/tty")) ∷ []) ∷
    (codes "0 chmod a 644", event.Call 0 (call.Chmod (codes "a") 420) ∷ []) ∷
    (codes "0 chown a 0 4294967295", event.Call 0 (call.Chown (codes "a") 0 4294967295) ∷ []) ∷ (
      codes "0 setacl a access user:7:rwx,other::---,other::r--",
      event.Call 0 (call.SetAcl (codes "a") which.Access (entry (User 7) 7 ∷ entry Other 0 ∷ entry Other 4 ∷ [])) ∷ [],
    )
    ∷
    (codes "0 setacl a default -", event.Call 0 (call.SetAcl (codes "a") which.Default []) ∷ []) ∷
    (codes "0 getacl a default", event.Call 0 (call.GetAcl (codes "a") which.Default) ∷ []) ∷
    (codes "0 setlabel a mls/10:3+2", event.Call 0 (call.SetLabel (codes "a") (Grade 10 (2 ∷ 3 ∷ []))) ∷ []) ∷
    (codes "0 setlabel a mls/eq", event.Call 0 (call.SetLabel (codes "a") Equal) ∷ []) ∷
    (codes "0 getlabel a", event.Call 0 (call.GetLabel (codes "a")) ∷ []) ∷
    (codes "0 setproclabel mls/10(low-20:2)", event.Call 0 (call.SetProcLabel (record { active = (Grade 10 []); low = Low; high = (Grade 20 (2 ∷ [])) })) ∷ [])
    ∷
    (codes "0 ident", event.Call 0 call.Ident ∷ []) ∷
    (codes "0 setcred 1 2 -", event.Call 0 (call.SetCred (record { uid = 1; gid = 2; groups = record { items = [] } })) ∷ []) ∷
    (codes "0 setcred 1 2 7", event.Call 0 (call.SetCred (record { uid = 1; gid = 2; groups = record { items = 7 ∷ [] } })) ∷ []) ∷
    (codes "0 setcred 1 2 7+0+7", event.Call 0 (call.SetCred (record { uid = 1; gid = 2; groups = record { items = 7 ∷ 0 ∷ 7 ∷ [] } })) ∷ []) ∷
    (codes "0 umask 22", event.Call 0 (call.Umask 18) ∷ []) ∷
    (codes "9 revoke /dev/tty0", event.Call 9 (call.Revoke (codes "/dev/tty0")) ∷ []) ∷
    (codes "in tty7 4a4B", event.Byte 7 74 ∷ event.Byte 7 75 ∷ []) ∷
    (codes "in tty0 00", event.Byte 0 0 ∷ []) ∷
    (codes "take tty7 1", event.Take 7 1 ∷ []) ∷
    (codes "take tty3 512", event.Take 3 512 ∷ []) ∷
    []

lines_are_events : map (λ row. events_of_line row.0) event_lines ≡ map (λ row. Some row.1) event_lines
unfolding rows_compute
lines_are_events = refl

-- lines that are bad
abbrev bad_lines : List (List ℕ)
bad_lines =
    codes "32 open /tmp r" ∷
    codes "0 open a rw cc" ∷
    codes "0 open a rw cxc" ∷
    codes "0 open a rw -c" ∷
    codes "0 open a rw --" ∷
    codes "0 open a rw C" ∷
    codes "0 open a rw b" ∷
    codes "0 open a rw 600" ∷
    codes "0 open a rw - 778" ∷
    codes "0 open a rw - 1000" ∷
    codes "0 open a rw - 0777" ∷
    codes "0 open a rw - 00" ∷
    codes "0 open a rw - -" ∷
    codes "0 open a rw - 600 x" ∷
    codes "0 open a rw " ∷
    codes "0 open a" ∷
    codes "0 open a wr" ∷
    codes "0 open a R" ∷
    codes "0 open %% rw" ∷
    codes "0 open  rw" ∷
    codes "0 open %2F rw" ∷
    codes "0 open %2f rw" ∷
    codes "0 open %41 rw" ∷
    codes "0 open %21 rw" ∷
    codes "0 open %7e rw" ∷
    codes "0 open a% r" ∷
    codes "0 open %0 r" ∷
    codes "0 open %0g r" ∷
    (codes "0 open a" ++ 127 ∷ codes " r") ∷
    (codes "0 open " ++ 195 ∷ 169 ∷ codes " r") ∷
    codes "0 close 256" ∷
    codes "0 close 18446744073709551616" ∷
    codes "0 close 00" ∷
    codes "0 close 07" ∷
    codes "0 close +7" ∷
    codes "0 close -" ∷
    codes "0 close" ∷
    codes "0 close 0 0" ∷
    codes "5 read 3 65536" ∷
    codes "5 read 256 0" ∷
    codes "5 read 3" ∷
    codes "5 read 3 05" ∷
    codes "5 read 3 5 5" ∷
    codes "5 write 0 6" ∷
    codes "5 write 0 6g" ∷
    codes "5 write 0 " ∷
    codes "5 write 0" ∷
    codes "5 write 0 61 62" ∷
    codes "0 chdir" ∷
    codes "0 mkdir /tmp/a" ∷
    codes "0 mkdir /tmp/a 1000" ∷
    codes "0 rmdir a b" ∷
    codes "0 unlink" ∷
    codes "0 list / 65536" ∷
    codes "0 list /" ∷
    codes "0 info / 0" ∷
    codes "0 chmod a 0644" ∷
    codes "0 chmod a" ∷
    codes "0 chown a 0 4294967296" ∷
    codes "0 chown a 1001" ∷
    codes "0 setacl a Access -" ∷
    codes "0 setacl a access user:7" ∷
    codes "0 setacl a -" ∷
    codes "0 getacl a" ∷
    codes "0 getacl a both" ∷
    codes "0 setlabel a 10" ∷
    codes "0 setproclabel mls/10(high-low)" ∷
    codes "0 ident 0" ∷
    codes "0 setcred 1 2 7+" ∷
    codes "0 setcred 1 2 7+07" ∷
    codes "0 setcred 1 2 -+7" ∷
    codes "0 setcred 1 2 4294967296" ∷
    codes "0 setcred 1 2 " ∷
    codes "0 setcred 1 2" ∷
    codes "0 umask 1000" ∷
    codes "9 revoke" ∷
    codes "9 revoke a b" ∷
    codes "in tty8 61" ∷
    codes "in tty07 61" ∷
    codes "in tty 61" ∷
    codes "in 7 61" ∷
    codes "in TTY7 61" ∷
    codes "in tty7 -" ∷
    codes "in tty7" ∷
    codes "take tty7 0" ∷
    codes "take tty7 513" ∷
    codes "take tty7" ∷
    [] ∷
    codes " " ∷
    codes " 0 close 0" ∷
    codes "0 close 0 " ∷
    codes "0  close 0" ∷
    (codes "0" ++ 9 ∷ codes "close 0") ∷
    (codes "0 close 0" ++ 13 ∷ []) ∷
    codes "# 0 close 0" ∷
    codes "0" ∷
    codes "00 close 0" ∷
    codes "0 Close 0" ∷
    codes "0 jump 0" ∷
    []

bad_lines_ask_nothing : map events_of_line bad_lines ≡ map (λ _. None) bad_lines
unfolding rows_compute
bad_lines_ask_nothing = refl

-- the flags of a wait
abbrev waits : Bool → Bool → WaitFlags
waits n u = record { no_hang = n; untraced = u }

-- lines on processes, signals and terminal lines, and of devices, and the events that each asks
abbrev more_event_lines : List (List ℕ × List Event)
more_event_lines =
    (codes "0 dup 3", event.Call 0 (call.Dup 3) ∷ []) ∷
    (codes "0 dup2 255 0", event.Call 0 (call.Dup2 255 0) ∷ []) ∷
    (codes "0 pipe", event.Call 0 call.Pipe ∷ []) ∷
    (codes "31 begin", event.Call 31 call.Begin ∷ []) ∷
    (codes "1 fork", event.Call 1 (call.Fork []) ∷ []) ∷
    (codes "1 fork -", event.Call 1 (call.Fork []) ∷ []) ∷
    (codes "1 fork 6a4B", event.Call 1 (call.Fork (codes "jK")) ∷ []) ∷
    (codes "1 exec /bin/sh 61", event.Call 1 (call.Exec (codes "/bin/sh") (codes "a")) ∷ []) ∷
    (codes "1 exec % -", event.Call 1 (call.Exec [] []) ∷ []) ∷
    (codes "1 exit 255", event.Call 1 (call.Exit 255) ∷ []) ∷
    (codes "1 wait 0", event.Call 1 (call.Wait 0 (waits false false)) ∷ []) ∷
    (codes "1 wait 4294967295 -", event.Call 1 (call.Wait 4294967295 (waits false false)) ∷ []) ∷
    (codes "1 wait 2 n", event.Call 1 (call.Wait 2 (waits true false)) ∷ []) ∷
    (codes "1 wait 2 u", event.Call 1 (call.Wait 2 (waits false true)) ∷ []) ∷
    (codes "1 wait 2 nu", event.Call 1 (call.Wait 2 (waits true true)) ∷ []) ∷
    (codes "1 wait 2 un", event.Call 1 (call.Wait 2 (waits true true)) ∷ []) ∷
    (codes "1 setsid", event.Call 1 call.SetSid ∷ []) ∷
    (codes "1 setpgid 0 4294967295", event.Call 1 (call.SetPgid 0 4294967295) ∷ []) ∷
    (codes "1 ps", event.Call 1 call.Ps ∷ []) ∷
    (codes "0 halt", event.Call 0 call.Halt ∷ []) ∷
    (codes "1 kill 2 TERM", event.Call 1 (call.Kill (to.Pid 2) sig.TERM) ∷ []) ∷
    (codes "1 kill g0 USR2", event.Call 1 (call.Kill (to.Group 0) sig.USR2) ∷ []) ∷
    (codes "1 sigset HUP default", event.Call 1 (call.SigSet sig.HUP action.Normal) ∷ []) ∷
    (codes "1 sigset CHLD ignore", event.Call 1 (call.SigSet sig.CHLD action.Ignore) ∷ []) ∷
    (codes "1 sigset INT catch", event.Call 1 (call.SigSet sig.INT action.Catch) ∷ []) ∷
    (codes "1 sigtake", event.Call 1 call.SigTake ∷ []) ∷
    (codes "1 pause", event.Call 1 call.Pause ∷ []) ∷
    (codes "1 setctty 0", event.Call 1 (call.SetCtty 0) ∷ []) ∷
    (codes "1 tcgetattr 255", event.Call 1 (call.TcGetAttr 255) ∷ []) ∷
    (codes "1 tcsetattr 0 now raw", event.Call 1 (call.TcSetAttr 0 when.Now raw) ∷ []) ∷
    (codes "1 tcsetattr 0 flush cooked", event.Call 1 (call.TcSetAttr 0 when.Flush cooked) ∷ []) ∷
    (codes "1 tcsetattr 0 now clocal:3+28+127+21+4+255+17+19+26+1+0", event.Call 1 (call.TcSetAttr 0 when.Now raw) ∷ []) ∷
    (codes "1 tcflush 0 in", event.Call 1 (call.TcFlush 0 queue.In) ∷ []) ∷
    (codes "1 tcflush 0 out", event.Call 1 (call.TcFlush 0 queue.Out) ∷ []) ∷
    (codes "1 tcflush 0 both", event.Call 1 (call.TcFlush 0 queue.Both) ∷ []) ∷
    (codes "1 tcdrain 0", event.Call 1 (call.TcDrain 0) ∷ []) ∷
    (codes "1 tcsetpgrp 0 7", event.Call 1 (call.TcSetPgrp 0 7) ∷ []) ∷
    (codes "1 tcgetpgrp 0", event.Call 1 (call.TcGetPgrp 0) ∷ []) ∷
    (codes "1 fdname 0", event.Call 1 (call.FdName 0) ∷ []) ∷
    (codes "31 again", event.Again 31 ∷ []) ∷
    (codes "up tty0", event.Carrier 0 true ∷ []) ∷
    (codes "down tty7", event.Carrier 7 false ∷ []) ∷
    (codes "end tty3", event.Ended 3 ∷ []) ∷
    []

more_lines_are_events : map (λ row. events_of_line row.0) more_event_lines ≡ map (λ row. Some row.1) more_event_lines
unfolding rows_compute
more_lines_are_events = refl

-- such lines that are bad
abbrev more_bad_lines : List (List ℕ)
more_bad_lines =
    codes "0 dup" ∷
    codes "0 dup 256" ∷
    codes "0 dup2 0" ∷
    codes "0 pipe 0" ∷
    codes "0 begin -" ∷
    codes "0 fork 6" ∷
    codes "0 fork - -" ∷
    codes "0 exec a" ∷
    codes "0 exec a 6g" ∷
    codes "0 exit" ∷
    codes "0 exit 256" ∷
    codes "0 exit 01" ∷
    codes "0 wait" ∷
    codes "0 wait -" ∷
    codes "0 wait 00" ∷
    codes "0 wait +1" ∷
    codes "0 wait 4294967296" ∷
    codes "0 wait g0" ∷
    codes "0 wait 0 nn" ∷
    codes "0 wait 0 unu" ∷
    codes "0 wait 0 N" ∷
    codes "0 wait 0 -n" ∷
    codes "0 wait 0 n u" ∷
    codes "0 setpgid 0" ∷
    codes "0 setpgid 0 g0" ∷
    codes "0 kill 2" ∷
    codes "0 kill 2 term" ∷
    codes "0 kill 2 15" ∷
    codes "0 kill 2 SIGTERM" ∷
    codes "0 kill G2 TERM" ∷
    codes "0 kill g TERM" ∷
    codes "0 kill gg2 TERM" ∷
    codes "0 kill g02 TERM" ∷
    codes "0 kill g4294967296 TERM" ∷
    codes "0 kill TERM 2" ∷
    codes "0 sigset INT normal" ∷
    codes "0 sigset INT Catch" ∷
    codes "0 sigset INT" ∷
    codes "0 sigtake 0" ∷
    codes "0 pause 0" ∷
    codes "0 setctty" ∷
    codes "0 tcsetattr 0 raw" ∷
    codes "0 tcsetattr 0 later raw" ∷
    codes "0 tcsetattr 0 now Raw" ∷
    codes "0 tcsetattr 0 now raw:" ∷
    codes "0 tcsetattr 0 now -:3+28+127+21+4+255+17+19+26+1" ∷
    codes "0 tcsetattr 0 now -:3+28+127+21+4+256+17+19+26+1+0" ∷
    codes "0 tcflush 0" ∷
    codes "0 tcflush 0 all" ∷
    codes "0 tcsetpgrp 0 g1" ∷
    codes "0 tcsetpgrp 0 4294967296" ∷
    codes "0 fdname" ∷
    codes "0 fdname tty7" ∷
    codes "0 revoke" ∷
    codes "32 again" ∷
    codes "0 again 0" ∷
    codes "0 Again" ∷
    codes "again" ∷
    codes "up" ∷
    codes "up 7" ∷
    codes "up tty8" ∷
    codes "up tty7 0" ∷
    codes "down tty07" ∷
    codes "end" ∷
    codes "end tty" ∷
    codes "tty7 end" ∷
    []

more_bad_lines_ask_nothing : map events_of_line more_bad_lines ≡ map (λ _. None) more_bad_lines
unfolding rows_compute
more_bad_lines_ask_nothing = refl

-- bytes so many times
abbrev times : ℕ → List ℕ → List ℕ
times zero bytes = []
times (suc n) bytes = bytes ++ times n bytes

-- the longest words and lines of each kind, and those with a byte more; how many events each line asks, if it asks some
abbrev longest_lines : List (List ℕ × Option ℕ)
longest_lines =
    (codes "0 open " ++ times 1024 (codes "a") ++ codes " r", Some 1) ∷
    (codes "0 open " ++ times 1025 (codes "a") ++ codes " r", None) ∷
    (codes "0 open " ++ times 1024 (codes "%0a") ++ codes " rw cxtane 777", Some 1) ∷
    (codes "0 open " ++ times 1025 (codes "%0a") ++ codes " rw cxtane 777", None) ∷
    (codes "0 write 0 " ++ times 512 (codes "6a"), Some 1) ∷
    (codes "0 write 0 " ++ times 513 (codes "6a"), None) ∷
    (codes "0 fork " ++ times 512 (codes "6a"), Some 1) ∷
    (codes "0 fork " ++ times 513 (codes "6a"), None) ∷
    (codes "0 exec a " ++ times 512 (codes "6a"), Some 1) ∷
    (codes "0 exec a " ++ times 513 (codes "6a"), None) ∷
    -- each word is good, but the second line has 4,097 bytes
    (codes "0 exec " ++ times 1021 (codes "%0a") ++ codes "a " ++ times 512 (codes "6a"), Some 1) ∷
    (codes "0 exec " ++ times 1021 (codes "%0a") ++ codes "aa " ++ times 512 (codes "6a"), None) ∷
    (codes "in tty7 " ++ times 512 (codes "6a"), Some 512) ∷
    (codes "in tty7 " ++ times 513 (codes "6a"), None) ∷
    (codes "0 setcred 1 2 0" ++ times 15 (codes "+0"), Some 1) ∷
    (codes "0 setcred 1 2 0" ++ times 16 (codes "+0"), None) ∷
    (codes "0 setacl a access mask::r--" ++ times 63 (codes ",mask::r--"), Some 1) ∷
    (codes "0 setacl a access mask::r--" ++ times 64 (codes ",mask::r--"), None) ∷
    (codes "0 close " ++ times 4088 (codes "1"), None) ∷
    (codes "0 close " ++ times 4089 (codes "1"), None) ∷
    []

longest_words : map (λ row. option_map length (events_of_line row.0)) longest_lines ≡ map (λ row. row.1) longest_lines
unfolding rows_compute
longest_words = refl

-- each word is good, but the second line has 4,097 bytes
abbrev longest_settings : List (List ℕ × Option ℕ)
longest_settings =
    (codes "0 tcsetattr 0 now echo" ++ times 805 (codes ",echo") ++ times 3 (codes ",echok") ++ codes ":3+28+127+21+4+255+17+19+26+1+0", Some 1) ∷
    (codes "0 tcsetattr 0 now echo" ++ times 804 (codes ",echo") ++ times 4 (codes ",echok") ++ codes ":3+28+127+21+4+255+17+19+26+1+0", None) ∷
    []

longest_settings_are_read : map (λ row. option_map length (events_of_line row.0)) longest_settings ≡ map (λ row. row.1) longest_settings
unfolding rows_compute
longest_settings_are_read = refl

abbrev longest_labels : List (List ℕ × Option ℕ)
longest_labels =
    (codes "0 setlabel " ++ times 1024 (codes "%0a") ++ codes " mls/5:1+11" ++ times 501 (codes "+1"), Some 1) ∷
    (codes "0 setlabel " ++ times 1024 (codes "%0a") ++ codes " mls/5:1+11+11" ++ times 500 (codes "+1"), None) ∷
    []

longest_labels_are_read : map (λ row. option_map length (events_of_line row.0)) longest_labels ≡ map (λ row. row.1) longest_labels
unfolding rows_compute
longest_labels_are_read = refl
