-- The definitions give the lines that events are printed as, worked out by hand: no word is left out, and each has its one form.
use Rattle.std.proofs.Common.{◌≡◌, ℕ, [], ◌∷◌, List, refl}
use Rattle.std.specs.Prelude.{true, false, map, codes}
use Rattle.label_core.specs.declared.element.Element.TheVariants.{Low, Equal, Grade}
use Rattle.acl_core.specs.declared.entry.Entry.{Entry}
use Rattle.acl_core.specs.declared.entry.Tag.{Tag}
use Rattle.acl_core.specs.declared.entry.Tag.TheVariants.{User, Other}
use Rattle.acl_core.specs.Perm.{perm_of}
use Rattle.termios_core.specs.Termios.{raw}
use Rattle.sys_types.specs.declared.sig.Sig.TheVariants as sig
use Rattle.call_words.specs.declared.open.Access.TheVariants as access
use Rattle.call_words.specs.declared.attr.WhichList.TheVariants as which
use Rattle.call_words.specs.declared.call.Call.TheVariants as call
use Rattle.call_words.specs.declared.signal.To.TheVariants as to
use Rattle.call_words.specs.declared.signal.Action.TheVariants as action
use Rattle.call_words.specs.declared.tty.When.TheVariants as when
use Rattle.call_words.specs.declared.tty.WhichQueue.TheVariants as queue
use Rattle.call_words.specs.declared.event.Event.{Event}
use Rattle.call_words.specs.declared.event.Event.TheVariants as event
use Rattle.event_load.specs.Load.{drawn_event, load_events}
use Rattle.script_text.specs.Values.{no_flags}
use Rattle.script_text.specs.Printing.{event_line}
use Rattle.script_model.proofs.Computing.{rows_compute}

-- an entry with the permission of an octal digit
abbrev entry : Tag → ℕ → Entry
entry tag digit = record { tag = tag; perm = perm_of digit }

-- events, and the line of each; modes are decimal here, so 438 is the mode 666
abbrev event_lines : List (Event × List ℕ)
event_lines =
    (event.Call 0 (call.Open (codes "/dev/tty7") access.ReadWrite no_flags 438), codes "0 open /dev/tty7 rw - 666") ∷ (
      event.Call 31 (call.Open [] access.Read (record { create = true; exclusive = true; truncate = true; append = true; nonblock = true; on_exec = true }) 0),
      codes "31 open % r cxtane 0",
    )
    ∷
    (event.Call 0 (call.Open (codes "a b%") access.Write (record no_flags { append = true; on_exec = true }) 8), codes "0 open a%20b%25 w ae 10") ∷
    (event.Call 0 (call.Write 1 []), codes "0 write 1 -") ∷
    (event.Call 0 (call.Write 255 (10 ∷ 175 ∷ [])), codes "0 write 255 0aaf") ∷
    (event.Call 0 (call.Mkdir (codes "/") 511), codes "0 mkdir / 777") ∷ (
      event.Call 0 (call.SetAcl (codes "a") which.Access (entry (User 7) 7 ∷ entry Other 0 ∷ entry Other 4 ∷ [])),
      codes "0 setacl a access user:7:rwx,other::---,other::r--",
    )
    ∷
    (event.Call 0 (call.SetAcl (codes "a") which.Default []), codes "0 setacl a default -") ∷
    (event.Call 0 (call.SetLabel (codes "a") (Grade 10 (2 ∷ 3 ∷ []))), codes "0 setlabel a mls/10:2+3") ∷ (
      event.Call 0 (call.SetProcLabel (record { active = (Grade 10 []); low = Low; high = (Grade 20 (2 ∷ [])) })),
      codes "0 setproclabel mls/10(low-20:2)",
    )
    ∷
    (event.Call 0 (call.SetProcLabel (record { active = Equal; low = Equal; high = Equal })), codes "0 setproclabel mls/equal") ∷
    (event.Call 0 (call.SetCred (record { uid = 1; gid = 2; groups = record { items = [] } })), codes "0 setcred 1 2 -") ∷
    (event.Call 0 (call.SetCred (record { uid = 0; gid = 4294967295; groups = record { items = 7 ∷ 0 ∷ 7 ∷ [] } })), codes "0 setcred 0 4294967295 7+0+7") ∷
    (event.Call 0 (call.Umask 18), codes "0 umask 22") ∷
    (event.Call 1 (call.Fork []), codes "1 fork -") ∷
    (event.Call 1 (call.Exec (codes "/bin/sh") (codes "a")), codes "1 exec /bin/sh 61") ∷
    (event.Call 1 (call.Wait 0 (record { no_hang = false; untraced = false })), codes "1 wait 0 -") ∷
    (event.Call 1 (call.Wait 2 (record { no_hang = true; untraced = true })), codes "1 wait 2 nu") ∷
    (event.Call 1 (call.Kill (to.Pid 2) sig.TERM), codes "1 kill 2 TERM") ∷
    (event.Call 1 (call.Kill (to.Group 4294967295) sig.USR1), codes "1 kill g4294967295 USR1") ∷
    (event.Call 1 (call.SigSet sig.CHLD action.Normal), codes "1 sigset CHLD default") ∷
    (event.Call 1 (call.TcSetAttr 0 when.Flush raw), codes "1 tcsetattr 0 flush clocal:3+28+127+21+4+255+17+19+26+1+0") ∷
    (event.Call 1 (call.TcFlush 0 queue.Both), codes "1 tcflush 0 both") ∷
    (event.Again 31, codes "31 again") ∷
    (event.Byte 7 175, codes "in tty7 af") ∷
    (event.Carrier 0 true, codes "up tty0") ∷
    (event.Carrier 7 false, codes "down tty7") ∷
    (event.Take 3 512, codes "take tty3 512") ∷
    (event.Ended 7, codes "end tty7") ∷
    []

events_are_printed : map (λ row. event_line row.0) event_lines ≡ map (λ row. row.1) event_lines
unfolding rows_compute
events_are_printed = refl

-- words, and the line of the event that each draws, worked out elsewhere
abbrev word_lines : List (ℕ × List ℕ)
word_lines =
    (2215483850, codes "1 write 6 99") ∷
    (315054046, codes "3 again") ∷
    (1954657312, codes "0 open /dev/tty7 rw - 666") ∷
    (4195553631, codes "3 dup 1") ∷
    (1808639637, codes "take tty7 64") ∷
    (1770728691, codes "2 close 7") ∷
    (1695204567, codes "2 dup 4") ∷
    (2592056079, codes "1 revoke /dev/tty7") ∷
    (4094314351, codes "1 dup 7") ∷
    (3463769096, codes "1 open /dev/tty7 rw - 666") ∷
    []

words_draw_events : map (λ row. event_line (drawn_event row.0)) word_lines ≡ map (λ row. row.1) word_lines
unfolding rows_compute
words_draw_events = refl

-- these are the first words from the state 7, so the load from it begins with these lines
load_from_seven : map event_line (load_events 10 7)
    ≡ codes "0 open /dev/tty7 rw - 666" ∷ codes "0 fork -" ∷ codes "0 fork -" ∷ codes "0 fork -" ∷ map (λ row. row.1) word_lines
unfolding rows_compute
load_from_seven = refl
