-- Effects of calls: none takes a byte in or output out, and lines are read and written only where that is asked.
use Rattle.std.proofs.Common.{◌≡◌, ℕ, zero, suc, ◌+◌, Bool, true, false, cond, length, List, [], ◌∷◌, ◌++◌, refl}
use Rattle.std.specs.Prelude.{◌==◌, Option, Some, None, slice_get}
use Rattle.std.specs.List.{list_all}
use Rattle.sys_types.specs.declared.limits.TheConstants.{SLOTS}
use Rattle.sys_types.specs.declared.sig.Sig.{Sig}
use Rattle.call_words.specs.declared.event.How.{How}
use Rattle.termios_core.specs.declared.termios.Termios.{Termios}
use Rattle.proc_table.specs.Processes.{Process}
use Rattle.system_model.specs.Parts.{Path}
use Rattle.system_model.specs.State.{View}
use Rattle.system_model.specs.FileEffects.{FileEffect}
use Rattle.system_model.specs.PipeEffects.{PipeEffect}
use Rattle.system_model.specs.LineEffects.{LineEffect, open_line, receive_byte, read_line, write_line, take_output, set_carrier, end_line, revoke_line}
use Rattle.system_model.specs.LineEffects.{flush_line, retune_line, set_session, set_foreground}
use Rattle.system_model.specs.TreeEffects.{TreeEffect}
use Rattle.system_model.specs.ProcessEffects.{ProcessEffect}
use Rattle.system_model.specs.Effects.{Effect, on_files, on_pipes, on_lines, on_tree, on_processes, halt, change_all}
use Rattle.system_model.specs.ProcCalls as procs
use Rattle.system_model.specs.SignalCalls as signals
use Rattle.system_model.specs.Endings.{leave_line, leave_session, end_one, end_next, endings, endings_of}
use Rattle.system_laws.specs.Laws.{may_still_do}
use Rattle.system_laws.proofs.Refusals.{all-both}

-- an effect on a line that a call may have which reads the lines r and writes to the lines w
abbrev pub is_asked_line : (r w : ℕ → Bool) → LineEffect → Bool
is_asked_line r w (receive_byte n b) = false
is_asked_line r w (read_line n max) = r n
is_asked_line r w (write_line n bytes) = w n
is_asked_line r w (take_output n max) = false
is_asked_line r w _ = true

abbrev pub is_asked : (r w : ℕ → Bool) → Effect → Bool
is_asked r w (on_lines e) = is_asked_line r w e
is_asked r w _ = true

-- no line
abbrev pub no_line : ℕ → Bool
no_line n = false

-- each of some effects is one
pub data AreAsked (r w : ℕ → Bool) : List Effect → Type 0 where
  no_effect : AreAsked r w []
  next_effect : (e : Effect) (es : List Effect) → is_asked r w e ≡ true → AreAsked r w es → AreAsked r w (e ∷ es)

pub ask-append : (r w : ℕ → Bool) (es fs : List Effect) → AreAsked r w es → AreAsked r w fs → AreAsked r w (es ++ fs)
ask-append r w [] fs no_effect none = none
ask-append r w (e ∷ es) fs (next_effect _ _ is more) none = next_effect e (es ++ fs) is (ask-append r w es fs more none)

-- some effects begin with a write of a line w, or write to no line, and read the lines r
pub data Begins (r w : ℕ → Bool) : List Effect → Type 0 where
  no_write : (es : List Effect) → AreAsked r no_line es → Begins r w es
  a_write : (m : ℕ) (bytes : List ℕ) (es : List Effect) → w m ≡ true → AreAsked no_line no_line es → Begins r w (on_lines (write_line m bytes) ∷ es)

-- they neither read nor write
abbrev pub AreFree : List Effect → Type 0
AreFree es = (r w : ℕ → Bool) → AreAsked r w es

pub begin-append : (r w : ℕ → Bool) (es fs : List Effect) → Begins r w es → AreFree fs → Begins r w (es ++ fs)
begin-append r w es fs (no_write _ are) free = no_write (es ++ fs) (ask-append r no_line es fs are (free r no_line))
begin-append r w (e ∷ es) fs (a_write m bytes _ is are) free =
    a_write m bytes (es ++ fs) is (ask-append no_line no_line es fs are (free no_line no_line))

pub ask-if : (r w : ℕ → Bool) (t : Bool) (es fs : List Effect) → AreAsked r w es → AreAsked r w fs → AreAsked r w (cond t es fs)
ask-if r w true es fs first second = first
ask-if r w false es fs first second = second

pub ask-tree : (r w : ℕ → Bool) (e : TreeEffect) (es : List Effect) → AreAsked r w es → AreAsked r w (on_tree e ∷ es)
ask-tree r w e es none = next_effect _ _ refl none

pub ask-pipe : (r w : ℕ → Bool) (e : PipeEffect) (es : List Effect) → AreAsked r w es → AreAsked r w (on_pipes e ∷ es)
ask-pipe r w e es none = next_effect _ _ refl none

pub ask-process : (r w : ℕ → Bool) (e : ProcessEffect) (es : List Effect) → AreAsked r w es → AreAsked r w (on_processes e ∷ es)
ask-process r w e es none = next_effect _ _ refl none

pub ask-file : (r w : ℕ → Bool) (e : FileEffect) (es : List Effect) → AreAsked r w es → AreAsked r w (on_files e ∷ es)
ask-file r w e es none = next_effect _ _ refl none

pub ask-halt : (r w : ℕ → Bool) (es : List Effect) → AreAsked r w es → AreAsked r w (halt ∷ es)
ask-halt r w es none = next_effect _ _ refl none

pub ask-opens : (r w : ℕ → Bool) (m : ℕ) (t : Termios) (es : List Effect) → AreAsked r w es → AreAsked r w (on_lines (open_line m t) ∷ es)
ask-opens r w m t es none = next_effect _ _ refl none

pub ask-carrier : (r w : ℕ → Bool) (m : ℕ) (up : Bool) (es : List Effect) → AreAsked r w es → AreAsked r w (on_lines (set_carrier m up) ∷ es)
ask-carrier r w m up es none = next_effect _ _ refl none

pub ask-ends : (r w : ℕ → Bool) (m : ℕ) (es : List Effect) → AreAsked r w es → AreAsked r w (on_lines (end_line m) ∷ es)
ask-ends r w m es none = next_effect _ _ refl none

pub ask-revoke : (r w : ℕ → Bool) (m : ℕ) (es : List Effect) → AreAsked r w es → AreAsked r w (on_lines (revoke_line m) ∷ es)
ask-revoke r w m es none = next_effect _ _ refl none

pub ask-flush : (r w : ℕ → Bool) (m : ℕ) (input output : Bool) (es : List Effect) → AreAsked r w es → AreAsked r w (on_lines (flush_line m input output) ∷ es)
ask-flush r w m input output es none = next_effect _ _ refl none

pub ask-retune : (r w : ℕ → Bool) (m : ℕ) (t : Termios) (es : List Effect) → AreAsked r w es → AreAsked r w (on_lines (retune_line m t) ∷ es)
ask-retune r w m t es none = next_effect _ _ refl none

pub ask-session : (r w : ℕ → Bool) (m session group : ℕ) (es : List Effect) → AreAsked r w es → AreAsked r w (on_lines (set_session m session group) ∷ es)
ask-session r w m session group es none = next_effect _ _ refl none

pub ask-foreground : (r w : ℕ → Bool) (m group : ℕ) (es : List Effect) → AreAsked r w es → AreAsked r w (on_lines (set_foreground m group) ∷ es)
ask-foreground r w m group es none = next_effect _ _ refl none

pub ask-fds : (r w : ℕ → Bool) (slot : ℕ) (fds : List ℕ) → AreAsked r w (procs.close_fds slot fds)
ask-fds r w slot [] = no_effect
ask-fds r w slot (fd ∷ fds) = next_effect _ _ refl (ask-fds r w slot fds)

pub ask-posts : (r w : ℕ → Bool) (signal : Sig) (whom : List (Process Path)) → AreAsked r w (signals.post_each signal whom)
ask-posts r w signal [] = no_effect
ask-posts r w signal (p ∷ ps) = next_effect _ _ refl (ask-posts r w signal ps)

pub ruleset asked_rules = (
  no_effect,
  ask-append,
  ask-if,
  ask-tree,
  ask-pipe,
  ask-process,
  ask-file,
  ask-halt,
  ask-opens,
  ask-carrier,
  ask-ends,
  ask-revoke,
  ask-flush,
  ask-retune,
  ask-session,
  ask-foreground,
  ask-fds,
  ask-posts,
)

may-ask : (r w : ℕ → Bool) (e : Effect) → may_still_do e ≡ true → is_asked r w e ≡ true
may-ask r w (on_files e) may = refl
may-ask r w (on_pipes e) may = refl
may-ask r w (on_lines e) may = cc
may-ask r w (on_tree e) may = refl
may-ask r w (on_processes e) may = refl
may-ask r w halt may = refl

-- what a denied event may do is
pub ask_quiet : (r w : ℕ → Bool) (es : List Effect) → list_all may_still_do es ≡ true → AreAsked r w es
ask_quiet r w [] may = no_effect
ask_quiet r w (e ∷ es) may =
    let both = all-both (may_still_do e) (list_all may_still_do es) may in
    next_effect e es (may-ask r w e both.0) (ask_quiet r w es both.1)

-- ---- endings

ask_leave : (r w : ℕ → Bool) (v : View) (n : Option ℕ) → AreAsked r w (leave_line v n)
ask_leave r w v None = no_effect
ask_leave r w v (Some n) = search asked_rules

ask_session : (r w : ℕ → Bool) (v : View) (who : Process Path) → AreAsked r w (leave_session v who)
ask_session r w v who = ask-if r w (who.pid == who.session) _ _ (ask_leave r w v _) no_effect

ask_one : (r w : ℕ → Bool) (v : View) (slot : ℕ) (how : How) → AreAsked r w (end_one v slot how)
ask_one r w v slot how = search (asked_rules, ask_session)

ask_next : (r w : ℕ → Bool) (v : View) (next : Option (ℕ × How)) → AreAsked r w (end_next v next)
ask_next r w v None = no_effect
ask_next r w v (Some next) = ask_one r w v next.0 next.1

ask_endings : (r w : ℕ → Bool) (fuel place : ℕ) (v : View) → AreAsked r w (endings fuel place v)
unfolding endings
ask_endings r w zero place v = no_effect
ask_endings r w (suc fuel) place v =
    ask-append r w _ _ (ask_next r w v _) (ask_endings r w fuel (place + 1) (change_all v (end_next v (slice_get v.ending place))))

pub ask_endings_of : (r w : ℕ → Bool) (v : View) → AreAsked r w (endings_of v)
ask_endings_of r w v =
    ask-if r w (length v.ending == 0) _ _ no_effect (ask-append r w _ _ (ask_endings r w SLOTS 0 v) (ask-process r w _ _ no_effect))
