-- The rows of the calls that change a line, over the tables of a kernel.
use Rattle.std.proofs.Common.{◌≡◌, ℕ, true, false, not, List, [], ◌∷◌, Option, Some, None, refl, sym, ap, ◌∙◌}
use Rattle.std.specs.Prelude.{is_none, is_some}
use Rattle.sys_types.specs.declared.rules.Rule.TheVariants as rule
use Rattle.call_words.specs.declared.event.Decision.TheVariants.{Answer}
use Rattle.call_words.specs.declared.event.Reply.TheVariants.{Num}
use Rattle.call_words.specs.declared.event.Reason.TheVariants as reason
use Rattle.call_words.specs.declared.tty.WhichQueue.{WhichQueue}
use Rattle.line_disc.specs.Device as device
use Rattle.line_disc.specs.Device.{Device}
use Rattle.line_disc.specs.Lines.{line_at, change_line}
use Rattle.proc_table.specs.Processes.{Process}
use Rattle.tty_dev.specs.Line.{LineState}
use Rattle.tty_dev.specs.Table.{devices, counts_of}
use Rattle.system_model.specs.Parts.{Path}
use Rattle.system_model.specs.State.{View}
use Rattle.system_model.specs.LineEffects.{change_lines}
use Rattle.system_model.specs.Background.{background_write}
use Rattle.system_model.specs.Looks.{caller_of, line_of, file_at, holds_of}
use Rattle.system_model.specs.Rows.{Does, Check, behind, refused, deny, sleep_of, sleep_if, first}
use Rattle.system_model.specs.Tables.{Tables, view_of}
use Rattle.system_model.specs.TtyCalls.{change_checks, is_input, is_output, on_line_row, tty_at, tcflush_on, tcflush_row, tcdrain_on, tcdrain_row}
use Rattle.system_model.proofs.RowLemmas.{first_free, goes_on}
use Rattle.system_model.proofs.SeenLines.{line_seen, line_changes}
use Rattle.tty_calls.specs.LineOf.{IsLineOf}
use Rattle.tty_calls.proofs.LineRows.{tty_does, held_first}

-- a zombie
pub change_zombie : (t : Tables) (slot n : ℕ) → (line_at (devices t.pool t.lines) n).zombie ≡ true
    → Some (refused rule.Zombie, []) ≡ first (change_checks (view_of t) slot n)
change_zombie t slot n is =
    ap (λ b. first (deny b rule.Zombie ∷ background_write (view_of t) n (caller_of (view_of t) slot)))
    (sym (ap (λ (line : Device ℕ). line.zombie) (line_seen t n) ∙ is))

-- else what the background comes to
pub change_background : (t : Tables) (slot n : ℕ) (o : Option Check) → (line_at (devices t.pool t.lines) n).zombie ≡ false
    → (who : Process Path) → caller_of (view_of t) slot ≡ who → o ≡ first (background_write (view_of t) n who)
    → o ≡ first (change_checks (view_of t) slot n)
change_background t slot n o is who caller first_is =
    first_is
    ∙ ap (λ w. first (background_write (view_of t) n w)) (sym caller)
    ∙ ap (λ b. first (deny b rule.Zombie ∷ background_write (view_of t) n (caller_of (view_of t) slot)))
    (sym (ap (λ (line : Device ℕ). line.zombie) (line_seen t n) ∙ is))

pub flush_done : (t : Tables) (lines : List LineState) (slot fd n : ℕ) (which : WhichQueue) → IsLineOf (view_of t) slot fd n
    → first (change_checks (view_of t) slot n) ≡ None
    → devices t.pool lines ≡ change_line (λ d. device.flush d (is_input which) (is_output which)) (devices t.pool t.lines) n
    → counts_of lines ≡ counts_of t.lines
    → Does (view_of t) (view_of (record t { lines = lines })) (Answer (Num 0)) (tcflush_row (view_of t) slot fd which)
unfolding change_lines
flush_done t lines slot fd n which is none flushed counts =
    tty_does (view_of t) (view_of (record t { lines = lines })) (Answer (Num 0)) slot fd n (tcflush_on (view_of t) slot which) is
    (goes_on (view_of t) (view_of (record t { lines = lines })) (tcflush_on (view_of t) slot which n) none
    (line_changes t t.pool lines (λ d. device.flush d (is_input which) (is_output which)) n flushed counts refl))

-- ---- a drain, of a line that may be changed

pub drain_goes : (t : Tables) (slot n : ℕ) → first (change_checks (view_of t) slot n) ≡ None → device.is_drained (line_at (devices t.pool t.lines) n) ≡ true
    → None ≡ first (tcdrain_on (view_of t) slot n).checks
drain_goes t slot n none drained =
    sym
    (first_free (change_checks (view_of t) slot n) (sleep_if (not (device.is_drained (line_of (view_of t) n))) (caller_of (view_of t) slot) reason.Drain ∷ []) none
    ∙ ap (λ b. first (sleep_if (not b) (caller_of (view_of t) slot) reason.Drain ∷ [])) (ap device.is_drained (line_seen t n) ∙ drained))

pub drain_sleeps : (t : Tables) (slot n : ℕ) (o : Option Check) → first (change_checks (view_of t) slot n) ≡ None
    → device.is_drained (line_at (devices t.pool t.lines) n) ≡ false → o ≡ Some (sleep_of (caller_of (view_of t) slot) reason.Drain, [])
    → o ≡ first (tcdrain_on (view_of t) slot n).checks
drain_sleeps t slot n o none drained is =
    is
    ∙ sym
    (first_free (change_checks (view_of t) slot n) (sleep_if (not (device.is_drained (line_of (view_of t) n))) (caller_of (view_of t) slot) reason.Drain ∷ []) none
    ∙ ap (λ b. first (sleep_if (not b) (caller_of (view_of t) slot) reason.Drain ∷ [])) (ap device.is_drained (line_seen t n) ∙ drained))

pub drain_held : (t : Tables) (slot n : ℕ) (o : Option Check) → o ≡ first (change_checks (view_of t) slot n) → is_some o ≡ true
    → o ≡ first (tcdrain_on (view_of t) slot n).checks
drain_held t slot n o is held =
    held_first (change_checks (view_of t) slot n) (sleep_if (not (device.is_drained (line_of (view_of t) n))) (caller_of (view_of t) slot) reason.Drain ∷ []) o is held

-- where no check holds there is a line, and nothing is done
never : (bad dead : Option Check) (c : Check) → first (bad ∷ dead ∷ Some c ∷ []) ≡ None → ⊥
never None None c is = cc
never None (Some x) c is = cc
never (Some x) dead c is = cc

drain-by : (v : View) (slot : ℕ) (bad dead : Option Check) (o : Option ℕ)
    → first (behind (bad ∷ dead ∷ deny (is_none o) rule.NotLine ∷ []) (on_line_row (tcdrain_on v slot) o)).checks ≡ None
    → Does v v (Answer (Num 0)) (behind (bad ∷ dead ∷ deny (is_none o) rule.NotLine ∷ []) (on_line_row (tcdrain_on v slot) o))
drain-by v slot bad dead None none = absurd (never bad dead (refused rule.NotLine, []) none)
drain-by v slot bad dead (Some n) none = goes_on v v (behind (bad ∷ dead ∷ deny false rule.NotLine ∷ []) (tcdrain_on v slot n)) none refl

pub drain_done : (v : View) (slot fd : ℕ) → first (tcdrain_row v slot fd).checks ≡ None → Does v v (Answer (Num 0)) (tcdrain_row v slot fd)
drain_done v slot fd none =
    drain-by v slot (deny (is_none (file_at v slot fd)) rule.BadFd) (deny (holds_of (λ f. f.dead) (file_at v slot fd)) rule.Dead) (tty_at v slot fd) none
