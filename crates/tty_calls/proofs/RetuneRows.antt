-- The row of tcsetattr(3), over the tables of a kernel.
use Rattle.std.proofs.Common.{◌≡◌, ℕ, true, false, not, List, [], ◌∷◌, Option, Some, None, refl, sym, ap, ◌∙◌}
use Rattle.std.specs.Prelude.{is_some, ◌==◌}
use Rattle.sys_types.specs.declared.rules.Rule.TheVariants as rule
use Rattle.call_words.specs.declared.event.Decision.TheVariants.{Answer}
use Rattle.call_words.specs.declared.event.Reply.TheVariants.{Num}
use Rattle.call_words.specs.declared.tty.When.{When}
use Rattle.call_words.specs.declared.tty.When.TheVariants as when
use Rattle.block_pool.specs.Pool.{PoolState}
use Rattle.line_disc.specs.Device as device
use Rattle.line_disc.specs.Lines.{change_line}
use Rattle.termios_core.specs.declared.termios.Termios.{Termios}
use Rattle.tty_dev.specs.Line.{LineState}
use Rattle.tty_dev.specs.Table.{devices, counts_of}
use Rattle.system_model.specs.LineEffects.{retune_line, change_lines}
use Rattle.system_model.specs.Effects.{on_lines, change, change_all}
use Rattle.system_model.specs.Rows.{Does, Check, refused, deny, first}
use Rattle.system_model.specs.Tables.{Tables, generations, seen_files, seen_pipes, view_of}
use Rattle.system_model.specs.TtyCalls.{change_checks, flush_first, tcsetattr_on, tcsetattr_row}
use Rattle.system_model.proofs.RowLemmas.{first_free, goes_on}
use Rattle.system_model.proofs.SeenLines.{line_changes}
use Rattle.system_model.proofs.Views.{seen_as}
use Rattle.tty_calls.specs.LineOf.{IsLineOf}
use Rattle.tty_calls.specs.Settings.{flush_input}
use Rattle.tty_calls.proofs.LineRows.{tty_does, held_first}

-- ---- the checks

abbrev time_check : Termios → List (Option Check)
time_check termios = deny (not (termios.time == 0)) rule.Time ∷ []

pub setting_held : (t : Tables) (slot n : ℕ) (at : When) (termios : Termios) (o : Option Check) → o ≡ first (change_checks (view_of t) slot n) → is_some o ≡ true
    → o ≡ first (tcsetattr_on (view_of t) slot at termios n).checks
setting_held t slot n at termios o is held = held_first (change_checks (view_of t) slot n) (time_check termios) o is held

pub setting_timed : (t : Tables) (slot n : ℕ) (at : When) (termios : Termios) → first (change_checks (view_of t) slot n) ≡ None → (termios.time == 0) ≡ false
    → Some (refused rule.Time, []) ≡ first (tcsetattr_on (view_of t) slot at termios n).checks
setting_timed t slot n at termios none timed =
    sym (first_free (change_checks (view_of t) slot n) (time_check termios) none ∙ ap (λ b. first (deny (not b) rule.Time ∷ [])) timed)

pub setting_goes : (t : Tables) (slot n : ℕ) (at : When) (termios : Termios) → first (change_checks (view_of t) slot n) ≡ None → (termios.time == 0) ≡ true
    → None ≡ first (tcsetattr_on (view_of t) slot at termios n).checks
setting_goes t slot n at termios none untimed =
    sym (first_free (change_checks (view_of t) slot n) (time_check termios) none ∙ ap (λ b. first (deny (not b) rule.Time ∷ [])) untimed)

-- ---- the change

-- the input is emptied first, or not
flushed-as : (t : Tables) (lines : List LineState) (n : ℕ) (at : When) → devices t.pool lines ≡ flush_input at (devices t.pool t.lines) n
    → counts_of lines ≡ counts_of t.lines → view_of (record t { lines = lines }) ≡ change_all (view_of t) (flush_first at n)
unfolding view_of change_lines
flushed-as t lines n when.Now is counts =
    seen_as (record t { lines = lines }) (view_of t) (ap (λ cs. seen_files t.nodes (generations cs) t.descriptors) counts) refl is refl refl refl refl refl
flushed-as t lines n when.Flush is counts = line_changes t t.pool lines (λ d. device.flush d true false) n is counts refl

retuned-as : (t : Tables) (pool : PoolState) (lines : List LineState) (n : ℕ) (termios : Termios)
    → devices pool lines ≡ change_line (λ d. device.retune d termios) (devices t.pool t.lines) n → counts_of lines ≡ counts_of t.lines
    → seen_pipes pool t.pipes ≡ seen_pipes t.pool t.pipes → view_of (record t { pool = pool; lines = lines }) ≡ change (view_of t) (on_lines (retune_line n termios))
unfolding change_lines
retuned-as t pool lines n termios is counts pipes = line_changes t pool lines (λ d. device.retune d termios) n is counts pipes

both : (t : Tables) (slot n : ℕ) (at : When) (termios : Termios)
    → change_all (view_of t) (tcsetattr_on (view_of t) slot at termios n).effects
    ≡ change (change_all (view_of t) (flush_first at n)) (on_lines (retune_line n termios))
both t slot n when.Now termios = refl
both t slot n when.Flush termios = refl

pub retune_done : (t : Tables) (pool : PoolState) (mid lines : List LineState) (slot fd n : ℕ) (at : When) (termios : Termios) → IsLineOf (view_of t) slot fd n
    → first (tcsetattr_on (view_of t) slot at termios n).checks ≡ None
    → devices t.pool mid ≡ flush_input at (devices t.pool t.lines) n → counts_of mid ≡ counts_of t.lines
    → devices pool lines ≡ change_line (λ d. device.retune d termios) (devices t.pool mid) n → counts_of lines ≡ counts_of mid
    → seen_pipes pool t.pipes ≡ seen_pipes t.pool t.pipes
    → Does (view_of t) (view_of (record t { pool = pool; lines = lines })) (Answer (Num 0)) (tcsetattr_row (view_of t) slot fd at termios)
retune_done t pool mid lines slot fd n at termios is none flushed same retuned counts pipes =
    tty_does (view_of t) (view_of (record t { pool = pool; lines = lines })) (Answer (Num 0)) slot fd n (tcsetattr_on (view_of t) slot at termios) is
    (goes_on (view_of t) (view_of (record t { pool = pool; lines = lines })) (tcsetattr_on (view_of t) slot at termios n) none
    (retuned-as (record t { lines = mid }) pool lines n termios retuned counts pipes
    ∙ ap (λ v. change v (on_lines (retune_line n termios))) (flushed-as t mid n at flushed same)
    ∙ sym (both t slot n at termios)))
