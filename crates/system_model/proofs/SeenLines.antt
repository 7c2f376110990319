-- What calls see of the terminal lines, and after each change of one; and that the tables fit after it.
use Rattle.std.proofs.Common.{◌≡◌, ℕ, zero, suc, ◌+◌, ◌≤◌, ◌<◌, Bool, true, false, cond, List, [], ◌∷◌, map, Option, Some, None, option_map}
use Rattle.std.proofs.Common.{refl, ap, ap₂, arith}
use Rattle.std.specs.Prelude.{is_some, not, ◌==◌, position, nat_lt, slice_index_or, unwrap_or}
use Rattle.std.specs.List.{prefix_len}
use Rattle.std.proofs.lemmas.List.{length-map}
use Rattle.sys_types.specs.declared.limits.TheConstants.{LINES, RAW_LINE}
use Rattle.termios_core.specs.Termios.{cooked, raw}
use Rattle.block_pool.specs.Pool.{PoolState}
use Rattle.line_disc.specs.Discipline.{Discipline}
use Rattle.line_disc.specs.Device.{Device}
use Rattle.line_disc.specs.Lines.{line_at, change_line}
use Rattle.tty_dev.specs.Line as line
use Rattle.tty_dev.specs.Line.{LineState, device_of}
use Rattle.tty_dev.specs.Table.{devices, counts_of, boots_of, count_at}
use Rattle.proc_table.specs.Groups.{is_number}
use Rattle.fd_table.specs.declared.open.Open.{Open}
use Rattle.fd_table.specs.Shared.{Shared}
use Rattle.system_model.specs.State.{View}
use Rattle.system_model.specs.Looks.{line_of, line_of_session, has_session, termios_of, termios_by, boot_termios}
use Rattle.system_model.specs.Tables.{Tables, generations, seen_files, seen_pipes, view_of}
use Rattle.system_model.specs.Fit.{FitLines, AreRevokedAtMost}
use Rattle.system_model.proofs.Views.{seen_as}

-- a line
pub line_seen : (t : Tables) (n : ℕ) → line_of (view_of t) n ≡ line_at (devices t.pool t.lines) n
unfolding view_of
line_seen t n = refl

-- the line of a session
session-found : (pool : PoolState) (session : ℕ) (lines : List LineState)
    → prefix_len (λ (d : Device ℕ). not (has_session session d)) (map (device_of pool) lines)
    ≡ prefix_len (λ (line : LineState). not (is_number session line.session)) lines
session-found pool session [] = refl
session-found pool session (line ∷ lines) =
    ap (λ n. cond (not (is_number session line.session)) (1 + n) 0) (session-found pool session lines)

pub session_line_seen : (t : Tables) (session : ℕ)
    → line_of_session (view_of t) session ≡ position (λ (line : LineState). is_number session line.session) t.lines
unfolding view_of devices
session_line_seen t session =
    ap₂ (λ at end. cond (nat_lt at end) (Some at) None) (session-found t.pool session t.lines) (length-map t.lines (device_of t.pool))

-- its settings
termios-by : (n : ℕ) (boot : Bool) (o : Option (Discipline ℕ)) → boot ≡ not (n == RAW_LINE)
    → termios_by (boot_termios n) o ≡ unwrap_or (option_map (λ (d : Discipline ℕ). d.termios) o) (line.boot_termios boot)
termios-by n boot None is = rw is (by_case (n == RAW_LINE))
  where
    by_case : (b : Bool) → cond b raw cooked ≡ cond (not b) cooked raw
    by_case true = refl
    by_case false = refl
termios-by n boot (Some d) is = refl

pub termios_seen : (t : Tables) (n : ℕ) → n < LINES → FitLines t.descriptors (counts_of t.lines) (boots_of t.lines)
    → termios_of (view_of t) n ≡ line.termios_of (slice_index_or (boots_of t.lines) n false) (line_at (devices t.pool t.lines) n)
unfolding view_of
termios_seen t n below fit =
    termios-by n (slice_index_or (boots_of t.lines) n false) (line_at (devices t.pool t.lines) n).discipline (fit.cooked n below)

-- ---- a line is changed, by a call that opens, closes and revokes no file

abbrev pub with_line : View → (Device ℕ → Device ℕ) → ℕ → View
with_line v how n = record v { lines = change_line how v.lines n }

pub line_changes : (t : Tables) (pool : PoolState) (lines : List LineState) (how : Device ℕ → Device ℕ) (n : ℕ)
    → devices pool lines ≡ change_line how (devices t.pool t.lines) n → counts_of lines ≡ counts_of t.lines → seen_pipes pool t.pipes ≡ seen_pipes t.pool t.pipes
    → view_of (record t { pool = pool; lines = lines }) ≡ with_line (view_of t) how n
unfolding view_of
line_changes t pool lines how n is counts pipes =
    seen_as (record t { pool = pool; lines = lines }) (with_line (view_of t) how n)
    (ap (λ cs. seen_files t.nodes (generations cs) t.descriptors) counts) pipes is refl refl refl refl refl

pub lines_still : (d : Shared Open) (old new : List LineState) → counts_of new ≡ counts_of old → boots_of new ≡ boots_of old
    → FitLines d (counts_of old) (boots_of old) → FitLines d (counts_of new) (boots_of new)
lines_still d old new counts boots fit = rw (counts, boots) fit

-- how often lines were revoked

pub session-kept : (how : Device ℕ → Device ℕ) → ((d : Device ℕ) → (how d).session ≡ d.session) → (ds : List (Device ℕ)) (n k : ℕ)
    → (line_at (change_line how ds n) k).session ≡ (line_at ds k).session
session-kept how keeps [] n k = refl
session-kept how keeps (d ∷ ds) zero zero = keeps d
session-kept how keeps (d ∷ ds) zero (suc k) = refl
session-kept how keeps (d ∷ ds) (suc n) zero = refl
session-kept how keeps (d ∷ ds) (suc n) (suc k) = session-kept how keeps ds n k

pub revokes_still : (most : ℕ) (old new : PoolState) (before after : List LineState) (how : Device ℕ → Device ℕ) (n : ℕ)
    → devices new after ≡ change_line how (devices old before) n → counts_of after ≡ counts_of before → ((d : Device ℕ) → (how d).session ≡ d.session)
    → AreRevokedAtMost most old before → AreRevokedAtMost most new after
revokes_still most old new before after how n is counts keeps fit = record {
  each =
      λ k.
      rw (is, counts, session-kept how keeps (devices old before) n k) (fit.each k);
}

-- a line is changed or not, and its counts are others, but not how often it was revoked
still-chosen : (b : Bool) (how : Device ℕ → Device ℕ) → ((d : Device ℕ) → (how d).session ≡ d.session) → (ds : List (Device ℕ)) (n k : ℕ)
    → (line_at (cond b (change_line how ds n) ds) k).session ≡ (line_at ds k).session
still-chosen true how keeps ds n k = session-kept how keeps ds n k
still-chosen false how keeps ds n k = refl

pub revokes_chosen : (most : ℕ) (old new : PoolState) (before after : List LineState) (b : Bool) (how : Device ℕ → Device ℕ) (n : ℕ)
    → devices new after ≡ cond b (change_line how (devices old before) n) (devices old before)
    → ((k : ℕ) → (count_at (counts_of after) k).generation ≡ (count_at (counts_of before) k).generation) → ((d : Device ℕ) → (how d).session ≡ d.session)
    → AreRevokedAtMost most old before → AreRevokedAtMost most new after
revokes_chosen most old new before after b how n is counts keeps fit = record {
  each = λ k. rw (is, counts k, still-chosen b how keeps (devices old before) n k) (fit.each k);
}

-- other blocks of the pool change
pub revokes_same : (most : ℕ) (old new : PoolState) (lines : List LineState) → devices new lines ≡ devices old lines → AreRevokedAtMost most old lines
    → AreRevokedAtMost most new lines
revokes_same most old new lines is fit = record { each = λ k. rw is (fit.each k) }

-- a line gets a session
one-more : (b : Bool) (generation most : ℕ) (c : Bool) → generation + cond c 1 0 ≤ most → generation + cond b 1 0 ≤ most + 1
one-more true generation most true le = omega arith
one-more true generation most false le = omega arith
one-more false generation most true le = omega arith
one-more false generation most false le = omega arith

pub revokes_more : (most : ℕ) (old new : PoolState) (before after : List LineState) → counts_of after ≡ counts_of before
    → AreRevokedAtMost most old before → AreRevokedAtMost (most + 1) new after
revokes_more most old new before after counts fit = record {
  each =
      λ k.
      rw counts
      (one-more (is_some (line_at (devices new after) k).session) (count_at (counts_of before) k).generation most
      (is_some (line_at (devices old before) k).session) (fit.each k));
}
