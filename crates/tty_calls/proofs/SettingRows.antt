-- The row of tcgetattr(3), over the tables of a kernel.
use Rattle.std.proofs.Common.{◌≡◌, ℕ, ◌<◌, false, List, refl, sym, ap, subst, ◌∙◌}
use Rattle.std.specs.Prelude.{length, slice_index_or}
use Rattle.call_words.specs.declared.event.Decision.TheVariants.{Answer}
use Rattle.call_words.specs.declared.event.Reply.TheVariants.{Text}
use Rattle.termios_core.specs.Text.{termios_text}
use Rattle.line_disc.specs.Lines.{line_at}
use Rattle.tty_dev.specs.Line as line
use Rattle.tty_dev.specs.Table.{devices, counts_of, boots_of}
use Rattle.system_model.specs.Fit.{FitLines}
use Rattle.system_model.specs.Looks.{termios_of}
use Rattle.system_model.specs.Rows.{Does, text, only}
use Rattle.system_model.specs.Tables.{Tables, view_of}
use Rattle.system_model.specs.TtyCalls.{tcgetattr_row}
use Rattle.system_model.proofs.RowLemmas.{goes_on}
use Rattle.system_model.proofs.SeenLines.{termios_seen}
use Rattle.tty_calls.specs.LineOf.{IsLineOf}
use Rattle.tty_calls.proofs.LineRows.{lines_count, tty_does}

pub settings_answered : (t : Tables) (slot fd n : ℕ) (word : List ℕ) → IsLineOf (view_of t) slot fd n → n < length t.lines
    → FitLines t.descriptors (counts_of t.lines) (boots_of t.lines)
    → word ≡ termios_text (line.termios_of (slice_index_or (boots_of t.lines) n false) (line_at (devices t.pool t.lines) n))
    → Does (view_of t) (view_of t) (Answer (Text word)) (tcgetattr_row (view_of t) slot fd)
settings_answered t slot fd n word is below fit words =
    subst (λ w. Does (view_of t) (view_of t) (Answer (Text w)) (tcgetattr_row (view_of t) slot fd))
    (ap termios_text (termios_seen t n (subst (λ k. n < k) (lines_count t.descriptors t.lines fit) below) fit) ∙ sym words)
    (tty_does (view_of t) (view_of t) (Answer (Text (termios_text (termios_of (view_of t) n)))) slot fd n (λ n. only (text (termios_text (termios_of (view_of t) n)))) is
    (goes_on (view_of t) (view_of t) (only (text (termios_text (termios_of (view_of t) n)))) refl refl))
