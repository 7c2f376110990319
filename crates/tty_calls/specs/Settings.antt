-- What is let go of the input before other settings of a line act (tcsetattr(3), TCSAFLUSH).
use Rattle.std.specs.Prelude.{ℕ, true, false, List}
use Rattle.call_words.specs.declared.tty.When.{When}
use Rattle.call_words.specs.declared.tty.When.TheVariants as when
use Rattle.line_disc.specs.Device.{Device, flush}
use Rattle.line_disc.specs.Lines.{change_line}

abbrev pub flush_input : When → List (Device ℕ) → ℕ → List (Device ℕ)
flush_input when.Now lines n = lines
flush_input when.Flush lines n = change_line (λ d. flush d true false) lines n
