-- The checks of read(2) that concern what an open file is of, over the tables of a kernel.
use Rattle.std.proofs.Common.{◌≡◌, ℕ, ◌<◌, ◌≤◌, Bool, true, false, List, [], ◌∷◌, ◌++◌, length, Option, Some, None, refl, sym, ap, ◌∙◌, arith}
use Rattle.std.specs.Prelude.{◌==◌, ◌&&◌, is_some}
use Rattle.std.proofs.lemmas.Bool.{ne_eqb}
use Rattle.call_words.specs.declared.event.Reason.TheVariants as reason
use Rattle.fd_table.specs.declared.open.Target.TheVariants.{PipeWrite}
use Rattle.fd_table.specs.Opens.{is_of}
use Rattle.fd_table.specs.Shared.{count_files}
use Rattle.line_disc.specs.Device as device
use Rattle.line_disc.specs.Device.{Device}
use Rattle.line_disc.specs.Lines.{line_at}
use Rattle.proc_table.specs.Processes.{Process}
use Rattle.tty_dev.specs.Table.{devices}
use Rattle.system_model.specs.Background.{background_read}
use Rattle.system_model.specs.IoCalls.{pipe_bytes, has_no_writer, read_target}
use Rattle.system_model.specs.Looks.{caller_of, line_of}
use Rattle.system_model.specs.Parts.{Path, read_end, tty}
use Rattle.system_model.specs.Rows.{Check, early, bytes, answer_if, wait_if, first}
use Rattle.system_model.specs.State.{OpenFile, View}
use Rattle.system_model.specs.Tables.{Tables, view_of}
use Rattle.system_model.proofs.RowLemmas.{first_free}
use Rattle.system_model.proofs.SeenLines.{line_seen}
use Rattle.io_calls.proofs.PipeMoves.{writers_of}
use Rattle.io_calls.proofs.VerdictCases.{held_first}

-- ---- pipes

abbrev pipe-checks : Bool → Bool → OpenFile → Process Path → Option Check
pipe-checks empty ended f who = first (answer_if (empty && ended) (bytes []) ∷ wait_if empty f.file who reason.Read ∷ [])

some-left : (n m : ℕ) → n ≡ m → 0 < n → (m == 0) ≡ false
some-left n m is some = grind (arith, is)

none-left : (n m : ℕ) → n ≡ m → n ≤ 0 → (m == 0) ≡ true
none-left n m is none = grind (arith, is)

-- it holds bytes
pub pipe_goes : (t : Tables) (slot fd max k n : ℕ) (f : OpenFile) → n ≡ length (pipe_bytes (view_of t) k) → 0 < n
    → None ≡ first (read_target (view_of t) slot fd max f (read_end k)).checks
pipe_goes t slot fd max k n f is some =
    sym (ap (λ b. pipe-checks b (has_no_writer (view_of t) k) f (caller_of (view_of t) slot)) (some-left n (length (pipe_bytes (view_of t) k)) is some))

-- it does not, and no open file writes to it, or one does
pub pipe_ends : (t : Tables) (slot fd max k n m : ℕ) (f : OpenFile) → n ≡ length (pipe_bytes (view_of t) k) → n ≤ 0
    → m ≡ count_files (is_of (PipeWrite k)) t.descriptors → m ≡ 0
    → Some (early (bytes []), []) ≡ first (read_target (view_of t) slot fd max f (read_end k)).checks
pipe_ends t slot fd max k n m f is none writers no_one =
    sym
    (ap (λ b. pipe-checks b (has_no_writer (view_of t) k) f (caller_of (view_of t) slot)) (none-left n (length (pipe_bytes (view_of t) k)) is none)
    ∙ ap (λ w. pipe-checks true (w == 0) f (caller_of (view_of t) slot)) (writers_of t k ∙ sym writers ∙ no_one))

pub pipe_waits : (t : Tables) (slot fd max k n m : ℕ) (f : OpenFile) (who : Process Path) (o : Option Check) → n ≡ length (pipe_bytes (view_of t) k) → n ≤ 0
    → m ≡ count_files (is_of (PipeWrite k)) t.descriptors → (m ≡ 0 → ⊥) → caller_of (view_of t) slot ≡ who → o ≡ wait_if true f.file who reason.Read
    → o ≡ first (read_target (view_of t) slot fd max f (read_end k)).checks
pipe_waits t slot fd max k n m f who o is none writers some caller waits =
    waits
    ∙ sym
    (ap (λ b. pipe-checks b (has_no_writer (view_of t) k) f (caller_of (view_of t) slot)) (none-left n (length (pipe_bytes (view_of t) k)) is none)
    ∙ ap (λ w. pipe-checks true (w == 0) f (caller_of (view_of t) slot)) (writers_of t k ∙ sym writers)
    ∙ ap (λ b. pipe-checks true b f (caller_of (view_of t) slot)) (ne_eqb m 0 some)
    ∙ ap (λ w. pipe-checks true false f w) caller)

-- ---- lines

abbrev line-checks : View → ℕ → Bool → Bool → OpenFile → Process Path → List (Option Check)
line-checks v n zombie waits f who = answer_if zombie (bytes []) ∷ background_read v n who ++ wait_if waits f.file who reason.Read ∷ []

line-first : (t : Tables) (slot fd max n : ℕ) (f : OpenFile) (who : Process Path) (zombie waits : Bool) → caller_of (view_of t) slot ≡ who
    → (line_at (devices t.pool t.lines) n).zombie ≡ zombie → device.waits (line_at (devices t.pool t.lines) n) max ≡ waits
    → first (read_target (view_of t) slot fd max f (tty n)).checks ≡ first (line-checks (view_of t) n zombie waits f who)
line-first t slot fd max n f who zombie waits caller lost sleeps =
    ap (λ w. first (line-checks (view_of t) n (line_of (view_of t) n).zombie (device.waits (line_of (view_of t) n) max) f w)) caller
    ∙ ap (λ b. first (line-checks (view_of t) n b (device.waits (line_of (view_of t) n) max) f who)) (ap (λ (d : Device ℕ). d.zombie) (line_seen t n) ∙ lost)
    ∙ ap (λ b. first (line-checks (view_of t) n zombie b f who)) (ap (λ (d : Device ℕ). device.waits d max) (line_seen t n) ∙ sleeps)

pub line_lost : (t : Tables) (slot fd max n : ℕ) (f : OpenFile) (who : Process Path) → caller_of (view_of t) slot ≡ who
    → (line_at (devices t.pool t.lines) n).zombie ≡ true → Some (early (bytes []), []) ≡ first (read_target (view_of t) slot fd max f (tty n)).checks
line_lost t slot fd max n f who caller lost = sym (line-first t slot fd max n f who true _ caller lost refl)

pub line_held : (t : Tables) (slot fd max n : ℕ) (f : OpenFile) (who : Process Path) (o : Option Check) → caller_of (view_of t) slot ≡ who
    → (line_at (devices t.pool t.lines) n).zombie ≡ false → o ≡ first (background_read (view_of t) n who) → is_some o ≡ true
    → o ≡ first (read_target (view_of t) slot fd max f (tty n)).checks
line_held t slot fd max n f who o caller lost is held =
    held_first (background_read (view_of t) n who) (wait_if (device.waits (line_at (devices t.pool t.lines) n) max) f.file who reason.Read ∷ []) o is held
    ∙ sym (line-first t slot fd max n f who false (device.waits (line_at (devices t.pool t.lines) n) max) caller lost refl)

pub line_goes : (t : Tables) (slot fd max n : ℕ) (f : OpenFile) (who : Process Path) → caller_of (view_of t) slot ≡ who
    → (line_at (devices t.pool t.lines) n).zombie ≡ false → first (background_read (view_of t) n who) ≡ None
    → device.waits (line_at (devices t.pool t.lines) n) max ≡ false → None ≡ first (read_target (view_of t) slot fd max f (tty n)).checks
line_goes t slot fd max n f who caller lost free ready =
    sym
    (line-first t slot fd max n f who false false caller lost ready
    ∙ first_free (background_read (view_of t) n who) (wait_if false f.file who reason.Read ∷ []) free)

pub line_waits : (t : Tables) (slot fd max n : ℕ) (f : OpenFile) (who : Process Path) (o : Option Check) → caller_of (view_of t) slot ≡ who
    → (line_at (devices t.pool t.lines) n).zombie ≡ false → first (background_read (view_of t) n who) ≡ None
    → device.waits (line_at (devices t.pool t.lines) n) max ≡ true → o ≡ wait_if true f.file who reason.Read
    → o ≡ first (read_target (view_of t) slot fd max f (tty n)).checks
line_waits t slot fd max n f who o caller lost free sleeps waits =
    waits
    ∙ sym
    (line-first t slot fd max n f who false true caller lost sleeps
    ∙ first_free (background_read (view_of t) n who) (wait_if true f.file who reason.Read ∷ []) free)
