-- The checks of read(2) in order, over the tables of a kernel.
use Rattle.std.proofs.Common.{◌≡◌, ℕ, ◌<◌, ◌≤◌, Bool, true, false, List, [], ◌∷◌, ◌++◌, Option, Some, None, option_map, refl, sym, ap, ◌∙◌, lt-ltb, le-ltb}
use Rattle.std.specs.Prelude.{◌==◌, not, is_none, is_some, nat_lt}
use Rattle.std.proofs.lemmas.Bool.{ltb-false}
use Rattle.sys_types.specs.declared.limits.TheConstants.{PIECE_BYTES}
use Rattle.sys_types.specs.declared.rules.Rule.TheVariants.{Size, BadFd, FdMode, LabelRead}
use Rattle.fd_table.specs.declared.open.Open.{Open}
use Rattle.fd_table.specs.Shared as shared
use Rattle.tty_dev.specs.Table.{counts_of}
use Rattle.proc_table.specs.Processes.{Process}
use Rattle.system_model.specs.IoCalls.{may_not_read, read_at, read_row}
use Rattle.system_model.specs.Looks.{caller_of, file_at, holds_of}
use Rattle.system_model.specs.Parts.{Path}
use Rattle.system_model.specs.Rows.{Check, refused, deny, answer_if, bytes, first}
use Rattle.system_model.specs.State.{OpenFile, View}
use Rattle.system_model.specs.Tables.{Tables, generations, seen_open, view_of}
use Rattle.system_model.proofs.FileLooks.{file_at_seen, opened_seen}
use Rattle.system_model.proofs.RowLemmas.{first_free}
use Rattle.io_calls.specs.Moves.{read_checks}
use Rattle.io_calls.proofs.VerdictCases.{held_first}

-- all checks, by whether too much is asked and what the number refers to
abbrev checks-of : View → ℕ → ℕ → ℕ → Bool → Option OpenFile → Process Path → List (Option Check)
checks-of v slot fd max long o who =
    (deny long Size
    ∷ deny (is_none o) BadFd
    ∷ deny (holds_of (λ f. not f.file.readable) o) FdMode
    ∷ answer_if (holds_of (λ f. f.dead) o) (bytes [])
    ∷ deny (holds_of (λ f. may_not_read v who f.file.target) o) LabelRead
    ∷ answer_if (max == 0) (bytes [])
    ∷ [])
    ++ (read_at v slot fd max o).checks

pub read_long : (v : View) (slot fd max : ℕ) → PIECE_BYTES < max → Some (refused Size, []) ≡ first (read_row v slot fd max).checks
read_long v slot fd max long =
    sym (ap (λ b. first (checks-of v slot fd max b (file_at v slot fd) (caller_of v slot))) (lt-ltb PIECE_BYTES max long))

pub read_shut : (t : Tables) (slot fd max : ℕ) → max ≤ PIECE_BYTES → shared.file_at t.descriptors slot fd ≡ None
    → Some (refused BadFd, []) ≡ first (read_row (view_of t) slot fd max).checks
read_shut t slot fd max short none =
    sym
    (ap (λ b. first (checks-of (view_of t) slot fd max b (file_at (view_of t) slot fd) (caller_of (view_of t) slot))) (le-ltb PIECE_BYTES max short)
    ∙ ap (λ o. first (checks-of (view_of t) slot fd max false o (caller_of (view_of t) slot)))
    (file_at_seen t slot fd ∙ ap (option_map (seen_open t.nodes (generations (counts_of t.lines)))) none))

-- those of an open file
read-first : (t : Tables) (slot fd max : ℕ) (f : Open) (who : Process Path) → max ≤ PIECE_BYTES → shared.file_at t.descriptors slot fd ≡ Some f
    → caller_of (view_of t) slot ≡ who
    → first (read_row (view_of t) slot fd max).checks
    ≡
    first
    (read_checks (view_of t) who max (seen_open t.nodes (generations (counts_of t.lines)) f)
    ++ (read_at (view_of t) slot fd max (Some (seen_open t.nodes (generations (counts_of t.lines)) f))).checks)
read-first t slot fd max f who short is caller =
    ap (λ b. first (checks-of (view_of t) slot fd max b (file_at (view_of t) slot fd) (caller_of (view_of t) slot))) (le-ltb PIECE_BYTES max short)
    ∙ ap (λ o. first (checks-of (view_of t) slot fd max false o (caller_of (view_of t) slot))) (opened_seen t slot fd f is)
    ∙ ap (λ w. first (checks-of (view_of t) slot fd max false (Some (seen_open t.nodes (generations (counts_of t.lines)) f)) w)) caller

pub read_held : (t : Tables) (slot fd max : ℕ) (f : Open) (who : Process Path) (o : Option Check) → max ≤ PIECE_BYTES
    → shared.file_at t.descriptors slot fd ≡ Some f → caller_of (view_of t) slot ≡ who
    → o ≡ first (read_checks (view_of t) who max (seen_open t.nodes (generations (counts_of t.lines)) f)) → is_some o ≡ true
    → o ≡ first (read_row (view_of t) slot fd max).checks
read_held t slot fd max f who o short is caller check held =
    held_first (read_checks (view_of t) who max (seen_open t.nodes (generations (counts_of t.lines)) f))
    (read_at (view_of t) slot fd max (Some (seen_open t.nodes (generations (counts_of t.lines)) f))).checks o check held
    ∙ sym (read-first t slot fd max f who short is caller)

pub read_by_target : (t : Tables) (slot fd max : ℕ) (f : Open) (who : Process Path) (o : Option Check) → max ≤ PIECE_BYTES
    → shared.file_at t.descriptors slot fd ≡ Some f → caller_of (view_of t) slot ≡ who
    → first (read_checks (view_of t) who max (seen_open t.nodes (generations (counts_of t.lines)) f)) ≡ None
    → o ≡ first (read_at (view_of t) slot fd max (Some (seen_open t.nodes (generations (counts_of t.lines)) f))).checks
    → o ≡ first (read_row (view_of t) slot fd max).checks
read_by_target t slot fd max f who o short is caller free check =
    check
    ∙ sym
    (read-first t slot fd max f who short is caller
    ∙ first_free (read_checks (view_of t) who max (seen_open t.nodes (generations (counts_of t.lines)) f))
    (read_at (view_of t) slot fd max (Some (seen_open t.nodes (generations (counts_of t.lines)) f))).checks free)

-- where no check holds not too much is asked
pub read_short : (v : View) (slot fd max : ℕ) → None ≡ first (read_row v slot fd max).checks → max ≤ PIECE_BYTES
read_short v slot fd max none = by_case (nat_lt PIECE_BYTES max) refl
  where
    by_case : (b : Bool) → nat_lt PIECE_BYTES max ≡ b → max ≤ PIECE_BYTES
    by_case false is = ltb-false PIECE_BYTES max is
    by_case true is =
        absurd (let no : None ≡ Some (refused Size, []) =
        none ∙ ap (λ b. first (checks-of v slot fd max b (file_at v slot fd) (caller_of v slot))) is in cc)
