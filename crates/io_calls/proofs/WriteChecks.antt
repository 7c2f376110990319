-- The checks of write(2) in order, over the tables of a kernel.
use Rattle.std.proofs.Common.{◌≡◌, ℕ, true, List, [], ◌∷◌, ◌++◌, length, Option, Some, None, option_map, sym, ap, ◌∙◌}
use Rattle.std.specs.Prelude.{◌==◌, not, is_none, is_some}
use Rattle.sys_types.specs.declared.rules.Rule.TheVariants.{BadFd, FdMode, Dead, LabelWrite}
use Rattle.fd_table.specs.declared.open.Open.{Open}
use Rattle.fd_table.specs.Shared as shared
use Rattle.tty_dev.specs.Table.{counts_of}
use Rattle.proc_table.specs.Processes.{Process}
use Rattle.system_model.specs.IoCalls.{may_not_write, write_at, write_row}
use Rattle.system_model.specs.Looks.{caller_of, holds_of}
use Rattle.system_model.specs.Parts.{Path}
use Rattle.system_model.specs.Rows.{Check, refused, deny, answer_if, number, first}
use Rattle.system_model.specs.State.{OpenFile, View}
use Rattle.system_model.specs.Tables.{Tables, generations, seen_open, view_of}
use Rattle.system_model.proofs.FileLooks.{file_at_seen, opened_seen}
use Rattle.system_model.proofs.RowLemmas.{first_free}
use Rattle.io_calls.specs.Moves.{write_checks}
use Rattle.io_calls.proofs.VerdictCases.{held_first}

-- all checks, by what the number refers to
abbrev checks-of : View → ℕ → ℕ → List ℕ → Option OpenFile → Process Path → List (Option Check)
checks-of v slot fd bs o who =
    (deny (is_none o) BadFd
    ∷ deny (holds_of (λ f. not f.file.writable) o) FdMode
    ∷ deny (holds_of (λ f. f.dead) o) Dead
    ∷ deny (holds_of (λ f. may_not_write v who f.file.target) o) LabelWrite
    ∷ answer_if (length bs == 0) (number 0)
    ∷ [])
    ++ (write_at v slot fd bs o).checks

pub write_shut : (t : Tables) (slot fd : ℕ) (bs : List ℕ) → shared.file_at t.descriptors slot fd ≡ None
    → Some (refused BadFd, []) ≡ first (write_row (view_of t) slot fd bs).checks
write_shut t slot fd bs none =
    sym
    (ap (λ o. first (checks-of (view_of t) slot fd bs o (caller_of (view_of t) slot)))
    (file_at_seen t slot fd ∙ ap (option_map (seen_open t.nodes (generations (counts_of t.lines)))) none))

-- those of an open file
pub write_first : (t : Tables) (slot fd : ℕ) (bs : List ℕ) (f : Open) (who : Process Path) → shared.file_at t.descriptors slot fd ≡ Some f
    → caller_of (view_of t) slot ≡ who
    → first (write_row (view_of t) slot fd bs).checks
    ≡
    first
    (write_checks (view_of t) who bs (seen_open t.nodes (generations (counts_of t.lines)) f)
    ++ (write_at (view_of t) slot fd bs (Some (seen_open t.nodes (generations (counts_of t.lines)) f))).checks)
write_first t slot fd bs f who is caller =
    ap (λ o. first (checks-of (view_of t) slot fd bs o (caller_of (view_of t) slot))) (opened_seen t slot fd f is)
    ∙ ap (λ w. first (checks-of (view_of t) slot fd bs (Some (seen_open t.nodes (generations (counts_of t.lines)) f)) w)) caller

pub write_held : (t : Tables) (slot fd : ℕ) (bs : List ℕ) (f : Open) (who : Process Path) (o : Option Check) → shared.file_at t.descriptors slot fd ≡ Some f
    → caller_of (view_of t) slot ≡ who → o ≡ first (write_checks (view_of t) who bs (seen_open t.nodes (generations (counts_of t.lines)) f)) → is_some o ≡ true
    → o ≡ first (write_row (view_of t) slot fd bs).checks
write_held t slot fd bs f who o is caller check held =
    held_first (write_checks (view_of t) who bs (seen_open t.nodes (generations (counts_of t.lines)) f))
    (write_at (view_of t) slot fd bs (Some (seen_open t.nodes (generations (counts_of t.lines)) f))).checks o check held
    ∙ sym (write_first t slot fd bs f who is caller)

pub write_by_target : (t : Tables) (slot fd : ℕ) (bs : List ℕ) (f : Open) (who : Process Path) (o : Option Check)
    → shared.file_at t.descriptors slot fd ≡ Some f → caller_of (view_of t) slot ≡ who
    → first (write_checks (view_of t) who bs (seen_open t.nodes (generations (counts_of t.lines)) f)) ≡ None
    → o ≡ first (write_at (view_of t) slot fd bs (Some (seen_open t.nodes (generations (counts_of t.lines)) f))).checks
    → o ≡ first (write_row (view_of t) slot fd bs).checks
write_by_target t slot fd bs f who o is caller free check =
    check
    ∙ sym
    (write_first t slot fd bs f who is caller
    ∙ first_free (write_checks (view_of t) who bs (seen_open t.nodes (generations (counts_of t.lines)) f))
    (write_at (view_of t) slot fd bs (Some (seen_open t.nodes (generations (counts_of t.lines)) f))).checks free)
