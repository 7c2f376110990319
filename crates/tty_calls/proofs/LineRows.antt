-- The line of a number, and the rows of calls on it.
use Rattle.std.proofs.Common.{◌≡◌, ℕ, ◌<◌, Bool, true, false, List, [], ◌∷◌, ◌++◌, Option, Some, None, option_map, refl, sym, ap, subst, ◌∙◌}
use Rattle.std.specs.Prelude.{is_none, is_some, length, option_and_then}
use Rattle.sys_types.specs.declared.limits.TheConstants.{LINES}
use Rattle.sys_types.specs.declared.rules.Rule.{Rule}
use Rattle.sys_types.specs.declared.rules.Rule.TheVariants as rule
use Rattle.call_words.specs.declared.event.Decision.{Decision}
use Rattle.call_words.specs.declared.event.Decision.TheVariants.{Answer}
use Rattle.call_words.specs.declared.event.Reply.TheVariants.{Denied}
use Rattle.fd_table.specs.declared.open.Open.{Open}
use Rattle.fd_table.specs.declared.open.Descriptor.{Descriptor}
use Rattle.fd_table.specs.declared.open.Target as kept
use Rattle.fd_table.specs.declared.open.Target.TheVariants as target
use Rattle.tree_model.specs.Tree.{NodeAt}
use Rattle.fd_table.specs.Shared.{Shared, file_of, descriptor_at}
use Rattle.fd_table.specs.Shared as shared
use Rattle.tty_dev.specs.Line.{LineState}
use Rattle.tty_dev.specs.Table.{counts_of, boots_of}
use Rattle.tty_dev.proofs.TableLemmas.{length-counts}
use Rattle.proc_table.specs.Processes.{Process}
use Rattle.system_model.specs.Parts.{Path}
use Rattle.system_model.specs.Verdicts.{check_of, is_held}
use Rattle.system_model.specs.declared.verdict.Verdict.{Verdict}
use Rattle.system_model.specs.declared.verdict.Verdict.TheVariants as verdict
use Rattle.system_model.specs.State.{OpenFile, View}
use Rattle.system_model.specs.Looks.{holds_of}
use Rattle.system_model.specs.Rows.{Row, Does, Check, refused, deny, first}
use Rattle.system_model.specs.Tables.{Tables, generations, is_dead_target, seen_target, seen_open, view_of}
use Rattle.system_model.specs.TtyCalls.{tty_of, tty_at, tty_checks, on_tty, on_line_row}
use Rattle.system_model.specs.Fit.{FitLines}
use Rattle.system_model.proofs.FileLooks.{file_at_seen, opened_seen}
use Rattle.system_model.proofs.RowLemmas.{first_free, first_held, checks_refuse, checks_pass}
use Rattle.tty_calls.specs.LineOf.{IsLineOf}

-- ---- there are the lines that files are of

pub lines_count : (d : Shared Open) (lines : List LineState) → FitLines d (counts_of lines) (boots_of lines) → length lines ≡ LINES
lines_count d lines fit = sym (length-counts lines) ∙ fit.lines

below-by : (d : Shared Open) (lines : List LineState) (o : Option Descriptor) (f : Open) (n opened : ℕ) → FitLines d (counts_of lines) (boots_of lines)
    → file_of d.files o ≡ Some f → f.target ≡ target.Line n opened → n < LINES
below-by d lines None f n opened fit is of = absurd cc
below-by d lines (Some x) f n opened fit is of = fit.there x.entry n opened f is of

pub line_there : (d : Shared Open) (lines : List LineState) (slot fd : ℕ) (f : Open) → FitLines d (counts_of lines) (boots_of lines)
    → shared.file_at d slot fd ≡ Some f → (n opened : ℕ) → f.target ≡ target.Line n opened → n < LINES
line_there d lines slot fd f fit is n opened of = below-by d lines (descriptor_at d.table slot fd) f n opened fit is of

pub line_below : (d : Shared Open) (lines : List LineState) (slot fd : ℕ) (f : Open) → FitLines d (counts_of lines) (boots_of lines)
    → shared.file_at d slot fd ≡ Some f → (n opened : ℕ) → f.target ≡ target.Line n opened → n < length lines
line_below d lines slot fd f fit is n opened of = subst (λ k. n < k) (sym (lines_count d lines fit)) (line_there d lines slot fd f fit is n opened of)

-- ---- the rules

-- by what the file is of
abbrev checks_of : Option OpenFile → List (Option Check)
checks_of o =
    deny (is_none o) rule.BadFd
    ∷ deny (holds_of (λ f. f.dead) o) rule.Dead
    ∷ deny (is_none (option_and_then (λ f. tty_of f.file.target) o)) rule.NotLine
    ∷ []

abbrev rules : (dead : Bool) (o : Option ℕ) → Option Check
rules dead o = first (deny dead rule.Dead ∷ deny (is_none o) rule.NotLine ∷ [])

pub not_open : (t : Tables) (slot fd : ℕ) → shared.file_at t.descriptors slot fd ≡ None → first (tty_checks (view_of t) slot fd) ≡ Some (refused rule.BadFd, [])
not_open t slot fd is = ap (λ o. first (checks_of o)) (file_at_seen t slot fd ∙ ap (option_map (seen_open t.nodes (generations (counts_of t.lines)))) is)

-- the rules of a file
of-file : (t : Tables) (slot fd : ℕ) (f : Open) (dead : Bool) (o : Option ℕ) → shared.file_at t.descriptors slot fd ≡ Some f
    → is_dead_target (generations (counts_of t.lines)) f.target ≡ dead → tty_of (seen_target t.nodes f.target) ≡ o
    → first (tty_checks (view_of t) slot fd) ≡ rules dead o
of-file t slot fd f dead o is dies of = ap (λ o. first (checks_of o)) (opened_seen t slot fd f is) ∙ ap (λ b. rules b (tty_of (seen_target t.nodes f.target))) dies ∙ ap (rules dead) of

pub dead_file : (t : Tables) (slot fd : ℕ) (f : Open) → shared.file_at t.descriptors slot fd ≡ Some f
    → is_dead_target (generations (counts_of t.lines)) f.target ≡ true → first (tty_checks (view_of t) slot fd) ≡ Some (refused rule.Dead, [])
dead_file t slot fd f is dies = of-file t slot fd f true (tty_of (seen_target t.nodes f.target)) is dies refl

pub no_line : (t : Tables) (slot fd : ℕ) (f : Open) → shared.file_at t.descriptors slot fd ≡ Some f
    → is_dead_target (generations (counts_of t.lines)) f.target ≡ false → tty_of (seen_target t.nodes f.target) ≡ None
    → first (tty_checks (view_of t) slot fd) ≡ Some (refused rule.NotLine, [])
no_line t slot fd f is lives of = of-file t slot fd f false None is lives of

pub a_line : (t : Tables) (slot fd n : ℕ) (f : Open) → shared.file_at t.descriptors slot fd ≡ Some f
    → is_dead_target (generations (counts_of t.lines)) f.target ≡ false → tty_of (seen_target t.nodes f.target) ≡ Some n → IsLineOf (view_of t) slot fd n
a_line t slot fd n f is lives of = record {
  allowed = of-file t slot fd f false (Some n) is lives of;
  line = ap (option_and_then (λ (f : OpenFile). tty_of f.file.target)) (opened_seen t slot fd f is) ∙ of;
}

-- the line of a file
target-by : (x : kept.Target) (nodes : List (Option NodeAt)) (n : ℕ) → tty_of (seen_target nodes x) ≡ Some n → (length : ℕ)
    → ((m opened : ℕ) → x ≡ target.Line m opened → m < length) → n < length
target-by (target.File number) nodes n is length below = absurd cc
target-by (target.PipeRead k) nodes n is length below = absurd cc
target-by (target.PipeWrite k) nodes n is length below = absurd cc
target-by (target.Line m opened) nodes n is length below = subst (λ k. k < length) (some_is m n is) (below m opened refl)
  where
    some_is : (a b : ℕ) → Some a ≡ Some b → a ≡ b
    some_is a b is = cc

pub below_of : (f : Open) (nodes : List (Option NodeAt)) (n length : ℕ) → tty_of (seen_target nodes f.target) ≡ Some n
    → ((m opened : ℕ) → f.target ≡ target.Line m opened → m < length) → n < length
below_of f nodes n length is below = target-by f.target nodes n is length below

-- ---- the rows

pub tty_denied : (t : Tables) (slot fd : ℕ) (row : ℕ → Row) (rule : Rule) → first (tty_checks (view_of t) slot fd) ≡ Some (refused rule, [])
    → Does (view_of t) (view_of t) (Answer (Denied rule)) (on_tty (view_of t) slot fd row)
tty_denied t slot fd row rule is = checks_refuse (view_of t) (tty_checks (view_of t) slot fd) (on_line_row row (tty_at (view_of t) slot fd)) rule is

pub tty_does : (v new : View) (d : Decision) (slot fd n : ℕ) (row : ℕ → Row) → IsLineOf v slot fd n → Does v new d (row n) → Does v new d (on_tty v slot fd row)
tty_does v new d slot fd n row is does =
    checks_pass v new d (tty_checks v slot fd) (on_line_row row (tty_at v slot fd)) is.allowed (subst (λ o. Does v new d (on_line_row row o)) (sym is.line) does)

-- the first check of a call on the line
pub tty_first : (v : View) (slot fd n : ℕ) (row : ℕ → Row) → IsLineOf v slot fd n → first (on_tty v slot fd row).checks ≡ first (row n).checks
tty_first v slot fd n row is =
    first_free (tty_checks v slot fd) (on_line_row row (tty_at v slot fd)).checks is.allowed ∙ ap (λ o. first (on_line_row row o).checks) is.line

-- a verdict on which no check holds
pub goes : (who : Process Path) (verdict : Verdict) → is_held verdict ≡ false → check_of who verdict ≡ None
goes who verdict.Go free = refl
goes who (verdict.Refused rule) free = absurd cc
goes who verdict.Empty free = absurd cc
goes who verdict.Zero free = absurd cc
goes who (verdict.Asleep reason) free = absurd cc
goes who (verdict.Stopped signal) free = absurd cc
goes who (verdict.Interrupted signal) free = absurd cc
goes who verdict.Broken free = absurd cc

-- and one on which a check holds
pub holds : (who : Process Path) (verdict : Verdict) → is_held verdict ≡ true → is_some (check_of who verdict) ≡ true
holds who verdict.Go held = absurd cc
holds who (verdict.Refused rule) held = refl
holds who verdict.Empty held = refl
holds who verdict.Zero held = refl
holds who (verdict.Asleep reason) held = refl
holds who (verdict.Stopped signal) held = refl
holds who (verdict.Interrupted signal) held = refl
holds who verdict.Broken held = refl

-- then it is the first of more
pub held_first : (checks more : List (Option Check)) (o : Option Check) → o ≡ first checks → is_some o ≡ true → o ≡ first (checks ++ more)
held_first checks more None is held = absurd cc
held_first checks more (Some c) is held = sym (first_held checks more c (sym is))

-- a rule that denies the call on the line is the first
pub tty_first_denied : (v : View) (slot fd : ℕ) (row : ℕ → Row) (rule : Rule) → first (tty_checks v slot fd) ≡ Some (refused rule, [])
    → Some (refused rule, []) ≡ first (on_tty v slot fd row).checks
tty_first_denied v slot fd row rule is = sym (first_held (tty_checks v slot fd) (on_line_row row (tty_at v slot fd)).checks (refused rule, []) is)
