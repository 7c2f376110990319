-- The rows of the calls on the foreground group of a line, over the tables of a kernel.
use Rattle.std.proofs.Common.{◌≡◌, ℕ, Bool, true, false, not, List, [], ◌∷◌, ◌++◌, Option, Some, None, refl, sym, ap, subst, ◌∙◌}
use Rattle.std.specs.Prelude.{is_some}
use Rattle.sys_types.specs.declared.rules.Rule.TheVariants as rule
use Rattle.call_words.specs.declared.event.Decision.TheVariants.{Answer}
use Rattle.call_words.specs.declared.event.Reply.TheVariants.{Denied, Num}
use Rattle.line_disc.specs.Device as device
use Rattle.line_disc.specs.Lines.{line_at, change_line}
use Rattle.proc_table.specs.Processes.{Process, running_at, has_member_in}
use Rattle.proc_table.proofs.MapLemmas.{has_member_in-map}
use Rattle.tree_model.specs.Numbers.{path_of}
use Rattle.tty_dev.specs.Line.{LineState}
use Rattle.tty_dev.specs.Table.{devices, counts_of}
use Rattle.system_model.specs.Parts.{Path}
use Rattle.system_model.specs.Looks.{caller_of, line_of, has_session}
use Rattle.system_model.specs.Background.{background_write}
use Rattle.system_model.specs.LineEffects.{change_lines}
use Rattle.system_model.specs.Rows.{Does, Check, refused, deny, first}
use Rattle.system_model.specs.Tables.{Tables, seen_process, view_of}
use Rattle.system_model.specs.Verdicts.{check_of}
use Rattle.system_model.specs.declared.verdict.Verdict.{Verdict}
use Rattle.system_model.specs.TtyCalls.{is_not_own, tcgetpgrp_on, tcgetpgrp_row, tcsetpgrp_on, tcsetpgrp_row}
use Rattle.system_model.proofs.RowLemmas.{first_free, refuses, goes_on}
use Rattle.system_model.proofs.SeenLines.{line_seen, line_changes}
use Rattle.system_model.proofs.SeenProcesses.{caller_seen, processes_mapped}
use Rattle.tty_calls.specs.LineOf.{IsLineOf}
use Rattle.tty_calls.proofs.LineRows.{tty_does, held_first}

-- whether the line is the caller's own
pub own_seen : (t : Tables) (slot n : ℕ) (p : Process ℕ) (own : Bool) → running_at t.processes slot ≡ Some p
    → has_session p.session (line_at (devices t.pool t.lines) n) ≡ own → is_not_own (view_of t) slot n ≡ not own
own_seen t slot n p own running is =
    ap (λ (who : Process Path). not (has_session who.session (line_of (view_of t) n))) (caller_seen t slot p running)
    ∙ ap (λ line. not (has_session p.session line)) (line_seen t n)
    ∙ ap not is

pub group_denied : (t : Tables) (slot fd n : ℕ) (p : Process ℕ) → IsLineOf (view_of t) slot fd n → running_at t.processes slot ≡ Some p
    → has_session p.session (line_at (devices t.pool t.lines) n) ≡ false
    → Does (view_of t) (view_of t) (Answer (Denied rule.NotCtty)) (tcgetpgrp_row (view_of t) slot fd)
group_denied t slot fd n p is running own =
    tty_does (view_of t) (view_of t) (Answer (Denied rule.NotCtty)) slot fd n (tcgetpgrp_on (view_of t) slot) is
    (refuses (view_of t) (tcgetpgrp_on (view_of t) slot n) rule.NotCtty (rw (own_seen t slot n p false running own) refl))

pub group_answered : (t : Tables) (slot fd n : ℕ) (p : Process ℕ) (group : ℕ) → IsLineOf (view_of t) slot fd n → running_at t.processes slot ≡ Some p
    → has_session p.session (line_at (devices t.pool t.lines) n) ≡ true → group ≡ (line_at (devices t.pool t.lines) n).foreground
    → Does (view_of t) (view_of t) (Answer (Num group)) (tcgetpgrp_row (view_of t) slot fd)
group_answered t slot fd n p group is running own in_front =
    tty_does (view_of t) (view_of t) (Answer (Num group)) slot fd n (tcgetpgrp_on (view_of t) slot) is
    (rw (in_front, ← line_seen t n)
    (goes_on (view_of t) (view_of t) (tcgetpgrp_on (view_of t) slot n) (rw (own_seen t slot n p true running own) refl) refl))

-- ---- tcsetpgrp(3)

pub front_not_own : (t : Tables) (slot group n : ℕ) (p : Process ℕ) → running_at t.processes slot ≡ Some p
    → has_session p.session (line_at (devices t.pool t.lines) n) ≡ false → Some (refused rule.NotCtty, []) ≡ first (tcsetpgrp_on (view_of t) slot group n).checks
front_not_own t slot group n p running own =
    ap (λ b. first (deny b rule.NotCtty ∷ background_write (view_of t) n (caller_of (view_of t) slot)
    ++ deny (not (has_member_in (view_of t).processes group (caller_of (view_of t) slot).session)) rule.Group ∷ []))
    (sym (own_seen t slot n p false running own))

-- of the caller's own line
front-own : (t : Tables) (slot group n : ℕ) (p : Process ℕ) → running_at t.processes slot ≡ Some p
    → has_session p.session (line_at (devices t.pool t.lines) n) ≡ true
    → first (tcsetpgrp_on (view_of t) slot group n).checks
    ≡ first (background_write (view_of t) n (caller_of (view_of t) slot)
    ++ deny (not (has_member_in (view_of t).processes group (caller_of (view_of t) slot).session)) rule.Group ∷ [])
front-own t slot group n p running own =
    ap (λ b. first (deny b rule.NotCtty ∷ background_write (view_of t) n (caller_of (view_of t) slot)
    ++ deny (not (has_member_in (view_of t).processes group (caller_of (view_of t) slot).session)) rule.Group ∷ []))
    (own_seen t slot n p true running own)

pub front_held : (t : Tables) (slot group n : ℕ) (p : Process ℕ) (o : Option Check) → running_at t.processes slot ≡ Some p
    → has_session p.session (line_at (devices t.pool t.lines) n) ≡ true
    → o ≡ first (background_write (view_of t) n (caller_of (view_of t) slot)) → is_some o ≡ true → o ≡ first (tcsetpgrp_on (view_of t) slot group n).checks
front_held t slot group n p o running own is held =
    held_first (background_write (view_of t) n (caller_of (view_of t) slot))
    (deny (not (has_member_in (view_of t).processes group (caller_of (view_of t) slot).session)) rule.Group ∷ []) o is held
    ∙ sym (front-own t slot group n p running own)

member-seen : (t : Tables) (slot group : ℕ) (p : Process ℕ) → running_at t.processes slot ≡ Some p
    → has_member_in (view_of t).processes group (caller_of (view_of t) slot).session ≡ has_member_in t.processes group p.session
unfolding view_of
member-seen t slot group p running =
    ap (λ (who : Process Path). has_member_in (view_of t).processes group who.session) (caller_seen t slot p running)
    ∙ ap (λ table. has_member_in table group p.session) (processes_mapped t.nodes t.processes)
    ∙ has_member_in-map (path_of t.nodes) t.processes group p.session

pub front_by_member : (t : Tables) (slot group n : ℕ) (p : Process ℕ) (b : Bool) → running_at t.processes slot ≡ Some p
    → has_session p.session (line_at (devices t.pool t.lines) n) ≡ true
    → first (background_write (view_of t) n (caller_of (view_of t) slot)) ≡ None → has_member_in t.processes group p.session ≡ b
    → first (deny (not b) rule.Group ∷ []) ≡ first (tcsetpgrp_on (view_of t) slot group n).checks
front_by_member t slot group n p b running own none is =
    ap (λ m. first (deny (not m) rule.Group ∷ [])) (sym (member-seen t slot group p running ∙ is))
    ∙ sym
    (first_free (background_write (view_of t) n (caller_of (view_of t) slot))
    (deny (not (has_member_in (view_of t).processes group (caller_of (view_of t) slot).session)) rule.Group ∷ []) none)
    ∙ sym (front-own t slot group n p running own)

pub front_done : (t : Tables) (lines : List LineState) (slot fd n group : ℕ) → IsLineOf (view_of t) slot fd n
    → first (tcsetpgrp_on (view_of t) slot group n).checks ≡ None
    → devices t.pool lines ≡ change_line (λ d. device.set_foreground d group) (devices t.pool t.lines) n → counts_of lines ≡ counts_of t.lines
    → Does (view_of t) (view_of (record t { lines = lines })) (Answer (Num 0)) (tcsetpgrp_row (view_of t) slot fd group)
unfolding change_lines
front_done t lines slot fd n group is none set counts =
    tty_does (view_of t) (view_of (record t { lines = lines })) (Answer (Num 0)) slot fd n (tcsetpgrp_on (view_of t) slot group) is
    (goes_on (view_of t) (view_of (record t { lines = lines })) (tcsetpgrp_on (view_of t) slot group n) none
    (line_changes t t.pool lines (λ d. device.set_foreground d group) n set counts refl))

-- a verdict on the process in the table is one on the caller
pub caller_first : (t : Tables) (slot n : ℕ) (p : Process ℕ) (verdict : Verdict) → running_at t.processes slot ≡ Some p
    → check_of (seen_process t.nodes p) verdict ≡ first (background_write (view_of t) n (seen_process t.nodes p))
    → check_of (caller_of (view_of t) slot) verdict ≡ first (background_write (view_of t) n (caller_of (view_of t) slot))
caller_first t slot n p verdict running is =
    subst (λ who. check_of who verdict ≡ first (background_write (view_of t) n who)) (sym (caller_seen t slot p running)) is
