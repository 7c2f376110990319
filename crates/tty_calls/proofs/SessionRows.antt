-- The row of tcsetsid(3).
use Rattle.std.proofs.Common.{◌≡◌, ℕ, ◌+◌, suc, Bool, true, false, cond, List, [], ◌∷◌, Some, None, length, refl, sym, ap, ◌∙◌, arith}
use Rattle.std.specs.Prelude.{not, ◌==◌, is_some, nat_lt, ◌||◌}
use Rattle.std.specs.List.{list_any, position_or_len}
use Rattle.std.proofs.lemmas.Bool.Decides.{nat_tests}
use Rattle.sys_types.specs.declared.rules.Rule.TheVariants.{NotLeader, HasTty, LineTaken}
use Rattle.system_model.specs.State.{View}
use Rattle.call_words.specs.declared.event.Decision.TheVariants.{Answer}
use Rattle.call_words.specs.declared.event.Reply.TheVariants.{Num}
use Rattle.block_pool.specs.Pool.{PoolState}
use Rattle.line_disc.specs.Device as device
use Rattle.line_disc.specs.Lines.{change_line}
use Rattle.proc_table.specs.Groups.{is_number}
use Rattle.proc_table.specs.Processes.{Process}
use Rattle.tty_dev.specs.Line.{LineState}
use Rattle.tty_dev.specs.Table.{devices, counts_of}
use Rattle.system_model.specs.LineEffects.{change_lines}
use Rattle.system_model.specs.Looks.{caller_of, has_session, line_of, line_of_session}
use Rattle.system_model.specs.Parts.{Path}
use Rattle.system_model.specs.Rows.{deny, first, Does}
use Rattle.system_model.specs.Tables.{Tables, seen_process, view_of}
use Rattle.system_model.specs.TtyCalls.{setctty_on}
use Rattle.system_model.proofs.RowLemmas.{goes_on}
use Rattle.system_model.proofs.SeenLines.{with_line, line_changes}

-- whether a session has a line
less-by : (b any : Bool) (k n : ℕ) → nat_lt k n ≡ any → nat_lt (cond (not b) (1 + k) 0) (suc n) ≡ (b || any)
less-by true any k n is = grind (arith, nat_tests)
less-by false any k n is = (let both : nat_lt (1 + k) (suc n) ≡ nat_lt k n = grind (arith, nat_tests) in both ∙ is)

line-found : (session : ℕ) (pool : PoolState) (lines : List LineState)
    → nat_lt (position_or_len (has_session session) (devices pool lines)) (length (devices pool lines))
    ≡ list_any (λ (line : LineState). is_number session line.session) lines
unfolding devices
line-found session pool [] = refl
line-found session pool (line ∷ lines) =
    less-by (is_number session line.session) (list_any (λ (line : LineState). is_number session line.session) lines)
    (position_or_len (has_session session) (devices pool lines)) (length (devices pool lines)) (line-found session pool lines)

some-by : (b : Bool) (n : ℕ) → is_some (cond b (Some n) None) ≡ b
some-by true n = refl
some-by false n = refl

pub session_found : (t : Tables) (session : ℕ)
    → is_some (line_of_session (view_of t) session) ≡ list_any (λ (line : LineState). is_number session line.session) t.lines
unfolding view_of
session_found t session =
    some-by (nat_lt (position_or_len (has_session session) (devices t.pool t.lines)) (length (devices t.pool t.lines)))
    (position_or_len (has_session session) (devices t.pool t.lines))
    ∙ line-found session t.pool t.lines

-- the checks of tcsetsid(3), by what each comes to
pub setctty_checks : (v : View) (slot n : ℕ) (follows has taken : Bool) → not ((caller_of v slot).pid == (caller_of v slot).session) ≡ follows
    → is_some (line_of_session v (caller_of v slot).session) ≡ has → is_some (line_of v n).session ≡ taken
    → first (setctty_on v slot n).checks ≡ first (deny follows NotLeader ∷ deny has HasTty ∷ deny taken LineTaken ∷ [])
setctty_checks v slot n follows has taken is_follows is_has is_taken =
    ap
    (λ x. first (deny x NotLeader ∷ deny (is_some (line_of_session v (caller_of v slot).session)) HasTty ∷ deny (is_some (line_of v n).session) LineTaken ∷ []))
    is_follows
    ∙ ap (λ x. first (deny follows NotLeader ∷ deny x HasTty ∷ deny (is_some (line_of v n).session) LineTaken ∷ [])) is_has
    ∙ ap (λ x. first (deny follows NotLeader ∷ deny has HasTty ∷ deny x LineTaken ∷ [])) is_taken

-- the line has a session
pub session_set : (t : Tables) (lines : List LineState) (n slot : ℕ) (p : Process ℕ) → caller_of (view_of t) slot ≡ seen_process t.nodes p
    → devices t.pool lines ≡ change_line (λ line. device.set_session line p.session p.group) (devices t.pool t.lines) n → counts_of lines ≡ counts_of t.lines
    → first (setctty_on (view_of t) slot n).checks ≡ None
    → Does (view_of t) (view_of (record t { lines = lines })) (Answer (Num 0)) (setctty_on (view_of t) slot n)
unfolding change_lines
session_set t lines n slot p who is counts free =
    goes_on (view_of t) (view_of (record t { lines = lines })) (setctty_on (view_of t) slot n) free
    (line_changes t t.pool lines (λ line. device.set_session line p.session p.group) n is counts refl
    ∙ ap (λ (w : Process Path). with_line (view_of t) (λ line. device.set_session line w.session w.group) n) (sym who))
