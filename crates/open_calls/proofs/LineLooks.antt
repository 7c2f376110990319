-- What the checks of an open of a terminal line come to, over the tables of a kernel.
use Rattle.std.proofs.Common.{◌≡◌, ℕ, ◌+◌, ◌<◌, Bool, true, false, cond, not, List, [], ◌∷◌, length, Option, Some, None, refl, sym, ap, ap₂, ◌∙◌, subst}
use Rattle.std.specs.Prelude.{◌&&◌, is_some, nat_lt, position, slice_index_or}
use Rattle.std.specs.List.{position_or_len}
use Rattle.sys_types.specs.declared.limits.TheConstants.{LINES, LINE_BLOCKS}
use Rattle.sys_types.specs.declared.rules.Rule.{Rule}
use Rattle.sys_types.specs.declared.rules.Rule.TheVariants.{Ended, Zombie, Pool}
use Rattle.call_words.specs.declared.event.Reason.TheVariants as reason
use Rattle.call_words.specs.declared.open.OpenFlags.{OpenFlags}
use Rattle.block_pool.specs.Pool.{PoolState}
use Rattle.line_disc.specs.Device.{Device}
use Rattle.line_disc.specs.Lines.{line_at}
use Rattle.proc_table.specs.Groups.{is_number}
use Rattle.proc_table.specs.Processes.{Process, running_at}
use Rattle.tty_dev.specs.Line as line
use Rattle.tty_dev.specs.Line.{LineState}
use Rattle.tty_dev.specs.Table.{devices, counts_of, boots_of}
use Rattle.tty_dev.proofs.TableLemmas.{length-devices}
use Rattle.system_model.specs.Fit.{FitLines, FitBlocks}
use Rattle.system_model.specs.Looks.{caller_of, has_session, line_of, is_open_line, free_blocks}
use Rattle.system_model.specs.OpenCalls.{waits_for_carrier, lacks_blocks, tty_checks}
use Rattle.system_model.specs.Parts.{Path}
use Rattle.system_model.specs.Rows.{Check, refused, deny, sleep_if, sleep_of, first}
use Rattle.system_model.specs.State.{View}
use Rattle.system_model.specs.Tables.{Tables, seen_process, view_of}
use Rattle.system_model.specs.Verdicts.{check_of, is_held}
use Rattle.system_model.specs.declared.verdict.Verdict.{Verdict}
use Rattle.system_model.specs.declared.verdict.Verdict.TheVariants as verdict
use Rattle.system_model.proofs.BlockLemmas.{free_seen}
use Rattle.system_model.proofs.SeenLines.{line_seen, termios_seen}
use Rattle.system_model.proofs.SeenProcesses.{caller_seen}
use Rattle.open_calls.specs.Openings.{IsFirst}

-- ---- the line of a session

places : (session : ℕ) (pool : PoolState) (lines : List LineState)
    → position_or_len (has_session session) (devices pool lines) ≡ position_or_len (λ (line : LineState). is_number session line.session) lines
unfolding devices
places session pool [] = refl
places session pool (line ∷ lines) = ap (λ k. cond (not (is_number session line.session)) (1 + k) 0) (places session pool lines)

pub place_seen : (session : ℕ) (pool : PoolState) (lines : List LineState)
    → position (has_session session) (devices pool lines) ≡ position (λ (line : LineState). is_number session line.session) lines
place_seen session pool lines =
    ap₂ (λ (k n : ℕ). cond (nat_lt k n) (Some k) None) (places session pool lines) (length-devices pool lines)

-- ---- a wait for the carrier

pub waits_seen : (t : Tables) (flags : OpenFlags) (n : ℕ) → n < LINES → FitLines t.descriptors (counts_of t.lines) (boots_of t.lines)
    → waits_for_carrier (view_of t) flags n
    ≡ (not flags.nonblock && not (line.termios_of (slice_index_or (boots_of t.lines) n false) (line_at (devices t.pool t.lines) n)).flags.clocal
    && not (line_at (devices t.pool t.lines) n).carrier)
waits_seen t flags n below fit =
    ap (λ settings. not flags.nonblock && not settings.flags.clocal && not (line_of (view_of t) n).carrier) (termios_seen t n below fit)
    ∙ ap
    (λ (d : Device ℕ). not flags.nonblock && not (line.termios_of (slice_index_or (boots_of t.lines) n false) (line_at (devices t.pool t.lines) n)).flags.clocal
    && not d.carrier)
    (line_seen t n)

pub local_line : (nonblock local there : Bool) → nonblock ≡ false → local ≡ true → (not nonblock && not local && not there) ≡ false
local_line nonblock local there is on = rw (is, on) refl

pub by_carrier : (nonblock local there : Bool) → nonblock ≡ false → local ≡ false → (not nonblock && not local && not there) ≡ not there
by_carrier nonblock local there is off = rw (is, off) refl

-- ---- blocks

lacks-seen : (t : Tables) (n : ℕ) → FitBlocks t.pool t.pipes t.lines
    → lacks_blocks (view_of t) n ≡ (not (is_some (line_at (devices t.pool t.lines) n).discipline) && nat_lt (length t.pool.free) LINE_BLOCKS)
lacks-seen t n fit =
    ap (λ (d : Device ℕ). not (is_open_line d) && nat_lt (free_blocks (view_of t)) LINE_BLOCKS) (line_seen t n)
    ∙ ap (λ free. not (is_some (line_at (devices t.pool t.lines) n).discipline) && nat_lt free LINE_BLOCKS) (free_seen t fit)

-- ---- a verdict

pub held_some : (who : Process Path) (v : Verdict) (c : Check) → check_of who v ≡ Some c → is_held v ≡ true
held_some who (verdict.Refused rule) c is = refl
held_some who verdict.Empty c is = refl
held_some who verdict.Zero c is = refl
held_some who (verdict.Asleep r) c is = refl
held_some who (verdict.Stopped signal) c is = refl
held_some who (verdict.Interrupted signal) c is = refl
held_some who verdict.Broken c is = refl
held_some who verdict.Go c is = cc

pub refuses_first : (v : View) (slot : ℕ) (checks : List (Option Check)) (rule : Rule) → first checks ≡ Some (refused rule, [])
    → IsFirst v slot checks (verdict.Refused rule)
refuses_first v slot checks rule is = record { held = refl; check = sym is }

-- ---- all checks of an open of a line, by what each comes to

pub line_checks : (v : View) (slot : ℕ) (flags : OpenFlags) (n : ℕ) (ended zombie waits lacks : Bool) → (line_of v n).ended ≡ ended
    → (line_of v n).zombie ≡ zombie
    → waits_for_carrier v flags n ≡ waits → lacks_blocks v n ≡ lacks
    → first (tty_checks v slot flags n)
    ≡ first (deny ended Ended ∷ deny zombie Zombie ∷ sleep_if waits (caller_of v slot) reason.Carrier ∷ deny lacks Pool ∷ [])
line_checks v slot flags n ended zombie waits lacks is_ended is_zombie is_waits is_lacks =
    ap
    (λ b. first (deny b Ended ∷ deny (line_of v n).zombie Zombie ∷ sleep_if (waits_for_carrier v flags n) (caller_of v slot) reason.Carrier
    ∷ deny (lacks_blocks v n) Pool ∷ []))
    is_ended
    ∙ ap
    (λ b. first (deny ended Ended ∷ deny b Zombie ∷ sleep_if (waits_for_carrier v flags n) (caller_of v slot) reason.Carrier ∷ deny (lacks_blocks v n) Pool ∷ []))
    is_zombie
    ∙ ap (λ b. first (deny ended Ended ∷ deny zombie Zombie ∷ sleep_if b (caller_of v slot) reason.Carrier ∷ deny (lacks_blocks v n) Pool ∷ [])) is_waits
    ∙ ap (λ b. first (deny ended Ended ∷ deny zombie Zombie ∷ sleep_if waits (caller_of v slot) reason.Carrier ∷ deny b Pool ∷ [])) is_lacks

-- it sleeps
pub line_sleeps : (t : Tables) (slot : ℕ) (flags : OpenFlags) (n : ℕ) (p : Process ℕ) (v : Verdict) → running_at t.processes slot ≡ Some p
    → (line_of (view_of t) n).ended ≡ false → (line_of (view_of t) n).zombie ≡ false → waits_for_carrier (view_of t) flags n ≡ true
    → check_of (seen_process t.nodes p) v ≡ Some (sleep_of (seen_process t.nodes p) reason.Carrier, [])
    → IsFirst (view_of t) slot (tty_checks (view_of t) slot flags n) v
line_sleeps t slot flags n p v runs is_ended is_zombie waits is =
    let sleeps : check_of (caller_of (view_of t) slot) v ≡ Some (sleep_of (caller_of (view_of t) slot) reason.Carrier, []) =
    subst (λ who. check_of who v ≡ Some (sleep_of who reason.Carrier, [])) (sym (caller_seen t slot p runs)) is in
    record {
      held = held_some (caller_of (view_of t) slot) v (sleep_of (caller_of (view_of t) slot) reason.Carrier, []) sleeps;
      check = sleeps ∙ sym (line_checks (view_of t) slot flags n false false true (lacks_blocks (view_of t) n) is_ended is_zombie waits refl);
    }

-- a look at a line
pub look_seen : (t : Tables) (lines : List LineState) (n : ℕ) (look : Device ℕ → Bool) (b : Bool) → t.lines ≡ lines
    → look (line_at (devices t.pool lines) n) ≡ b
    → look (line_of (view_of t) n) ≡ b
look_seen t lines n look b same is = ap look (line_seen t n) ∙ ap (λ ls. look (line_at (devices t.pool ls) n)) same ∙ is

pub lacks_by : (t : Tables) (pool : PoolState) (lines : List LineState) (n free : ℕ) (live : Bool) → t.pool ≡ pool → t.lines ≡ lines
    → FitBlocks pool t.pipes lines
    → live ≡ is_some (line_at (devices pool lines) n).discipline → free ≡ length pool.free
    → lacks_blocks (view_of t) n ≡ (not live && nat_lt free LINE_BLOCKS)
lacks_by t pool lines n free live same_pool same_lines fit is_live is_free =
    lacks-seen t n (rw (same_pool, same_lines) fit) ∙ rw (same_pool, same_lines, is_live, is_free) refl
