-- The row of the end of a line, over the tables of a kernel.
use Rattle.std.proofs.Common.{◌≡◌, ℕ, Bool, true, false, cond, List, [], ◌∷◌, ◌++◌, Option, refl, sym, ap, ap₂, ◌∙◌}
use Rattle.std.specs.Prelude.{◌&&◌}
use Rattle.std.specs.List.{list_all}
use Rattle.call_words.specs.declared.event.Decision.TheVariants.{Noted}
use Rattle.block_pool.specs.Pool.{PoolState}
use Rattle.line_disc.specs.Device as device
use Rattle.line_disc.specs.Device.{Device}
use Rattle.line_disc.specs.Lines.{line_at, change_line}
use Rattle.tty_dev.specs.Line.{LineState}
use Rattle.tty_dev.specs.Table.{devices, counts_of, KeepsLines}
use Rattle.system_model.specs.State.{View}
use Rattle.system_model.specs.LineEffects.{end_line, change_lines}
use Rattle.system_model.specs.Effects.{Effect, on_lines, halt, change, change_all}
use Rattle.system_model.specs.Fit.{FitBlocks, AreRevokedAtMost}
use Rattle.system_model.specs.LineEvents.{end_row, hang_up_leader, is_ended}
use Rattle.system_model.specs.Rows.{Does, noted, answer_if, first}
use Rattle.system_model.specs.Tables.{Tables, view_of}
use Rattle.system_model.proofs.BlockLemmas.{pipes_stay}
use Rattle.system_model.proofs.RowLemmas.{goes_on, answers_early}
use Rattle.system_model.proofs.SeenLines.{line_seen, line_changes, revokes_still}
use Rattle.tty_calls.proofs.EventRows.{carrier_session}

-- effects one after the other
change-both : (v : View) (these those : List Effect) → change_all v (these ++ those) ≡ change_all (change_all v these) those
change-both v [] those = refl
change-both v (e ∷ these) those = change-both (change v e) these those

-- whether all lines have ended
pub ended_seen : (pool : PoolState) (lines : List LineState) → list_all is_ended (devices pool lines) ≡ list_all (λ line. line.ended) lines
unfolding devices
ended_seen pool [] = refl
ended_seen pool (line ∷ lines) = ap (λ b. line.ended && b) (ended_seen pool lines)

lines-seen : (t : Tables) → (view_of t).lines ≡ devices t.pool t.lines
unfolding view_of
lines-seen t = refl

-- the line ends
pub end_as : (t : Tables) (pool : PoolState) (lines : List LineState) (n : ℕ) → devices pool lines ≡ change_line device.end_for_good (devices t.pool t.lines) n
    → counts_of lines ≡ counts_of t.lines → FitBlocks t.pool t.pipes t.lines → KeepsLines t.pool pool t.lines lines
    → view_of (record t { pool = pool; lines = lines }) ≡ change (view_of t) (on_lines (end_line n))
unfolding change_lines
end_as t pool lines n is counts fit keeps =
    line_changes t pool lines device.end_for_good n is counts (pipes_stay t.pool pool t.pipes t.lines lines fit keeps)

-- a line that has ended
pub ended_before : (t : Tables) (n : ℕ) → (line_at (devices t.pool t.lines) n).ended ≡ true → Does (view_of t) (view_of t) Noted (end_row (view_of t) n)
ended_before t n is =
    answers_early (view_of t) (end_row (view_of t) n) noted
    (ap (λ b. first (answer_if b noted ∷ [])) (ap (λ (d : Device ℕ). d.ended) (line_seen t n) ∙ is))

-- one that has not: its leader is told, and with the last line the system halts
pub end_done : (t : Tables) (mid new : View) (n : ℕ) (told last : Bool) (session : Option ℕ) → (line_at (devices t.pool t.lines) n).ended ≡ false
    → device.hangs_up (line_at (devices t.pool t.lines) n) false ≡ told → (line_at (devices t.pool t.lines) n).session ≡ session
    → list_all is_ended (change_line device.end_for_good (devices t.pool t.lines) n) ≡ last
    → mid ≡ change_all (change (view_of t) (on_lines (end_line n))) (cond told (hang_up_leader session) [])
    → new ≡ change_all mid (cond last (halt ∷ []) []) → Does (view_of t) new Noted (end_row (view_of t) n)
end_done t mid new n told last session live tells of ends is halts =
    goes_on (view_of t) new (end_row (view_of t) n) (ap (λ b. first (answer_if b noted ∷ [])) (ap (λ (d : Device ℕ). d.ended) (line_seen t n) ∙ live))
    (halts
    ∙ ap (λ v. change_all v (cond last (halt ∷ []) [])) is
    ∙ sym (change-both (change (view_of t) (on_lines (end_line n))) (cond told (hang_up_leader session) []) (cond last (halt ∷ []) []))
    ∙ ap₂ (λ these those. change_all (change (view_of t) (on_lines (end_line n))) (these ++ those))
    (ap₂ (λ b s. cond b (hang_up_leader s) []) (sym (ap (λ d. device.hangs_up d false) (line_seen t n) ∙ tells))
    (sym (ap (λ (d : Device ℕ). d.session) (line_seen t n) ∙ of)))
    (ap (λ b. cond b (halt ∷ []) []) (sym (ap (λ ds. list_all is_ended (change_line device.end_for_good ds n)) (lines-seen t) ∙ ends))))

-- the system halts
pub halted_with : (t : Tables) (last : Bool) → view_of (record t { halted = cond last true t.halted }) ≡ change_all (view_of t) (cond last (halt ∷ []) [])
unfolding view_of
halted_with t true = refl
halted_with t false = refl

-- no line is revoked
pub end_revokes : (most : ℕ) (old new : PoolState) (before after : List LineState) (n : ℕ)
    → devices new after ≡ change_line device.end_for_good (devices old before) n → counts_of after ≡ counts_of before
    → AreRevokedAtMost most old before → AreRevokedAtMost most new after
end_revokes most old new before after n is counts =
    revokes_still most old new before after device.end_for_good n is counts (λ d. carrier_session d false)
