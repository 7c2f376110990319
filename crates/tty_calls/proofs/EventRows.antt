-- The rows of what happens at a line, over the tables of a kernel.
use Rattle.std.proofs.Common.{◌≡◌, ℕ, Bool, true, false, cond, List, [], Option, Some, None, option_map, refl, sym, ap, ap₂, subst, ◌∙◌}
use Rattle.call_words.specs.declared.event.Decision.TheVariants.{Taken, Noted}
use Rattle.sys_types.specs.declared.sig.Sig.{Sig}
use Rattle.line_disc.specs.Discipline.{Discipline, bytes}
use Rattle.line_disc.specs.Cook as cooking
use Rattle.block_pool.specs.Pool.{PoolState}
use Rattle.line_disc.specs.Device as device
use Rattle.line_disc.specs.Device.{Device}
use Rattle.line_disc.specs.Lines.{line_at, change_line}
use Rattle.tty_dev.specs.Line.{LineState}
use Rattle.tty_dev.specs.Table.{devices, counts_of, KeepsLines}
use Rattle.system_model.specs.State.{View}
use Rattle.system_model.specs.LineEffects.{receive_byte, set_carrier, change_lines}
use Rattle.system_model.specs.Effects.{on_lines, change, change_all}
use Rattle.system_model.specs.Fit.{FitBlocks, AreRevokedAtMost}
use Rattle.system_model.specs.LineEvents.{signal_foreground, signal_by, byte_row, hang_up_leader, take_row, carrier_row}
use Rattle.system_model.specs.Rows.{Does}
use Rattle.system_model.specs.Tables.{Tables, view_of}
use Rattle.system_model.proofs.BlockLemmas.{pipes_stay}
use Rattle.system_model.proofs.RowLemmas.{goes_on}
use Rattle.system_model.proofs.SeenLines.{line_seen, line_changes, revokes_still}

pub take_done : (t : Tables) (lines : List LineState) (n max : ℕ) (sent : List ℕ)
    → sent ≡ device.output_of max (line_at (devices t.pool t.lines) n).discipline
    → devices t.pool lines ≡ change_line (λ d. device.take_output d max) (devices t.pool t.lines) n → counts_of lines ≡ counts_of t.lines
    → Does (view_of t) (view_of (record t { lines = lines })) (Taken sent) (take_row (view_of t) n max)
unfolding change_lines
take_done t lines n max sent front taken counts =
    subst (λ bs. Does (view_of t) (view_of (record t { lines = lines })) (Taken bs) (take_row (view_of t) n max))
    (ap (λ (d : Device ℕ). device.output_of max d.discipline) (line_seen t n) ∙ sym front)
    (goes_on (view_of t) (view_of (record t { lines = lines })) (take_row (view_of t) n max) refl
    (line_changes t t.pool lines (λ d. device.take_output d max) n taken counts refl))

-- the carrier comes or goes
pub carrier_as : (t : Tables) (pool : PoolState) (lines : List LineState) (n : ℕ) (up : Bool)
    → devices pool lines ≡ change_line (λ d. device.set_carrier d up) (devices t.pool t.lines) n → counts_of lines ≡ counts_of t.lines
    → FitBlocks t.pool t.pipes t.lines → KeepsLines t.pool pool t.lines lines
    → view_of (record t { pool = pool; lines = lines }) ≡ change (view_of t) (on_lines (set_carrier n up))
unfolding change_lines
carrier_as t pool lines n up set counts fit keeps =
    line_changes t pool lines (λ d. device.set_carrier d up) n set counts (pipes_stay t.pool pool t.pipes t.lines lines fit keeps)

-- and who is told
pub carrier_done : (t : Tables) (new : View) (n : ℕ) (up told : Bool) (session : Option ℕ) → device.hangs_up (line_at (devices t.pool t.lines) n) up ≡ told
    → (line_at (devices t.pool t.lines) n).session ≡ session
    → new ≡ change_all (change (view_of t) (on_lines (set_carrier n up))) (cond told (hang_up_leader session) [])
    → Does (view_of t) new Noted (carrier_row (view_of t) n up)
carrier_done t new n up told session tells of is =
    goes_on (view_of t) new (carrier_row (view_of t) n up) refl
    (is ∙ ap₂ (λ b s. change_all (change (view_of t) (on_lines (set_carrier n up))) (cond b (hang_up_leader s) []))
    (sym (ap (λ d. device.hangs_up d up) (line_seen t n) ∙ tells)) (sym (ap (λ (d : Device ℕ). d.session) (line_seen t n) ∙ of)))

-- a byte comes in
pub byte_as : (t : Tables) (pool : PoolState) (lines : List LineState) (n b : ℕ)
    → devices pool lines ≡ change_line (λ d. (device.receive bytes d b).0) (devices t.pool t.lines) n → counts_of lines ≡ counts_of t.lines
    → FitBlocks t.pool t.pipes t.lines → KeepsLines t.pool pool t.lines lines
    → view_of (record t { pool = pool; lines = lines }) ≡ change (view_of t) (on_lines (receive_byte n b))
unfolding change_lines
byte_as t pool lines n b set counts fit keeps =
    line_changes t pool lines (λ d. (device.receive bytes d b).0) n set counts (pipes_stay t.pool pool t.pipes t.lines lines fit keeps)

-- and who gets its signal
pub byte_done : (t : Tables) (new : View) (n b group : ℕ) (signal : Option Sig) (session : Option ℕ) → (line_at (devices t.pool t.lines) n).foreground ≡ group
    → signal_by (line_at (devices t.pool t.lines) n) b ≡ signal → (line_at (devices t.pool t.lines) n).session ≡ session
    → new ≡ change_all (change (view_of t) (on_lines (receive_byte n b))) (signal_foreground group signal session)
    → Does (view_of t) new Noted (byte_row (view_of t) n b)
byte_done t new n b group signal session front sends of is =
    goes_on (view_of t) new (byte_row (view_of t) n b) refl
    (is ∙ sym (ap (λ (d : Device ℕ). change_all (change (view_of t) (on_lines (receive_byte n b))) (signal_foreground d.foreground (signal_by d b) d.session)) (line_seen t n)
    ∙ ap (λ g. change_all (change (view_of t) (on_lines (receive_byte n b)))
    (signal_foreground g (signal_by (line_at (devices t.pool t.lines) n) b) (line_at (devices t.pool t.lines) n).session)) front
    ∙ ap₂ (λ s o. change_all (change (view_of t) (on_lines (receive_byte n b))) (signal_foreground group s o)) sends of))

-- ---- the line keeps its session

taken-session : (d : Device ℕ) (max : ℕ) → (device.take_output d max).session ≡ d.session
taken-session d max = refl

disconnected-session : (connected : Bool) (d : Device ℕ) (queues : Option (Discipline ℕ))
    → (cond connected (record d { discipline = queues; zombie = true }) d).session ≡ d.session
disconnected-session true d queues = refl
disconnected-session false d queues = refl

pub carrier_session : (d : Device ℕ) (up : Bool) → (device.set_carrier d up).session ≡ d.session
carrier_session d up = by_end d.ended up
  where
    lost : Device ℕ
    lost = record d { carrier = false }

    by_end : (ended up : Bool) → (cond ended d (cond up (record d { carrier = true }) (device.disconnect lost))).session ≡ d.session
    by_end true up = refl
    by_end false true = refl
    by_end false false = disconnected-session (device.is_connected d.discipline) lost (option_map (λ (q : Discipline ℕ). cooking.flush q true true) d.discipline)

dropped-session : (drops : Bool) (d : Device ℕ) (cooked : Discipline ℕ × Option Sig)
    → (cond {A = Device ℕ × Option Sig} drops (d, None) (record d { discipline = Some (cooked.0) }, cooked.1)).0.session ≡ d.session
dropped-session true d cooked = refl
dropped-session false d cooked = refl

cooked-session : (d : Device ℕ) (b : ℕ) (o : Option (Discipline ℕ)) → (device.cook_at bytes d b o).0.session ≡ d.session
cooked-session d b None = refl
cooked-session d b (Some q) = dropped-session (device.drops d q) d (cooking.cook bytes q b)

received-session : (d : Device ℕ) (b : ℕ) → (device.receive bytes d b).0.session ≡ d.session
received-session d b = cooked-session d b d.discipline

pub take_revokes : (most : ℕ) (pool : PoolState) (before after : List LineState) (n max : ℕ)
    → devices pool after ≡ change_line (λ d. device.take_output d max) (devices pool before) n → counts_of after ≡ counts_of before
    → AreRevokedAtMost most pool before → AreRevokedAtMost most pool after
take_revokes most pool before after n max is counts =
    revokes_still most pool pool before after (λ d. device.take_output d max) n is counts (λ d. taken-session d max)

pub carrier_revokes : (most : ℕ) (old new : PoolState) (before after : List LineState) (n : ℕ) (up : Bool)
    → devices new after ≡ change_line (λ d. device.set_carrier d up) (devices old before) n → counts_of after ≡ counts_of before
    → AreRevokedAtMost most old before → AreRevokedAtMost most new after
carrier_revokes most old new before after n up is counts =
    revokes_still most old new before after (λ d. device.set_carrier d up) n is counts (λ d. carrier_session d up)

pub byte_revokes : (most : ℕ) (old new : PoolState) (before after : List LineState) (n b : ℕ)
    → devices new after ≡ change_line (λ d. (device.receive bytes d b).0) (devices old before) n → counts_of after ≡ counts_of before
    → AreRevokedAtMost most old before → AreRevokedAtMost most new after
byte_revokes most old new before after n b is counts =
    revokes_still most old new before after (λ d. (device.receive bytes d b).0) n is counts (λ d. received-session d b)
