-- What an event does at lines: a call reads the line that it asks of or writes to it, a byte comes in, output is taken, or nothing of this.
use Rattle.std.proofs.Common.{◌≡◌, ℕ, Bool, true, false, cond, List, [], ◌∷◌, ◌++◌, refl, sym, subst}
use Rattle.std.specs.Prelude.{Option, Some, None, is_some, option_map}
use Rattle.sys_types.specs.declared.sig.Sig.{Sig}
use Rattle.sys_types.specs.declared.rules.Rule.TheVariants.{Asleep}
use Rattle.call_words.specs.declared.call.Call.{Call}
use Rattle.call_words.specs.declared.event.Event.{Event}
use Rattle.call_words.specs.declared.event.Event.TheVariants as event
use Rattle.call_words.specs.declared.event.Reason.TheVariants as reason
use Rattle.proc_table.specs.Processes.{Process, is_left, is_stopped, running_at, pending_at}
use Rattle.proc_table.specs.Forks.{is_begin}
use Rattle.line_disc.specs.Device.{Device, hangs_up}
use Rattle.system_model.specs.Parts.{Path}
use Rattle.system_model.specs.State.{View}
use Rattle.system_model.specs.LineEffects.{receive_byte, take_output}
use Rattle.system_model.specs.ProcessEffects.{set_pending}
use Rattle.system_model.specs.Effects.{Effect, on_lines, on_processes, halt, change_all}
use Rattle.system_model.specs.Rows.{gone, noted, Outcome, refused, early, asleep, Check, check, Row, behind, first, effects_by, done, also, ended_by}
use Rattle.system_model.specs.Looks.{line_of}
use Rattle.system_model.specs.LineEvents as events
use Rattle.system_model.specs.Endings.{endings_of}
use Rattle.system_model.specs.Step.{call_row, run_row, tell_if_left, begin_sleeps, gone_row, enter_row, retry_row, again_row, is_begin_pending, event_row, row}
use Rattle.system_model.specs.Step.{effects_of}
use Rattle.system_laws.specs.Laws.{asks_call}
use Rattle.system_laws.proofs.Refusals.{quiet_call, first-quiet}
use Rattle.system_laws.proofs.Revocations.{first-map}
use Rattle.system_laws.proofs.AskedEffects.{Begins, no_write, begin-append, AreFree, AreAsked, no_effect, no_line, ask_quiet}
use Rattle.system_laws.proofs.AskedEffects.{ask-append, ask-if, ask-process, ask-ends, ask-carrier, ask-halt}
use Rattle.system_laws.proofs.AskedEffects.{ask_endings_of}
use Rattle.system_laws.proofs.AskedRows.{reads_line, writes_line, begin_call}

pub data Moves (r w : ℕ → Bool) (e : Event) : List Effect → Type 0 where
  of_calls : (es : List Effect) → Begins r w es → Moves r w e es
  of_byte : (n b : ℕ) (es : List Effect) → e ≡ event.Byte n b → AreAsked no_line no_line es → Moves r w e (on_lines (receive_byte n b) ∷ es)
  of_take : (n max : ℕ) (es : List Effect) → e ≡ event.Take n max → AreAsked no_line no_line es → Moves r w e (on_lines (take_output n max) ∷ es)

-- ---- rows of calls

begin-done : (r w : ℕ → Bool) (o : Option Check) (es : List Effect) → ((p : Outcome) (fs : List Effect) → o ≡ Some (p, fs) → AreAsked r no_line fs)
    → (o ≡ None → Begins r w es) → Begins r w (effects_by o es)
begin-done r w None es checks are = are refl
begin-done r w (Some c) es checks are = no_write c.1 (checks c.0 c.1 refl)

begin-behind : (r w : ℕ → Bool) (t : Bool) (o : Outcome) (x : Row) → (t ≡ false → Begins r w (done x)) → Begins r w (done (behind (check t o [] ∷ []) x))
begin-behind r w true o x are = no_write [] no_effect
begin-behind r w false o x are = are refl

begin-also : (r w : ℕ → Bool) (sleeps wakes es : List Effect) (o : Option Check) → AreFree sleeps → AreFree wakes → Begins r w (effects_by o es)
    → Begins r w (effects_by (option_map (also sleeps wakes) o) (es ++ wakes))
begin-also r w sleeps wakes es None s k are = begin-append r w es wakes are k
begin-also r w sleeps wakes es (Some (refused rule, fs)) s k are = begin-append r w fs wakes are k
begin-also r w sleeps wakes es (Some (early given, fs)) s k are = begin-append r w fs wakes are k
begin-also r w sleeps wakes es (Some (asleep why, fs)) s k are = begin-append r w fs sleeps are s

begin-ended : (r w : ℕ → Bool) (sleeps wakes : List Effect) (x : Row) → AreFree sleeps → AreFree wakes → Begins r w (done x)
    → Begins r w (done (ended_by sleeps wakes x))
unfolding ended_by
begin-ended r w sleeps wakes x s k are =
    subst (λ o. Begins r w (effects_by o (x.effects ++ wakes))) (sym (first-map (also sleeps wakes) x.checks))
    (begin-also r w sleeps wakes x.effects (first x.checks) s k are)

-- where no check holds the call reads no other lines than r, and writes to no others than w
abbrev IsWithin : (r w : ℕ → Bool) → View → ℕ → Call → Type 0
IsWithin r w v slot c =
    first (call_row v slot c).checks ≡ None
    → ((m : ℕ) → reads_line v slot c m ≡ true → r m ≡ true) × ((m : ℕ) → writes_line v slot c m ≡ true → w m ≡ true)

begin-run : (r w : ℕ → Bool) (v : View) (slot : ℕ) (who : Process Path) (c : Call) → IsWithin r w v slot c → Begins r w (done (run_row v slot who c))
begin-run r w v slot who c within =
    begin-behind r w (is_stopped who) (asleep reason.Stop) (call_row v slot c) (λ up.
    begin-done r w (first (call_row v slot c).checks) (call_row v slot c).effects
    (λ o fs found. ask_quiet r no_line fs (first-quiet (call_row v slot c).checks o fs (quiet_call v slot c) found))
    (λ none. begin_call r w v slot c (within none).0 (within none).1))

free-pending : (slot : ℕ) (c : Option Call) → AreFree (on_processes (set_pending slot c) ∷ [])
free-pending slot c r w = ask-process r w _ _ no_effect

free-none : AreFree []
free-none r w = no_effect

left-asked : (r w : ℕ → Bool) (v : View) (slot : ℕ) (more : List Effect) → AreAsked r w more → AreAsked r w (tell_if_left v slot ++ more)
left-asked r w v slot more are =
    ask-append r w (tell_if_left v slot) more (ask-if r w (is_left v.processes slot) _ _ (ask-process r w _ _ no_effect) no_effect) are

begin-gone : (r w : ℕ → Bool) (v : View) (slot : ℕ) (t : Bool) (pending : List Effect) → AreFree pending
    → Begins r w (done (cond t (begin_sleeps v slot pending) (gone_row v slot)))
begin-gone r w v slot true pending are = no_write _ (left-asked r no_line v slot pending (are r no_line))
begin-gone r w v slot false pending are = no_write _ (left-asked r no_line v slot _ (ask-process r no_line _ _ no_effect))

begin-entered : (r w : ℕ → Bool) (v : View) (slot : ℕ) (c : Call) (who : Option (Process Path))
    → (is_some (pending_at v.processes slot) ≡ false → IsWithin r w v slot c) → Begins r w (done (enter_row v slot c who))
begin-entered r w v slot c None within = begin-gone r w v slot (is_begin c) _ (free-pending slot (Some c))
begin-entered r w v slot c (Some who) within =
    begin-behind r w (is_some (pending_at v.processes slot)) (refused Asleep)
    (ended_by (on_processes (set_pending slot (Some c)) ∷ []) [] (run_row v slot who c)) (λ free.
    begin-ended r w (on_processes (set_pending slot (Some c)) ∷ []) [] (run_row v slot who c) (free-pending slot (Some c)) free-none
    (begin-run r w v slot who c (within free)))

begin-tried : (r w : ℕ → Bool) (v : View) (slot : ℕ) (who : Process Path) (o : Option Call) → ((c : Call) → o ≡ Some c → IsWithin r w v slot c)
    → Begins r w (done (retry_row v slot who o))
begin-tried r w v slot who None within = no_write _ no_effect
begin-tried r w v slot who (Some c) within =
    begin-ended r w [] (on_processes (set_pending slot None) ∷ []) (run_row v slot who c) free-none (free-pending slot None)
    (begin-run r w v slot who c (within c refl))

begin-again : (r w : ℕ → Bool) (v : View) (slot : ℕ) (who : Option (Process Path))
    → ((c : Call) → pending_at v.processes slot ≡ Some c → IsWithin r w v slot c) → Begins r w (done (again_row v slot who))
begin-again r w v slot None within = begin-gone r w v slot (is_begin_pending (pending_at v.processes slot)) [] free-none
begin-again r w v slot (Some who) within = begin-tried r w v slot who (pending_at v.processes slot) within

-- ---- what happens at a line

signal-asked : (r w : ℕ → Bool) (group : ℕ) (signal : Option Sig) (session : Option ℕ) → AreAsked r w (events.signal_foreground group signal session)
signal-asked r w group None session = no_effect
signal-asked r w group (Some signal) None = no_effect
signal-asked r w group (Some signal) (Some session) = ask-process r w _ _ no_effect

leader-asked : (r w : ℕ → Bool) (session : Option ℕ) → AreAsked r w (events.hang_up_leader session)
leader-asked r w None = no_effect
leader-asked r w (Some session) = ask-process r w _ _ no_effect

hang-asked : (r w : ℕ → Bool) (line : Device ℕ) (up : Bool) → AreAsked r w (events.hang_up line up)
hang-asked r w line up = ask-if r w (hangs_up line up) _ _ (leader-asked r w line.session) no_effect

end-asked : (r w : ℕ → Bool) (v : View) (n : ℕ) (t : Bool) → AreAsked r w (effects_by (first (check t (early noted) [] ∷ [])) (events.end_row v n).effects)
end-asked r w v n true = no_effect
end-asked r w v n false =
    ask-ends r w n _ (ask-append r w _ _ (hang-asked r w (line_of v n) false) (ask-if r w _ (halt ∷ []) [] (ask-halt r w [] no_effect) no_effect))

-- ---- all events

-- where no check holds the calls that an event may ask read no other lines than r, and write to no others than w
pub record AsksWithin (r w : ℕ → Bool) (v : View) (e : Event) : Type 0 where
  pub reads : (slot : ℕ) (c : Call) (m : ℕ) → asks_call v e slot c → first (call_row v slot c).checks ≡ None → reads_line v slot c m ≡ true → r m ≡ true
  pub writes : (slot : ℕ) (c : Call) (m : ℕ) → asks_call v e slot c → first (call_row v slot c).checks ≡ None → writes_line v slot c m ≡ true → w m ≡ true

within-call : (r w : ℕ → Bool) (v : View) (e : Event) (slot : ℕ) (c : Call) → AsksWithin r w v e → asks_call v e slot c → IsWithin r w v slot c
within-call r w v e slot c within asks none = (λ m. within.reads slot c m asks none, λ m. within.writes slot c m asks none)

more-asked : (r w : ℕ → Bool) (e : Event) (es fs : List Effect) → Moves r w e es → AreFree fs → Moves r w e (es ++ fs)
more-asked r w e es fs (of_calls _ are) more = of_calls (es ++ fs) (begin-append r w es fs are more)
more-asked r w e es fs (of_byte n b rest is are) more =
    of_byte n b (rest ++ fs) is (ask-append no_line no_line rest fs are (more no_line no_line))
more-asked r w e es fs (of_take n max rest is are) more =
    of_take n max (rest ++ fs) is (ask-append no_line no_line rest fs are (more no_line no_line))

own-moves : (r w : ℕ → Bool) (v : View) (e : Event) → AsksWithin r w v e → Moves r w e (done (event_row v e))
own-moves r w v (event.Call slot c) within =
    of_calls _ (begin-entered r w v slot c (running_at v.processes slot) (λ free. within-call r w v _ slot c within (refl, refl, free)))
own-moves r w v (event.Again slot) within =
    of_calls _ (begin-again r w v slot (running_at v.processes slot) (λ c pends. within-call r w v _ slot c within (refl, pends)))
own-moves r w v (event.Byte n b) within = of_byte n b _ refl (signal-asked no_line no_line _ _ (line_of v n).session)
own-moves r w v (event.Carrier n up) within = of_calls _ (no_write _ (ask-carrier r no_line n up _ (hang-asked r no_line (line_of v n) up)))
own-moves r w v (event.Take n max) within = of_take n max [] refl no_effect
own-moves r w v (event.Ended n) within = of_calls _ (no_write _ (end-asked r no_line v n (line_of v n).ended))

row-moves : (r w : ℕ → Bool) (e : Event) (t : Bool) (x : Row) → Moves r w e (done x) → Moves r w e (done (behind (check t (early gone) [] ∷ []) x))
row-moves r w e true x moves = of_calls [] (no_write [] no_effect)
row-moves r w e false x moves = moves

pub event_moves : (r w : ℕ → Bool) (v : View) (e : Event) → AsksWithin r w v e → Moves r w e (effects_of v e)
event_moves r w v e within =
    more-asked r w e (done (row v e)) (endings_of (change_all v (done (row v e))))
    (row-moves r w e v.halted (event_row v e) (own-moves r w v e within)) (λ x y. ask_endings_of x y (change_all v (done (row v e))))
