-- A call through a dead file is answered as dead, and its slot can go on.
use Rattle.std.proofs.Common.{◌≡◌, ℕ, Bool, true, false, inl, inr, List, [], ◌∷◌, map, refl, ap, sym, subst, ◌∙◌}
use Rattle.std.specs.Prelude.{not, nat_lt, Option, Some, None, is_some, option_map}
use Rattle.std.specs.List.{list_all}
use Rattle.sys_types.specs.declared.limits.TheConstants.{PIECE_BYTES}
use Rattle.sys_types.specs.declared.rules.Rule.TheVariants.{Size, BadFd, FdMode, Dead, Asleep}
use Rattle.call_words.specs.declared.call.Call.{Call}
use Rattle.call_words.specs.declared.call.Call.TheVariants as call
use Rattle.call_words.specs.declared.event.Reason.TheVariants as reason
use Rattle.call_words.specs.declared.event.Event.{Event}
use Rattle.call_words.specs.declared.event.Event.TheVariants as event
use Rattle.proc_table.specs.Processes.{Process, is_stopped, pending_at}
use Rattle.system_model.specs.Parts.{Path}
use Rattle.system_model.specs.State.{OpenFile, State, View, view}
use Rattle.system_model.specs.ProcessEffects.{set_pending}
use Rattle.system_model.specs.Effects.{Effect, on_processes}
use Rattle.system_model.specs.Rows.{Given, bytes, gone, Outcome, refused, early, asleep, Check, check, deny, answer_if, first, decision_by, effects_by}
use Rattle.system_model.specs.Rows.{done, also, ended_by}
use Rattle.system_model.specs.Looks.{file_at, holds_of}
use Rattle.system_model.specs.Step.{call_row, run_row, enter_row, retry_row, again_row, row, answer_to, is_idle_check, is_idle, can_go_on}
use Rattle.system_laws.specs.Laws.{IsDeadAnswer, fd_of, is_dead_at, asks_call, CanRun, may_still_do, Revokes}

-- the first check of a call through a dead file is no sleep, and has no effects
pub data IsDeadCheck : Call → Option Check → Type 0 where
  too_many : (fd max : ℕ) → IsDeadCheck (call.Read fd max) (Some (refused Size, []))
  no_reads : (fd max : ℕ) → IsDeadCheck (call.Read fd max) (Some (refused FdMode, []))
  no_bytes : (fd max : ℕ) → IsDeadCheck (call.Read fd max) (Some (early (bytes []), []))
  no_writes : (fd : ℕ) (bs : List ℕ) → IsDeadCheck (call.Write fd bs) (Some (refused FdMode, []))
  dead_write : (fd : ℕ) (bs : List ℕ) → IsDeadCheck (call.Write fd bs) (Some (refused Dead, []))
  dead_drain : (fd : ℕ) → IsDeadCheck (call.TcDrain fd) (Some (refused Dead, []))

dead-read : (fd max : ℕ) (big readable : Bool) (rest : List (Option Check))
    → IsDeadCheck (call.Read fd max)
    (first (deny big Size ∷ deny false BadFd ∷ deny (not readable) FdMode ∷ answer_if true (bytes []) ∷ rest))
dead-read fd max true readable rest = too_many fd max
dead-read fd max false true rest = no_bytes fd max
dead-read fd max false false rest = no_reads fd max

dead-write : (fd : ℕ) (bs : List ℕ) (writable : Bool) (rest : List (Option Check))
    → IsDeadCheck (call.Write fd bs) (first (deny false BadFd ∷ deny (not writable) FdMode ∷ deny true Dead ∷ rest))
dead-write fd bs true rest = dead_write fd bs
dead-write fd bs false rest = no_writes fd bs

-- a dead file is there
dead-file : (file : Option OpenFile) → holds_of (λ f. f.dead) file ≡ true → (f : OpenFile) × (file ≡ Some f) × (f.dead ≡ true)
dead-file None is = cc
dead-file (Some f) is = (f, refl, is)

pub dead_call : (v : View) (slot : ℕ) (c : Call) → is_dead_at v slot (fd_of c) ≡ true → IsDeadCheck c (first (call_row v slot c).checks)
dead_call v slot (call.Read fd max) is =
    let found = dead-file (file_at v slot fd) is in
    rw (found.1, found.2) (dead-read fd max (nat_lt PIECE_BYTES max) (found.0).file.readable _)
dead_call v slot (call.Write fd bs) is =
    let found = dead-file (file_at v slot fd) is in
    rw (found.1, found.2) (dead-write fd bs (found.0).file.writable _)
dead_call v slot (call.TcDrain fd) is =
    let found = dead-file (file_at v slot fd) is in
    rw (found.1, found.2) (dead_drain fd)
dead_call v slot _ is = cc

-- ---- events

pub first-map : (f : Check → Check) (cs : List (Option Check)) → first (map (option_map f) cs) ≡ option_map f (first cs)
first-map f [] = refl
first-map f (None ∷ cs) = first-map f cs
first-map f (Some c ∷ cs) = refl

-- a check that does not hold is passed over
pub passed : (t : Bool) (o : Outcome) (es : List Effect) (cs : List (Option Check)) → t ≡ false → first (check t o es ∷ cs) ≡ first cs
passed true o es cs is = cc
passed false o es cs is = refl

-- what a call that runs meets first is what its row does
pub ran : (v : View) (slot : ℕ) (c : Call) (who : Process Path) (sleeps wakes : List Effect) → is_stopped who ≡ false
    → first (ended_by sleeps wakes (run_row v slot who c)).checks ≡ option_map (also sleeps wakes) (first (call_row v slot c).checks)
unfolding ended_by
ran v slot c who sleeps wakes awake =
    first-map (also sleeps wakes) (run_row v slot who c).checks
    ∙ ap (option_map (also sleeps wakes)) (passed (is_stopped who) (asleep reason.Stop) [] (call_row v slot c).checks awake)

-- the first check of a call that is asked now
pub entered : (v : View) (slot : ℕ) (c : Call) (able : CanRun v slot) → is_some (pending_at v.processes slot) ≡ false
    → first (row v (event.Call slot c)).checks ≡ option_map (also (on_processes (set_pending slot (Some c)) ∷ []) []) (first (call_row v slot c).checks)
entered v slot c able free =
    passed v.halted (early gone) [] _ able.up
    ∙ ap (λ who. first (enter_row v slot c who).checks) able.runs
    ∙ passed (is_some (pending_at v.processes slot)) (refused Asleep) [] _ free
    ∙ ran v slot c able.who (on_processes (set_pending slot (Some c)) ∷ []) [] able.awake

-- the first check of a pending call that is tried again
pub retried : (v : View) (slot : ℕ) (c : Call) (able : CanRun v slot) → pending_at v.processes slot ≡ Some c
    → first (row v (event.Again slot)).checks ≡ option_map (also [] (on_processes (set_pending slot None) ∷ [])) (first (call_row v slot c).checks)
retried v slot c able pends =
    passed v.halted (early gone) [] _ able.up
    ∙ ap (λ who. first (again_row v slot who).checks) able.runs
    ∙ ap (λ asked. first (retry_row v slot able.who asked).checks) pends
    ∙ ran v slot c able.who [] (on_processes (set_pending slot None) ∷ []) able.awake

-- what a dead check answers and does, with more effects behind it
dead-answer : (c : Call) (o : Option Check) (sleeps wakes : List Effect) (g : Given) → IsDeadCheck c o
    → IsDeadAnswer c (decision_by (option_map (also sleeps wakes) o) g)
dead-answer _ _ sleeps wakes g (too_many fd max) = inr (inl refl)
dead-answer _ _ sleeps wakes g (no_reads fd max) = inr (inr refl)
dead-answer _ _ sleeps wakes g (no_bytes fd max) = inl refl
dead-answer _ _ sleeps wakes g (no_writes fd bs) = inr refl
dead-answer _ _ sleeps wakes g (dead_write fd bs) = inl refl
dead-answer _ _ sleeps wakes g (dead_drain fd) = refl

pub dead-effects : (c : Call) (o : Option Check) (sleeps wakes es : List Effect) → IsDeadCheck c o → effects_by (option_map (also sleeps wakes) o) es ≡ wakes
dead-effects _ _ sleeps wakes es (too_many fd max) = refl
dead-effects _ _ sleeps wakes es (no_reads fd max) = refl
dead-effects _ _ sleeps wakes es (no_bytes fd max) = refl
dead-effects _ _ sleeps wakes es (no_writes fd bs) = refl
dead-effects _ _ sleeps wakes es (dead_write fd bs) = refl
dead-effects _ _ sleeps wakes es (dead_drain fd) = refl

dead-awake : (c : Call) (o : Option Check) (sleeps wakes : List Effect) → IsDeadCheck c o → is_idle_check (option_map (also sleeps wakes) o) ≡ false
dead-awake _ _ sleeps wakes (too_many fd max) = refl
dead-awake _ _ sleeps wakes (no_reads fd max) = refl
dead-awake _ _ sleeps wakes (no_bytes fd max) = refl
dead-awake _ _ sleeps wakes (no_writes fd bs) = refl
dead-awake _ _ sleeps wakes (dead_write fd bs) = refl
dead-awake _ _ sleeps wakes (dead_drain fd) = refl

-- what an event asks of a slot's dead file meets a dead check first, behind which it ends with these effects
asked-dead : (v : View) (e : Event) (slot : ℕ) (c : Call) → asks_call v e slot c → CanRun v slot → is_dead_at v slot (fd_of c) ≡ true
    → (sleeps : List Effect) × (wakes : List Effect) × (o : Option Check) × (first (row v e).checks ≡ option_map (also sleeps wakes) o) × IsDeadCheck c o
    × (list_all may_still_do wakes ≡ true)
asked-dead v (event.Call asker asked) slot c (same, is, free) able dead =
    let own : asks_call v (event.Call slot c) slot c = (refl, refl, subst (λ n. is_some (pending_at v.processes n) ≡ false) same free) in (
      on_processes (set_pending slot (Some c)) ∷ [],
      [],
      first (call_row v slot c).checks,
      ap (λ n. first (row v (event.Call n asked)).checks) same ∙ ap (λ d. first (row v (event.Call slot d)).checks) is ∙ entered v slot c able own.2,
      dead_call v slot c dead,
      refl,
    )
asked-dead v (event.Again asker) slot c (same, pends) able dead = (
  [],
  on_processes (set_pending slot None) ∷ [],
  first (call_row v slot c).checks,
  ap (λ n. first (row v (event.Again n)).checks) same ∙ retried v slot c able (subst (λ n. pending_at v.processes n ≡ Some c) same pends),
  dead_call v slot c dead,
  refl,
)
asked-dead v (event.Byte n b) slot c asks able dead = absurd asks
asked-dead v (event.Carrier n up) slot c asks able dead = absurd asks
asked-dead v (event.Take n max) slot c asks able dead = absurd asks
asked-dead v (event.Ended n) slot c asks able dead = absurd asks

pub dead_answers : (v : View) (e : Event) (slot : ℕ) (c : Call) → asks_call v e slot c → CanRun v slot → is_dead_at v slot (fd_of c) ≡ true
    → IsDeadAnswer c (answer_to v e)
unfolding answer_to
dead_answers v e slot c asks able dead =
    let found = asked-dead v e slot c asks able dead in
    subst (λ o. IsDeadAnswer c (decision_by o (row v e).answer)) (sym found.3) (dead-answer c found.2 found.0 found.1 (row v e).answer found.4)

pub dead_moves_nothing : (v : View) (e : Event) (slot : ℕ) (c : Call) → asks_call v e slot c → CanRun v slot → is_dead_at v slot (fd_of c) ≡ true
    → list_all may_still_do (done (row v e)) ≡ true
dead_moves_nothing v e slot c asks able dead =
    let found = asked-dead v e slot c asks able dead in
    ap (λ o. list_all may_still_do (effects_by o (row v e).effects)) found.3
    ∙ ap (list_all may_still_do) (dead-effects c found.2 found.0 found.1 (row v e).effects found.4)
    ∙ found.5

pub dead_wakes : (v : View) (slot : ℕ) (c : Call) → pending_at v.processes slot ≡ Some c → CanRun v slot → is_dead_at v slot (fd_of c) ≡ true
    → can_go_on v slot ≡ true
dead_wakes v slot c pends able dead =
    let idle : is_idle v slot ≡ false =
    ap is_idle_check (retried v slot c able pends) ∙ dead-awake c _ [] (on_processes (set_pending slot None) ∷ []) (dead_call v slot c dead)
    in
    let some : is_some (pending_at v.processes slot) ≡ true = ap is_some pends in
    rw (some, idle) refl

-- the law of what a revoke leaves, of every event in every state
pub revokes : (s : State) (p : ℕ) (e : Event) → Revokes s p e
revokes s p e = record {
  answers = dead_answers (view s) e;
  moves_nothing = dead_moves_nothing (view s) e;
  wakes = dead_wakes (view s);
}
