-- Each event leaves a sleeper at a dead file what it is: its number is still that of a dead file, or its process runs no more.
use Rattle.std.proofs.Common.{◌≡◌, inl, inr, ◌⊎◌, ℕ, zero, suc, ◌+◌, Bool, true, false, cond, List, [], ◌∷◌, ◌++◌, length, Option, Some, None, refl, sym, ap}
use Rattle.std.proofs.Common.{◌∙◌, subst}
use Rattle.std.specs.Prelude.{◌==◌, is_some, filter, slice_get}
use Rattle.std.specs.List.{range_with_len}
use Rattle.sys_types.specs.declared.limits.TheConstants.{SLOTS, DESCRIPTORS}
use Rattle.call_words.specs.declared.call.Call.{Call}
use Rattle.call_words.specs.declared.event.Event.{Event}
use Rattle.call_words.specs.declared.event.Event.TheVariants as event
use Rattle.call_words.specs.declared.event.How.{How}
use Rattle.fd_table.specs.Shared.{descriptor_at}
use Rattle.proc_table.specs.Processes.{running_at, pending_at}
use Rattle.system_model.specs.State.{View}
use Rattle.system_model.specs.ProcessEffects.{ProcessEffect, set_process, fork_process, reap_child, set_pending, tell, post, add_ending, bury, clear_ending}
use Rattle.system_model.specs.ProcessEffects.{change_processes}
use Rattle.system_model.specs.Effects.{Effect, on_files, on_pipes, on_lines, on_tree, on_processes, halt, change, change_all}
use Rattle.system_model.specs.Rows.{done}
use Rattle.system_model.specs.Looks.{caller_of, line_of_session}
use Rattle.system_model.specs.Endings.{close_all, leave_line, leave_session, end_one, end_next, endings, endings_of}
use Rattle.system_model.specs.Step.{call_row, row, view_after}
use Rattle.system_laws.specs.Laws.{fd_of, is_dead_at, asks_call, CanRun}
use Rattle.system_laws.proofs.Revocations.{dead_moves_nothing}
use Rattle.system_laws.proofs.Runs.{change_more}
use Rattle.system_laws.proofs.CarriedRows.{is_still, is_still_process, AreStill, still_end, still_next, still-quiet, IsAnswer, asked_now, asked_before}
use Rattle.system_laws.proofs.OpenEvents.{Acts, rests, acts, acts_of}
use Rattle.system_laws.proofs.SlotFiles.{HasDead}
use Rattle.system_laws.proofs.RestingSlots.{Rests, bury_in_ends}
use Rattle.system_laws.proofs.SlotNumbers.{IsOther, slots_apart, by_slots}
use Rattle.system_laws.proofs.ApartEffects.{is_apart, AreApart, no_effect, next_effect, apt-append, apt-if, apt-fds}
use Rattle.system_laws.proofs.SleeperSteps.{Stays, effect_stays, effects_stay, effects_then, WaitsAt, call_stays}

-- ---- an event before its endings

still-process : (runs : Bool) (slot : ℕ) (e : ProcessEffect) → is_still_process e ≡ true → is_apart runs slot (on_processes e) ≡ true
still-process runs slot (set_process other p) is = cc
still-process runs slot (fork_process other note) is = cc
still-process runs slot (reap_child other who untraced) is = refl
still-process runs slot (set_pending other c) is = refl
still-process runs slot (tell other) is = refl
still-process runs slot (post signal whom) is = refl
still-process runs slot (add_ending other why) is = refl
still-process runs slot (bury other why) is = refl
still-process runs slot clear_ending is = refl

still-apart : (runs : Bool) (slot : ℕ) (e : Effect) → is_still e ≡ true → is_apart runs slot e ≡ true
still-apart runs slot (on_files e) is = cc
still-apart runs slot (on_pipes e) is = cc
still-apart runs slot (on_lines e) is = refl
still-apart runs slot (on_tree e) is = cc
still-apart runs slot (on_processes e) is = still-process runs slot e is
still-apart runs slot halt is = refl

are-apart : (runs : Bool) (slot : ℕ) (es : List Effect) → AreStill es → AreApart runs slot es
are-apart runs slot [] still_end = no_effect
are-apart runs slot (e ∷ es) (still_next _ _ is more) = next_effect e es (still-apart runs slot e is) (are-apart runs slot es more)

answer-apart : (runs : Bool) (slot other : ℕ) (rest : List Effect) → IsAnswer other rest → AreApart runs slot rest
answer-apart runs slot other rest asked_now = no_effect
answer-apart runs slot other rest asked_before = next_effect _ _ refl no_effect

-- what the slot asks itself is its pending call, of a dead file
own-asks : (slot fd : ℕ) (v : View) (c : Call) (e : Event) (asked : Call) → WaitsAt slot fd v c → asks_call v e slot asked → asks_call v e slot c
own-asks slot fd v c (event.Call other what) asked w (same, is, free) =
    let some : is_some (pending_at v.processes slot) ≡ true = ap is_some w.pends in
    let none : is_some (pending_at v.processes slot) ≡ false = subst (λ n. is_some (pending_at v.processes n) ≡ false) same free in
    absurd cc
own-asks slot fd v c (event.Again other) asked w (same, pends) = (same, subst (λ n. pending_at v.processes n ≡ Some c) (sym same) w.pends)
own-asks slot fd v c (event.Byte n b) asked w asks = absurd asks
own-asks slot fd v c (event.Carrier n up) asked w asks = absurd asks
own-asks slot fd v c (event.Take n max) asked w asks = absurd asks
own-asks slot fd v c (event.Ended n) asked w asks = absurd asks

own-stays : (runs : Bool) (slot fd : ℕ) (v : View) (c : Call) (e : Event) (asked : Call) → WaitsAt slot fd v c → asks_call v e slot asked → CanRun v slot
    → Stays runs slot fd v → Stays runs slot fd (change_all v (done (row v e)))
own-stays true slot fd v c e asked w asks able stays =
    let dead : is_dead_at v slot (fd_of c) ≡ true = ap (is_dead_at v slot) w.number ∙ stays in
    effects_stay true slot fd v (done (row v e))
    (are-apart true slot (done (row v e)) (still-quiet (done (row v e)) (dead_moves_nothing v e slot c (own-asks slot fd v c e asked w asks) able dead))) stays
own-stays false slot fd v c e asked w asks able stays =
    let some : is_some (running_at v.processes slot) ≡ true = ap is_some able.runs in
    absurd cc

acts-stays : (runs : Bool) (slot fd : ℕ) (v : View) (c : Call) (e : Event) → WaitsAt slot fd v c → Stays runs slot fd v → Acts v e
    → Stays runs slot fd (change_all v (done (row v e)))
acts-stays runs slot fd v c e w stays (rests are) = effects_stay runs slot fd v (done (row v e)) (are-apart runs slot (done (row v e)) are) stays
acts-stays runs slot fd v c e w stays (acts other asked rest asks able none does answered says) =
    by_slots (Stays runs slot fd (change_all v (done (row v e)))) slot other
    (λ same. own-stays runs slot fd v c e asked w (subst (λ n. asks_call v e n asked) same asks) (subst (λ n. CanRun v n) same able) stays)
    (λ apart.
    subst (λ (es : List Effect). Stays runs slot fd (change_all v es)) (sym does)
    (effects_then runs slot fd v (call_row v other asked).effects rest (call_stays runs slot fd v c other asked w apart stays)
    (answer-apart runs slot other rest answered)))

-- ---- endings

-- a sleeper at a dead file: its number is that of a dead file, or its process runs no more
abbrev pub IsSleeper : ℕ → ℕ → View → Type 0
IsSleeper slot fd v = HasDead slot fd v.descriptors ⊎ Rests slot v.processes

either-stays : (slot fd : ℕ) (v w : View) → ((runs : Bool) → Stays runs slot fd v → Stays runs slot fd w) → IsSleeper slot fd v → IsSleeper slot fd w
either-stays slot fd v w stay (inl dead) = inl (stay true dead)
either-stays slot fd v w stay (inr rest) = inr (stay false rest)

apart-leave : (runs : Bool) (slot : ℕ) (v : View) (n : Option ℕ) → AreApart runs slot (leave_line v n)
apart-leave runs slot v None = no_effect
apart-leave runs slot v (Some n) = next_effect _ _ refl (next_effect _ _ refl no_effect)

apart-end : (runs : Bool) (slot : ℕ) (v : View) (other : ℕ) (why : How) → IsOther slot other → AreApart runs slot (end_one v other why)
apart-end runs slot v other why apart =
    apt-append runs slot (close_all v other ++ leave_session v (caller_of v other)) _
    (apt-append runs slot (close_all v other) _
    (apt-fds runs slot other (filter (λ fd. is_some (descriptor_at v.descriptors.table other fd)) (range_with_len 0 DESCRIPTORS)) apart)
    (apt-if runs slot ((caller_of v other).pid == (caller_of v other).session) _ _
    (apart-leave runs slot v (line_of_session v (caller_of v other).session)) no_effect))
    (next_effect _ _ refl no_effect)

-- who is buried runs no more
buried-rests : (v : View) (slot : ℕ) (why : How) → Rests slot (change v (on_processes (bury slot why))).processes
unfolding change_processes
buried-rests v slot why = bury_in_ends v.processes slot why v.ending

end-rests : (v : View) (slot : ℕ) (why : How) → Rests slot (change_all v (end_one v slot why)).processes
end-rests v slot why =
    let first = close_all v slot ++ leave_session v (caller_of v slot) in
    subst (λ (w : View). Rests slot w.processes) (sym (change_more v first (on_processes (bury slot why) ∷ []))) (buried-rests (change_all v first) slot why)

end-sleeps : (slot fd : ℕ) (v : View) (other : ℕ) (why : How) → IsSleeper slot fd v → IsSleeper slot fd (change_all v (end_one v other why))
end-sleeps slot fd v other why sleeper =
    by_slots (IsSleeper slot fd (change_all v (end_one v other why))) slot other
    (λ same. inr (subst (λ n. Rests slot (change_all v (end_one v n why)).processes) (sym same) (end-rests v slot why)))
    (λ apart.
    either-stays slot fd v (change_all v (end_one v other why))
    (λ runs stays. effects_stay runs slot fd v (end_one v other why) (apart-end runs slot v other why (slots_apart slot other apart)) stays) sleeper)

next-sleeps : (slot fd : ℕ) (v : View) (next : Option (ℕ × How)) → IsSleeper slot fd v → IsSleeper slot fd (change_all v (end_next v next))
next-sleeps slot fd v None sleeper = sleeper
next-sleeps slot fd v (Some next) sleeper = end-sleeps slot fd v next.0 next.1 sleeper

endings-sleep : (slot fd fuel place : ℕ) (v : View) → IsSleeper slot fd v → IsSleeper slot fd (change_all v (endings fuel place v))
unfolding endings
endings-sleep slot fd zero place v sleeper = sleeper
endings-sleep slot fd (suc fuel) place v sleeper =
    let now = end_next v (slice_get v.ending place) in
    subst (IsSleeper slot fd) (sym (change_more v now (endings fuel (place + 1) (change_all v now))))
    (endings-sleep slot fd fuel (place + 1) (change_all v now) (next-sleeps slot fd v (slice_get v.ending place) sleeper))

cleared-sleeps : (slot fd : ℕ) (v : View) → IsSleeper slot fd v → IsSleeper slot fd (change v (on_processes clear_ending))
cleared-sleeps slot fd v sleeper =
    either-stays slot fd v (change v (on_processes clear_ending)) (λ runs stays. effect_stays runs slot fd v (on_processes clear_ending) refl stays) sleeper

all-sleep : (slot fd : ℕ) (v : View) → IsSleeper slot fd v → IsSleeper slot fd (change_all v (endings_of v))
all-sleep slot fd v sleeper = by_case (length v.ending == 0)
  where
    by_case : (t : Bool) → IsSleeper slot fd (change_all v (cond t [] (endings SLOTS 0 v ++ on_processes clear_ending ∷ [])))
    by_case true = sleeper
    by_case false =
        subst (IsSleeper slot fd) (sym (change_more v (endings SLOTS 0 v) (on_processes clear_ending ∷ [])))
        (cleared-sleeps slot fd (change_all v (endings SLOTS 0 v)) (endings-sleep slot fd SLOTS 0 v sleeper))

-- ---- an event

-- while the slot waits in a call through the number, it stays a sleeper
pub event_sleeps : (slot fd : ℕ) (v : View) (c : Call) (e : Event) → pending_at v.processes slot ≡ Some c → fd_of c ≡ Some fd → IsSleeper slot fd v
    → IsSleeper slot fd (view_after v e)
unfolding view_after
event_sleeps slot fd v c e pends number sleeper =
    let now = done (row v e) in
    let w : WaitsAt slot fd v c = record { pends = pends; number = number } in
    subst (IsSleeper slot fd) (sym (change_more v now (endings_of (change_all v now))))
    (all-sleep slot fd (change_all v now)
    (either-stays slot fd v (change_all v now) (λ runs stays. acts-stays runs slot fd v c e w stays (acts_of v e)) sleeper))
