-- CHLD to the parent of a child is a post of CHLD to that parent.
use Rattle.std.proofs.Common.{◌≡◌, ℕ, ◌<◌, Bool, true, false, cond, ◌&&◌, List, [], ◌∷◌, length, Option, Some, None, eqb}
use Rattle.std.proofs.Common.{refl, sym, ap, ◌∙◌, ⊎_elim, true≢false, arith}
use Rattle.std.specs.Prelude.{nat_lt, IsTrue, option_map, option_and_then}
use Rattle.std.specs.List.{position_or_len, IsAmong}
use Rattle.std.proofs.lemmas.Bool.{cases_Bool}
use Rattle.std.proofs.lemmas.Bool.Decides.{nat_tests}
use Rattle.std.proofs.lemmas.List.Sums.{position_or_len_is}
use Rattle.std.proofs.lemmas.List.Quantifiers.{position-Some}
use Rattle.sys_types.specs.declared.sig.Sig.TheVariants as sig
use Rattle.call_words.specs.declared.event.How.{How}
use Rattle.call_words.specs.declared.signal.Action.{Action}
use Rattle.call_words.specs.declared.signal.Action.TheVariants as action
use Rattle.call_words.specs.declared.signal.To.TheVariants as to
use Rattle.proc_table.specs.declared.post.Disposition.TheVariants as disposition
use Rattle.proc_table.specs.Processes.{Process, Slot, Processes, action_of, is_running, empty_slot, process_at, running_of, running_at, change_process}
use Rattle.proc_table.specs.Processes.{add_caught, holds, slot_of, pid_of, is_orphaned}
use Rattle.proc_table.specs.Posts.{table_and_list, by_action, unless_init, disposition_of, is_catch, catches_child, catch_child, post_child, dispose}
use Rattle.proc_table.specs.Posts.{post_if_running, post_all, receivers, post}
use Rattle.proc_table.specs.Kept.{HasPidsOnce}
use Rattle.proc_table.specs.Order.{AreInOrder}
use Rattle.proc_table.proofs.PidOrderLemmas.{in-order}

-- CHLD is pending where it is caught, and else does nothing, also at init(8)
child-disposition : (a : Action) (number : ℕ) (orphaned : Bool)
    → unless_init number (by_action a sig.CHLD orphaned) ≡ cond (is_catch a) disposition.Catch disposition.Nothing
child-disposition action.Catch number orphaned = elim (eqb number 1) as (λ b. cond b disposition.Catch disposition.Catch ≡ disposition.Catch) [
  | true ↦ refl
  | false ↦ refl
]
child-disposition action.Ignore number orphaned = elim (eqb number 1) as (λ b. cond b disposition.Nothing disposition.Nothing ≡ disposition.Nothing) [
  | true ↦ refl
  | false ↦ refl
]
child-disposition action.Normal number orphaned = elim (eqb number 1) as (λ b. cond b disposition.Nothing disposition.Nothing ≡ disposition.Nothing) [
  | true ↦ refl
  | false ↦ refl
]

-- at one slot
caught-at : {D : Type 0} (t : Processes D) (ending : List (ℕ × How)) (slot : ℕ) (o : Option (Process D))
    → post_if_running sig.CHLD slot (table_and_list t ending) o
    ≡ table_and_list (cond (holds catches_child o) (change_process (add_caught sig.CHLD) t slot) t) ending
unfolding disposition_of
caught-at t ending slot None = refl
caught-at {D} t ending slot (Some p) =
    ap (λ what. dispose what sig.CHLD slot p.parent (table_and_list t ending)) (child-disposition (action_of p.actions sig.CHLD) p.pid (is_orphaned t p.group))
    ∙ elim (is_catch (action_of p.actions sig.CHLD)) as (λ b. dispose (cond b disposition.Catch disposition.Nothing) sig.CHLD slot p.parent
    (table_and_list t ending)
    ≡ table_and_list (cond b (change_process (add_caught sig.CHLD) t slot) t) ending) [
      | true ↦ refl
      | false ↦ refl
    ]

-- the running process of a pid
abbrev is_it : {D : Type 0} → ℕ → Process D → Bool
is_it parent p = is_running p && eqb p.pid parent

it-runs : {D : Type 0} (parent : ℕ) (o : Option (Process D)) → IsTrue (holds (is_it parent) o) → pid_of o ≡ parent
it-runs parent None is = absurd (true≢false (sym is))
it-runs parent (Some p) is = grind (arith, nat_tests, is)

has-pid : {D : Type 0} (parent : ℕ) (o : Option (Process D)) → IsTrue (holds (is_it parent) o) → holds (λ p. eqb p.pid parent) o ≡ true
has-pid parent None is = absurd (true≢false (sym is))
has-pid parent (Some p) is = grind (arith, nat_tests, is)

-- one with the pid that does not pass does not run
no-run : {D : Type 0} (parent : ℕ) (o : Option (Process D)) → holds (λ p. eqb p.pid parent) o ≡ true → holds (is_it parent) o ≡ false
    → holds catches_child (option_and_then running_of o) ≡ false
no-run parent None has fails = refl
no-run parent (Some p) has fails =
    ⊎_elim
    (λ runs. absurd (true≢false (sym (ap (λ b. b && eqb p.pid parent) runs ∙ has) ∙ fails)))
    (λ ended. ap (λ b. holds catches_child (cond b (Some p) None)) ended)
    (cases_Bool (is_running p))

-- no slot has it: nothing is done
not-there : {D : Type 0} (t : Processes D) (parent : ℕ) → ((slot : ℕ) → slot < length t.slots → holds (is_it parent) (process_at t slot) ≡ false)
    → (o : Option ℕ)
    → slot_of t parent ≡ o → catch_child t o ≡ t
not-there t parent none None is = refl
not-there {D} t parent none (Some slot) is =
    let at = position-Some (λ (s : Slot D). holds (λ p. eqb p.pid parent) s.process) t.slots slot empty_slot is in
    ap (λ b. cond b (change_process (add_caught sig.CHLD) t slot) t) (no-run parent (process_at t slot) at.1 (none slot at.0))

pid-of-it : {D : Type 0} (parent : ℕ) (o : Option (Process D)) → holds (λ p. eqb p.pid parent) o ≡ true → option_map (λ p. p.pid) o ≡ Some parent
pid-of-it parent None has = absurd (true≢false (sym has))
pid-of-it parent (Some p) has = let same : p.pid ≡ parent = grind (arith, nat_tests, has) in ap Some same

-- the slot that has it is that of the pid
there : {D : Type 0} (t : Processes D) (parent slot : ℕ) → HasPidsOnce t → slot < length t.slots → IsTrue (holds (is_it parent) (process_at t slot))
    → slot_of t parent ≡ Some slot
there {D} t parent slot once within is =
    let has : Slot D → Bool = λ (s : Slot D). holds (λ p. eqb p.pid parent) s.process in
    let here : holds (λ p. eqb p.pid parent) (process_at t slot) ≡ true = has-pid parent (process_at t slot) is in
    let before : (k : ℕ) → k < slot → holds (λ p. eqb p.pid parent) (process_at t k) ≡ false = λ k low.
    ⊎_elim
    (λ also.
    let same : k ≡ slot = once.once k slot parent (pid-of-it parent (process_at t k) also) (pid-of-it parent (process_at t slot) here) in
    absurd (omega (arith, same, low)))
    (λ other. other)
    (cases_Bool (holds (λ p. eqb p.pid parent) (process_at t k))) in
    let place : position_or_len has t.slots ≡ slot = position_or_len_is has t.slots slot empty_slot (omega (arith, within)) before (λ _. here) in
    let inside : nat_lt slot (length t.slots) ≡ true = grind (arith, nat_tests, within) in
    ap (λ n. cond (nat_lt n (length t.slots)) (Some n) None) place ∙ ap (λ b. cond b (Some slot) None) inside

none-among : (slot : ℕ) → IsAmong [] slot → ⊥
none-among slot among = omega (arith, among.1.0)

by-list : {D : Type 0} (t : Processes D) (parent : ℕ) (ending : List (ℕ × How)) → HasPidsOnce t → (slots : List ℕ) → AreInOrder (is_it parent) t slots
    → post_all sig.CHLD slots (table_and_list t ending) ≡ table_and_list (catch_child t (slot_of t parent)) ending
by-list t parent ending once [] order =
    let none : (slot : ℕ) → slot < length t.slots → holds (is_it parent) (process_at t slot) ≡ false = λ slot within.
    ⊎_elim (λ is. absurd (none-among slot (order.all slot within is))) (λ fails. fails) (cases_Bool (holds (is_it parent) (process_at t slot))) in
    ap (λ u. table_and_list u ending) (sym (not-there t parent none (slot_of t parent) refl))
by-list t parent ending once (slot ∷ []) order =
    caught-at t ending slot (running_at t slot)
    ∙ ap (λ o. table_and_list (catch_child t o) ending) (sym (there t parent slot once order.pass.0.0 order.pass.0.1))
by-list t parent ending once (slot ∷ other ∷ slots) order =
    absurd (omega (arith, order.rise.0.0, it-runs parent (process_at t slot) order.pass.0.1, it-runs parent (process_at t other) order.pass.1.0.1))

pub child-is-posted : {D : Type 0} (t : Processes D) (parent : ℕ) (ending : List (ℕ × How)) → HasPidsOnce t
    → post t sig.CHLD (to.Pid parent) ending ≡ table_and_list (post_child t parent) ending
unfolding post_child
child-is-posted t parent ending once = by-list t parent ending once (receivers t (to.Pid parent)) (in-order (is_it parent) t once)
