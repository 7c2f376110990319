-- A change of a running process puts the changed process in its place.
use Rattle.std.proofs.Common.{◌≡◌, ℕ, zero, suc, ◌<◌, Bool, true, false, cond, List, [], ◌∷◌, length, Option, Some, None, option_map, option_and_then, refl, ap, sym, ◌∙◌}
use Rattle.std.proofs.Common.{subst, arith}
use Rattle.std.specs.Prelude.{is_some, IsTrue, slice_index_or}
use Rattle.std.proofs.lemmas.List.{get_or-set_same}
use Rattle.proc_table.specs.Processes.{Process, Slot, empty_slot, Processes, is_running, running_of, running_at, process_at, slot_at, put_slot, put_process, change_process}

-- a running process is the process of its slot
running-here : {D : Type 0} (p q : Process D) → running_of q ≡ Some p → q ≡ p
running-here {D} p q = one (is_running q)
  where
    one : (b : Bool) → cond b (Some q) None ≡ Some p → q ≡ p
    one true is = cc
    one false is = absurd cc

pub running-process : {D : Type 0} (o : Option (Process D)) (p : Process D) → option_and_then running_of o ≡ Some p → o ≡ Some p
running-process None p is = absurd cc
running-process (Some q) p is = ap Some (running-here p q is)

-- what a call changes of its running process is put in its place
pub change-running : {D : Type 0} (how : Process D → Process D) (t : Processes D) (slot : ℕ) (p : Process D) → running_at t slot ≡ Some p
    → change_process how t slot ≡ put_process t slot (how p)
change-running how t slot p is =
    ap (λ (o : Option (Process _)). put_slot t slot (record (slot_at t slot) { process = option_map how o })) (running-process (process_at t slot) p is)

-- a running process stands in one of the slots
within : {D : Type 0} (slots : List (Slot D)) (slot : ℕ) → IsTrue (is_some (option_and_then running_of (slice_index_or slots slot empty_slot).process))
    → slot < length slots
within [] slot is = absurd cc
within (s ∷ ss) zero is = omega arith
within (s ∷ ss) (suc slot) is = let below = within ss slot is in omega arith

some-running : {D : Type 0} (p : Process D) → is_some (running_of p) ≡ is_running p
some-running {D} p = one (is_running p)
  where
    one : (b : Bool) → is_some (cond b (Some p) None) ≡ b
    one true = refl
    one false = refl

running-still : {D : Type 0} (how : Process D → Process D) → ((p : Process D) → is_running (how p) ≡ is_running p) → (o : Option (Process D))
    → is_some (option_and_then running_of (option_map how o)) ≡ is_some (option_and_then running_of o)
running-still how keeps None = refl
running-still how keeps (Some p) = some-running (how p) ∙ keeps p ∙ sym (some-running p)

-- a process that changes, and not in how it ended, runs on
pub running-after : {D : Type 0} (how : Process D → Process D) → ((p : Process D) → is_running (how p) ≡ is_running p) → (t : Processes D) (slot : ℕ)
    → IsTrue (is_some (running_at t slot)) → IsTrue (is_some (running_at (change_process how t slot) slot))
running-after {D} how keeps t slot is =
    subst (λ (s : Slot D). IsTrue (is_some (option_and_then running_of s.process)))
    (sym (get_or-set_same t.slots slot (record (slot_at t slot) { process = option_map how (slot_at t slot).process }) empty_slot (within t.slots slot is)))
    (subst IsTrue (sym (running-still how keeps (process_at t slot))) is)
