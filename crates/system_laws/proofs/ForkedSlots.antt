-- The child of a fork stands in the lowest slot that a fork may take, and in no other slot stands a process where none was.
use Rattle.std.proofs.Common.{◌≡◌, inl, inr, ℕ, zero, suc, Bool, true, false, List, [], ◌∷◌, get_or, set, Option, Some, None, refl, ap, sym, ◌∙◌}
use Rattle.std.proofs.Common.{◌<◌, length}
use Rattle.std.specs.Prelude.{◌==◌, ◌&&◌, not, is_none}
use Rattle.std.proofs.lemmas.Bool.Decides.{eqb_tells}
use Rattle.std.proofs.lemmas.Bool.{eq-eqb}
use Rattle.std.proofs.lemmas.List.{get_or-set_same, get_or-set_other}
use Rattle.std.proofs.lemmas.List.Quantifiers.{position-Some}
use Rattle.call_words.specs.declared.call.Call.{Call}
use Rattle.proc_table.specs.Processes.{Process, Slot, Processes, empty_slot, slot_at, process_at, running_at, set_pending, holds}
use Rattle.proc_table.specs.Forks.{may_begin, is_free, lowest_slot, child_of, fork}
use Rattle.system_model.specs.Parts.{Path}
use Rattle.system_laws.specs.Origins.{is_child_at}

-- what a pending call leaves
pending-slot : (slots : List (Slot Path)) (i j : ℕ) (c : Option Call)
    → (get_or (set slots i (record (get_or slots i empty_slot) { pending = c })) j empty_slot).process ≡ (get_or slots j empty_slot).process
pending-slot [] i j c = refl
pending-slot (s ∷ slots) zero zero c = refl
pending-slot (s ∷ slots) zero (suc j) c = refl
pending-slot (s ∷ slots) (suc i) zero c = refl
pending-slot (s ∷ slots) (suc i) (suc j) c = pending-slot slots i j c

pub process-pending : (t : Processes Path) (slot other : ℕ) (c : Option Call) → process_at (set_pending t slot c) other ≡ process_at t other
process-pending t slot other c = pending-slot t.slots slot other c

-- a free slot has no process
empty-free : (o : Option (Process Path)) (b c : Bool) → (is_none o && b && c) ≡ true → o ≡ None
empty-free None b c is = refl
empty-free (Some p) b c is = cc

new-child : (t u : Processes Path) (pid slot : ℕ) (p : Process Path) → process_at t slot ≡ None → process_at u slot ≡ Some p → (p.pid == pid) ≡ true
    → is_child_at t u pid slot ≡ true
new-child t u pid slot p none some same = rw (none, some) same

no-child : (t u : Processes Path) (pid slot : ℕ) → process_at u slot ≡ process_at t slot → is_child_at t u pid slot ≡ false
no-child t u pid slot same = rw same (by_process (process_at t slot))
  where
    by_process : (o : Option (Process Path)) → (is_none o && holds (λ p. p.pid == pid) o) ≡ false
    by_process None = refl
    by_process (Some p) = refl

-- the slot of the child, and each other slot
pub child_stands : (t u : Processes Path) (parent free : ℕ) (note : List ℕ) (who : Process Path) → lowest_slot t ≡ Some free
    → running_at t parent ≡ Some who → ((other : ℕ) → process_at u other ≡ process_at (fork t parent note) other) → (slot : ℕ)
    → is_child_at t u t.next_pid slot ≡ (slot == free)
child_stands t u parent free note who lowest runs after slot =
    elim (eqb_tells slot free) [
      | inl (is, here) ↦ in_slot here ∙ sym is
      | inr (is, there) ↦ (no-child t u t.next_pid slot (after slot ∙ forked ∙ ap (λ (s : Slot Path). s.process) (get_or-set_other t.slots free slot child empty_slot there))) ∙ sym is
    ]
  where
    child : Slot Path
    child = record (slot_at t free) { process = Some (child_of who t.next_pid note) }

    at : (free < length t.slots) × (is_free (slot_at t free) ≡ true)
    at = let p = position-Some is_free t.slots free empty_slot lowest in (p.0, p.1)

    forked : process_at (fork t parent note) slot ≡ (get_or (set t.slots free child) slot empty_slot).process
    forked = rw (lowest, runs) refl

    in_slot : slot ≡ free → is_child_at t u t.next_pid slot ≡ true
    in_slot here =
        let s = slot_at t free in
        new-child t u t.next_pid slot (child_of who t.next_pid note)
        (ap (process_at t) here ∙ empty-free s.process (may_begin s.pending) (not s.left) at.1)
        (after slot ∙ forked ∙ ap (λ n. (get_or (set t.slots free child) n empty_slot).process) here
        ∙ ap (λ (x : Slot Path). x.process) (get_or-set_same t.slots free child empty_slot at.0))
        (eq-eqb t.next_pid t.next_pid refl)
