-- The close of several numbers, one after the other.
use Rattle.std.proofs.Common.{◌≡◌, ◌≢◌, ⊎_elim, ℕ, suc, ◌+◌, ◌-◌, ◌<◌, ◌≤◌, Bool, true, false, cond, List, [], ◌∷◌, ◌++◌, length, refl, sym, ap, ◌∙◌, arith}
use Rattle.std.specs.Prelude.{None, ◌==◌, nat_lt}
use Rattle.std.proofs.lemmas.Bool.{cases_Bool}
use Rattle.std.proofs.lemmas.Bool.Decides.{nat_tests}
use Rattle.std.proofs.lemmas.Bool.Decides.{eqb_tells}
use Rattle.std.proofs.lemmas.List.{get_or_past}
use Rattle.sys_types.specs.declared.limits.TheConstants.{DESCRIPTORS}
use Rattle.fd_table.specs.Shared.{Table, row_of, descriptor_at}
use Rattle.proc_calls.specs.declared.closing.Numbers.{Numbers}
use Rattle.proc_calls.specs.CloseNumbers.{is_one_of, numbers_from}
use Rattle.system_model.specs.State.{View}
use Rattle.system_model.specs.FileEffects.{close_fd}
use Rattle.system_model.specs.Effects.{on_files, change, change_all}
use Rattle.system_model.specs.ProcCalls.{close_fds}

closes-more : (v : View) (slot : ℕ) (these those : List ℕ)
    → change_all v (close_fds slot (these ++ those)) ≡ change_all (change_all v (close_fds slot these)) (close_fds slot those)
closes-more v slot [] those = refl
closes-more v slot (fd ∷ these) those = closes-more (change v (on_files (close_fd slot fd))) slot these those

by-first : (b : Bool) (fd : ℕ) (rest : List ℕ) → cond b (fd ∷ rest) rest ≡ cond b (fd ∷ []) [] ++ rest
by-first true fd rest = refl
by-first false fd rest = refl

next-number : (numbers : Numbers) (table : Table) (slot fd count : ℕ)
    → numbers_from numbers table slot fd (suc count)
    ≡ cond (is_one_of numbers (descriptor_at table slot fd)) (fd ∷ []) [] ++ numbers_from numbers table slot (fd + 1) count
next-number numbers table slot fd count =
    by-first (is_one_of numbers (descriptor_at table slot fd)) fd (numbers_from numbers table slot (fd + 1) count)

-- one number more
pub closes_step : (v w : View) (numbers : Numbers) (old now : Table) (slot fd : ℕ) → fd < DESCRIPTORS → descriptor_at now slot fd ≡ descriptor_at old slot fd
    → w ≡ change_all v (close_fds slot (cond (is_one_of numbers (descriptor_at now slot fd)) (fd ∷ []) []))
    → change_all w (close_fds slot (numbers_from numbers old slot (fd + 1) (DESCRIPTORS - (fd + 1))))
    ≡ change_all v (close_fds slot (numbers_from numbers old slot fd (DESCRIPTORS - fd)))
closes_step v w numbers old now slot fd below same is =
    let count : DESCRIPTORS - fd ≡ suc (DESCRIPTORS - (fd + 1)) = omega (arith, below) in
    let rest = numbers_from numbers old slot (fd + 1) (DESCRIPTORS - (fd + 1)) in
    ap (λ x. change_all x (close_fds slot rest)) is
    ∙ ap (λ d. change_all (change_all v (close_fds slot (cond (is_one_of numbers d) (fd ∷ []) []))) (close_fds slot rest)) same
    ∙ sym (closes-more v slot (cond (is_one_of numbers (descriptor_at old slot fd)) (fd ∷ []) []) rest)
    ∙ ap (λ fds. change_all v (close_fds slot fds))
    (sym (next-number numbers old slot fd (DESCRIPTORS - (fd + 1))) ∙ ap (λ n. numbers_from numbers old slot fd n) (sym count))

-- a number that was closed stays so, while others are closed
pub closed_more : (numbers : Numbers) (now new : Table) (slot fd number : ℕ)
    → ((k : ℕ) → k < fd → is_one_of numbers (descriptor_at now slot k) ≡ false) → is_one_of numbers (descriptor_at new slot fd) ≡ false
    → ((k : ℕ) → k ≢ fd → descriptor_at new slot k ≡ descriptor_at now slot k) → number < fd + 1 → is_one_of numbers (descriptor_at new slot number) ≡ false
closed_more numbers now new slot fd number before here others below =
    ⊎_elim
    (λ (same : ((number == fd) ≡ true) × (number ≡ fd)). ap (λ k. is_one_of numbers (descriptor_at new slot k)) same.1 ∙ here)
    (λ (other : ((number == fd) ≡ false) × (number ≢ fd)).
    (let less : number < fd = omega (arith, below, other.1) in
    ap (is_one_of numbers) (others number other.1) ∙ before number less))
    (eqb_tells number fd)

-- in the end each is
pub closed_all : (numbers : Numbers) (table : Table) (slot fd number : ℕ) → ((k : ℕ) → k < fd → is_one_of numbers (descriptor_at table slot k) ≡ false)
    → length (row_of table slot) ≡ DESCRIPTORS → fd ≡ DESCRIPTORS → is_one_of numbers (descriptor_at table slot number) ≡ false
closed_all numbers table slot fd number closed row all =
    ⊎_elim
    (λ (below : nat_lt number DESCRIPTORS ≡ true). closed number (grind (arith, nat_tests, below, all)))
    (λ (past : nat_lt number DESCRIPTORS ≡ false).
    (let beyond : length (row_of table slot) ≤ number = grind (arith, nat_tests, past, row) in
    ap (is_one_of numbers) (get_or_past (row_of table slot) number None beyond)))
    (cases_Bool (nat_lt number DESCRIPTORS))
