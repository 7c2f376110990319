-- Reading compartments one after the other.
use Rattle.std.proofs.Common.{◌≡◌, ℕ, zero, suc, ◌≤◌, true, false, cond, List, [], ◌∷◌, length, drop, Result, Ok, Err, refl, sym, ap, ◌∙◌, arith, length-drop}
use Rattle.label_core.specs.declared.fault.LabelKind.TheVariants as kind
use Rattle.label_core.specs.declared.fault.Stop.{Stop}
use Rattle.label_core.specs.CompSet.{with_number}
use Rattle.label_core.specs.Reading.{◌>>=◌, stop_at, begins, number_at, compartments_within, compartments_at}
use Rattle.label_core.proofs.StepLemmas.{alike}
use Rattle.label_core.proofs.NumberLemmas.{number_takes}

-- what reading does with a compartment and the bytes after it
abbrev pub compartments_after : ℕ → List ℕ → ℕ × List ℕ → Result (List ℕ × List ℕ) Stop
compartments_after k set n = cond (begins 43 n.1) (compartments_within k (with_number n.0 set) (drop 1 n.1)) (Ok (with_number n.0 set, n.1))

pub compartments_within-suc : (k : ℕ) (set bytes : List ℕ)
    → compartments_within (suc k) set bytes ≡ (number_at kind.Compartment 1 256 bytes >>= compartments_after k set)
unfolding compartments_within
compartments_within-suc k set bytes = refl

no_number : (k : ℕ) (set : List ℕ) → compartments_within k set [] ≡ Err (stop_at kind.Form [])
unfolding compartments_within number_at
no_number zero set = refl
no_number (suc k) set = refl

-- any bound of at least the number of bytes suffices
pub compartments_within_enough : (j k : ℕ) (set bytes : List ℕ) → length bytes ≤ j → length bytes ≤ k
    → compartments_within j set bytes ≡ compartments_within k set bytes
compartments_within_enough j k set [] j_fits k_fits = no_number j set ∙ sym (no_number k set)
compartments_within_enough zero k set (b ∷ bytes) j_fits k_fits = absurd (omega arith)
compartments_within_enough (suc j) zero set (b ∷ bytes) j_fits k_fits = absurd (omega arith)
compartments_within_enough (suc j) (suc k) set (b ∷ bytes) j_fits k_fits =
    compartments_within-suc j set (b ∷ bytes)
    ∙ alike (number_at kind.Compartment 1 256 (b ∷ bytes)) (compartments_after j set) (compartments_after k set) (λ n e.
    let t = number_takes kind.Compartment 1 256 (b ∷ bytes) n (omega arith) (omega arith) e in
    let left = length-drop 1 n.1 in
    ap (λ r. cond (begins 43 n.1) r (Ok (with_number n.0 set, n.1)))
    (compartments_within_enough j k (with_number n.0 set) (drop 1 n.1) (omega (arith, left, t.shorter)) (omega (arith, left, t.shorter))))
    ∙ sym (compartments_within-suc k set (b ∷ bytes))

-- the compartments of the bytes that are left, put into a set
abbrev pub compartments_left : List ℕ → List ℕ → Result (List ℕ × List ℕ) Stop
compartments_left set bytes = compartments_within (length bytes) set bytes

-- one step: the first compartment, and those behind its plus sign
pub compartments_left_step : (set bytes : List ℕ)
    → compartments_left set bytes
    ≡ (number_at kind.Compartment 1 256 bytes >>= λ n. cond (begins 43 n.1) (compartments_left (with_number n.0 set) (drop 1 n.1))
    (Ok (with_number n.0 set, n.1)))
compartments_left_step set bytes =
    compartments_within_enough (length bytes) (suc (length bytes)) set bytes (omega arith) (omega arith)
    ∙ compartments_within-suc (length bytes) set bytes
    ∙ alike (number_at kind.Compartment 1 256 bytes) (compartments_after (length bytes) set)
    (λ n. cond (begins 43 n.1) (compartments_left (with_number n.0 set) (drop 1 n.1)) (Ok (with_number n.0 set, n.1))) (λ n e.
    let t = number_takes kind.Compartment 1 256 bytes n (omega arith) (omega arith) e in
    let left = length-drop 1 n.1 in
    ap (λ r. cond (begins 43 n.1) r (Ok (with_number n.0 set, n.1)))
    (compartments_within_enough (length bytes) (length (drop 1 n.1)) (with_number n.0 set) (drop 1 n.1) (omega (arith, left, t.shorter)) (omega arith)))

pub compartments_at_left : (bytes : List ℕ) → compartments_at bytes ≡ compartments_left [] bytes
unfolding compartments_at
compartments_at_left bytes = refl

-- the steps of a loop

pub compartments_fault : (set bytes : List ℕ) (s : Stop) → number_at kind.Compartment 1 256 bytes ≡ Err s → compartments_left set bytes ≡ Err s
compartments_fault set bytes s e = compartments_left_step set bytes ∙ rw e refl

pub compartments_last : (set bytes rest : List ℕ) (n : ℕ) → number_at kind.Compartment 1 256 bytes ≡ Ok (n, rest) → begins 43 rest ≡ false
    → compartments_left set bytes ≡ Ok (with_number n set, rest)
compartments_last set bytes rest n e none = compartments_left_step set bytes ∙ rw (e, none) refl

pub compartments_more : (set bytes rest : List ℕ) (n : ℕ) → number_at kind.Compartment 1 256 bytes ≡ Ok (n, rest) → begins 43 rest ≡ true
    → compartments_left set bytes ≡ compartments_left (with_number n set) (drop 1 rest)
compartments_more set bytes rest n e plus = compartments_left_step set bytes ∙ rw (e, plus) refl
