-- What a write leaves, and the room that it takes.
use Rattle.std.proofs.Common.{◌≡◌, ◌≢◌, inl, inr, ℕ, zero, suc, ◌+◌, ◌-◌, ◌<◌, ◌≤◌, true, false, cond, List, [], ◌++◌, length, take, drop, replicate, refl, sym}
use Rattle.std.proofs.Common.{ap, ap₂, ◌∙◌, arith, length-append}
use Rattle.std.proofs.lemmas.List.{append-nil, take-append-le, take-replicate, length-replicate, length-take-le, length-drop}
use Rattle.std.proofs.Math.ListN.{drop_of_length-le}
use Rattle.std.proofs.Math.Seq.{take-append-add}
use Rattle.std.proofs.lemmas.Bool.{cases_lt, ne_eqb}
use Rattle.std.specs.Prelude.{◌==◌}
use Rattle.vnode_tree.proofs.Vectors.{all_written}
use Rattle.vnode_tree.specs.Contents.{bytes_up_to, after_write}

-- what stands before a place does not depend on the zeros past it
front_filled : (old : List ℕ) (at more : ℕ) → at ≤ more → take at (old ++ replicate (more - length old) 0) ≡ bytes_up_to at old
front_filled old at more below = elim (cases_lt at (length old)) [
  | inl inside ↦
      take-append-le at old (replicate (more - length old) 0) (omega arith) ∙ sym (take-append-le at old (replicate (at - length old) 0) (omega arith))
  | inr past ↦
      let whole : length old + (at - length old) ≡ at = omega (arith, past) in
      let one : take at (old ++ replicate (more - length old) 0) ≡ old ++ replicate (at - length old) 0 =
      ap (λ n. take n (old ++ replicate (more - length old) 0)) (sym whole) ∙ take-append-add old (replicate (more - length old) 0) (at - length old)
      ∙ ap (λ xs. old ++ xs) (take-replicate (at - length old) (more - length old) 0 (omega (arith, below))) in
      let two : bytes_up_to at old ≡ old ++ replicate (at - length old) 0 =
      ap (λ n. take n (old ++ replicate (at - length old) 0)) (sym whole) ∙ take-append-add old (replicate (at - length old) 0) (at - length old)
      ∙ ap (λ xs. old ++ xs) (take-replicate (at - length old) (at - length old) 0 (omega arith)) in
      one ∙ sym two
]

-- nor what stands behind
back_filled : (old : List ℕ) (end : ℕ) → drop end (old ++ replicate (end - length old) 0) ≡ drop end old
back_filled old end = elim (cases_lt end (length old)) [
  | inl inside ↦
      let none : end - length old ≡ 0 = omega (arith, inside) in
      rw none (ap (drop end) (append-nil old))
  | inr past ↦
      let whole : length (old ++ replicate (end - length old) 0) ≤ end =
      omega (arith, length-append old (replicate (end - length old) 0), length-replicate {A = ℕ} (end - length old) 0, past) in
      drop_of_length-le (old ++ replicate (end - length old) 0) whole ∙ sym (drop_of_length-le old past)
]

pub written_is : (old bytes : List ℕ) (at : ℕ) → 0 < length bytes
    → take at (old ++ replicate ((at + length bytes) - length old) 0) ++ bytes
    ++ drop (at + length bytes) (old ++ replicate ((at + length bytes) - length old) 0)
    ≡ after_write old at bytes
unfolding after_write
written_is old bytes at some =
    let no : ◌≢◌ {A = ℕ} (length bytes) 0 = λ e. omega (arith, e, some) in
    let front : take at (old ++ replicate ((at + length bytes) - length old) 0) ≡ bytes_up_to at old = front_filled old at (at + length bytes) (omega arith) in
    let back : drop (at + length bytes) (old ++ replicate ((at + length bytes) - length old) 0) ≡ drop (at + length bytes) old =
    back_filled old (at + length bytes) in
    let whole : bytes_up_to at old ++ bytes ++ drop (at + length bytes) old ≡ cond (length bytes == 0) old
    (bytes_up_to at old ++ bytes ++ drop (at + length bytes) old) =
    rw (ne_eqb (length bytes) 0 no) refl in
    ap₂ (λ xs ys. xs ++ bytes ++ ys) front back ∙ whole

pub nothing_written : (old bytes : List ℕ) (at : ℕ) → bytes ≡ [] → old ≡ after_write old at bytes
unfolding after_write
nothing_written old bytes at none = rw none refl

-- the bytes after a write in place
pub whole_written : (size : ℕ) (old filled_up there new bytes : List ℕ) (at : ℕ) → size ≡ length filled_up → there ≡ filled_up
    → filled_up ≡ old ++ replicate ((at + length bytes) - length old) 0 → 0 < length bytes → new ≡ take at there ++ bytes ++ drop (at + length bytes) there
    → take size (new ++ drop (length new) filled_up) ≡ after_write old at bytes
whole_written size old filled_up there new bytes at whole same full some is =
    let new_is : new ≡ take at filled_up ++ bytes ++ drop (at + length bytes) filled_up =
    is ∙ ap (λ xs. take at xs ++ bytes ++ drop (at + length bytes) xs) same in
    let long : at + length bytes ≤ length filled_up =
    omega (
      arith,
      ap (λ (xs : List ℕ). length xs) full,
      length-append old (replicate ((at + length bytes) - length old) 0),
      length-replicate {A = ℕ} ((at + length bytes) - length old) 0,
    ) in
    let size_is : length (take at filled_up ++ bytes ++ drop (at + length bytes) filled_up) ≡ length filled_up =
    omega (
      arith,
      length-append (take at filled_up ++ bytes) (drop (at + length bytes) filled_up),
      length-append (take at filled_up) bytes,
      length-take-le at filled_up (omega (arith, long)),
      length-drop (at + length bytes) filled_up,
      long,
    ) in
    all_written size new filled_up whole (ap (λ (xs : List ℕ). length xs) new_is ∙ size_is)
    ∙ new_is ∙ ap (λ xs. take at xs ++ bytes ++ drop (at + length bytes) xs) full ∙ written_is old bytes at some

-- a slice that is not empty has a byte
pub some_bytes : (n : ℕ) → (n == 0) ≡ false → 0 < n
some_bytes zero e = absurd (let wrong : true ≡ false = e in cc)
some_bytes (suc n) e = omega arith
