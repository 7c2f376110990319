-- How often numbers stand in a list.
use Rattle.std.proofs.Common.{◌≡◌, ℕ, zero, suc, ◌+◌, ◌<◌, ◌≤◌, ◌≢◌, true, false, cond, eqb, ltb, List, [], ◌∷◌, ◌++◌, length, get_or, sym, refl, ap, ◌∙◌, arith, inl, inr, subst, add-one, zero-add}
use Rattle.std.specs.List.{Contains, IsDistinct, AllByRecursion, list_any, range_with_len}
use Rattle.std.proofs.lemmas.List.{map-id}
use Rattle.std.proofs.lemmas.List.FromFn.{map-range_with_len_more}
use Rattle.std.proofs.lemmas.List.Sums.{sum_by-append, sum_by-cons}
use Rattle.std.proofs.lemmas.Bool.{cases_eq}
use Rattle.std.proofs.lemmas.Bool.Decides.{nat_tests}
use Rattle.std.proofs.lemmas.Map.Steps.{length-le_from_distinct_below}
use Rattle.block_pool.specs.Pool.{times}

-- in a list with one number more
pub times-cons : (n x : ℕ) (xs : List ℕ) → times n (x ∷ xs) ≡ cond (eqb x n) 1 0 + times n xs
times-cons n x xs = sum_by-cons (λ y. cond (eqb y n) 1 0) x xs

-- in two lists joined
pub times-append : (n : ℕ) (xs ys : List ℕ) → times n (xs ++ ys) ≡ times n xs + times n ys
times-append n xs ys = sum_by-append (λ y. cond (eqb y n) 1 0) xs ys

-- a number stands in a list that has it at some place
pub times-get_or : (xs : List ℕ) (i d : ℕ) → i < length xs → 1 ≤ times (get_or xs i d) xs
times-get_or [] i d h = elim h [ ]
times-get_or (x ∷ xs) zero d h = grind (arith, nat_tests, times-cons x x xs)
times-get_or (x ∷ xs) (suc i) d h =
    let rest = times-get_or xs i d (omega arith) in
    omega (arith, times-cons (get_or xs i d) x xs, rest)

-- a number that a list contains stands in it
pub times-contained : (xs : List ℕ) (n : ℕ) → Contains xs n → 1 ≤ times n xs
times-contained xs n (k, below, is) = let P : ℕ → Type 0 = λ m. 1 ≤ times m xs in subst P is (times-get_or xs k n below)

-- a number at two places stands there twice
times_twice : (xs : List ℕ) (i j : ℕ) → i < j → j < length xs → get_or xs i 0 ≡ get_or xs j 0 → 2 ≤ times (get_or xs j 0) xs
times_twice [] i j less below same = elim below [ ]
times_twice (x ∷ xs) zero zero less below same = elim less [ ]
times_twice (x ∷ xs) (suc i) zero less below same = elim less [ ]
times_twice (x ∷ xs) zero (suc j) less below same =
    let rest = times-get_or xs j 0 (omega arith) in
    grind (arith, nat_tests, times-cons (get_or xs j 0) x xs, rest)
times_twice (x ∷ xs) (suc i) (suc j) less below same =
    let rest = times_twice xs i j (omega arith) (omega arith) same in
    omega (arith, times-cons (get_or xs j 0) x xs, rest)

-- a number that stands in a list once is at one place
pub same_place : (xs : List ℕ) (i j : ℕ) → i < length xs → j < length xs → ((n : ℕ) → times n xs ≤ 1) → get_or xs i 0 ≡ get_or xs j 0 → i ≡ j
same_place xs i j hi hj once same = grind (arith, times_twice xs i j, times_twice xs j i, once (get_or xs i 0), once (get_or xs j 0))

-- numbers that do not stand in a list are not among its elements
none_equal : (x : ℕ) (xs : List ℕ) → times x xs ≡ 0 → AllByRecursion (λ y. eqb x y ≡ false) xs
none_equal x [] none = tt
none_equal x (y ∷ ys) none =
    let here = times-cons x y ys in
    (grind (arith, nat_tests), none_equal x ys (omega arith))

-- numbers that stand in a list at most once are distinct
pub distinct_from_once : (xs : List ℕ) → ((n : ℕ) → times n xs ≤ 1) → IsDistinct eqb xs
unfolding IsDistinct
distinct_from_once [] once = tt
distinct_from_once (x ∷ xs) once =
    let here : times x (x ∷ xs) ≡ 1 + times x xs = grind (arith, nat_tests, times-cons x x xs) in
    (none_equal x xs (omega (arith, once x)), distinct_from_once xs (λ n. omega (arith, once n, times-cons n x xs)))

-- a number that a test finds in a list stands in it
times_found : (n : ℕ) (xs : List ℕ) → list_any (eqb n) xs ≡ true → 1 ≤ times n xs
times_found n [] found = cc
times_found n (x ∷ xs) found = grind (arith, nat_tests, times-cons n x xs, times_found n xs)

-- numbers below a size, none of them twice, are at most as many
pub length_le_size : (xs : List ℕ) (size : ℕ) → ((n : ℕ) → times n xs ≤ cond (ltb n size) 1 0) → length xs ≤ size
length_le_size xs size once =
    length-le_from_distinct_below xs size
    (distinct_from_once xs (λ n. grind (arith, once n)))
    (λ q found. let here = times_found q xs found in grind (arith, nat_tests, once q))

-- the numbers from a on with one more
pub range_more : (a n : ℕ) → range_with_len a (n + 1) ≡ range_with_len a n ++ (a + n) ∷ []
range_more a n =
    sym (map-id (range_with_len a (n + 1))) ∙ map-range_with_len_more (λ (x : ℕ). x) a n (a + n) refl
    ∙ ap (λ xs. xs ++ (a + n) ∷ []) (map-id (range_with_len a n))

-- each number below n stands once among them
pub times-range : (m n : ℕ) → times m (range_with_len 0 n) ≡ cond (ltb m n) 1 0
times-range m zero = grind (arith, nat_tests)
times-range m (suc n) =
    let before = times-range m n in
    let more : range_with_len 0 (suc n) ≡ range_with_len 0 n ++ n ∷ [] =
    ap (range_with_len 0) (sym (add-one n)) ∙ range_more 0 n ∙ ap (λ k. range_with_len 0 n ++ k ∷ []) (zero-add n) in
    ap (times m) more ∙ times-append m (range_with_len 0 n) (n ∷ []) ∙ grind (arith, nat_tests, times-cons m n [])

-- a list without a number
without : ℕ → List ℕ → List ℕ
without n [] = []
without n (x ∷ xs) = cond (eqb x n) (without n xs) (x ∷ without n xs)

-- how long it is
length-without : (n : ℕ) (xs : List ℕ) → length (without n xs) + times n xs ≡ length xs
unfolding without
length-without n [] = refl
length-without n (x ∷ xs) = grind (arith, nat_tests, times-cons n x xs, length-without n xs)

-- how often another number stands in it
times-without_other : (m n : ℕ) (xs : List ℕ) → m ≢ n → times m (without n xs) ≡ times m xs
unfolding without
times-without_other m n [] other = refl
times-without_other m n (x ∷ xs) other = grind (arith, nat_tests, times-cons m x xs, times-cons m x (without n xs), times-without_other m n xs other)

-- the number itself does not stand in it
times-without_same : (n : ℕ) (xs : List ℕ) → times n (without n xs) ≡ 0
unfolding without
times-without_same n [] = refl
times-without_same n (x ∷ xs) = grind (arith, nat_tests, times-cons n x (without n xs), times-without_same n xs)

-- numbers among which each below a size stands once, and no other, are as many
pub length_all : (size : ℕ) (xs : List ℕ) → ((n : ℕ) → times n xs ≡ cond (ltb n size) 1 0) → length xs ≡ size
length_all zero [] all = refl
length_all zero (x ∷ xs) all = absurd (grind (arith, nat_tests, all x, times-cons x x xs))
length_all (suc size) xs all =
    let here : times size xs ≡ 1 = grind (arith, nat_tests, all size) in
    let rest = length_all size (without size xs) (λ n. elim (cases_eq n size) [
      | inl same ↦ rw same (times-without_same size xs ∙ grind (arith, nat_tests))
      | inr other ↦ times-without_other n size xs other ∙ all n ∙ grind (arith, nat_tests)
    ]) in
    omega (arith, length-without size xs, here, rest)
