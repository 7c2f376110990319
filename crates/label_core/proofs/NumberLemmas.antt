-- What readers of numbers take from the front of the bytes.
use Rattle.std.proofs.Common.{◌≡◌, ℕ, ◌+◌, ◌-◌, ◌*◌, ◌/◌, ◌%◌, ◌^◌, ◌<◌, ◌≤◌, Bool, true, false, ◌||◌, eqb, ltb, List, [], ◌∷◌, ◌++◌, length, Result, Ok, Err, refl, sym, ap, ◌∙◌, arith, inl, inr, append_assoc, length-append, leb, ◌≢◌}
use Rattle.std.specs.Prelude.{IfOk}
use Rattle.std.specs.Char.{is_ascii_digit}
use Rattle.std.specs.Fmt.{decimal}
use Rattle.std.proofs.lemmas.Bool.{or_parts, eqb-false, ltb-false, and_parts, leb-true}
use Rattle.std.proofs.lemmas.Fmt.{decimal_digit, decimal_nonempty}
use Rattle.label_core.specs.declared.fault.LabelKind.{LabelKind}
use Rattle.label_core.specs.declared.fault.Stop.{Stop}
use Rattle.label_core.specs.Reading.{Gives, digits_at, number_at}
use Rattle.label_core.proofs.StepLemmas.{choice_cases, ok_of, ok_is, err_not_ok}
use Rattle.label_core.proofs.DecimalLemmas.{decimal_more}

-- a digit is a byte from 48 to 57
pub digit_range : (d : ℕ) → is_ascii_digit d ≡ true → (48 ≤ d) × (d ≤ 57)
digit_range d is = let parts = and_parts (leb 48 d) (leb d 57) is in (leb-true 48 d parts.0, leb-true d 57 parts.1)

-- whether a digit comes next
abbrev pub begins_digit : List ℕ → Bool
begins_digit [] = false
begins_digit (d ∷ rest) = is_ascii_digit d

-- the number n and the bytes after its digits so far are the number x.0 and the bytes after it
pub record TakesDigits (most n : ℕ) (bytes : List ℕ) (x : ℕ × List ℕ) : Type 0 where
  pub parts : decimal n ++ bytes ≡ decimal x.0 ++ x.1
  pub from : n ≤ x.0
  pub to : x.0 ≤ most
  pub ends : begins_digit x.1 ≡ false

-- one more digit
digit_more : (n d : ℕ) (bytes : List ℕ) → 1 ≤ n → 48 ≤ d → d ≤ 57 → n * 10 + (d - 48) < 2 ^ 16 → decimal n ++ d ∷ bytes ≡ decimal (n * 10 + (d - 48)) ++ bytes
digit_more n d bytes some low high fits =
    let front : (n * 10 + (d - 48)) / 10 ≡ n = omega arith in
    let last : 48 + (n * 10 + (d - 48)) % 10 ≡ d = omega arith in
    rw (decimal_more (n * 10 + (d - 48)) (omega arith) fits, front, last) (sym (append_assoc (decimal n) (d ∷ []) bytes))

pub digits_take : (why : LabelKind) (most n : ℕ) (bytes : List ℕ) (x : ℕ × List ℕ) → n ≤ most → most < 2 ^ 16 → digits_at why most n bytes ≡ Ok x
    → TakesDigits most n bytes x
digits_take why most n [] x small fits e = rw (← ok_is (n, []) x e) (record { parts = refl; from = omega arith; to = small; ends = refl })
digits_take why most n (d ∷ bytes) x small fits e = elim (choice_cases (is_ascii_digit d) _ _ (ok_of x) e) [
  | inl digit ↦ elim (choice_cases (eqb n 0 || ltb most (n * 10 + (d - 48))) _ _ (ok_of x) digit.1) [
    | inl bad ↦ err_not_ok _ x bad.1
    | inr good ↦
        let tests = or_parts (eqb n 0) (ltb most (n * 10 + (d - 48))) good.0 in
        let not_zero : n ≢ 0 = eqb-false n 0 tests.0 in
        let within : n * 10 + (d - 48) ≤ most = ltb-false most (n * 10 + (d - 48)) tests.1 in
        let range = digit_range d digit.0 in
        let rest = digits_take why most (n * 10 + (d - 48)) bytes x within fits good.1 in
        record {
          parts = digit_more n d bytes (omega arith) range.0 range.1 (omega arith) ∙ rest.parts;
          from = omega (arith, rest.from);
          to = rest.to;
          ends = rest.ends;
        }
  ]
  | inr other ↦ rw (← ok_is (n, d ∷ bytes) x other.1) (record { parts = refl; from = omega arith; to = small; ends = other.0 })
]

-- the number x.0 is spelled at the front of the bytes, and x.1 follows
pub record TakesNumber (least most : ℕ) (bytes : List ℕ) (x : ℕ × List ℕ) : Type 0 where
  pub parts : bytes ≡ decimal x.0 ++ x.1
  pub from : least ≤ x.0
  pub to : x.0 ≤ most
  pub ends : begins_digit x.1 ≡ false
  pub shorter : length x.1 < length bytes

pub number_takes : (why : LabelKind) (least most : ℕ) (bytes : List ℕ) (x : ℕ × List ℕ) → 9 ≤ most → most < 2 ^ 16 → number_at why least most bytes ≡ Ok x
    → TakesNumber least most bytes x
unfolding number_at
number_takes why least most [] x nine fits e = err_not_ok _ x e
number_takes why least most (d ∷ bytes) x nine fits e = elim (choice_cases (is_ascii_digit d) _ _ (ok_of x) e) [
  | inl digit ↦ elim (choice_cases (ltb (d - 48) least) _ _ (ok_of x) digit.1) [
    | inl bad ↦ err_not_ok _ x bad.1
    | inr good ↦
        let range = digit_range d digit.0 in
        let enough : least ≤ d - 48 = ltb-false (d - 48) least good.0 in
        let rest = digits_take why most (d - 48) bytes x (omega arith) fits good.1 in
        let one : decimal (d - 48) ≡ d ∷ [] = decimal_digit (d - 48) (omega arith) ∙ ap (λ k. k ∷ []) (omega arith) in
        let parts : d ∷ bytes ≡ decimal x.0 ++ x.1 = ap (λ (ds : List ℕ). ds ++ bytes) (sym one) ∙ rest.parts in
        record {
          parts = parts;
          from = omega (arith, rest.from);
          to = rest.to;
          ends = rest.ends;
          shorter = omega (arith, ap length parts, length-append (decimal x.0) x.1, decimal_nonempty x.0 (omega (arith, rest.to)));
        }
  ]
  | inr other ↦ err_not_ok _ x other.1
]

-- what a function that reads a number knows of it
pub number_is : {X : Type 0} (view : X → ℕ × List ℕ) (r : Result X Stop) (why : LabelKind) (least most : ℕ) (bytes : List ℕ) → 9 ≤ most → most < 2 ^ 16
    → Gives view r (number_at why least most bytes)
    → IfOk r (λ x. (least ≤ (view x).0) × ((view x).0 ≤ most)) × IfOk r (λ x. length (view x).1 < length bytes)
number_is view (Ok x) why least most bytes nine fits given = let t = number_takes why least most bytes (view x) nine fits given in ((t.from, t.to), t.shorter)
number_is view (Err s) why least most bytes nine fits given = (tt, tt)
