-- Where a digit stands of a number, reading has a fault of the number's kind there, or goes past it.
use Rattle.std.proofs.Common.{◌≡◌, ◌≢◌, ◌⊎◌, inl, inr, ℕ, ◌+◌, ◌-◌, ◌*◌, ◌≤◌, true, ◌||◌, eqb, ltb, List, [], ◌∷◌, ◌++◌, length, Result, Ok, Err, refl, sym, ap, subst, ◌∙◌, arith, append_assoc, length-append}
use Rattle.std.specs.Prelude.{codes, decimal, flat_map}
use Rattle.std.specs.Char.{is_ascii_digit}
use Rattle.std.specs.List.{AllByRecursion}
use Rattle.std.proofs.lemmas.Bool.{cases_Bool, ne_eqb}
use Rattle.label_core.specs.declared.element.Element.{Element}
use Rattle.label_core.specs.declared.element.Element.TheVariants.{Grade}
use Rattle.label_core.specs.declared.fault.LabelKind.{LabelKind}
use Rattle.label_core.specs.declared.fault.LabelKind.TheVariants as kind
use Rattle.label_core.specs.declared.fault.Stop.{Stop}
use Rattle.label_core.specs.CompSet.{IsCompartment, with_number}
use Rattle.label_core.specs.Subject.{Parts}
use Rattle.label_core.specs.Reading.{◌>>=◌, digits_at, number_at, grade_at, body_at, element_at}
use Rattle.label_core.specs.Grammar.{Writing, IsWriting, spelled_element, meant_element}
use Rattle.label_core.specs.Faults.{NumberAfter, to_grade, to_compartment, BeforePart, before_active, before_low, before_high}
use Rattle.label_core.proofs.NumberLemmas.{digit_range}
use Rattle.label_core.proofs.CompartmentLemmas.{compartments_left, compartments_left_step, compartments_at_left, compartments_more}
use Rattle.label_core.proofs.RereadingLemmas.{number_again, grade_from, body_again, ne_43}
use Rattle.label_core.proofs.LocalFaultLemmas.{Reader, LocalBy, Local, then_read}
use Rattle.label_core.proofs.FaultPlaceLemmas.{local_digits, after_compartment, local_after_compartment, local_list, after_grade, local_after_grade, finish, local_finish, range_end, range_high, range_dash, range_low, local_range_dash, range_is, local_literal, element_to_end, parts_after, parts_to_end, local_parts_after}

-- what a reader leaves of the bytes, or where its fault stands, is among them
abbrev pub WithinBy : {A : Type 0} → List ℕ → Result (A × List ℕ) Stop → Type 0
WithinBy bytes (Ok x) = length x.1 ≤ length bytes
WithinBy bytes (Err s) = s.left ≤ length bytes

-- the same of the rest behind a digit, or the fault is of this kind
abbrev pub PastBy : {A : Type 0} → LabelKind → List ℕ → Result (A × List ℕ) Stop → Type 0
PastBy why rest (Ok x) = length x.1 ≤ length rest
PastBy why rest (Err s) = (s.kind ≡ why) ⊎ (s.left ≤ length rest)

local_by_within : {A : Type 0} (End : List ℕ → Type 0) (read : Reader A) (bytes : List ℕ) (r : Result (A × List ℕ) Stop) → LocalBy End read bytes r
    → WithinBy bytes r
local_by_within End read bytes (Ok x) t = omega (arith, ap length t.parts, length-append t.text x.1)
local_by_within End read bytes (Err s) f = omega (arith, f.place, ap length f.parts, length-append f.front f.rest)

pub local_within : {A : Type 0} (End : List ℕ → Type 0) (read : Reader A) (bytes : List ℕ) → Local End read bytes → WithinBy bytes (read bytes)
local_within End read bytes local = local_by_within End read bytes (read bytes) local

within_past : {A : Type 0} (why : LabelKind) (rest : List ℕ) (r : Result (A × List ℕ) Stop) → WithinBy rest r → PastBy why rest r
within_past why rest (Ok x) within = within
within_past why rest (Err s) within = inr within

-- what goes past the digit and on stays past it
past_on : {A : Type 0} (why : LabelKind) (rest bytes : List ℕ) (r : Result (A × List ℕ) Stop) → length bytes ≤ length rest → WithinBy bytes r
    → PastBy why rest r
past_on why rest bytes (Ok x) past within = omega (arith, past, within)
past_on why rest bytes (Err s) past within = inr (omega (arith, past, within))

past_then_by : {A B : Type 0} (why : LabelKind) (rest : List ℕ) (r : Result (A × List ℕ) Stop) (second : A → Reader B) → PastBy why rest r
    → ((x : A × List ℕ) → WithinBy x.1 (second x.0 x.1)) → PastBy why rest (r >>= λ x. second x.0 x.1)
past_then_by why rest (Ok x) second past within = past_on why rest x.1 (second x.0 x.1) past (within x)
past_then_by why rest (Err s) second past within = past

past_then : {A B : Type 0} (why : LabelKind) (rest bytes : List ℕ) (first : Reader A) (second : A → Reader B) → PastBy why rest (first bytes)
    → ((x : A × List ℕ) → WithinBy x.1 (second x.0 x.1)) → PastBy why rest (then_read first second bytes)
past_then why rest bytes first second past within = past_then_by why rest (first bytes) second past within

-- numbers

abbrev AreDigits : List ℕ → Type 0
AreDigits digits = AllByRecursion (λ d. is_ascii_digit d ≡ true) digits

digits_past : (why : LabelKind) → why ≢ kind.Range → (most n : ℕ) (digits : List ℕ) (digit : ℕ) (rest : List ℕ) → AreDigits digits → is_ascii_digit digit ≡ true
    → PastBy why rest (digits_at why most n (digits ++ digit ∷ rest))
digits_past why other most n [] digit rest are is = elim (cases_Bool (eqb n 0 || ltb most (n * 10 + (digit - 48)))) [
  | inl bad ↦ rw (is, bad) (inl refl)
  | inr good ↦
      rw (is, good)
      (within_past why rest _ (local_within _ (digits_at why most (n * 10 + (digit - 48))) rest (local_digits why other most (n * 10 + (digit - 48)) rest)))
]
digits_past why other most n (d ∷ digits) digit rest are is = elim (cases_Bool (eqb n 0 || ltb most (n * 10 + (d - 48)))) [
  | inl bad ↦ rw (are.0, bad) (inl refl)
  | inr good ↦ rw (are.0, good) (digits_past why other most (n * 10 + (d - 48)) digits digit rest are.1 is)
]

number_past : (why : LabelKind) → why ≢ kind.Range → (least most : ℕ) (digits : List ℕ) (digit : ℕ) (rest : List ℕ) → AreDigits digits
    → is_ascii_digit digit ≡ true
    → PastBy why rest (number_at why least most (digits ++ digit ∷ rest))
unfolding number_at
number_past why other least most [] digit rest are is = elim (cases_Bool (ltb (digit - 48) least)) [
  | inl less ↦ rw (is, less) (inl refl)
  | inr enough ↦
      rw (is, enough) (within_past why rest _ (local_within _ (digits_at why most (digit - 48)) rest (local_digits why other most (digit - 48) rest)))
]
number_past why other least most (d ∷ digits) digit rest are is = elim (cases_Bool (ltb (d - 48) least)) [
  | inl less ↦ rw (are.0, less) (inl refl)
  | inr enough ↦ rw (are.0, enough) (digits_past why other most (d - 48) digits digit rest are.1 is)
]

-- compartments

compartment_is : kind.Compartment ≢ kind.Range
compartment_is e = absurd cc

grade_is : kind.Grade ≢ kind.Range
grade_is e = absurd cc

abbrev with_plus : ℕ → List ℕ
with_plus n = decimal n ++ codes "+"

compartments_past : (set before : List ℕ) (digits : List ℕ) (digit : ℕ) (rest : List ℕ) → AllByRecursion IsCompartment before → AreDigits digits
    → is_ascii_digit digit ≡ true → PastBy kind.Compartment rest (compartments_left set (flat_map with_plus before ++ (digits ++ digit ∷ rest)))
compartments_past set [] digits digit rest known are is =
    let bytes : List ℕ = digits ++ digit ∷ rest in
    rw (compartments_left_step set bytes)
    (past_then kind.Compartment rest bytes (number_at kind.Compartment 1 256) (after_compartment set)
    (number_past kind.Compartment compartment_is 1 256 digits digit rest are is)
    (λ x. local_within _ (after_compartment set x.0) x.1
    (local_after_compartment set x.0 x.1 (λ b t e. local_list (length t) (with_number x.0 set) t (omega arith)))))
compartments_past set (n ∷ before) digits digit rest known are is =
    let others : List ℕ = flat_map with_plus before ++ (digits ++ digit ∷ rest) in
    let text : flat_map with_plus (n ∷ before) ++ (digits ++ digit ∷ rest) ≡ decimal n ++ 43 ∷ others =
    append_assoc (with_plus n) (flat_map with_plus before) (digits ++ digit ∷ rest) ∙ append_assoc (decimal n) (codes "+") others in
    let read : number_at kind.Compartment 1 256 (decimal n ++ 43 ∷ others) ≡ Ok (n, 43 ∷ others) =
    number_again kind.Compartment 1 256 n (43 ∷ others) (omega arith) (omega arith) known.0.0 known.0.1 refl in
    let step : compartments_left set (flat_map with_plus (n ∷ before) ++ (digits ++ digit ∷ rest)) ≡ compartments_left (with_number n set) others =
    ap (compartments_left set) text ∙ compartments_more set (decimal n ++ 43 ∷ others) (43 ∷ others) n read refl in
    subst (PastBy kind.Compartment rest) (sym step) (compartments_past (with_number n set) before digits digit rest known.1 are is)

-- an element without the name of its policy

grade_past : (digits : List ℕ) (digit : ℕ) (rest : List ℕ) → AreDigits digits → is_ascii_digit digit ≡ true
    → PastBy kind.Grade rest (grade_at (digits ++ digit ∷ rest))
unfolding grade_at
grade_past digits digit rest are is =
    past_then kind.Grade rest (digits ++ digit ∷ rest) (number_at kind.Grade 0 65535) after_grade
    (number_past kind.Grade grade_is 0 65535 digits digit rest are is) (λ x. local_within _ (after_grade x.0) x.1 (local_after_grade x.0 x.1))

list_past : (grade : ℕ) (before digits : List ℕ) (digit : ℕ) (rest : List ℕ) → grade ≤ 65535 → AllByRecursion IsCompartment before → AreDigits digits
    → is_ascii_digit digit ≡ true → PastBy kind.Compartment rest (grade_at (decimal grade ++ 58 ∷ (flat_map with_plus before ++ (digits ++ digit ∷ rest))))
unfolding grade_at
list_past grade before digits digit rest fits known are is =
    let list : List ℕ = flat_map with_plus before ++ (digits ++ digit ∷ rest) in
    rw (number_again kind.Grade 0 65535 grade (58 ∷ list) (omega arith) (omega arith) (omega arith) fits refl, compartments_at_left list)
    (past_then kind.Compartment rest list (compartments_left []) (λ set rest. Ok (Grade grade set, rest))
    (compartments_past [] before digits digit rest known are is) (λ x. omega arith))

-- no word begins with a digit
digit_body : (d : ℕ) (t : List ℕ) → is_ascii_digit d ≡ true → body_at (d ∷ t) ≡ grade_at (d ∷ t)
unfolding body_at
digit_body d t is =
    let range = digit_range d is in
    rw (ne_eqb d 108 (omega arith), ne_eqb d 101 (omega arith), ne_eqb d 104 (omega arith)) refl

digits_body : (digits : List ℕ) (digit : ℕ) (rest : List ℕ) → AreDigits digits → is_ascii_digit digit ≡ true
    → body_at (digits ++ digit ∷ rest) ≡ grade_at (digits ++ digit ∷ rest)
digits_body [] digit rest are is = digit_body digit rest is
digits_body (d ∷ digits) digit rest are is = digit_body d (digits ++ digit ∷ rest) are.0

list_text : (grade list after : List ℕ) → (grade ++ codes ":" ++ list) ++ after ≡ grade ++ 58 ∷ (list ++ after)
list_text grade list after = simp append_assoc

pub body_past : (why : LabelKind) (front digits : List ℕ) (digit : ℕ) (rest : List ℕ) → NumberAfter why front → AreDigits digits → is_ascii_digit digit ≡ true
    → PastBy why rest (body_at (front ++ (digits ++ digit ∷ rest)))
body_past why front digits digit rest (to_grade why_is front_is) are is =
    rw (why_is, front_is, digits_body digits digit rest are is) (grade_past digits digit rest are is)
body_past why front digits digit rest (to_compartment grade before why_is fits known front_is) are is =
    let after : List ℕ = digits ++ digit ∷ rest in
    let text : front ++ after ≡ decimal grade ++ 58 ∷ (flat_map with_plus before ++ after) =
    ap (λ (t : List ℕ). t ++ after) front_is ∙ list_text (decimal grade) (flat_map with_plus before) after in
    rw (why_is, text, grade_from grade (58 ∷ (flat_map with_plus before ++ after)) fits) (list_past grade before digits digit rest fits known are is)

-- whole texts

pub element_past : (why : LabelKind) (rest bytes : List ℕ) → PastBy why rest (body_at bytes) → PastBy why rest (element_to_end (codes "mls/" ++ bytes))
unfolding element_to_end element_at
element_past why rest bytes past = past_then why rest bytes body_at finish past (λ x. local_within _ (finish x.0) x.1 (local_finish x.0 x.1))

active_past : (why : LabelKind) (rest bytes : List ℕ) → PastBy why rest (body_at bytes) → PastBy why rest (parts_to_end (codes "mls/" ++ bytes))
unfolding parts_to_end element_at
active_past why rest bytes past = past_then why rest bytes body_at parts_after past (λ x. local_within _ (parts_after x.0) x.1 (local_parts_after x.0 x.1))

abbrev range_to_end : Element → Element × Element → Reader Parts
range_to_end active ends = finish (record { active = active; low = ends.0; high = ends.1 })

-- from the bracket on
range_past : (why : LabelKind) (active : Element) (rest bytes : List ℕ) → PastBy why rest (range_low bytes) → PastBy why rest (parts_after active (40 ∷ bytes))
unfolding parts_after
range_past why active rest bytes past =
    rw (range_is active bytes)
    (past_then why rest bytes range_low (range_to_end active) past
    (λ x. local_within _ (range_to_end active x.0) x.1 (local_finish (record { active = active; low = x.0.0; high = x.0.1 }) x.1)))

behind_active : (active : Writing) (bytes : List ℕ) → IsWriting active
    → parts_to_end (codes "mls/" ++ (spelled_element active ++ 40 ∷ bytes)) ≡ parts_after (meant_element active) (40 ∷ bytes)
unfolding parts_to_end element_at
behind_active active bytes valid = rw (body_again active (40 ∷ bytes) valid (omega arith, ne_43 40 (inl (omega arith)))) refl

low_past : (why : LabelKind) (rest bytes : List ℕ) → PastBy why rest (body_at bytes) → PastBy why rest (range_low bytes)
unfolding range_low
low_past why rest bytes past = past_then why rest bytes body_at range_dash past (λ x. local_within _ (range_dash x.0) x.1 (local_range_dash x.0 x.1))

high_past : (why : LabelKind) (low : Writing) (rest bytes : List ℕ) → IsWriting low → PastBy why rest (body_at bytes)
    → PastBy why rest (range_low (spelled_element low ++ 45 ∷ bytes))
unfolding range_low range_dash range_high
high_past why low rest bytes valid past =
    rw (body_again low (45 ∷ bytes) valid (omega arith, ne_43 45 (inr (omega arith))))
    (past_then why rest bytes body_at (λ high. range_end (meant_element low, high)) past
    (λ x. local_within _ (range_end (meant_element low, x.0)) x.1 (local_literal (λ other. Unit {0}) (meant_element low, x.0) (codes ")") x.1)))

low_text : (active bytes : List ℕ) → (codes "mls/" ++ active ++ codes "(") ++ bytes ≡ codes "mls/" ++ (active ++ 40 ∷ bytes)
low_text active bytes = simp append_assoc

high_text : (active low bytes : List ℕ)
    → (codes "mls/" ++ active ++ codes "(" ++ low ++ codes "-") ++ bytes ≡ codes "mls/" ++ (active ++ 40 ∷ (low ++ 45 ∷ bytes))
high_text active low bytes = simp append_assoc

pub parts_past : (why : LabelKind) (before rest bytes : List ℕ) → BeforePart before → PastBy why rest (body_at bytes)
    → PastBy why rest (parts_to_end (before ++ bytes))
parts_past why before rest bytes (before_active is) past = rw is (active_past why rest bytes past)
parts_past why before rest bytes (before_low active valid is) past =
    rw (is, low_text (spelled_element active) bytes, behind_active active bytes valid)
    (range_past why (meant_element active) rest bytes (low_past why rest bytes past))
parts_past why before rest bytes (before_high active low valid low_valid is) past =
    rw (is, high_text (spelled_element active) (spelled_element low) bytes, behind_active active (spelled_element low ++ 45 ∷ bytes) valid)
    (range_past why (meant_element active) rest (spelled_element low ++ 45 ∷ bytes) (high_past why low rest bytes low_valid past))
