-- What is spelled so is read, up to what ends it.
use Rattle.std.proofs.Common.{◌≡◌, ◌≢◌, ◌⊎◌, ℕ, ◌+◌, ◌-◌, ◌*◌, ◌/◌, ◌%◌, ◌^◌, ◌<◌, ◌≤◌, true, false, eqb, ltb, leb, List, [], ◌∷◌, ◌++◌, Ok, refl, sym, ap, ◌∙◌, arith, inl, inr, append_assoc, append-nil}
use Rattle.std.specs.Prelude.{codes, decimal, flat_map, fold}
use Rattle.std.specs.Char.{is_ascii_digit}
use Rattle.std.specs.List.{AllByRecursion}
use Rattle.std.proofs.lemmas.Bool.{le-ltb, le-leb, lt-leb, ne_eqb, eq-eqb, and_from, and_left}
use Rattle.std.proofs.lemmas.Fmt.{decimal_by_steps}
use Rattle.label_core.specs.declared.element.Element.{Element}
use Rattle.label_core.specs.declared.element.Element.TheVariants.{Grade}
use Rattle.label_core.specs.declared.fault.LabelKind.{LabelKind}
use Rattle.label_core.specs.declared.fault.LabelKind.TheVariants as kind
use Rattle.label_core.specs.CompSet.{IsCompartment, with_number, set_of}
use Rattle.label_core.specs.Subject.{Parts}
use Rattle.label_core.specs.Reading.{begins, after_literal, after_word, digits_at, number_at, compartments_at, grade_at, body_at, element_at, range_at, whole_element, whole_parts, whole_subject, subject_or_fault}
use Rattle.label_core.specs.Grammar.{Writing, word_low, word_lo, word_equal, word_eq, word_high, word_hi, grade_alone, grade_with_set, IsWriting, spelled_element, meant_element, PartsWriting, active_alone, with_range, ArePartsWriting, spelled_parts, meant_parts, SpellsElement, SpellsParts}
use Rattle.label_core.proofs.NumberLemmas.{begins_digit}
use Rattle.label_core.proofs.CompartmentLemmas.{compartments_left, compartments_left_step, compartments_at_left}
use Rattle.label_core.proofs.SpellingLemmas.{plus, regrouped}

-- nothing follows, or a byte that goes on with no element: one below the digits, but no plus sign
abbrev pub IsEnd : List ℕ → Type 0
IsEnd [] = Unit {0}
IsEnd (b ∷ rest) = (b < 48) × (b ≢ 43)

pub end_begins : (b : ℕ) (rest : List ℕ) → IsEnd rest → (b < 48 → b ≡ 43) → begins b rest ≡ false
end_begins b [] end other = refl
end_begins b (c ∷ rest) end other = ne_eqb c b (λ e. end.1 (e ∙ other (omega arith)))

pub end_digit : (rest : List ℕ) → IsEnd rest → begins_digit rest ≡ false
end_digit [] end = refl
end_digit (b ∷ rest) end = and_left (leb 48 b) (leb b 57) (lt-leb 48 b end.0)

pub is_digit : (d : ℕ) → 48 ≤ d → d ≤ 57 → is_ascii_digit d ≡ true
is_digit d low high = and_from (leb 48 d) (leb d 57) (le-leb 48 d low) (le-leb d 57 high)

-- one digit that goes on
pub digits_at-more : (why : LabelKind) (most n d : ℕ) (rest : List ℕ) → 1 ≤ n → d < 10 → n * 10 + d ≤ most
    → digits_at why most n ((48 + d) ∷ rest) ≡ digits_at why most (n * 10 + d) rest
digits_at-more why most n d rest some small fits =
    let digit : is_ascii_digit (48 + d) ≡ true = is_digit (48 + d) (omega arith) (omega arith) in
    let value : 48 + d - 48 ≡ d = omega arith in
    let not_zero : eqb n 0 ≡ false = ne_eqb n 0 (omega arith) in
    let within : ltb most (n * 10 + d) ≡ false = le-ltb most (n * 10 + d) fits in
    rw (digit, value, not_zero, within) refl

-- where no digit follows, the number is as it is
pub digits_at_end : (why : LabelKind) (most n : ℕ) (rest : List ℕ) → begins_digit rest ≡ false → digits_at why most n rest ≡ Ok (n, rest)
digits_at_end why most n [] none = refl
digits_at_end why most n (b ∷ rest) none = rw none refl

-- the first digit
pub number_at-first : (why : LabelKind) (least most d : ℕ) (rest : List ℕ) → least ≤ d → d < 10
    → number_at why least most ((48 + d) ∷ rest) ≡ digits_at why most d rest
unfolding number_at
number_at-first why least most d rest enough small =
    let digit : is_ascii_digit (48 + d) ≡ true = is_digit (48 + d) (omega arith) (omega arith) in
    let value : 48 + d - 48 ≡ d = omega arith in
    let not_less : ltb d least ≡ false = le-ltb d least enough in
    rw (digit, value, not_less) refl

-- the digits of a number lead to it
pub number_at-decimal : (why : LabelKind) (least most n : ℕ) (rest : List ℕ) → least ≤ 1 → most < 2 ^ 16 → least ≤ n → n ≤ most
    → number_at why least most (decimal n ++ rest) ≡ digits_at why most n rest
number_at-decimal why least most n rest one fits from to =
    let P : ℕ → List ℕ → Type 0 = λ n ds. (rest : List ℕ) → least ≤ n → n ≤ most → number_at why least most (ds ++ rest) ≡ digits_at why most n rest in
    decimal_by_steps P
    (λ n small rest from to. number_at-first why least most n rest from small)
    (λ n ds ten front rest from to.
    let whole : n / 10 * 10 + n % 10 ≡ n = omega arith in
    ap (number_at why least most) (append_assoc ds ((48 + n % 10) ∷ []) rest)
    ∙ front ((48 + n % 10) ∷ rest) (omega arith) (omega arith)
    ∙ digits_at-more why most (n / 10) (n % 10) rest (omega arith) (omega arith) (omega arith)
    ∙ ap (λ k. digits_at why most k rest) whole)
    n (omega arith) rest from to

pub number_again : (why : LabelKind) (least most n : ℕ) (rest : List ℕ) → least ≤ 1 → most < 2 ^ 16 → least ≤ n → n ≤ most → begins_digit rest ≡ false
    → number_at why least most (decimal n ++ rest) ≡ Ok (n, rest)
number_again why least most n rest one fits from to none = number_at-decimal why least most n rest one fits from to ∙ digits_at_end why most n rest none

-- a literal
pub literal_again : (literal rest : List ℕ) → after_literal literal (literal ++ rest) ≡ Ok rest
literal_again [] rest = refl
literal_again (l ∷ ls) rest = rw (eq-eqb l l refl) (literal_again ls rest)

-- no letter begins a number
begins_decimal : (b n : ℕ) (rest : List ℕ) → 57 < b → n < 2 ^ 16 → begins b (decimal n ++ rest) ≡ false
begins_decimal b n rest letter fits =
    decimal_by_steps (λ n ds. (rest : List ℕ) → begins b (ds ++ rest) ≡ false)
    (λ n small rest. ne_eqb (48 + n) b (omega arith))
    (λ n ds ten front rest. ap (begins b) (append_assoc ds ((48 + n % 10) ∷ []) rest) ∙ front ((48 + n % 10) ∷ rest))
    n (omega arith) rest

-- compartments that are joined by plus signs
pub list_again : (set : List ℕ) (first : ℕ) (more rest : List ℕ) → AllByRecursion IsCompartment (first ∷ more) → IsEnd rest
    → compartments_left set ((decimal first ++ flat_map plus more) ++ rest) ≡ Ok (fold (λ set n. with_number n set) set (first ∷ more), rest)
list_again set first [] rest are end =
    let text : (decimal first ++ []) ++ rest ≡ decimal first ++ rest = ap (λ (t : List ℕ). t ++ rest) (append-nil (decimal first)) in
    ap (compartments_left set) text ∙ compartments_left_step set (decimal first ++ rest)
    ∙ rw (number_again kind.Compartment 1 256 first rest (omega arith) (omega arith) are.0.0 are.0.1 (end_digit rest end), end_begins 43 rest end (λ _. refl))
    refl
list_again set first (m ∷ ms) rest are end =
    let others : List ℕ = (decimal m ++ flat_map plus ms) ++ rest in
    let text : (decimal first ++ flat_map plus (m ∷ ms)) ++ rest ≡ decimal first ++ 43 ∷ others = append_assoc (decimal first) (flat_map plus (m ∷ ms)) rest in
    ap (compartments_left set) text ∙ compartments_left_step set (decimal first ++ 43 ∷ others)
    ∙ rw (number_again kind.Compartment 1 256 first (43 ∷ others) (omega arith) (omega arith) are.0.0 are.0.1 refl)
    (list_again (with_number first set) m ms rest are.1 end)

grade_again : (grade : ℕ) (rest : List ℕ) → grade ≤ 65535 → IsEnd rest → grade_at (decimal grade ++ rest) ≡ Ok (Grade grade [], rest)
unfolding grade_at
grade_again grade rest fits end =
    rw (
      number_again kind.Grade 0 65535 grade rest (omega arith) (omega arith) (omega arith) fits (end_digit rest end),
      end_begins 58 rest end (λ low. absurd (omega arith)),
    )
    refl

listed_again : (grade first : ℕ) (more rest : List ℕ) → grade ≤ 65535 → AllByRecursion IsCompartment (first ∷ more) → IsEnd rest
    → grade_at (decimal grade ++ 58 ∷ ((decimal first ++ flat_map plus more) ++ rest)) ≡ Ok (Grade grade (set_of (first ∷ more)), rest)
unfolding grade_at
listed_again grade first more rest fits are end =
    let list : List ℕ = (decimal first ++ flat_map plus more) ++ rest in
    let set : compartments_at list ≡ Ok (set_of (first ∷ more), rest) = compartments_at_left list ∙ list_again [] first more rest are end in
    rw (number_again kind.Grade 0 65535 grade (58 ∷ list) (omega arith) (omega arith) (omega arith) fits refl, set) refl

-- a grade begins with no letter
pub grade_from : (grade : ℕ) (rest : List ℕ) → grade ≤ 65535 → body_at (decimal grade ++ rest) ≡ grade_at (decimal grade ++ rest)
unfolding body_at
grade_from grade rest fits =
    rw (
      begins_decimal 108 grade rest (omega arith) (omega arith),
      begins_decimal 101 grade rest (omega arith) (omega arith),
      begins_decimal 104 grade rest (omega arith) (omega arith),
    )
    refl

pub body_again : (w : Writing) (rest : List ℕ) → IsWriting w → IsEnd rest → body_at (spelled_element w ++ rest) ≡ Ok (meant_element w, rest)
unfolding body_at after_word
body_again word_low rest is end = refl
body_again word_lo rest is end = rw (end_begins 119 rest end (λ low. absurd (omega arith))) refl
body_again word_equal rest is end = refl
body_again word_eq rest is end = rw (end_begins 117 rest end (λ low. absurd (omega arith))) refl
body_again word_high rest is end = refl
body_again word_hi rest is end = rw (end_begins 103 rest end (λ low. absurd (omega arith))) refl
body_again (grade_alone grade) rest is end = grade_from grade rest is ∙ grade_again grade rest is end
body_again (grade_with_set grade first more) rest is end =
    let text : spelled_element (grade_with_set grade first more) ++ rest ≡ decimal grade ++ 58 ∷ ((decimal first ++ flat_map plus more) ++ rest) =
    sym (regrouped (decimal grade) (decimal first) (flat_map plus more) rest) in
    ap body_at text ∙ grade_from grade (58 ∷ ((decimal first ++ flat_map plus more) ++ rest)) is.0 ∙ listed_again grade first more rest is.0 is.1 end

element_again : (w : Writing) (rest : List ℕ) → IsWriting w → IsEnd rest → element_at (codes "mls/" ++ (spelled_element w ++ rest)) ≡ Ok (meant_element w, rest)
unfolding element_at
element_again w rest is end = body_again w rest is end

pub whole_element_again : (text : List ℕ) (e : Element) → SpellsElement text e → whole_element text ≡ Ok e
unfolding whole_element
whole_element_again text e spells =
    let w = spells.writing in
    let whole : text ≡ codes "mls/" ++ (spelled_element w ++ []) =
    spells.spelling ∙ ap (λ (t : List ℕ). codes "mls/" ++ t) (sym (append-nil (spelled_element w))) in
    ap whole_element whole ∙ rw (element_again w [] spells.valid tt) (ap (λ (e : Element). Ok e) spells.meaning)

pub ne_43 : (b : ℕ) → b < 43 ⊎ 43 < b → b ≢ 43
ne_43 b (inl low) e = absurd (omega arith)
ne_43 b (inr high) e = absurd (omega arith)

-- three parts in brackets
range_again : (active : Element) (low high : Writing) → IsWriting low → IsWriting high
    → range_at active (40 ∷ (spelled_element low ++ 45 ∷ (spelled_element high ++ 41 ∷ []))) ≡ Ok ((meant_element low, meant_element high), [])
unfolding range_at
range_again active low high low_is high_is =
    rw (
      body_again low (45 ∷ (spelled_element high ++ 41 ∷ [])) low_is (omega arith, ne_43 45 (inr (omega arith))),
      body_again high (41 ∷ []) high_is (omega arith, ne_43 41 (inl (omega arith))),
    )
    refl

spelled_parts_again : (w : PartsWriting) → ArePartsWriting w → whole_parts (spelled_parts w) ≡ Ok (meant_parts w)
unfolding whole_parts range_at
spelled_parts_again (active_alone active) is =
    let whole : codes "mls/" ++ spelled_element active ≡ codes "mls/" ++ (spelled_element active ++ []) =
    ap (λ (t : List ℕ). codes "mls/" ++ t) (sym (append-nil (spelled_element active))) in
    ap whole_parts whole ∙ rw (element_again active [] is tt) refl
spelled_parts_again (with_range active low high) is =
    let range : List ℕ = 40 ∷ (spelled_element low ++ 45 ∷ (spelled_element high ++ 41 ∷ [])) in
    let whole : spelled_parts (with_range active low high) ≡ codes "mls/" ++ (spelled_element active ++ range) = simp append_assoc in
    ap whole_parts whole
    ∙ rw (element_again active range is.0 (omega arith, ne_43 40 (inl (omega arith))), range_again (meant_element active) low high is.1 is.2) refl

pub whole_parts_again : (text : List ℕ) (parts : Parts) → SpellsParts text parts → whole_parts text ≡ Ok parts
whole_parts_again text parts spells = ap whole_parts spells.spelling ∙ spelled_parts_again spells.writing spells.valid ∙ ap (λ (p : Parts). Ok p) spells.meaning

pub whole_subject_again : (text : List ℕ) (parts : Parts) → SpellsParts text parts → whole_subject text ≡ subject_or_fault parts
unfolding whole_subject
whole_subject_again text parts spells = rw (whole_parts_again text parts spells) refl
