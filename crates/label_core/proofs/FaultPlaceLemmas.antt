-- Each reader of labels fails at the first byte.
use Rattle.std.proofs.Common.{◌≡◌, ◌≢◌, ℕ, zero, suc, ◌+◌, ◌-◌, ◌*◌, ◌<◌, ◌≤◌, false, cond, ◌||◌, eqb, ltb, List, [], ◌∷◌, length, drop, Result, Ok, Err, refl, sym, ap, ◌∙◌, arith, inl, inr}
use Rattle.std.specs.Prelude.{codes}
use Rattle.std.specs.Char.{is_ascii_digit}
use Rattle.std.proofs.lemmas.Bool.{cases_Bool, cases_eq, ne_eqb, eq-eqb, le-ltb}
use Rattle.label_core.specs.declared.element.Element.{Element}
use Rattle.label_core.specs.declared.element.Element.TheVariants.{Low, Equal, High, Grade}
use Rattle.label_core.specs.declared.fault.LabelKind.{LabelKind}
use Rattle.label_core.specs.declared.fault.LabelKind.TheVariants as kind
use Rattle.label_core.specs.declared.fault.Stop.{Stop}
use Rattle.label_core.specs.CompSet.{with_number}
use Rattle.label_core.specs.Subject.{Parts}
use Rattle.label_core.specs.Reading.{◌>>=◌, stop_at, begins, goes_on, after_literal, after_word, digits_at, number_at, compartments_at, grade_at, body_at, element_at, range_at, whole_element, whole_parts}
use Rattle.label_core.specs.Grammar.{word_low}
use Rattle.label_core.proofs.NumberLemmas.{begins_digit, number_takes}
use Rattle.label_core.proofs.CompartmentLemmas.{compartments_left, compartments_left_step, compartments_at_left}
use Rattle.label_core.proofs.RereadingLemmas.{IsEnd, end_begins, end_digit, ne_43, digits_at_end, number_at-first, literal_again, body_again}
use Rattle.label_core.proofs.StepLemmas.{alike, then_assoc}
use Rattle.label_core.proofs.LocalFaultLemmas.{Reader, Completes, Local, Starts, then_read, local_then, local_fault_end, local_fault_byte, local_none_end, local_none_byte, local_none, local_cons, local_same}

form_is : kind.Form ≢ kind.Range
form_is e = absurd cc

-- a literal, which gives a value
abbrev pub literal : {A : Type 0} → A → List ℕ → Reader A
literal a l bytes = after_literal l bytes >>= λ rest. Ok (a, rest)

literal_whole : {A : Type 0} (End : List ℕ → Type 0) (a : A) (l : List ℕ) → Completes End (literal a l) []
literal_whole End a l = record { more = l; value = a; again = λ other end. rw (literal_again l other) refl }

pub local_literal : {A : Type 0} (End : List ℕ → Type 0) (a : A) (l bytes : List ℕ) → Local End (literal a l) bytes
local_literal End a [] bytes = local_none End a bytes
local_literal End a (l ∷ ls) [] = local_fault_end End (literal a (l ∷ ls)) kind.Form form_is refl (literal_whole End a (l ∷ ls))
local_literal End a (l ∷ ls) (b ∷ bytes) = elim (cases_eq b l) [
  | inl same ↦ local_cons End (literal a ls) (literal a (l ∷ ls)) b (λ t. rw (eq-eqb b l same) refl) bytes (local_literal End a ls bytes)
  | inr other ↦ local_fault_byte End (literal a (l ∷ ls)) kind.Form b bytes form_is (λ t. rw (ne_eqb b l other) refl) (literal_whole End a (l ∷ ls))
]

-- digits, which no digit follows
abbrev pub NoDigit : List ℕ → Type 0
NoDigit other = begins_digit other ≡ false

pub local_digits : (why : LabelKind) → why ≢ kind.Range → (most n : ℕ) (bytes : List ℕ) → Local NoDigit (digits_at why most n) bytes
local_digits why other most n [] = local_none_end NoDigit (digits_at why most n) n refl (digits_at_end why most n)
local_digits why other most n (d ∷ bytes) = elim (cases_Bool (is_ascii_digit d)) [
  | inl digit ↦ elim (cases_Bool (eqb n 0 || ltb most (n * 10 + (d - 48)))) [
    | inl bad ↦
        local_fault_byte NoDigit (digits_at why most n) why d bytes other (λ t. rw (digit, bad) refl)
        (record { more = []; value = n; again = digits_at_end why most n })
    | inr good ↦
        local_cons NoDigit (digits_at why most (n * 10 + (d - 48))) (digits_at why most n) d (λ t. rw (digit, good) refl) bytes
        (local_digits why other most (n * 10 + (d - 48)) bytes)
  ]
  | inr none ↦ local_none_byte NoDigit (digits_at why most n) n d bytes (λ t. rw none refl) (digits_at_end why most n)
]

number_whole : (why : LabelKind) (least most : ℕ) → least ≤ 1 → Completes NoDigit (number_at why least most) []
number_whole why least most small = record {
  more = 49 ∷ [];
  value = 1;
  again = λ other none. number_at-first why least most 1 other small (omega arith) ∙ digits_at_end why most 1 other none;
}

pub local_number : (why : LabelKind) → why ≢ kind.Range → (least most : ℕ) (bytes : List ℕ) → least ≤ 1 → Local NoDigit (number_at why least most) bytes
unfolding number_at
local_number why other least most [] small = local_fault_end NoDigit (number_at why least most) kind.Form form_is refl (number_whole why least most small)
local_number why other least most (d ∷ bytes) small = elim (cases_Bool (is_ascii_digit d)) [
  | inl digit ↦ elim (cases_Bool (ltb (d - 48) least)) [
    | inl less ↦ local_fault_byte NoDigit (number_at why least most) why d bytes other (λ t. rw (digit, less) refl) (number_whole why least most small)
    | inr enough ↦
        local_cons NoDigit (digits_at why most (d - 48)) (number_at why least most) d (λ t. rw (digit, enough) refl) bytes
        (local_digits why other most (d - 48) bytes)
  ]
  | inr none ↦ local_fault_byte NoDigit (number_at why least most) kind.Form d bytes form_is (λ t. rw none refl) (number_whole why least most small)
]

-- compartments

compartment_is : kind.Compartment ≢ kind.Range
compartment_is e = absurd cc

abbrev pub after_compartment : List ℕ → ℕ → Reader (List ℕ)
after_compartment set n rest = cond (begins 43 rest) (compartments_left (with_number n set) (drop 1 rest)) (Ok (with_number n set, rest))

after_compartment_end : (set : List ℕ) (n : ℕ) (other : List ℕ) → IsEnd other → after_compartment set n other ≡ Ok (with_number n set, other)
after_compartment_end set n other end = rw (end_begins 43 other end (λ _. refl)) refl

after_compartment_starts : (set : List ℕ) (n : ℕ) → Starts NoDigit IsEnd (after_compartment set n)
after_compartment_starts set n = record { text = []; value = with_number n set; ends = end_digit; again = after_compartment_end set n }

pub local_after_compartment : (set : List ℕ) (n : ℕ) (rest : List ℕ)
    → ((b : ℕ) (t : List ℕ) → rest ≡ b ∷ t → Local IsEnd (compartments_left (with_number n set)) t)
    → Local IsEnd (after_compartment set n) rest
local_after_compartment set n [] list = local_none_end IsEnd (after_compartment set n) (with_number n set) refl (after_compartment_end set n)
local_after_compartment set n (b ∷ rest) list = elim (cases_eq b 43) [
  | inl plus ↦ local_cons IsEnd (compartments_left (with_number n set)) (after_compartment set n) b (λ t. rw (eq-eqb b 43 plus) refl) rest (list b rest refl)
  | inr other ↦ local_none_byte IsEnd (after_compartment set n) (with_number n set) b rest (λ t. rw (ne_eqb b 43 other) refl) (after_compartment_end set n)
]

local_list_step : (set bytes : List ℕ) → ((n : ℕ) (t : List ℕ) → length t < length bytes → Local IsEnd (compartments_left (with_number n set)) t)
    → Local IsEnd (compartments_left set) bytes
local_list_step set bytes others =
    local_same IsEnd (then_read (number_at kind.Compartment 1 256) (after_compartment set)) (compartments_left set) (compartments_left_step set) bytes
    (local_then NoDigit IsEnd (number_at kind.Compartment 1 256) (after_compartment set) (after_compartment_starts set) end_digit bytes
    (local_number kind.Compartment compartment_is 1 256 bytes (omega arith))
    (λ n e. local_after_compartment set n.0 n.1 (λ b t is.
    let shorter = (number_takes kind.Compartment 1 256 bytes n (omega arith) (omega arith) e).shorter in
    others n.0 t (omega (arith, shorter, ap length is)))))

pub local_list : (k : ℕ) (set bytes : List ℕ) → length bytes ≤ k → Local IsEnd (compartments_left set) bytes
local_list zero set bytes fits = local_list_step set bytes (λ n t shorter. absurd (omega arith))
local_list (suc k) set bytes fits = local_list_step set bytes (λ n t shorter. local_list k (with_number n set) t (omega arith))

-- what follows a grade

abbrev pub after_grade : ℕ → Reader Element
after_grade grade rest = cond (begins 58 rest) (compartments_at (drop 1 rest) >>= λ set. Ok (Grade grade set.0, set.1)) (Ok (Grade grade [], rest))

after_grade_end : (grade : ℕ) (other : List ℕ) → IsEnd other → after_grade grade other ≡ Ok (Grade grade [], other)
after_grade_end grade other end = rw (end_begins 58 other end (λ low. absurd (omega arith))) refl

after_grade_starts : (grade : ℕ) → Starts NoDigit IsEnd (after_grade grade)
after_grade_starts grade = record { text = []; value = Grade grade []; ends = end_digit; again = after_grade_end grade }

list_of_grade : ℕ → Reader Element
list_of_grade grade = then_read (compartments_left []) (λ set rest. Ok (Grade grade set, rest))

local_list_of_grade : (grade : ℕ) (bytes : List ℕ) → Local IsEnd (list_of_grade grade) bytes
unfolding list_of_grade
local_list_of_grade grade bytes =
    local_then IsEnd IsEnd (compartments_left []) (λ set rest. Ok (Grade grade set, rest))
    (λ set. record { text = []; value = Grade grade set; ends = λ other end. end; again = λ other end. refl }) (λ other end. end) bytes
    (local_list (length bytes) [] bytes (omega arith)) (λ set e. local_none IsEnd (Grade grade set.0) set.1)

pub local_after_grade : (grade : ℕ) (rest : List ℕ) → Local IsEnd (after_grade grade) rest
unfolding list_of_grade
local_after_grade grade [] = local_none_end IsEnd (after_grade grade) (Grade grade []) refl (after_grade_end grade)
local_after_grade grade (b ∷ rest) = elim (cases_eq b 58) [
  | inl colon ↦
      local_cons IsEnd (list_of_grade grade) (after_grade grade) b (λ t. rw (eq-eqb b 58 colon, compartments_at_left t) refl) rest
      (local_list_of_grade grade rest)
  | inr other ↦ local_none_byte IsEnd (after_grade grade) (Grade grade []) b rest (λ t. rw (ne_eqb b 58 other) refl) (after_grade_end grade)
]

-- words

abbrev word : List ℕ → List ℕ → Element → Reader Element
word short ending e bytes = after_word short ending bytes >>= λ rest. Ok (e, rest)

abbrev word_ending : List ℕ → Element → Reader Element
word_ending ending e rest = cond (goes_on ending rest) (after_literal ending rest) (Ok rest) >>= λ rest. Ok (e, rest)

word_ending_end : (l : ℕ) (ls : List ℕ) (e : Element) (other : List ℕ) → 48 ≤ l → IsEnd other → word_ending (l ∷ ls) e other ≡ Ok (e, other)
word_ending_end l ls e other letter end = rw (end_begins l other end (λ low. absurd (omega arith))) refl

local_word_ending : (l : ℕ) (ls : List ℕ) (e : Element) (bytes : List ℕ) → 48 ≤ l → Local IsEnd (word_ending (l ∷ ls) e) bytes
local_word_ending l ls e [] letter = local_none_end IsEnd (word_ending (l ∷ ls) e) e refl (λ other end. word_ending_end l ls e other letter end)
local_word_ending l ls e (b ∷ bytes) letter = elim (cases_eq b l) [
  | inl same ↦ local_cons IsEnd (literal e ls) (word_ending (l ∷ ls) e) b (λ t. rw (eq-eqb b l same) refl) bytes (local_literal IsEnd e ls bytes)
  | inr other ↦
      local_none_byte IsEnd (word_ending (l ∷ ls) e) e b bytes (λ t. rw (ne_eqb b l other) refl) (λ other end. word_ending_end l ls e other letter end)
]

-- any bytes may stand before what begins anywhere
abbrev Any : List ℕ → Type 0
Any other = Unit {0}

then_literal : {A B : Type 0} (a : A) (r : Result (List ℕ) Stop) (f : List ℕ → Result B Stop)
    → ◌>>=◌ {A = A × List ℕ} (r >>= λ rest. Ok (a, rest)) (λ x. f x.1) ≡ (r >>= f)
then_literal a (Ok rest) f = refl
then_literal a (Err s) f = refl

local_word : (short : List ℕ) (l : ℕ) (ls : List ℕ) (e : Element) (bytes : List ℕ) → 48 ≤ l → Local IsEnd (word short (l ∷ ls) e) bytes
unfolding after_word
local_word short l ls e bytes letter =
    local_same IsEnd (then_read (literal (tt {0}) short) (λ _. word_ending (l ∷ ls) e)) (word short (l ∷ ls) e)
    (λ t. then_assoc (after_literal short t) (λ rest. cond (goes_on (l ∷ ls) rest) (after_literal (l ∷ ls) rest) (Ok rest)) (λ rest. Ok (e, rest))
    ∙ sym (then_literal (tt {0}) (after_literal short t) (word_ending (l ∷ ls) e)))
    bytes
    (local_then Any IsEnd (literal (tt {0}) short) (λ _. word_ending (l ∷ ls) e)
    (λ _. record { text = []; value = e; ends = λ other end. tt; again = λ other end. word_ending_end l ls e other letter end }) (λ other end. tt) bytes
    (local_literal Any (tt {0}) short bytes) (λ x given. local_word_ending l ls e x.1 letter))

-- an element without the name of its policy

body_whole : Completes IsEnd body_at []
body_whole = record { more = codes "low"; value = Low; again = λ other end. body_again word_low other tt end }

body_starts : Starts Any IsEnd body_at
body_starts = record { text = codes "low"; value = Low; ends = λ other end. tt; again = λ other end. body_again word_low other tt end }

-- a grade whose first digit is this one
grade_from : ℕ → Reader Element
grade_from d = then_read (digits_at kind.Grade 65535 (d - 48)) after_grade

grade_is : kind.Grade ≢ kind.Range
grade_is e = absurd cc

local_grade_from : (d : ℕ) (bytes : List ℕ) → Local IsEnd (grade_from d) bytes
unfolding grade_from
local_grade_from d bytes =
    local_then NoDigit IsEnd (digits_at kind.Grade 65535 (d - 48)) after_grade after_grade_starts end_digit bytes
    (local_digits kind.Grade grade_is 65535 (d - 48) bytes) (λ n e. local_after_grade n.0 n.1)

pub local_body : (bytes : List ℕ) → Local IsEnd body_at bytes
unfolding body_at after_word grade_at number_at grade_from
local_body [] = local_fault_end IsEnd body_at kind.Form form_is refl body_whole
local_body (b ∷ bytes) = elim (cases_eq b 108) [
  | inl l ↦ local_cons IsEnd (word (codes "o") (codes "w") Low) body_at b (λ t. rw l refl) bytes (local_word (codes "o") 119 [] Low bytes (omega arith))
  | inr not_l ↦ elim (cases_eq b 101) [
    | inl e ↦
        local_cons IsEnd (word (codes "q") (codes "ual") Equal) body_at b (λ t. rw e refl) bytes
        (local_word (codes "q") 117 (codes "al") Equal bytes (omega arith))
    | inr not_e ↦ elim (cases_eq b 104) [
      | inl h ↦
          local_cons IsEnd (word (codes "i") (codes "gh") High) body_at b (λ t. rw h refl) bytes
          (local_word (codes "i") 103 (codes "h") High bytes (omega arith))
      | inr not_h ↦ elim (cases_Bool (is_ascii_digit b)) [
        | inl digit ↦
            local_cons IsEnd (grade_from b) body_at b
            (λ t. rw (ne_eqb b 108 not_l, ne_eqb b 101 not_e, ne_eqb b 104 not_h, digit, le-ltb (b - 48) 0 (omega arith)) refl) bytes (local_grade_from b bytes)
        | inr none ↦
            local_fault_byte IsEnd body_at kind.Form b bytes form_is (λ t. rw (ne_eqb b 108 not_l, ne_eqb b 101 not_e, ne_eqb b 104 not_h, none) refl)
            body_whole
      ]
    ]
  ]
]

-- an element

pub local_element : (text : List ℕ) → Local IsEnd element_at text
unfolding element_at
local_element text =
    local_same IsEnd (then_read (literal (tt {0}) (codes "mls/")) (λ _. body_at)) element_at
    (λ t. sym (then_literal (tt {0}) (after_literal (codes "mls/") t) body_at)) text
    (local_then Any IsEnd (literal (tt {0}) (codes "mls/")) (λ _. body_at) (λ _. body_starts) (λ other end. tt) text
    (local_literal Any (tt {0}) (codes "mls/") text) (λ x given. local_body x.1))

-- the end of the text

abbrev pub Nothing : List ℕ → Type 0
Nothing other = other ≡ []

nothing_ends : (other : List ℕ) → Nothing other → IsEnd other
nothing_ends other none = rw none tt

abbrev pub finish : {A : Type 0} → A → Reader A
finish a rest = cond (eqb (length rest) 0) (Ok (a, rest)) (Err (stop_at kind.Form rest))

finish_end : {A : Type 0} (a : A) (other : List ℕ) → Nothing other → finish a other ≡ Ok (a, other)
finish_end a other none = rw none refl

finish_starts : {A : Type 0} (a : A) → Starts IsEnd Nothing (finish a)
finish_starts a = record { text = []; value = a; ends = nothing_ends; again = finish_end a }

pub local_finish : {A : Type 0} (a : A) (rest : List ℕ) → Local Nothing (finish a) rest
local_finish a [] = local_none_end Nothing (finish a) a refl (finish_end a)
local_finish a (b ∷ rest) =
    local_fault_byte Nothing (finish a) kind.Form b rest form_is (λ t. rw (ne_eqb (suc (length t)) 0 (omega arith)) refl)
    (record { more = []; value = a; again = finish_end a })

-- a range

abbrev pub range_end : Element × Element → Reader (Element × Element)
range_end ends = literal ends (codes ")")

unfoldable pub range_high : Element → Reader (Element × Element)
range_high low = then_read body_at (λ high. range_end (low, high))

unfoldable pub range_dash : Element → Reader (Element × Element)
range_dash low = then_read (literal (tt {0}) (codes "-")) (λ _. range_high low)

unfoldable pub range_low : Reader (Element × Element)
range_low = then_read body_at range_dash

range_end_starts : (ends : Element × Element) → Starts IsEnd Nothing (range_end ends)
range_end_starts ends = record { text = codes ")"; value = ends; ends = λ other none. (omega arith, ne_43 41 (inl (omega arith))); again = λ other none. refl }

local_range_high : (low : Element) (bytes : List ℕ) → Local Nothing (range_high low) bytes
unfolding range_high
local_range_high low bytes =
    local_then IsEnd Nothing body_at (λ high. range_end (low, high)) (λ high. range_end_starts (low, high)) nothing_ends bytes (local_body bytes)
    (λ x given. local_literal Nothing (low, x.0) (codes ")") x.1)

range_high_starts : (low : Element) → Starts Any Nothing (range_high low)
unfolding range_high body_at after_word
range_high_starts low = record { text = codes "low)"; value = (low, Low); ends = λ other none. tt; again = λ other none. refl }

pub local_range_dash : (low : Element) (bytes : List ℕ) → Local Nothing (range_dash low) bytes
unfolding range_dash
local_range_dash low bytes =
    local_then Any Nothing (literal (tt {0}) (codes "-")) (λ _. range_high low) (λ _. range_high_starts low) (λ other none. tt) bytes
    (local_literal Any (tt {0}) (codes "-") bytes) (λ x given. local_range_high low x.1)

range_dash_starts : (low : Element) → Starts IsEnd Nothing (range_dash low)
unfolding range_dash range_high body_at after_word
range_dash_starts low = record {
  text = codes "-low)";
  value = (low, Low);
  ends = λ other none. (omega arith, ne_43 45 (inr (omega arith)));
  again = λ other none. refl;
}

pub local_range_low : (bytes : List ℕ) → Local Nothing range_low bytes
unfolding range_low
local_range_low bytes =
    local_then IsEnd Nothing body_at range_dash range_dash_starts nothing_ends bytes (local_body bytes) (λ x given. local_range_dash x.0 x.1)

-- the readers of a range in the words of its definition
pub range_is : (active : Element) (t : List ℕ) → range_at active (40 ∷ t) ≡ range_low t
unfolding range_at range_low range_dash range_high
range_is active t = alike (body_at t)
    (λ low. after_literal (codes "-") low.1 >>= λ rest. body_at rest >>= λ high. after_literal (codes ")") high.1 >>= λ end. Ok ((low.0, high.0), end))
    (λ low. then_read (literal (tt {0}) (codes "-")) (λ _. then_read body_at (λ high. range_end (low.0, high))) low.1)
    (λ low e. sym (then_literal (tt {0}) (after_literal (codes "-") low.1) (then_read body_at (λ high. range_end (low.0, high)))))

range_none : (active : Element) (other : List ℕ) → Nothing other → range_at active other ≡ Ok ((active, active), other)
unfolding range_at
range_none active other none = rw none refl

pub local_range : (active : Element) (bytes : List ℕ) → Local Nothing (range_at active) bytes
unfolding range_at
local_range active [] = local_none_end Nothing (range_at active) (active, active) refl (range_none active)
local_range active (b ∷ bytes) = elim (cases_eq b 40) [
  | inl open' ↦
      local_cons Nothing range_low (range_at active) b (λ t. ap (λ k. range_at active (k ∷ t)) open' ∙ range_is active t) bytes (local_range_low bytes)
  | inr other ↦ local_none_byte Nothing (range_at active) (active, active) b bytes (λ t. rw (ne_eqb b 40 other) refl) (range_none active)
]

-- whole texts

unfoldable pub element_to_end : Reader Element
element_to_end = then_read element_at finish

pub local_element_to_end : (text : List ℕ) → Local Nothing element_to_end text
unfolding element_to_end
local_element_to_end text = local_then IsEnd Nothing element_at finish finish_starts nothing_ends text (local_element text) (λ x given. local_finish x.0 x.1)

unfoldable pub parts_after : Element → Reader Parts
parts_after active = then_read (range_at active) (λ ends. finish (record { active = active; low = ends.0; high = ends.1 }))

pub local_parts_after : (active : Element) (bytes : List ℕ) → Local Nothing (parts_after active) bytes
unfolding parts_after
local_parts_after active bytes =
    local_then Nothing Nothing (range_at active) (λ ends. finish (record { active = active; low = ends.0; high = ends.1 }))
    (λ ends. record {
      text = [];
      value = record { active = active; low = ends.0; high = ends.1 };
      ends = λ other none. none;
      again = finish_end (record { active = active; low = ends.0; high = ends.1 });
    })
    (λ other none. none) bytes (local_range active bytes) (λ x given. local_finish (record { active = active; low = x.0.0; high = x.0.1 }) x.1)

parts_after_starts : (active : Element) → Starts IsEnd Nothing (parts_after active)
unfolding parts_after
parts_after_starts active = record {
  text = [];
  value = record { active = active; low = active; high = active };
  ends = nothing_ends;
  again = λ other none. rw (range_none active other none) (finish_end (record { active = active; low = active; high = active }) other none);
}

unfoldable pub parts_to_end : Reader Parts
parts_to_end = then_read element_at parts_after

pub local_parts_to_end : (text : List ℕ) → Local Nothing parts_to_end text
unfolding parts_to_end
local_parts_to_end text =
    local_then IsEnd Nothing element_at parts_after parts_after_starts nothing_ends text (local_element text) (λ x given. local_parts_after x.0 x.1)

-- what a whole text gives

finish_is : {A : Type 0} (a : A) (rest : List ℕ) → (finish a rest >>= λ x. Ok x.0) ≡ cond (eqb (length rest) 0) (Ok a) (Err (stop_at kind.Form rest))
finish_is a rest = elim (cases_Bool (eqb (length rest) 0)) [ inl whole ↦ rw whole refl | inr more ↦ rw more refl ]

pub whole_element_is : (text : List ℕ) → whole_element text ≡ (element_to_end text >>= λ x. Ok x.0)
unfolding whole_element element_to_end
whole_element_is text =
    alike (element_at text) (λ x. cond (eqb (length x.1) 0) (Ok x.0) (Err (stop_at kind.Form x.1))) (λ x. finish x.0 x.1 >>= λ y. Ok y.0)
    (λ x given. sym (finish_is x.0 x.1))
    ∙ sym (then_assoc (element_at text) (λ x. finish x.0 x.1) (λ y. Ok y.0))

abbrev parts_of : Element → Element × Element → Parts
parts_of active ends = record { active = active; low = ends.0; high = ends.1 }

parts_after_is : (active : Element) (bytes : List ℕ)
    → (range_at active bytes >>= λ range. cond (eqb (length range.1) 0) (Ok (parts_of active range.0)) (Err (stop_at kind.Form range.1)))
    ≡ (parts_after active bytes >>= λ x. Ok x.0)
unfolding parts_after
parts_after_is active bytes =
    alike (range_at active bytes) (λ range. cond (eqb (length range.1) 0) (Ok (parts_of active range.0)) (Err (stop_at kind.Form range.1)))
    (λ range. finish (parts_of active range.0) range.1 >>= λ y. Ok y.0) (λ range given. sym (finish_is (parts_of active range.0) range.1))
    ∙ sym (then_assoc (range_at active bytes) (λ range. finish (parts_of active range.0) range.1) (λ y. Ok y.0))

pub whole_parts_is : (text : List ℕ) → whole_parts text ≡ (parts_to_end text >>= λ x. Ok x.0)
unfolding whole_parts parts_to_end
whole_parts_is text =
    alike (element_at text) (λ x. range_at x.0 x.1 >>= λ range. cond (eqb (length range.1) 0) (Ok (parts_of x.0 range.0)) (Err (stop_at kind.Form range.1)))
    (λ x. parts_after x.0 x.1 >>= λ y. Ok y.0) (λ x given. parts_after_is x.0 x.1)
    ∙ sym (then_assoc (element_at text) (λ x. parts_after x.0 x.1) (λ y. Ok y.0))
