-- A fault is a form, or a digit stands there of a number of the fault's kind.
use Rattle.std.proofs.Common.{◌≡◌, ◌⊎◌, inl, inr, ℕ, zero, suc, ◌+◌, ◌-◌, ◌*◌, ◌≤◌, true, cond, ◌||◌, eqb, ltb, List, [], ◌∷◌, ◌++◌, length, drop, Result, Ok, Err, refl, sym, ap, ◌∙◌, arith, append_assoc}
use Rattle.std.specs.Prelude.{codes, decimal, flat_map}
use Rattle.std.specs.Char.{is_ascii_digit}
use Rattle.std.specs.List.{AllByRecursion}
use Rattle.label_core.specs.declared.element.Element.{Element}
use Rattle.label_core.specs.declared.element.Element.TheVariants.{Low, Equal, High, Grade}
use Rattle.label_core.specs.declared.fault.LabelKind.{LabelKind}
use Rattle.label_core.specs.declared.fault.LabelKind.TheVariants as kind
use Rattle.label_core.specs.declared.fault.Stop.{Stop}
use Rattle.label_core.specs.CompSet.{IsCompartment, with_number}
use Rattle.label_core.specs.Reading.{◌>>=◌, stop_at, begins, goes_on, after_literal, after_word, digits_at, number_at, compartments_within, compartments_at, grade_at, body_at, element_at, range_at}
use Rattle.label_core.specs.Grammar.{Writing, IsWriting, spelled_element}
use Rattle.label_core.specs.Faults.{NumberAfter, to_grade, to_compartment, BeforePart, before_active, before_low, before_high}
use Rattle.label_core.proofs.StepLemmas.{choice_cases, err_not_ok}
use Rattle.label_core.proofs.NumberLemmas.{number_takes}
use Rattle.label_core.proofs.CompartmentLemmas.{compartments_after, compartments_within-suc, compartments_at_left}
use Rattle.label_core.proofs.SpellingLemmas.{begins_cons, literal_takes, body_takes, element_takes}
use Rattle.label_core.proofs.FaultPlaceLemmas.{finish, element_to_end, parts_after, parts_to_end}

-- a step's fault is that of the first reader, or that of the second on what the first left
pub step_fault : {A B : Type 0} (r : Result A Stop) (f : A → Result B Stop) (s : Stop) → (r >>= f) ≡ Err s
    → (r ≡ Err s) ⊎ ((x : A) × (r ≡ Ok x) × (f x ≡ Err s))
step_fault (Ok x) f s e = inr (x, refl, e)
step_fault (Err t) f s e = let same : t ≡ s = cc in inl (ap (λ (stop : Stop). Err stop) same)

abbrev err_of : {A : Type 0} → Stop → Result A Stop
err_of s = Err s

err_is : {A : Type 0} (s t : Stop) → err_of {A = A} s ≡ err_of t → s ≡ t
err_is s t e = cc

-- a digit stands at the fault, behind digits or none, and behind a front of which this holds
pub record AtDigit (Front : LabelKind → List ℕ → Type 0) (bytes : List ℕ) (s : Stop) : Type 0 where
  pub front : List ℕ
  pub digits : List ℕ
  pub digit : ℕ
  pub rest : List ℕ
  pub number : Front s.kind front
  pub are_digits : AllByRecursion (λ d. is_ascii_digit d ≡ true) digits
  pub is_digit : is_ascii_digit digit ≡ true
  pub parts : bytes ≡ front ++ (digits ++ digit ∷ rest)
  pub place : s.left ≡ length (digit ∷ rest)

abbrev pub FormOrDigit : (LabelKind → List ℕ → Type 0) → List ℕ → Stop → Type 0
FormOrDigit Front bytes s = (s.kind ≡ kind.Form) ⊎ AtDigit Front bytes s

-- behind more bytes in front
behind : (First Front : LabelKind → List ℕ → Type 0) (text bytes whole : List ℕ) (s : Stop) → whole ≡ text ++ bytes
    → ((front : List ℕ) → First s.kind front → Front s.kind (text ++ front)) → FormOrDigit First bytes s → FormOrDigit Front whole s
behind First Front text bytes whole s is goes (inl form) = inl form
behind First Front text bytes whole s is goes (inr at) = inr (record {
  front = text ++ at.front;
  digits = at.digits;
  digit = at.digit;
  rest = at.rest;
  number = goes at.front at.number;
  are_digits = at.are_digits;
  is_digit = at.is_digit;
  parts = is ∙ ap (λ (t : List ℕ). text ++ t) at.parts ∙ sym (append_assoc text at.front (at.digits ++ at.digit ∷ at.rest));
  place = at.place;
})

-- literals and words have forms alone

literal_form : (literal bytes : List ℕ) (s : Stop) → after_literal literal bytes ≡ Err s → s.kind ≡ kind.Form
literal_form [] bytes s e = err_not_ok s bytes (sym e)
literal_form (l ∷ ls) [] s e = ap (λ (t : Stop). t.kind) (err_is s (stop_at kind.Form []) (sym e))
literal_form (l ∷ ls) (b ∷ bytes) s e = elim (choice_cases (eqb b l) _ _ (err_of s) e) [
  | inl same ↦ literal_form ls bytes s same.1
  | inr other ↦ ap (λ (t : Stop). t.kind) (err_is s (stop_at kind.Form (b ∷ bytes)) (sym other.1))
]

word_form : (short ending bytes : List ℕ) (e : Element) (s : Stop) → (after_word short ending bytes >>= λ rest. Ok (e, rest)) ≡ err_of {A = Element × List ℕ} s
    → s.kind ≡ kind.Form
unfolding after_word
word_form short ending bytes e s given = elim (step_fault (after_word short ending bytes) (λ rest. Ok (e, rest)) s given) [
  | inr never ↦ err_not_ok s (e, never.0) (sym never.2)
  | inl stops ↦ elim (step_fault (after_literal short bytes) (λ rest. cond (goes_on ending rest) (after_literal ending rest) (Ok rest)) s stops) [
    | inl stops ↦ literal_form short bytes s stops
    | inr goes ↦ elim (choice_cases (goes_on ending goes.0) _ _ (err_of s) goes.2) [
      | inl long ↦ literal_form ending goes.0 s long.1
      | inr brief ↦ err_not_ok s goes.0 (sym brief.1)
    ]
  ]
]

-- numbers

-- the digits of a number of this kind
abbrev Alone : LabelKind → LabelKind → List ℕ → Type 0
Alone of why front = (why ≡ of) × (front ≡ [])

digits_fault : (why : LabelKind) (most n : ℕ) (bytes : List ℕ) (s : Stop) → digits_at why most n bytes ≡ Err s → AtDigit (Alone why) bytes s
digits_fault why most n [] s e = err_not_ok s (n, []) (sym e)
digits_fault why most n (d ∷ bytes) s e = elim (choice_cases (is_ascii_digit d) _ _ (err_of s) e) [
  | inr other ↦ err_not_ok s (n, d ∷ bytes) (sym other.1)
  | inl digit ↦ elim (choice_cases (eqb n 0 || ltb most (n * 10 + (d - 48))) _ _ (err_of s) digit.1) [
    | inl bad ↦
        let is = err_is s (stop_at why (d ∷ bytes)) (sym bad.1) in
        record {
          front = [];
          digits = [];
          digit = d;
          rest = bytes;
          number = (ap (λ (t : Stop). t.kind) is, refl);
          are_digits = tt;
          is_digit = digit.0;
          parts = refl;
          place = ap (λ (t : Stop). t.left) is;
        }
    | inr good ↦
        let at = digits_fault why most (n * 10 + (d - 48)) bytes s good.1 in
        record {
          front = [];
          digits = d ∷ at.digits;
          digit = at.digit;
          rest = at.rest;
          number = (at.number.0, refl);
          are_digits = (digit.0, at.are_digits);
          is_digit = at.is_digit;
          parts = ap (λ (t : List ℕ). d ∷ t) (at.parts ∙ ap (λ (t : List ℕ). t ++ (at.digits ++ at.digit ∷ at.rest)) at.number.1);
          place = at.place;
        }
  ]
]

number_fault : (why : LabelKind) (least most : ℕ) (bytes : List ℕ) (s : Stop) → number_at why least most bytes ≡ Err s → FormOrDigit (Alone why) bytes s
unfolding number_at
number_fault why least most [] s e = inl (ap (λ (t : Stop). t.kind) (err_is s (stop_at kind.Form []) (sym e)))
number_fault why least most (d ∷ bytes) s e = elim (choice_cases (is_ascii_digit d) _ _ (err_of s) e) [
  | inr other ↦ inl (ap (λ (t : Stop). t.kind) (err_is s (stop_at kind.Form (d ∷ bytes)) (sym other.1)))
  | inl digit ↦ elim (choice_cases (ltb (d - 48) least) _ _ (err_of s) digit.1) [
    | inl less ↦
        let is = err_is s (stop_at why (d ∷ bytes)) (sym less.1) in
        inr (record {
          front = [];
          digits = [];
          digit = d;
          rest = bytes;
          number = (ap (λ (t : Stop). t.kind) is, refl);
          are_digits = tt;
          is_digit = digit.0;
          parts = refl;
          place = ap (λ (t : Stop). t.left) is;
        })
    | inr enough ↦
        let at = digits_fault why most (d - 48) bytes s enough.1 in
        inr (record {
          front = [];
          digits = d ∷ at.digits;
          digit = at.digit;
          rest = at.rest;
          number = (at.number.0, refl);
          are_digits = (digit.0, at.are_digits);
          is_digit = at.is_digit;
          parts = ap (λ (t : List ℕ). d ∷ t) (at.parts ∙ ap (λ (t : List ℕ). t ++ (at.digits ++ at.digit ∷ at.rest)) at.number.1);
          place = at.place;
        })
  ]
]

-- compartments

abbrev with_plus : ℕ → List ℕ
with_plus n = decimal n ++ codes "+"

-- compartments, each with a plus sign
abbrev BehindList : LabelKind → List ℕ → Type 0
BehindList why front = (before : List ℕ) × (why ≡ kind.Compartment) × AllByRecursion IsCompartment before × (front ≡ flat_map with_plus before)

list_begins : (why : LabelKind) (front : List ℕ) → Alone kind.Compartment why front → BehindList why front
list_begins why front is = ([], is.0, tt, is.1)

list_goes_on : (why : LabelKind) (n : ℕ) (front : List ℕ) → IsCompartment n → BehindList why front → BehindList why (with_plus n ++ front)
list_goes_on why n front known is = (n ∷ is.0, is.1, (known, is.2), ap (λ (t : List ℕ). with_plus n ++ t) is.3)

no_bound : (set bytes : List ℕ) (s : Stop) → compartments_within 0 set bytes ≡ Err s → s.kind ≡ kind.Form
unfolding compartments_within
no_bound set bytes s e = ap (λ (t : Stop). t.kind) (err_is s (stop_at kind.Form bytes) (sym e))

list_fault : (k : ℕ) (set bytes : List ℕ) (s : Stop) → compartments_within k set bytes ≡ Err s → FormOrDigit BehindList bytes s
list_fault zero set bytes s e = inl (no_bound set bytes s e)
list_fault (suc k) set bytes s e =
    elim (step_fault (number_at kind.Compartment 1 256 bytes) (compartments_after k set) s (sym (compartments_within-suc k set bytes) ∙ e)) [
      | inl stops ↦
          behind (Alone kind.Compartment) BehindList [] bytes bytes s refl (λ front is. list_begins s.kind front is)
          (number_fault kind.Compartment 1 256 bytes s stops)
      | inr goes ↦
          let n = goes.0 in
          let t = number_takes kind.Compartment 1 256 bytes n (omega arith) (omega arith) goes.1 in
          elim (choice_cases (begins 43 n.1) _ _ (err_of s) goes.2) [
            | inr last ↦ err_not_ok s (with_number n.0 set, n.1) (sym last.1)
            | inl more ↦
                let text : bytes ≡ with_plus n.0 ++ drop 1 n.1 =
                t.parts ∙ ap (λ (t : List ℕ). decimal n.0 ++ t) (begins_cons 43 n.1 more.0) ∙ sym (append_assoc (decimal n.0) (codes "+") (drop 1 n.1)) in
                behind BehindList BehindList (with_plus n.0) (drop 1 n.1) bytes s text (λ front is. list_goes_on s.kind n.0 front (t.from, t.to) is)
                (list_fault k (with_number n.0 set) (drop 1 n.1) s more.1)
          ]
    ]

-- an element without the name of its policy

grade_front : (why : LabelKind) (front : List ℕ) → Alone kind.Grade why front → NumberAfter why front
grade_front why front is = to_grade is.0 is.1

list_front : (why : LabelKind) (grade : ℕ) (front : List ℕ) → grade ≤ 65535 → BehindList why front → NumberAfter why ((decimal grade ++ codes ":") ++ front)
list_front why grade front fits is =
    to_compartment grade is.0 is.1 fits is.2 (ap (λ (t : List ℕ). (decimal grade ++ codes ":") ++ t) is.3)

grade_fault : (bytes : List ℕ) (s : Stop) → grade_at bytes ≡ Err s → FormOrDigit NumberAfter bytes s
unfolding grade_at
grade_fault bytes s e =
    elim (step_fault (number_at kind.Grade 0 65535 bytes)
    (λ n. cond (begins 58 n.1) (compartments_at (drop 1 n.1) >>= λ set. Ok (Grade n.0 set.0, set.1)) (Ok (Grade n.0 [], n.1))) s e) [
      | inl stops ↦
          behind (Alone kind.Grade) NumberAfter [] bytes bytes s refl (λ front is. grade_front s.kind front is) (number_fault kind.Grade 0 65535 bytes s stops)
      | inr goes ↦
          let n = goes.0 in
          let t = number_takes kind.Grade 0 65535 bytes n (omega arith) (omega arith) goes.1 in
          elim (choice_cases (begins 58 n.1) _ _ (err_of s) goes.2) [
            | inr last ↦ err_not_ok s (Grade n.0 [], n.1) (sym last.1)
            | inl more ↦ elim (step_fault (compartments_at (drop 1 n.1)) (λ set. Ok (Grade n.0 set.0, set.1)) s more.1) [
              | inr never ↦ err_not_ok s (Grade n.0 never.0.0, never.0.1) (sym never.2)
              | inl stops ↦
                  let text : bytes ≡ (decimal n.0 ++ codes ":") ++ drop 1 n.1 =
                  t.parts ∙ ap (λ (t : List ℕ). decimal n.0 ++ t) (begins_cons 58 n.1 more.0) ∙ sym (append_assoc (decimal n.0) (codes ":") (drop 1 n.1)) in
                  behind BehindList NumberAfter (decimal n.0 ++ codes ":") (drop 1 n.1) bytes s text (λ front is. list_front s.kind n.0 front t.to is)
                  (list_fault (length (drop 1 n.1)) [] (drop 1 n.1) s (sym (compartments_at_left (drop 1 n.1)) ∙ stops))
            ]
          ]
    ]

pub body_fault : (bytes : List ℕ) (s : Stop) → body_at bytes ≡ Err s → FormOrDigit NumberAfter bytes s
unfolding body_at
body_fault bytes s e = elim (choice_cases (begins 108 bytes) _ _ (err_of s) e) [
  | inl low ↦ inl (word_form (codes "lo") (codes "w") bytes Low s low.1)
  | inr other ↦ elim (choice_cases (begins 101 bytes) _ _ (err_of s) other.1) [
    | inl equal ↦ inl (word_form (codes "eq") (codes "ual") bytes Equal s equal.1)
    | inr other ↦ elim (choice_cases (begins 104 bytes) _ _ (err_of s) other.1) [
      | inl high ↦ inl (word_form (codes "hi") (codes "gh") bytes High s high.1)
      | inr other ↦ grade_fault bytes s other.1
    ]
  ]
]

finish_form : {A : Type 0} (a : A) (rest : List ℕ) (s : Stop) → finish a rest ≡ Err s → s.kind ≡ kind.Form
finish_form a rest s e = elim (choice_cases (eqb (length rest) 0) _ _ (err_of s) e) [
  | inl whole ↦ err_not_ok s (a, rest) (sym whole.1)
  | inr more ↦ ap (λ (t : Stop). t.kind) (err_is s (stop_at kind.Form rest) (sym more.1))
]

-- whole texts

-- a number's front behind what stands before its element
abbrev pub ElementFront : (List ℕ → Type 0) → LabelKind → List ℕ → Type 0
ElementFront Before why front = (before : List ℕ) × (between : List ℕ) × Before before × NumberAfter why between × (front ≡ before ++ between)

front_behind : (Before : List ℕ → Type 0) (why : LabelKind) (before front : List ℕ) → Before before → NumberAfter why front
    → ElementFront Before why (before ++ front)
front_behind Before why before front stands number = (before, front, stands, number, refl)

-- an element's own fault, behind what stands before it
body_behind : (Before : List ℕ → Type 0) (before bytes whole : List ℕ) (s : Stop) → Before before → whole ≡ before ++ bytes → body_at bytes ≡ Err s
    → FormOrDigit (ElementFront Before) whole s
body_behind Before before bytes whole s stands is e =
    behind NumberAfter (ElementFront Before) before bytes whole s is (λ front number. front_behind Before s.kind before front stands number)
    (body_fault bytes s e)

first_fault : (Before : List ℕ → Type 0) (text : List ℕ) (s : Stop) → Before (codes "mls/") → element_at text ≡ Err s → FormOrDigit (ElementFront Before) text s
unfolding element_at
first_fault Before text s stands e = elim (step_fault (after_literal (codes "mls/") text) body_at s e) [
  | inl stops ↦ inl (literal_form (codes "mls/") text s stops)
  | inr goes ↦ body_behind Before (codes "mls/") goes.0 text s stands (literal_takes (codes "mls/") text goes.0 goes.1) goes.2
]

pub element_digit : (text : List ℕ) (s : Stop) → element_to_end text ≡ Err s → FormOrDigit (ElementFront (λ front. front ≡ codes "mls/")) text s
unfolding element_to_end
element_digit text s e = elim (step_fault (element_at text) (λ x. finish x.0 x.1) s e) [
  | inl stops ↦ first_fault (λ front. front ≡ codes "mls/") text s refl stops
  | inr goes ↦ inl (finish_form goes.0.0 goes.0.1 s goes.2)
]

low_text : (active inner : List ℕ) → codes "mls/" ++ (active ++ 40 ∷ inner) ≡ (codes "mls/" ++ active ++ codes "(") ++ inner
low_text active inner = simp append_assoc

high_text : (active low rest : List ℕ)
    → (codes "mls/" ++ active ++ codes "(") ++ (low ++ 45 ∷ rest) ≡ (codes "mls/" ++ active ++ codes "(" ++ low ++ codes "-") ++ rest
high_text active low rest = simp append_assoc

range_fault : (text bytes : List ℕ) (active : Element) (writing : Writing) (s : Stop) → IsWriting writing
    → text ≡ codes "mls/" ++ (spelled_element writing ++ bytes)
    → range_at active bytes ≡ Err s → FormOrDigit (ElementFront BeforePart) text s
unfolding range_at
range_fault text bytes active writing s valid is e = elim (choice_cases (begins 40 bytes) _ _ (err_of s) e) [
  | inr none ↦ err_not_ok s ((active, active), bytes) (sym none.1)
  | inl bracket ↦
      let inner : List ℕ = drop 1 bytes in
      let whole : text ≡ (codes "mls/" ++ spelled_element writing ++ codes "(") ++ inner =
      is ∙ ap (λ (t : List ℕ). codes "mls/" ++ (spelled_element writing ++ t)) (begins_cons 40 bytes bracket.0) ∙ low_text (spelled_element writing) inner in
      elim (step_fault (body_at inner)
      (λ low. after_literal (codes "-") low.1 >>= λ rest. body_at rest >>= λ high. after_literal (codes ")") high.1 >>= λ end. Ok
      ((low.0, high.0), end)) s bracket.1) [
        | inl stops ↦
            body_behind BeforePart (codes "mls/" ++ spelled_element writing ++ codes "(") inner text s (before_low writing valid refl) whole stops
        | inr low ↦
            let l = body_takes inner low.0 low.1 in
            elim (step_fault (after_literal (codes "-") low.0.1)
            (λ rest. body_at rest >>= λ high. after_literal (codes ")") high.1 >>= λ end. Ok ((low.0.0, high.0), end)) s low.2) [
              | inl stops ↦ inl (literal_form (codes "-") low.0.1 s stops)
              | inr dash ↦ elim (step_fault (body_at dash.0) (λ high. after_literal (codes ")") high.1 >>= λ end. Ok ((low.0.0, high.0), end)) s dash.2) [
                | inl stops ↦
                    let tail : inner ≡ spelled_element l.writing ++ 45 ∷ dash.0 =
                    l.parts ∙ ap (λ (t : List ℕ). spelled_element l.writing ++ t) (literal_takes (codes "-") low.0.1 dash.0 dash.1) in
                    let all : text ≡ (codes "mls/" ++ spelled_element writing ++ codes "(" ++ spelled_element l.writing ++ codes "-") ++ dash.0 =
                    whole ∙ ap (λ (t : List ℕ). (codes "mls/" ++ spelled_element writing ++ codes "(") ++ t) tail
                    ∙ high_text (spelled_element writing) (spelled_element l.writing) dash.0 in
                    body_behind BeforePart (codes "mls/" ++ spelled_element writing ++ codes "(" ++ spelled_element l.writing ++ codes "-") dash.0 text s
                    (before_high writing l.writing valid l.valid refl) all stops
                | inr high ↦ elim (step_fault (after_literal (codes ")") high.0.1) (λ end. Ok ((low.0.0, high.0.0), end)) s high.2) [
                  | inl stops ↦ inl (literal_form (codes ")") high.0.1 s stops)
                  | inr never ↦ err_not_ok s ((low.0.0, high.0.0), never.0) (sym never.2)
                ]
              ]
            ]
      ]
]

pub parts_digit : (text : List ℕ) (s : Stop) → parts_to_end text ≡ Err s → FormOrDigit (ElementFront BeforePart) text s
unfolding parts_to_end parts_after
parts_digit text s e = elim (step_fault (element_at text) (λ x. parts_after x.0 x.1) s e) [
  | inl stops ↦ first_fault BeforePart text s (before_active refl) stops
  | inr active ↦
      let a = element_takes text active.0 active.1 in
      let is : text ≡ codes "mls/" ++ (spelled_element a.2.writing ++ active.0.1) = a.1 ∙ ap (λ (t : List ℕ). codes "mls/" ++ t) a.2.parts in
      elim (step_fault (range_at active.0.0 active.0.1) (λ ends. finish (record { active = active.0.0; low = ends.0.0; high = ends.0.1 }) ends.1) s active.2) [
        | inl stops ↦ range_fault text active.0.1 active.0.0 a.2.writing s a.2.valid is stops
        | inr ends ↦ inl (finish_form (record { active = active.0.0; low = ends.0.0.0; high = ends.0.0.1 }) ends.0.1 s ends.2)
      ]
]
