-- The kind of a fault is that of the number of which a digit stands there, and no other number's.
use Rattle.std.proofs.Common.{◌≡◌, ◌≢◌, ◌⊎◌, inl, inr, ℕ, ◌-◌, ◌≤◌, List, [], ◌∷◌, ◌++◌, length, Err, sym, ap, subst, ◌∙◌, arith, append_assoc, length-append}
use Rattle.std.specs.Prelude.{◌↔◌}
use Rattle.label_core.specs.declared.fault.LabelFault.{LabelFault}
use Rattle.label_core.specs.declared.fault.LabelKind.{LabelKind}
use Rattle.label_core.specs.declared.fault.LabelKind.TheVariants as kind
use Rattle.label_core.specs.declared.fault.Stop.{Stop}
use Rattle.label_core.specs.Subject.{Parts, is_subject}
use Rattle.label_core.specs.Reading.{stop_at, body_at, whole_element, whole_parts, whole_subject, subject_or_fault, element_of, subject_of}
use Rattle.label_core.specs.Faults.{BeforeElement, BeforePart, IsDigitOf}
use Rattle.label_core.proofs.StepLemmas.{choice_cases, ok_of, err_not_ok}
use Rattle.label_core.proofs.FaultPlaceLemmas.{element_to_end, whole_element_is, parts_to_end, whole_parts_is}
use Rattle.label_core.proofs.FirstFaultLemmas.{bind_err, with_place_err, element_left, subject_left}
use Rattle.label_core.proofs.LocalFaultLemmas.{Reader}
use Rattle.label_core.proofs.PastNumberLemmas.{PastBy, body_past, element_past, parts_past}
use Rattle.label_core.proofs.NumberFaultLemmas.{FormOrDigit, ElementFront, element_digit, parts_digit, step_fault}

-- no number has a form for its kind
abbrev IsNumberKind : LabelKind → Type 0
IsNumberKind why = (why ≢ kind.Form) × (why ≢ kind.Range)

grade_kind : IsNumberKind kind.Grade
grade_kind = (λ e. absurd cc, λ e. absurd cc)

compartment_kind : IsNumberKind kind.Compartment
compartment_kind = (λ e. absurd cc, λ e. absurd cc)

four_parts : (before between digits rest : List ℕ) → (before ++ between) ++ (digits ++ rest) ≡ before ++ between ++ digits ++ rest
four_parts before between digits rest = simp append_assoc

regrouped : (before front digits rest : List ℕ) → before ++ front ++ digits ++ rest ≡ before ++ (front ++ (digits ++ rest))
regrouped before front digits rest = simp append_assoc

-- a digit at the fault, in the words of the grammar
digit_there : (Before : List ℕ → Type 0) (why : LabelKind) (text : List ℕ) (s : Stop) → why ≢ kind.Form → s.kind ≡ why
    → FormOrDigit (ElementFront Before) text s → IsDigitOf Before why text (length text - s.left)
digit_there Before why text s no_form is (inl form) = absurd (no_form (sym is ∙ form))
digit_there Before why text s no_form is (inr at) =
    let n = at.number in
    let whole : text ≡ n.0 ++ n.1 ++ at.digits ++ at.digit ∷ at.rest =
    at.parts ∙ ap (λ (t : List ℕ). t ++ (at.digits ++ at.digit ∷ at.rest)) n.4 ∙ four_parts n.0 n.1 at.digits (at.digit ∷ at.rest) in
    record {
      before = n.0;
      front = n.1;
      digits = at.digits;
      digit = at.digit;
      rest = at.rest;
      element = n.2;
      number = rw (← is) n.3;
      are_digits = at.are_digits;
      is_digit = at.is_digit;
      parts = whole;
      at = omega (arith, at.place, ap length whole, length-append (n.0 ++ n.1 ++ at.digits) (at.digit ∷ at.rest));
    }

-- where the digit stands, what was read before the fault does not go past it
kind_there : {A : Type 0} (Before : List ℕ → Type 0) (read : Reader A) (why : LabelKind) (text : List ℕ) (s : Stop)
    → ((before rest bytes : List ℕ) → Before before → PastBy why rest (body_at bytes) → PastBy why rest (read (before ++ bytes)))
    → s.left ≤ length text → IsDigitOf Before why text (length text - s.left) → read text ≡ Err s → s.kind ≡ why
kind_there Before read why text s past within d given =
    let bytes : List ℕ = d.front ++ (d.digits ++ d.digit ∷ d.rest) in
    let whole : text ≡ d.before ++ bytes = d.parts ∙ regrouped d.before d.front d.digits (d.digit ∷ d.rest) in
    let goes = past d.before d.rest bytes d.element (body_past why d.front d.digits d.digit d.rest d.number d.are_digits d.is_digit) in
    let fault : read (d.before ++ bytes) ≡ Err s = ap read (sym whole) ∙ given in
    elim (subst (PastBy why d.rest) fault goes) [
      | inl same ↦ same
      | inr beyond ↦ absurd (omega (arith, beyond, d.at, ap length d.parts, length-append (d.before ++ d.front ++ d.digits) (d.digit ∷ d.rest)))
    ]

abbrev kind_of : LabelFault → LabelKind
kind_of f = f.kind

-- elements

element_kind : (why : LabelKind) → IsNumberKind why → (text : List ℕ) (f : LabelFault) → element_of text ≡ Err f
    → (f.kind ≡ why) ↔ IsDigitOf BeforeElement why text f.at
unfolding element_of
element_kind why number text f given =
    let p = with_place_err text (whole_element text) f given in
    let s = p.0 in
    let fault : element_to_end text ≡ Err s = bind_err (element_to_end text) s (sym (whole_element_is text) ∙ p.1) in
    let within = element_left text s p.1 in
    rw p.2 (
      λ is. digit_there BeforeElement why text s number.0 is (element_digit text s fault),
      λ d. kind_there BeforeElement element_to_end why text s (λ before rest bytes stands past. rw stands (element_past why rest bytes past)) within d fault,
    )

pub element_grade : (text : List ℕ) (f : LabelFault) → element_of text ≡ Err f → (f.kind ≡ kind.Grade) ↔ IsDigitOf BeforeElement kind.Grade text f.at
element_grade text f given = element_kind kind.Grade grade_kind text f given

pub element_compartment : (text : List ℕ) (f : LabelFault) → element_of text ≡ Err f
    → (f.kind ≡ kind.Compartment) ↔ IsDigitOf BeforeElement kind.Compartment text f.at
element_compartment text f given = element_kind kind.Compartment compartment_kind text f given

-- subjects

range_stop : (parts : Parts) (s : Stop) → subject_or_fault parts ≡ Err s → s ≡ stop_at kind.Range []
range_stop parts s e = elim (choice_cases (is_subject parts) (ok_of parts) (Err (stop_at kind.Range [])) (Err s) e) [
  | inl is ↦ err_not_ok s parts (sym is.1)
  | inr none ↦ cc
]

-- a fault of the three parts, or three parts that are no subject
subject_stop : (text : List ℕ) (s : Stop) → whole_subject text ≡ Err s → (parts_to_end text ≡ Err s) ⊎ (s ≡ stop_at kind.Range [])
unfolding whole_subject
subject_stop text s given = elim (step_fault (whole_parts text) subject_or_fault s given) [
  | inl stops ↦ inl (bind_err (parts_to_end text) s (sym (whole_parts_is text) ∙ stops))
  | inr parts ↦ inr (range_stop parts.0 s parts.2)
]

subject_kind : (why : LabelKind) → IsNumberKind why → (text : List ℕ) (f : LabelFault) → subject_of text ≡ Err f
    → (f.kind ≡ why) ↔ IsDigitOf BeforePart why text f.at
unfolding subject_of
subject_kind why number text f given =
    let p = with_place_err text (whole_subject text) f given in
    let s = p.0 in
    let within = subject_left text s p.1 in
    rw p.2 (elim (subject_stop text s p.1) [
      | inl fault ↦ (
        λ is. digit_there BeforePart why text s number.0 is (parts_digit text s fault),
        λ d. kind_there BeforePart parts_to_end why text s (λ before rest bytes stands past. parts_past why before rest bytes stands past) within d fault,
      )
      | inr range ↦ (
        λ is. absurd (number.1 (sym is ∙ ap (λ (t : Stop). t.kind) range)),
        λ d. absurd (omega (
          arith,
          ap (λ (t : Stop). t.left) range,
          d.at,
          ap length d.parts,
          length-append (d.before ++ d.front ++ d.digits) (d.digit ∷ d.rest),
        )),
      )
    ])

pub subject_grade : (text : List ℕ) (f : LabelFault) → subject_of text ≡ Err f → (f.kind ≡ kind.Grade) ↔ IsDigitOf BeforePart kind.Grade text f.at
subject_grade text f given = subject_kind kind.Grade grade_kind text f given

pub subject_compartment : (text : List ℕ) (f : LabelFault) → subject_of text ≡ Err f
    → (f.kind ≡ kind.Compartment) ↔ IsDigitOf BeforePart kind.Compartment text f.at
subject_compartment text f given = subject_kind kind.Compartment compartment_kind text f given
