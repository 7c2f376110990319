-- The faults of whole texts.
use Rattle.std.proofs.Common.{◌≡◌, ◌≢◌, ◌⊎◌, inl, inr, ℕ, ◌+◌, ◌-◌, ◌<◌, ◌≤◌, List, [], ◌∷◌, ◌++◌, length, take, Result, Ok, Err, refl, sym, ap, ◌∙◌, arith, append_assoc, append-nil, length-append}
use Rattle.std.specs.Prelude.{◌↔◌}
use Rattle.std.proofs.lemmas.List.{take_at}
use Rattle.label_core.specs.declared.element.Element.{Element}
use Rattle.label_core.specs.declared.fault.LabelFault.{LabelFault}
use Rattle.label_core.specs.declared.fault.LabelKind.{LabelKind}
use Rattle.label_core.specs.declared.fault.LabelKind.TheVariants as kind
use Rattle.label_core.specs.declared.fault.Stop.{Stop}
use Rattle.label_core.specs.Subject.{Parts, is_subject}
use Rattle.label_core.specs.Reading.{◌>>=◌, stop_at, with_place, whole_element, whole_parts, whole_subject, subject_or_fault, element_of, subject_of}
use Rattle.label_core.specs.Grammar.{SpellsElement, SpellsParts}
use Rattle.label_core.specs.Faults.{BeginsElement, BeginsParts, IsFirstFault, SpellsNoSubject}
use Rattle.label_core.proofs.SpellingLemmas.{whole_element_takes, whole_parts_take}
use Rattle.label_core.proofs.RereadingLemmas.{whole_element_again, whole_parts_again, whole_subject_again}
use Rattle.label_core.proofs.LocalFaultLemmas.{Reader, FaultPlace, Local}
use Rattle.label_core.proofs.StepLemmas.{choice_cases, err_not_ok}
use Rattle.label_core.proofs.FaultPlaceLemmas.{Nothing, element_to_end, local_element_to_end, whole_element_is, parts_to_end, local_parts_to_end, whole_parts_is}

-- a fault of a reader that is local
fault_is : {A : Type 0} (End : List ℕ → Type 0) (read : Reader A) (bytes : List ℕ) (s : Stop) → Local End read bytes → read bytes ≡ Err s
    → FaultPlace End read bytes s
fault_is End read bytes s local given = rw given at local

module _ {A : Type 0} (read : Reader A) (Spells : List ℕ → A → Type 0) (reads : (text : List ℕ) (x : A) → read text ≡ Ok (x, []) → Spells text x)
    (again : (text : List ℕ) (x : A) (s : Stop) → Spells text x → read text ≡ Err s → ⊥) where
  abbrev Begins : List ℕ → Type 0
  Begins front = (more : List ℕ) × (x : A) × Spells (front ++ more) x

  begins_front : (front : List ℕ) (text : List ℕ) (s : Stop) (f : FaultPlace Nothing read text s) → front ≡ f.front → Begins front
  begins_front front text s f is =
      let whole : read (front ++ f.alive.more) ≡ Ok (f.alive.value, []) =
      ap (λ (t : List ℕ). read (front ++ t)) (sym (append-nil f.alive.more)) ∙ ap (λ (t : List ℕ). read (t ++ (f.alive.more ++ []))) is
      ∙ f.alive.again [] refl in
      (f.alive.more, f.alive.value, reads (front ++ f.alive.more) f.alive.value whole)

  none_there : (text front tail : List ℕ) (b : ℕ) (s : Stop) (f : FaultPlace Nothing read text s) → f.rest ≡ b ∷ tail → front ≡ f.front ++ b ∷ [] → Begins front
      → ⊥
  none_there text front tail b s f rest is begins =
      let dead = f.dead (b ∷ begins.0) (rw rest refl) in
      let same : front ++ begins.0 ≡ f.front ++ b ∷ begins.0 = ap (λ (t : List ℕ). t ++ begins.0) is ∙ append_assoc f.front (b ∷ []) begins.0 in
      again (front ++ begins.0) begins.1 dead.0 begins.2 (ap read same ∙ dead.1)

  there : (text rest : List ℕ) (s : Stop) (f : FaultPlace Nothing read text s) (place : ℕ) → f.rest ≡ rest → place ≡ length f.front → place < length text
      → Begins (take (place + 1) text) → ⊥
  there text [] s f place is at less begins = absurd (omega (arith, at, ap length f.parts, length-append f.front f.rest, ap length is))
  there text (b ∷ tail) s f place is at less begins =
      let whole : text ≡ (f.front ++ b ∷ []) ++ tail = f.parts ∙ ap (λ (t : List ℕ). f.front ++ t) is ∙ sym (append_assoc f.front (b ∷ []) tail) in
      let longer : length (f.front ++ b ∷ []) ≡ place + 1 = omega (arith, at, length-append f.front (b ∷ [])) in
      none_there text (take (place + 1) text) tail b s f is (ap (take (place + 1)) whole ∙ take_at (f.front ++ b ∷ []) tail (place + 1) longer) begins

  first_fault : (text : List ℕ) (s : Stop) → FaultPlace Nothing read text s → IsFirstFault Begins text (length text - s.left)
  first_fault text s f =
      let place : length text - s.left ≡ length f.front = omega (arith, f.place, ap length f.parts, length-append f.front f.rest) in
      record {
        within = omega (arith, place, ap length f.parts, length-append f.front f.rest);
        before =
            begins_front (take (length text - s.left) text) text s f
            (ap (take (length text - s.left)) f.parts ∙ take_at f.front f.rest (length text - s.left) (sym place));
        there = there text f.rest s f (length text - s.left) refl place;
      }

-- elements

element_reads : (text : List ℕ) (e : Element) → element_to_end text ≡ Ok (e, []) → SpellsElement text e
element_reads text e given = whole_element_takes text e (whole_element_is text ∙ rw given refl)

element_not_fault : (text : List ℕ) (e : Element) (s : Stop) → SpellsElement text e → element_to_end text ≡ Err s → ⊥
element_not_fault text e s spells given =
    let fault : whole_element text ≡ Err s = whole_element_is text ∙ rw given refl in
    err_not_ok s e (sym fault ∙ whole_element_again text e spells)

pub bind_err : {A : Type 0} (r : Result (A × List ℕ) Stop) (s : Stop) → (r >>= λ x. Ok x.0) ≡ Err s → r ≡ Err s
bind_err (Ok x) s e = absurd cc
bind_err (Err t) s e = ap (λ t. Err t) cc

pub element_failed : (text : List ℕ) (s : Stop) → whole_element text ≡ Err s → FaultPlace Nothing element_to_end text s
element_failed text s given =
    fault_is Nothing element_to_end text s (local_element_to_end text) (bind_err (element_to_end text) s (sym (whole_element_is text) ∙ given))

pub with_place_err : {A : Type 0} (text : List ℕ) (r : Result A Stop) (f : LabelFault) → with_place text r ≡ Err f
    → (s : Stop) × (r ≡ Err s) × (f ≡ record { kind = s.kind; at = length text - s.left })
with_place_err text (Ok x) f e = absurd cc
with_place_err text (Err s) f e = (s, refl, cc)

pub element_of_fault : (text : List ℕ) (f : LabelFault) → element_of text ≡ Err f → IsFirstFault BeginsElement text f.at × (f.kind ≢ kind.Range)
unfolding element_of
element_of_fault text f given =
    let p = with_place_err text (whole_element text) f given in
    let failed = element_failed text p.0 p.1 in
    rw p.2 (first_fault element_to_end SpellsElement element_reads element_not_fault text p.0 failed, failed.kind_is)

abbrev bad : Stop → Result Parts Stop
bad s = Err s

err_is : (s t : Stop) → bad s ≡ bad t → s ≡ t
err_is s t e = cc

-- three parts

parts_read : (text : List ℕ) (parts : Parts) → parts_to_end text ≡ Ok (parts, []) → SpellsParts text parts
parts_read text parts given = whole_parts_take text parts (whole_parts_is text ∙ rw given refl)

parts_not_fault : (text : List ℕ) (parts : Parts) (s : Stop) → SpellsParts text parts → parts_to_end text ≡ Err s → ⊥
parts_not_fault text parts s spells given =
    let fault : whole_parts text ≡ Err s = whole_parts_is text ∙ rw given refl in
    err_not_ok s parts (sym fault ∙ whole_parts_again text parts spells)

parts_failed : (text : List ℕ) (s : Stop) → whole_parts text ≡ Err s → FaultPlace Nothing parts_to_end text s
parts_failed text s given = fault_is Nothing parts_to_end text s (local_parts_to_end text) (bind_err (parts_to_end text) s (sym (whole_parts_is text) ∙ given))

no_subject : (text : List ℕ) (parts : Parts) (s : Stop) → SpellsParts text parts → subject_or_fault parts ≡ Err s
    → SpellsNoSubject text × (s ≡ stop_at kind.Range [])
no_subject text parts s spells given = elim (choice_cases (is_subject parts) (Ok parts) (Err (stop_at kind.Range [])) (Err s) given) [
  | inl is ↦ err_not_ok s parts (sym is.1)
  | inr not ↦ (record { parts = parts; spelling = spells; none = not.0 }, cc)
]

subject_fails : (text : List ℕ) (s : Stop) (r : Result Parts Stop) → whole_parts text ≡ r → (r >>= subject_or_fault) ≡ Err s
    → FaultPlace Nothing parts_to_end text s ⊎ (SpellsNoSubject text × (s ≡ stop_at kind.Range []))
subject_fails text s (Ok parts) is given = inr (no_subject text parts s (whole_parts_take text parts is) given)
subject_fails text s (Err t) is given = inl (parts_failed text s (is ∙ given))

pub subject_failed : (text : List ℕ) (s : Stop) → whole_subject text ≡ Err s
    → FaultPlace Nothing parts_to_end text s ⊎ (SpellsNoSubject text × (s ≡ stop_at kind.Range []))
unfolding whole_subject
subject_failed text s given = subject_fails text s (whole_parts text) refl given

abbrev kind_of : LabelFault → LabelKind
kind_of f = f.kind

pub subject_of_fault : (text : List ℕ) (f : LabelFault) → subject_of text ≡ Err f → f.kind ≢ kind.Range → IsFirstFault BeginsParts text f.at
unfolding subject_of
subject_of_fault text f given other =
    let p = with_place_err text (whole_subject text) f given in
    elim (subject_failed text p.0 p.1) [
      | inl failed ↦ rw p.2 (first_fault parts_to_end SpellsParts parts_read parts_not_fault text p.0 failed)
      | inr none ↦ absurd (other (ap kind_of p.2 ∙ ap (λ (s : Stop). s.kind) none.1))
    ]

subject_of_range_at : (text : List ℕ) (f : LabelFault) → subject_of text ≡ Err f → f.kind ≡ kind.Range → SpellsNoSubject text × (f.at ≡ length text)
unfolding subject_of
subject_of_range_at text f given range =
    let p = with_place_err text (whole_subject text) f given in
    elim (subject_failed text p.0 p.1) [
      | inl failed ↦ absurd (failed.kind_is (sym (ap kind_of p.2) ∙ range))
      | inr none ↦
          let at_end : length text - p.0.left ≡ length text = omega (arith, ap (λ (s : Stop). s.left) none.1) in
          (none.0, ap (λ (f : LabelFault). f.at) p.2 ∙ at_end)
    ]

is_range : (text : List ℕ) (f : LabelFault) → subject_of text ≡ Err f → SpellsNoSubject text → f.kind ≡ kind.Range
unfolding subject_of
is_range text f given none =
    let p = with_place_err text (whole_subject text) f given in
    let fault : whole_subject text ≡ Err (stop_at kind.Range []) = whole_subject_again text none.parts none.spelling ∙ rw none.none refl in
    let same : Err p.0 ≡ bad (stop_at kind.Range []) = sym p.1 ∙ fault in
    ap kind_of p.2 ∙ ap (λ (s : Stop). s.kind) (err_is p.0 (stop_at kind.Range []) same)

pub subject_of_range : (text : List ℕ) (f : LabelFault) → subject_of text ≡ Err f → (f.kind ≡ kind.Range) ↔ SpellsNoSubject text
subject_of_range text f given = (λ range. (subject_of_range_at text f given range).0, is_range text f given)

pub subject_of_range_place : (text : List ℕ) (f : LabelFault) → subject_of text ≡ Err f → f.kind ≡ kind.Range → f.at ≡ length text
subject_of_range_place text f given range = (subject_of_range_at text f given range).1

-- a fault is within the text

pub element_left : (text : List ℕ) (s : Stop) → whole_element text ≡ Err s → s.left ≤ length text
element_left text s given = let f = element_failed text s given in omega (arith, f.place, ap length f.parts, length-append f.front f.rest)

pub subject_left : (text : List ℕ) (s : Stop) → whole_subject text ≡ Err s → s.left ≤ length text
subject_left text s given = elim (subject_failed text s given) [
  | inl f ↦ omega (arith, f.place, ap length f.parts, length-append f.front f.rest)
  | inr none ↦ omega (arith, ap (λ (s : Stop). s.left) none.1)
]
