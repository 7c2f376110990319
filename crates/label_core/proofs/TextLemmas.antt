-- The texts that are read, and what is printed is read back.
use Rattle.std.proofs.Common.{◌≡◌, ℕ, List, Result, Ok, Err, refl, ap, ◌∙◌}
use Rattle.std.specs.Prelude.{◌↔◌, IsTrue}
use Rattle.label_core.specs.declared.element.Element.{Element}
use Rattle.label_core.specs.declared.fault.Stop.{Stop}
use Rattle.label_core.specs.Element.{IsElement}
use Rattle.label_core.specs.Subject.{Parts, IsSubject, is_subject}
use Rattle.label_core.specs.Text.{element_text, subject_text}
use Rattle.label_core.specs.Reading.{with_place, whole_element, whole_subject, element_of, subject_of}
use Rattle.label_core.specs.Grammar.{PartsWriting, active_alone, with_range, ArePartsWriting, meant_parts, SpellsElement, SpellsParts}
use Rattle.label_core.proofs.SpellingLemmas.{whole_element_takes, whole_subject_takes}
use Rattle.label_core.proofs.RereadingLemmas.{whole_element_again, whole_subject_again}
use Rattle.label_core.proofs.CanonicalTextLemmas.{meant_is, element_text_spells, subject_text_spells}

with_place_ok : {A : Type 0} (text : List ℕ) (r : Result A Stop) (x : A) → with_place text r ≡ Ok x → r ≡ Ok x
with_place_ok text (Ok y) x e = ap (λ y. Ok y) cc
with_place_ok text (Err s) x e = absurd cc

pub element_of_spelled : (text : List ℕ) (e : Element) → (element_of text ≡ Ok e) ↔ SpellsElement text e
unfolding element_of
element_of_spelled text e =
    (λ given. whole_element_takes text e (with_place_ok text (whole_element text) e given), λ spells. ap (with_place text) (whole_element_again text e spells))

pub subject_of_spelled : (text : List ℕ) (s : Parts) → (subject_of text ≡ Ok s) ↔ (SpellsParts text s × IsTrue (is_subject s))
unfolding subject_of
subject_of_spelled text s = (
  λ given. whole_subject_takes text s (with_place_ok text (whole_subject text) s given),
  λ (spells, is). let read : whole_subject text ≡ Ok s = whole_subject_again text s spells ∙ rw is refl in ap (with_place text) read,
)

pub element_of-element_text : (e : Element) → IsElement e → element_of (element_text e) ≡ Ok e
element_of-element_text e is = (element_of_spelled (element_text e) e).1 (element_text_spells e is)

pub subject_of-subject_text : (s : Parts) → IsSubject s → subject_of (subject_text s) ≡ Ok s
subject_of-subject_text s is = (subject_of_spelled (subject_text s) s).1 (subject_text_spells s is, is.in_order)

-- what is read is an element, or a subject

pub whole_element_valid : (text : List ℕ) (e : Element) → whole_element text ≡ Ok e → IsElement e
whole_element_valid text e given = let spells = whole_element_takes text e given in rw (← spells.meaning) (meant_is spells.writing spells.valid)

parts_are : (w : PartsWriting) → ArePartsWriting w → IsTrue (is_subject (meant_parts w)) → IsSubject (meant_parts w)
parts_are (active_alone active) are is = record { active = meant_is active are; low = meant_is active are; high = meant_is active are; in_order = is }
parts_are (with_range active low high) are is = record { active = meant_is active are.0; low = meant_is low are.1; high = meant_is high are.2; in_order = is }

pub whole_subject_valid : (text : List ℕ) (s : Parts) → whole_subject text ≡ Ok s → IsSubject s
whole_subject_valid text s given =
    let spells = whole_subject_takes text s given in
    let is : IsTrue (is_subject (meant_parts spells.0.writing)) = rw spells.0.meaning spells.1 in
    rw (← spells.0.meaning) (parts_are spells.0.writing spells.0.valid is)

pub ruleset texts = (element_of_spelled, subject_of_spelled, element_of-element_text, subject_of-subject_text)
