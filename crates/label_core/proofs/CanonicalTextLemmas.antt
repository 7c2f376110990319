-- What is printed is spelled so, and what is read is an element.
use Rattle.std.proofs.Common.{◌≡◌, ℕ, ◌<◌, ◌≤◌, true, false, ◌&&◌, eqb, ltb, List, [], ◌∷◌, ◌++◌, refl, sym, ap, ◌∙◌, arith, inl, inr, append_assoc, append-nil}
use Rattle.std.specs.Prelude.{codes, decimal, fold, bytes_eq}
use Rattle.std.specs.List.{AllByRecursion}
use Rattle.std.specs.Cmp.Lexicographic.{bytes_decides}
use Rattle.std.proofs.lemmas.Bool.{and_parts, eqb-true, le-ltb, ne_eqb, cases_Bool, true≢false}
use Rattle.std.proofs.lemmas.Bool.Decides.{nat_tests}
use Rattle.label_core.specs.declared.element.Element.{Element}
use Rattle.label_core.specs.declared.element.Element.TheVariants.{Low, Equal, High, Grade}
use Rattle.label_core.specs.CompSet.{IsCompartment, IsCompSet, RisesFrom, with_number, set_of}
use Rattle.label_core.specs.Element.{IsElement, is_same}
use Rattle.label_core.specs.Subject.{Parts, IsSubject}
use Rattle.label_core.specs.Text.{body_text, element_text, subject_text}
use Rattle.label_core.specs.Grammar.{Writing, word_low, word_lo, word_equal, word_eq, word_high, word_hi, grade_alone, grade_with_set, IsWriting, spelled_element, meant_element, active_alone, with_range, SpellsElement, SpellsParts}

-- what stands before a number of a set is below it
rises_before : (m n : ℕ) (ms rest : List ℕ) → RisesFrom m (ms ++ n ∷ rest) → m < n
rises_before m n [] rest rises = rises.0
rises_before m n (k ∷ ks) rest rises = omega (arith, rises.0, rises_before k n ks rest rises.2)

-- a number above a whole set goes to its end
with_number_last : (low n : ℕ) (set rest : List ℕ) → RisesFrom low (set ++ n ∷ rest) → with_number n set ≡ set ++ n ∷ []
with_number_last low n [] rest rises = refl
with_number_last low n (m ∷ ms) rest rises =
    let above : m < n = rises_before m n ms rest rises.2 in
    let not_below : ltb n m ≡ false = le-ltb n m (omega arith) in
    let other : eqb m n ≡ false = ne_eqb m n (omega arith) in
    rw (not_below, other, with_number_last m n ms rest rises.2) refl

-- the numbers of a set, put into a set one after the other
fold-with_number : (low : ℕ) (set ns : List ℕ) → RisesFrom low (set ++ ns) → fold (λ set n. with_number n set) set ns ≡ set ++ ns
fold-with_number low set [] rises = sym (append-nil set)
fold-with_number low set (n ∷ ns) rises =
    let regroup : (set ++ n ∷ []) ++ ns ≡ set ++ n ∷ ns = append_assoc set (n ∷ []) ns in
    rw (with_number_last low n set ns rises) (fold-with_number low (set ++ n ∷ []) ns (rw regroup rises) ∙ regroup)

pub set_of-CompSet : (set : List ℕ) → IsCompSet set → set_of set ≡ set
set_of-CompSet set is = fold-with_number 0 [] set is

-- and they are compartments
compartments_of : (low : ℕ) (set : List ℕ) → RisesFrom low set → AllByRecursion IsCompartment set
compartments_of low [] rises = tt
compartments_of low (n ∷ ns) rises = ((omega (arith, rises.0), rises.1), compartments_of n ns rises.2)

-- a set with a compartment is a set
RisesFrom-with_number : (low n : ℕ) (set : List ℕ) → low < n → n ≤ 256 → RisesFrom low set → RisesFrom low (with_number n set)
RisesFrom-with_number low n [] above within rises = (above, within, tt)
RisesFrom-with_number low n (m ∷ ms) above within rises = grind (arith, nat_tests, RisesFrom-with_number m n ms)

IsCompSet-fold : (set ns : List ℕ) → IsCompSet set → AllByRecursion IsCompartment ns → IsCompSet (fold (λ set n. with_number n set) set ns)
IsCompSet-fold set [] is are = is
IsCompSet-fold set (n ∷ ns) is are = IsCompSet-fold (with_number n set) ns (RisesFrom-with_number 0 n set (omega (arith, are.0.0)) are.0.1 is) are.1

-- what a way to write means is an element
pub meant_is : (w : Writing) → IsWriting w → IsElement (meant_element w)
meant_is word_low is = record { grade = omega arith; set = tt }
meant_is word_lo is = record { grade = omega arith; set = tt }
meant_is word_equal is = record { grade = omega arith; set = tt }
meant_is word_eq is = record { grade = omega arith; set = tt }
meant_is word_high is = record { grade = omega arith; set = tt }
meant_is word_hi is = record { grade = omega arith; set = tt }
meant_is (grade_alone grade) is = record { grade = is; set = tt }
meant_is (grade_with_set grade first more) is = record { grade = is.0; set = IsCompSet-fold [] (first ∷ more) tt is.1 }

-- the way that an element is printed
pub writing_of : (e : Element) → IsElement e → (w : Writing) × IsWriting w × (body_text e ≡ spelled_element w) × (meant_element w ≡ e)
writing_of Low is = (word_low, tt, refl, refl)
writing_of Equal is = (word_equal, tt, refl, refl)
writing_of High is = (word_high, tt, refl, refl)
writing_of (Grade grade []) is = (grade_alone grade, is.grade, append-nil (decimal grade), refl)
writing_of (Grade grade (n ∷ ns)) is = (
  grade_with_set grade n ns,
  (is.grade, compartments_of 0 (n ∷ ns) is.set),
  simp append_assoc,
  ap (λ (set : List ℕ). Grade grade set) (set_of-CompSet (n ∷ ns) is.set),
)

pub element_text_spells : (e : Element) → IsElement e → SpellsElement (element_text e) e
unfolding element_text
element_text_spells e is =
    let w = writing_of e is in record { writing = w.0; valid = w.1; spelling = ap (λ (t : List ℕ). codes "mls/" ++ t) w.2; meaning = w.3 }

-- the test of two elements tells that they are one
pub is_same_one : (a b : Element) → is_same a b ≡ true → a ≡ b
is_same_one Low Low same = refl
is_same_one Equal Equal same = refl
is_same_one High High same = refl
is_same_one (Grade g s) (Grade h t) same =
    let parts = and_parts (eqb g h) (bytes_eq s t) same in
    rw (eqb-true g h parts.0, (bytes_decides s t).0 parts.1) refl
is_same_one Low Equal same = absurd (true≢false (sym same))
is_same_one Low High same = absurd (true≢false (sym same))
is_same_one Low (Grade h t) same = absurd (true≢false (sym same))
is_same_one Equal Low same = absurd (true≢false (sym same))
is_same_one Equal High same = absurd (true≢false (sym same))
is_same_one Equal (Grade h t) same = absurd (true≢false (sym same))
is_same_one High Low same = absurd (true≢false (sym same))
is_same_one High Equal same = absurd (true≢false (sym same))
is_same_one High (Grade h t) same = absurd (true≢false (sym same))
is_same_one (Grade g s) Low same = absurd (true≢false (sym same))
is_same_one (Grade g s) Equal same = absurd (true≢false (sym same))
is_same_one (Grade g s) High same = absurd (true≢false (sym same))

-- the text of a subject, where the range is left out and where it is not
subject_text_alone : (s : Parts) → (is_same s.low s.active && is_same s.high s.active) ≡ true → IsSubject s → SpellsParts (subject_text s) s
unfolding subject_text element_text
subject_text_alone s same is =
    let w = writing_of s.active is.active in
    let both = and_parts (is_same s.low s.active) (is_same s.high s.active) same in
    let text : subject_text s ≡ (codes "mls/" ++ body_text s.active) ++ [] = rw same refl in
    record {
      writing = active_alone w.0;
      valid = w.1;
      spelling = text ∙ append-nil (codes "mls/" ++ body_text s.active) ∙ ap (λ (t : List ℕ). codes "mls/" ++ t) w.2;
      meaning = rw (w.3, is_same_one s.low s.active both.0, is_same_one s.high s.active both.1) refl;
    }

in_brackets : (policy active open' low dash high close : List ℕ)
    → (policy ++ active) ++ (open' ++ low ++ dash ++ high ++ close) ≡ policy ++ active ++ open' ++ low ++ dash ++ high ++ close
in_brackets policy active open' low dash high close = simp append_assoc

subject_text_ranged : (s : Parts) → (is_same s.low s.active && is_same s.high s.active) ≡ false → IsSubject s → SpellsParts (subject_text s) s
unfolding subject_text element_text
subject_text_ranged s other is =
    let w = writing_of s.active is.active in
    let low = writing_of s.low is.low in
    let high = writing_of s.high is.high in
    record {
      writing = with_range w.0 low.0 high.0;
      valid = (w.1, low.1, high.1);
      spelling =
          rw (other, w.2, low.2, high.2)
          (in_brackets (codes "mls/") (spelled_element w.0) (codes "(") (spelled_element low.0) (codes "-") (spelled_element high.0) (codes ")"));
      meaning = rw (w.3, low.3, high.3) refl;
    }

pub subject_text_spells : (s : Parts) → IsSubject s → SpellsParts (subject_text s) s
subject_text_spells s is =
    elim (cases_Bool (is_same s.low s.active && is_same s.high s.active))
    [ inl same ↦ subject_text_alone s same is | inr other ↦ subject_text_ranged s other is ]
