-- The texts of labels as a grammar, in the form of mac_mls(4): ways to write, how each is spelled, and what it means.
use Rattle.std.specs.Prelude.{◌≡◌, ℕ, ◌≤◌, List, [], ◌∷◌, ◌++◌, flat_map, codes, decimal, ⊤}
use Rattle.std.specs.List.{AllByRecursion}
use Rattle.label_core.specs.declared.element.Element.{Element}
use Rattle.label_core.specs.declared.element.Element.TheVariants.{Low, Equal, High, Grade}
use Rattle.label_core.specs.CompSet.{IsCompartment, set_of}
use Rattle.label_core.specs.Subject.{Parts}

-- the ways to write an element: words, long and short, a grade alone, and a grade with a first compartment and more
pub data Writing : Type 0 where
  word_low : Writing
  word_lo : Writing
  word_equal : Writing
  word_eq : Writing
  word_high : Writing
  word_hi : Writing
  grade_alone : ℕ → Writing
  grade_with_set : ℕ → ℕ → List ℕ → Writing

-- grades are at most 65535, and compartments are 1 to 256, in any order and with repeats
abbrev pub IsWriting : Writing → Type 0
IsWriting (grade_alone grade) = grade ≤ 65535
IsWriting (grade_with_set grade first more) = (grade ≤ 65535) × AllByRecursion IsCompartment (first ∷ more)
IsWriting word_low = ⊤
IsWriting word_lo = ⊤
IsWriting word_equal = ⊤
IsWriting word_eq = ⊤
IsWriting word_high = ⊤
IsWriting word_hi = ⊤

-- how it is spelled, without the name of the policy
abbrev pub spelled_element : Writing → List ℕ
spelled_element word_low = codes "low"
spelled_element word_lo = codes "lo"
spelled_element word_equal = codes "equal"
spelled_element word_eq = codes "eq"
spelled_element word_high = codes "high"
spelled_element word_hi = codes "hi"
spelled_element (grade_alone grade) = decimal grade
spelled_element (grade_with_set grade first more) =
    decimal grade ++ codes ":" ++ decimal first ++ flat_map (λ n. codes "+" ++ decimal n) more

-- the element that it means
abbrev pub meant_element : Writing → Element
meant_element word_low = Low
meant_element word_lo = Low
meant_element word_equal = Equal
meant_element word_eq = Equal
meant_element word_high = High
meant_element word_hi = High
meant_element (grade_alone grade) = Grade grade []
meant_element (grade_with_set grade first more) = Grade grade (set_of (first ∷ more))

-- the text spells the element
pub record SpellsElement (text : List ℕ) (e : Element) : Type 0 where
  pub writing : Writing
  pub valid : IsWriting writing
  pub spelling : text ≡ codes "mls/" ++ spelled_element writing
  pub meaning : meant_element writing ≡ e

-- the ways to write three parts: the active element alone, which is both ends too, and with a range
pub data PartsWriting : Type 0 where
  active_alone : Writing → PartsWriting
  with_range : Writing → Writing → Writing → PartsWriting

-- each of the three is written in the grammar
abbrev pub ArePartsWriting : PartsWriting → Type 0
ArePartsWriting (active_alone active) = IsWriting active
ArePartsWriting (with_range active low high) = IsWriting active × IsWriting low × IsWriting high

-- how they are spelled
abbrev pub spelled_parts : PartsWriting → List ℕ
spelled_parts (active_alone active) = codes "mls/" ++ spelled_element active
spelled_parts (with_range active low high) =
    codes "mls/" ++ spelled_element active ++ codes "(" ++ spelled_element low ++ codes "-" ++ spelled_element high ++ codes ")"

-- the parts that they mean
abbrev pub meant_parts : PartsWriting → Parts
meant_parts (active_alone active) = record { active = meant_element active; low = meant_element active; high = meant_element active }
meant_parts (with_range active low high) = record { active = meant_element active; low = meant_element low; high = meant_element high }

-- the text spells the three parts
pub record SpellsParts (text : List ℕ) (parts : Parts) : Type 0 where
  pub writing : PartsWriting
  pub valid : ArePartsWriting writing
  pub spelling : text ≡ spelled_parts writing
  pub meaning : meant_parts writing ≡ parts
