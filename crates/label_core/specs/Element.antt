-- Elements of labels and dominance, after mac_mls(4).
use Rattle.std.specs.Prelude.{ℕ, ◌≤◌, Bool, true, false, ◌&&◌, ◌==◌, List, [], nat_le, bytes_eq}
use Rattle.label_core.specs.declared.element.Element.{Element}
use Rattle.label_core.specs.declared.element.Element.TheVariants.{Low, Equal, High, Grade}
use Rattle.label_core.specs.CompSet.{IsCompSet, is_subset}

-- its grade, or 0 where it has none
abbrev pub grade_of : Element → ℕ
grade_of (Grade grade set) = grade
grade_of e = 0

-- its compartments
abbrev pub compartments_of : Element → List ℕ
compartments_of (Grade grade set) = set
compartments_of e = []

-- what every element is: a grade is at most 65535, and its compartments are a set of the numbers 1 to 256
pub record IsElement (e : Element) : Type 0 where
  pub grade : grade_of e ≤ 65535
  pub set : IsCompSet (compartments_of e)

-- whether the first element dominates the second, by the first case that applies
unfoldable pub dom : Element → Element → Bool
dom Equal b = true
dom a Equal = true
dom High b = true
dom a Low = true
dom Low b = false
dom a High = false
dom (Grade grade set) (Grade below some) = nat_le below grade && is_subset some set

-- whether the element is equal, the one that compares with every element
abbrev pub is_equal : Element → Bool
is_equal Equal = true
is_equal e = false

-- whether the two elements are one
abbrev pub is_same : Element → Element → Bool
is_same Low Low = true
is_same Equal Equal = true
is_same High High = true
is_same (Grade grade set) (Grade other others) = grade == other && bytes_eq set others
is_same a b = false
