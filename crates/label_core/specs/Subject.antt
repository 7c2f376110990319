-- Subjects, after mac_mls(4): an active element within a range from low to high.
use Rattle.std.specs.Prelude.{Bool, ◌&&◌, ◌||◌, not, IsTrue}
use Rattle.label_core.specs.declared.element.Element.{Element}
use Rattle.label_core.specs.Element.{IsElement, dom, is_equal}

-- the three parts of a subject
pub record Parts : Type 0 where
  pub active : Element
  pub low : Element
  pub high : Element

-- whether they make a subject: high dominates active, and active dominates low
abbrev pub is_subject : Parts → Bool
is_subject s = dom s.high s.active && dom s.active s.low

-- what every subject is
pub record IsSubject (s : Parts) : Type 0 where
  pub active : IsElement s.active
  pub low : IsElement s.low
  pub high : IsElement s.high
  pub in_order : IsTrue (is_subject s)

-- whether the element is within the subject's range
abbrev pub inside : Element → Parts → Bool
inside e s = dom s.high e && dom e s.low

-- whether one of the three parts is equal
abbrev pub has_equal : Parts → Bool
has_equal s = is_equal s.active || is_equal s.low || is_equal s.high

-- whether a subject may change an object's element: both are inside, and only a subject that has equal gives equal
abbrev pub may_relabel : Parts → Element → Element → Bool
may_relabel s old new = inside old s && inside new s && (not (is_equal new) || has_equal s)

-- whether a subject may become another: its parts are inside, and only a subject that has equal gets equal
abbrev pub may_become : Parts → Parts → Bool
may_become old new =
    inside new.active old && inside new.low old && inside new.high old && (not (has_equal new) || has_equal old)
