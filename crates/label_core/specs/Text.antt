-- The texts that labels are printed as, in the form of mac_mls(4).
use Rattle.std.specs.Prelude.{ℕ, ◌&&◌, List, [], ◌∷◌, ◌++◌, flat_map, if◌then◌else◌, codes, decimal}
use Rattle.label_core.specs.declared.element.Element.{Element}
use Rattle.label_core.specs.declared.element.Element.TheVariants.{Low, Equal, High, Grade}
use Rattle.label_core.specs.Element.{is_same}
use Rattle.label_core.specs.Subject.{Parts}

-- the compartments after a grade: behind a colon, joined by plus signs, and nothing where there is none
abbrev pub set_text : List ℕ → List ℕ
set_text [] = []
set_text (n ∷ ns) = codes ":" ++ decimal n ++ flat_map (λ m. codes "+" ++ decimal m) ns

-- an element without the name of its policy
abbrev pub body_text : Element → List ℕ
body_text Low = codes "low"
body_text Equal = codes "equal"
body_text High = codes "high"
body_text (Grade grade set) = decimal grade ++ set_text set

-- the name of the policy, and the element
unfoldable pub element_text : Element → List ℕ
element_text e = codes "mls/" ++ body_text e

-- the active element, and the range in brackets, but where both ends are the active element
unfoldable pub subject_text : Parts → List ℕ
subject_text s =
    element_text s.active
    ++ (if is_same s.low s.active && is_same s.high s.active
    then []
    else codes "(" ++ body_text s.low ++ codes "-" ++ body_text s.high ++ codes ")")
