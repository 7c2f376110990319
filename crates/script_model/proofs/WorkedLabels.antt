-- The definitions of labels on worked rows (mac_mls(4)): what is read and printed, where texts have their faults, which element
-- dominates which, and what a subject may give and become.
use Rattle.std.proofs.Common.{◌≡◌, ℕ, [], ◌∷◌, List, length, refl}
use Rattle.std.specs.Prelude.{Bool, true, false, Result, Ok, Err, map, codes}
use Rattle.std.specs.List.{range_with_len}
use Rattle.label_core.specs.declared.element.Element.{Element}
use Rattle.label_core.specs.declared.element.Element.TheVariants.{Low, Equal, High, Grade}
use Rattle.label_core.specs.declared.fault.LabelFault.{LabelFault}
use Rattle.label_core.specs.declared.fault.LabelKind.TheVariants as kind
use Rattle.label_core.specs.Element.{dom}
use Rattle.label_core.specs.Reading.{element_of, subject_of}
use Rattle.label_core.specs.Subject.{Parts, may_relabel, may_become}
use Rattle.label_core.specs.Text.{element_text, subject_text}
use Rattle.script_model.proofs.Computing.{rows_compute}

-- what is printed of what was read, or the fault
abbrev printed : {A : Type 0} → (A → List ℕ) → Result A LabelFault → Result (List ℕ) LabelFault
printed text (Ok value) = Ok (text value)
printed text (Err fault) = Err fault

-- texts of elements, and what is printed of each or its fault
abbrev elements : List (List ℕ × Result (List ℕ) LabelFault)
elements =
    (codes "mls/hi", Ok (codes "mls/high")) ∷
    (codes "mls/6:3+2+3", Ok (codes "mls/6:2+3")) ∷
    (codes "mls/lo", Ok (codes "mls/low")) ∷
    (codes "mls/eq", Ok (codes "mls/equal")) ∷
    (codes "mls/0", Ok (codes "mls/0")) ∷
    (codes "mls/equal", Ok (codes "mls/equal")) ∷
    (codes "mls/65535:256+1", Ok (codes "mls/65535:1+256")) ∷
    (codes "mls/10:9+10+99+100", Ok (codes "mls/10:9+10+99+100")) ∷
    ([], Err (record { kind = kind.Form; at = 0 })) ∷
    (codes "ml", Err (record { kind = kind.Form; at = 2 })) ∷
    (codes "mlx/5", Err (record { kind = kind.Form; at = 2 })) ∷
    (codes "mls5", Err (record { kind = kind.Form; at = 3 })) ∷
    (codes "MLS/5", Err (record { kind = kind.Form; at = 0 })) ∷
    (codes "mls/", Err (record { kind = kind.Form; at = 4 })) ∷
    (codes "mls/x", Err (record { kind = kind.Form; at = 4 })) ∷
    (codes "mls/-1", Err (record { kind = kind.Form; at = 4 })) ∷
    (codes "mls/+1", Err (record { kind = kind.Form; at = 4 })) ∷
    (codes "mls/l", Err (record { kind = kind.Form; at = 5 })) ∷
    (codes "mls/lx", Err (record { kind = kind.Form; at = 5 })) ∷
    (codes "mls/lo2", Err (record { kind = kind.Form; at = 6 })) ∷
    (codes "mls/loww", Err (record { kind = kind.Form; at = 7 })) ∷
    (codes "mls/low:2", Err (record { kind = kind.Form; at = 7 })) ∷
    (codes "mls/e", Err (record { kind = kind.Form; at = 5 })) ∷
    (codes "mls/eqx", Err (record { kind = kind.Form; at = 6 })) ∷
    (codes "mls/equ", Err (record { kind = kind.Form; at = 7 })) ∷
    (codes "mls/h1", Err (record { kind = kind.Form; at = 5 })) ∷
    (codes "mls/hig", Err (record { kind = kind.Form; at = 7 })) ∷
    (codes "mls/05", Err (record { kind = kind.Grade; at = 5 })) ∷
    (codes "mls/65536", Err (record { kind = kind.Grade; at = 8 })) ∷
    (codes "mls/70000", Err (record { kind = kind.Grade; at = 8 })) ∷
    (codes "mls/655350", Err (record { kind = kind.Grade; at = 9 })) ∷
    (codes "mls/5x", Err (record { kind = kind.Form; at = 5 })) ∷
    (codes "mls/5(low-high)", Err (record { kind = kind.Form; at = 5 })) ∷
    (codes "mls/5:", Err (record { kind = kind.Form; at = 6 })) ∷
    (codes "mls/1:0", Err (record { kind = kind.Compartment; at = 6 })) ∷
    (codes "mls/1:257", Err (record { kind = kind.Compartment; at = 8 })) ∷
    (codes "mls/1:2560", Err (record { kind = kind.Compartment; at = 9 })) ∷
    (codes "mls/300:300", Err (record { kind = kind.Compartment; at = 10 })) ∷
    (codes "mls/10:2+257", Err (record { kind = kind.Compartment; at = 11 })) ∷
    (codes "mls/1:2+03", Err (record { kind = kind.Compartment; at = 8 })) ∷
    (codes "mls/1:2,3", Err (record { kind = kind.Form; at = 7 })) ∷
    (codes "mls/1:2+", Err (record { kind = kind.Form; at = 8 })) ∷
    (codes "mls/1:2++3", Err (record { kind = kind.Form; at = 8 })) ∷
    []

elements_are_read : map (λ row. printed element_text (element_of row.0)) elements ≡ map (λ row. row.1) elements
unfolding rows_compute
elements_are_read = refl

-- texts of subjects, and what is printed of each or its fault
abbrev subjects : List (List ℕ × Result (List ℕ) LabelFault)
subjects =
    (codes "mls/5", Ok (codes "mls/5")) ∷
    (codes "mls/5(5-5)", Ok (codes "mls/5")) ∷
    (codes "mls/5(lo-hi)", Ok (codes "mls/5(low-high)")) ∷
    (codes "mls/5(5-6)", Ok (codes "mls/5(5-6)")) ∷
    (codes "mls/10:2(low-20:3+2)", Ok (codes "mls/10:2(low-20:2+3)")) ∷
    (codes "mls/equal", Ok (codes "mls/equal")) ∷
    (codes "mls/eq(eq-eq)", Ok (codes "mls/equal")) ∷
    (codes "mls/5(eq-5)", Ok (codes "mls/5(equal-5)")) ∷
    (codes "mls/05(low-high)", Err (record { kind = kind.Grade; at = 5 })) ∷
    (codes "mls/5 (1-2)", Err (record { kind = kind.Form; at = 5 })) ∷
    (codes "mls/5(", Err (record { kind = kind.Form; at = 6 })) ∷
    (codes "mls/5()", Err (record { kind = kind.Form; at = 6 })) ∷
    (codes "mls/5(mls/0-9)", Err (record { kind = kind.Form; at = 6 })) ∷
    (codes "mls/5(l-h)", Err (record { kind = kind.Form; at = 7 })) ∷
    (codes "mls/5(01-2)", Err (record { kind = kind.Grade; at = 7 })) ∷
    (codes "mls/5(0:0-9)", Err (record { kind = kind.Compartment; at = 8 })) ∷
    (codes "mls/5(0:2+-9)", Err (record { kind = kind.Form; at = 10 })) ∷
    (codes "mls/5(low", Err (record { kind = kind.Form; at = 9 })) ∷
    (codes "mls/5(low)", Err (record { kind = kind.Form; at = 9 })) ∷
    (codes "mls/5(low-", Err (record { kind = kind.Form; at = 10 })) ∷
    (codes "mls/5(1-)", Err (record { kind = kind.Form; at = 8 })) ∷
    (codes "mls/5(1--2)", Err (record { kind = kind.Form; at = 8 })) ∷
    (codes "mls/5(0-65536)", Err (record { kind = kind.Grade; at = 12 })) ∷
    (codes "mls/5(1-2", Err (record { kind = kind.Form; at = 9 })) ∷
    (codes "mls/5(low-high", Err (record { kind = kind.Form; at = 14 })) ∷
    (codes "mls/5(low-high)x", Err (record { kind = kind.Form; at = 15 })) ∷
    (codes "mls/5(low-high))", Err (record { kind = kind.Form; at = 15 })) ∷
    (codes "mls/5:2(low-high:1)", Err (record { kind = kind.Form; at = 16 })) ∷
    (codes "mls/5(10-20)", Err (record { kind = kind.Range; at = 12 })) ∷
    (codes "mls/5(0-4)", Err (record { kind = kind.Range; at = 10 })) ∷
    (codes "mls/low(0-9)", Err (record { kind = kind.Range; at = 12 })) ∷
    (codes "mls/high(low-9)", Err (record { kind = kind.Range; at = 15 })) ∷
    []

subjects_are_read : map (λ row. printed subject_text (subject_of row.0)) subjects ≡ map (λ row. row.1) subjects
unfolding rows_compute
subjects_are_read = refl

-- two elements, and whether the first dominates the second
abbrev pairs : List (Element × Element × Bool)
pairs =
    ((Grade 10 (2 ∷ 3 ∷ [])), (Grade 10 (2 ∷ 3 ∷ [])), true) ∷
    ((Grade 10 (2 ∷ 3 ∷ [])), (Grade 10 (2 ∷ [])), true) ∷
    ((Grade 10 (2 ∷ 3 ∷ [])), (Grade 65535 (1 ∷ 256 ∷ [])), false) ∷
    ((Grade 10 (2 ∷ 3 ∷ [])), Low, true) ∷
    ((Grade 10 (2 ∷ 3 ∷ [])), High, false) ∷
    ((Grade 10 (2 ∷ 3 ∷ [])), Equal, true) ∷
    ((Grade 10 (2 ∷ [])), (Grade 10 (2 ∷ 3 ∷ [])), false) ∷
    ((Grade 10 (2 ∷ [])), (Grade 10 (2 ∷ [])), true) ∷
    ((Grade 10 (2 ∷ [])), (Grade 65535 (1 ∷ 256 ∷ [])), false) ∷
    ((Grade 10 (2 ∷ [])), Low, true) ∷
    ((Grade 10 (2 ∷ [])), High, false) ∷
    ((Grade 10 (2 ∷ [])), Equal, true) ∷
    ((Grade 65535 (1 ∷ 256 ∷ [])), (Grade 10 (2 ∷ 3 ∷ [])), false) ∷
    ((Grade 65535 (1 ∷ 256 ∷ [])), (Grade 10 (2 ∷ [])), false) ∷
    ((Grade 65535 (1 ∷ 256 ∷ [])), (Grade 65535 (1 ∷ 256 ∷ [])), true) ∷
    ((Grade 65535 (1 ∷ 256 ∷ [])), Low, true) ∷
    ((Grade 65535 (1 ∷ 256 ∷ [])), High, false) ∷
    ((Grade 65535 (1 ∷ 256 ∷ [])), Equal, true) ∷
    (Low, (Grade 10 (2 ∷ 3 ∷ [])), false) ∷
    (Low, (Grade 10 (2 ∷ [])), false) ∷
    (Low, (Grade 65535 (1 ∷ 256 ∷ [])), false) ∷
    (Low, Low, true) ∷
    (Low, High, false) ∷
    (Low, Equal, true) ∷
    (High, (Grade 10 (2 ∷ 3 ∷ [])), true) ∷
    (High, (Grade 10 (2 ∷ [])), true) ∷
    (High, (Grade 65535 (1 ∷ 256 ∷ [])), true) ∷
    (High, Low, true) ∷
    (High, High, true) ∷
    (High, Equal, true) ∷
    (Equal, (Grade 10 (2 ∷ 3 ∷ [])), true) ∷
    (Equal, (Grade 10 (2 ∷ [])), true) ∷
    (Equal, (Grade 65535 (1 ∷ 256 ∷ [])), true) ∷
    (Equal, Low, true) ∷
    (Equal, High, true) ∷
    (Equal, Equal, true) ∷
    []

pairs_are_dominated : map (λ row. dom row.0 row.1) pairs ≡ map (λ row. row.2) pairs
unfolding rows_compute
pairs_are_dominated = refl

-- a subject, the element of an object, the element that it would be given, and whether the subject may
abbrev relabels : List (Parts × Element × Element × Bool)
relabels =
    (record { active = (Grade 10 []); low = (Grade 5 []); high = (Grade 20 []) }, (Grade 5 []), (Grade 20 []), true) ∷
    (record { active = (Grade 10 []); low = (Grade 5 []); high = (Grade 20 []) }, (Grade 4 []), (Grade 20 []), false) ∷
    (record { active = (Grade 10 []); low = (Grade 5 []); high = (Grade 20 []) }, (Grade 5 []), (Grade 21 []), false) ∷
    (record { active = (Grade 10 []); low = (Grade 5 []); high = (Grade 20 []) }, (Grade 5 []), (Grade 20 (1 ∷ [])), false) ∷
    (record { active = (Grade 10 []); low = (Grade 5 []); high = (Grade 20 []) }, Equal, (Grade 5 []), true) ∷
    (record { active = (Grade 10 []); low = (Grade 5 []); high = (Grade 20 []) }, (Grade 5 []), Equal, false) ∷
    (record { active = (Grade 10 []); low = Equal; high = (Grade 20 []) }, (Grade 5 []), Equal, true) ∷
    (record { active = Equal; low = Equal; high = Equal }, Low, High, true) ∷
    []

relabels_are_allowed : map (λ row. may_relabel row.0 row.1 row.2) relabels ≡ map (λ row. row.3) relabels
unfolding rows_compute
relabels_are_allowed = refl

-- a subject, another, and whether the one may become the other
abbrev becomes : List (Parts × Parts × Bool)
becomes = (
  record { active = (Grade 10 (2 ∷ [])); low = (Grade 5 (2 ∷ [])); high = (Grade 20 (2 ∷ 3 ∷ [])) },
  record { active = (Grade 5 (2 ∷ [])); low = (Grade 5 (2 ∷ [])); high = (Grade 20 (2 ∷ 3 ∷ [])) },
  true,
)
    ∷ (
      record { active = (Grade 5 (2 ∷ [])); low = (Grade 5 (2 ∷ [])); high = (Grade 20 (2 ∷ 3 ∷ [])) },
      record { active = Equal; low = Equal; high = Equal },
      false,
    )
    ∷ (
      record { active = (Grade 10 []); low = (Grade 5 []); high = (Grade 20 []) },
      record { active = (Grade 10 []); low = (Grade 5 []); high = (Grade 21 []) },
      false,
    )
    ∷ (
      record { active = (Grade 10 []); low = (Grade 5 []); high = (Grade 20 []) },
      record { active = (Grade 10 []); low = (Grade 4 []); high = (Grade 20 []) },
      false,
    )
    ∷
    (record { active = (Grade 10 []); low = (Grade 5 []); high = (Grade 20 []) }, record { active = (Grade 10 []); low = Equal; high = (Grade 20 []) }, false) ∷
    (record { active = Equal; low = Low; high = High }, record { active = (Grade 10 []); low = Low; high = High }, true) ∷
    (record { active = (Grade 10 []); low = (Grade 5 []); high = Equal }, record { active = Equal; low = Equal; high = Equal }, true) ∷
    []

becomes_are_allowed : map (λ row. may_become row.0 row.1) becomes ≡ map (λ row. row.2) becomes
unfolding rows_compute
becomes_are_allowed = refl

-- an element with all compartments
abbrev full : ℕ → Element
full grade = Grade grade (range_with_len 1 256)

longest_element : length (element_text (full 65535)) ≡ 925
unfolding rows_compute
longest_element = refl

longest_subject : length (subject_text (record { active = full 65534; low = full 65533; high = full 65535 })) ≡ 2770
unfolding rows_compute
longest_subject = refl
