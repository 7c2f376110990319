-- Where a text leaves the grammar.
use Rattle.std.specs.Prelude.{◌≡◌, ℕ, true, false, ◌+◌, ◌<◌, ◌≤◌, List, [], ◌∷◌, ◌++◌, length, take, flat_map, codes, decimal}
use Rattle.std.specs.Char.{is_ascii_digit}
use Rattle.std.specs.List.{AllByRecursion}
use Rattle.label_core.specs.declared.element.Element.{Element}
use Rattle.label_core.specs.declared.fault.LabelKind.{LabelKind}
use Rattle.label_core.specs.declared.fault.LabelKind.TheVariants as kind
use Rattle.label_core.specs.CompSet.{IsCompartment}
use Rattle.label_core.specs.Subject.{Parts, is_subject}
use Rattle.label_core.specs.Grammar.{Writing, IsWriting, spelled_element, SpellsElement, SpellsParts}

-- the bytes begin some text that spells an element
abbrev pub BeginsElement : List ℕ → Type 0
BeginsElement front = (more : List ℕ) × (e : Element) × SpellsElement (front ++ more) e

-- the bytes begin some text that spells three parts
abbrev pub BeginsParts : List ℕ → Type 0
BeginsParts front = (more : List ℕ) × (parts : Parts) × SpellsParts (front ++ more) parts

-- the text spells three parts that are no subject
pub record SpellsNoSubject (text : List ℕ) : Type 0 where
  pub parts : Parts
  pub spelling : SpellsParts text parts
  pub none : is_subject parts ≡ false

-- the place is the first byte that no text of the grammar has after those before it, or the end
pub record IsFirstFault (Begins : List ℕ → Type 0) (text : List ℕ) (place : ℕ) : Type 0 where
  pub within : place ≤ length text
  pub before : Begins (take place text)
  pub there : place < length text → Begins (take (place + 1) text) → ⊥

-- the bytes of an element, without the name of its policy, up to a number of the kind: none up to its grade, and up to a
-- compartment its grade, a colon, and the compartments before that one, each with a plus sign
pub data NumberAfter (why : LabelKind) (front : List ℕ) : Type 0 where
  to_grade : why ≡ kind.Grade → front ≡ [] → NumberAfter why front
  to_compartment : (grade : ℕ) (before : List ℕ) → why ≡ kind.Compartment → grade ≤ 65535 → AllByRecursion IsCompartment before
      → front ≡ decimal grade ++ codes ":" ++ flat_map (λ n. decimal n ++ codes "+") before → NumberAfter why front

-- the bytes of an element's text up to its only element: the name of the policy
abbrev pub BeforeElement : List ℕ → Type 0
BeforeElement front = front ≡ codes "mls/"

-- the bytes of three parts' text up to one of them: the name of the policy, and for the ends of a range what is before them
pub data BeforePart (front : List ℕ) : Type 0 where
  before_active : front ≡ codes "mls/" → BeforePart front
  before_low : (active : Writing) → IsWriting active → front ≡ codes "mls/" ++ spelled_element active ++ codes "(" → BeforePart front
  before_high : (active low : Writing) → IsWriting active → IsWriting low
      → front ≡ codes "mls/" ++ spelled_element active ++ codes "(" ++ spelled_element low ++ codes "-" → BeforePart front

-- at the place a digit stands that begins a number of the kind, or goes on with the digits of one
pub record IsDigitOf (Before : List ℕ → Type 0) (why : LabelKind) (text : List ℕ) (place : ℕ) : Type 0 where
  pub before : List ℕ
  pub front : List ℕ
  pub digits : List ℕ
  pub digit : ℕ
  pub rest : List ℕ
  pub element : Before before
  pub number : NumberAfter why front
  pub are_digits : AllByRecursion (λ d. is_ascii_digit d ≡ true) digits
  pub is_digit : is_ascii_digit digit ≡ true
  pub parts : text ≡ before ++ front ++ digits ++ digit ∷ rest
  pub at : place ≡ length (before ++ front ++ digits)
