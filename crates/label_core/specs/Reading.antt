-- Labels read from left to right, with the first fault that is met, in the form of mac_mls(4).
use Rattle.std.specs.Prelude.{◌≡◌, ℕ, zero, suc, ◌+◌, ◌-◌, ◌*◌, Bool, false, ◌||◌, ◌==◌, List, [], ◌∷◌, length, drop, Result, Ok, Err, nat_lt, if◌then◌else◌, codes}
use Rattle.std.specs.Char.{is_ascii_digit}
use Rattle.std.specs.Str.{byte}
use Rattle.label_core.specs.declared.element.Element.{Element}
use Rattle.label_core.specs.declared.element.Element.TheVariants.{Low, Equal, High, Grade}
use Rattle.label_core.specs.declared.fault.LabelKind.{LabelKind}
use Rattle.label_core.specs.declared.fault.LabelKind.TheVariants as kind
use Rattle.label_core.specs.declared.fault.LabelFault.{LabelFault}
use Rattle.label_core.specs.declared.fault.Stop.{Stop}
use Rattle.label_core.specs.CompSet.{with_number}
use Rattle.label_core.specs.Subject.{Parts, is_subject}

-- a step, and the next one where it did not stop
infixl 10 ◌>>=◌
abbrev pub ◌>>=◌ : {A B : Type 0} → Result A Stop → (A → Result B Stop) → Result B Stop
(Ok x) >>= f = f x
(Err stop) >>= f = Err stop

-- what a function returned, seen by view, is what reading gives
abbrev pub Gives : {X Y : Type 0} → (X → Y) → Result X Stop → Result Y Stop → Type 0
Gives view (Ok x) read = read ≡ Ok (view x)
Gives view (Err stop) read = read ≡ Err stop

-- a fault at the first of these bytes, or at the end where there is none
abbrev pub stop_at : LabelKind → List ℕ → Stop
stop_at why bytes = record { kind = why; left = length bytes }

-- whether the next byte is this one
abbrev pub begins : ℕ → List ℕ → Bool
begins b [] = false
begins b (c ∷ rest) = c == b

-- what follows a literal
abbrev pub after_literal : List ℕ → List ℕ → Result (List ℕ) Stop
after_literal [] bytes = Ok bytes
after_literal (l ∷ ls) [] = Err (stop_at kind.Form [])
after_literal (l ∷ ls) (b ∷ bytes) = if b == l then after_literal ls bytes else Err (stop_at kind.Form (b ∷ bytes))

-- whether the ending of a word begins as these bytes do
abbrev pub goes_on : List ℕ → List ℕ → Bool
goes_on [] bytes = false
goes_on (e ∷ es) bytes = begins e bytes

-- what follows a word that may end early: its short form, and the ending of its long form where that begins
unfoldable pub after_word : List ℕ → List ℕ → List ℕ → Result (List ℕ) Stop
after_word short ending bytes = do
  rest ← after_literal short bytes
  if goes_on ending rest then after_literal ending rest else Ok rest

-- a number with one more digit behind its own
abbrev pub with_digit : ℕ → ℕ → ℕ
with_digit n d = n * 10 + (d - byte "0")

-- the number whose digits so far make n; a digit that would make more than the most, or follow a 0, is the fault
abbrev pub digits_at : LabelKind → ℕ → ℕ → List ℕ → Result (ℕ × List ℕ) Stop
digits_at why most n [] = Ok (n, [])
digits_at why most n (d ∷ rest) =
    if is_ascii_digit d
    then (if n == 0 || nat_lt most (with_digit n d) then Err (stop_at why (d ∷ rest)) else digits_at why most (with_digit n d) rest)
    else Ok (n, d ∷ rest)

-- a decimal number from least to most
unfoldable pub number_at : LabelKind → ℕ → ℕ → List ℕ → Result (ℕ × List ℕ) Stop
number_at why least most [] = Err (stop_at kind.Form [])
number_at why least most (d ∷ rest) =
    if is_ascii_digit d
    then (if nat_lt (d - byte "0") least then Err (stop_at why (d ∷ rest)) else digits_at why most (d - byte "0") rest)
    else Err (stop_at kind.Form (d ∷ rest))

-- compartments joined by plus signs, put into a set; the first argument bounds how many there are
unfoldable pub compartments_within : ℕ → List ℕ → List ℕ → Result (List ℕ × List ℕ) Stop
compartments_within zero set bytes = Err (stop_at kind.Form bytes)
compartments_within (suc k) set bytes = do
  n ← number_at kind.Compartment 1 256 bytes
  (if begins (byte "+") n.1
      then compartments_within k (with_number n.0 set) (drop 1 n.1)
      else Ok (with_number n.0 set, n.1))

-- there are no more of them than bytes
unfoldable pub compartments_at : List ℕ → Result (List ℕ × List ℕ) Stop
compartments_at bytes = compartments_within (length bytes) [] bytes

-- a grade, and behind a colon its compartments
unfoldable pub grade_at : List ℕ → Result (Element × List ℕ) Stop
grade_at bytes = do
  n ← number_at kind.Grade 0 65535 bytes
  (if begins (byte ":") n.1
      then (compartments_at (drop 1 n.1) >>= λ set. Ok (Grade n.0 set.0, set.1))
      else Ok (Grade n.0 [], n.1))

-- an element without the name of its policy: a word, long or short, or a grade
unfoldable pub body_at : List ℕ → Result (Element × List ℕ) Stop
body_at bytes =
    if begins (byte "l") bytes then (after_word (codes "lo") (codes "w") bytes >>= λ rest. Ok (Low, rest))
    else (if begins (byte "e") bytes then (after_word (codes "eq") (codes "ual") bytes >>= λ rest. Ok (Equal, rest))
    else (if begins (byte "h") bytes then (after_word (codes "hi") (codes "gh") bytes >>= λ rest. Ok (High, rest))
    else grade_at bytes))

-- an element
unfoldable pub element_at : List ℕ → Result (Element × List ℕ) Stop
element_at bytes = do
  rest ← after_literal (codes "mls/") bytes
  body_at rest

-- the two ends of a range in brackets; where there is none, both are the active element
unfoldable pub range_at : Element → List ℕ → Result ((Element × Element) × List ℕ) Stop
range_at active bytes =
    if begins (byte "(") bytes
    then (do
      low ← body_at (drop 1 bytes)
      rest ← after_literal (codes "-") low.1
      high ← body_at rest
      end ← after_literal (codes ")") high.1
      Ok ((low.0, high.0), end))
    else Ok ((active, active), bytes)

-- a whole text that is an element
unfoldable pub whole_element : List ℕ → Result Element Stop
whole_element text = do
  e ← element_at text
  if length e.1 == 0 then Ok e.0 else Err (stop_at kind.Form e.1)

-- a whole text that is three parts
unfoldable pub whole_parts : List ℕ → Result Parts Stop
whole_parts text = do
  active ← element_at text
  range ← range_at active.0 active.1
  (if length range.1 == 0
      then Ok (record { active = active.0; low = range.0.0; high = range.0.1 })
      else Err (stop_at kind.Form range.1))

-- three parts that are a subject, at the end of the text
abbrev pub subject_or_fault : Parts → Result Parts Stop
subject_or_fault parts = if is_subject parts then Ok parts else Err (stop_at kind.Range [])

-- a whole text that is a subject
unfoldable pub whole_subject : List ℕ → Result Parts Stop
whole_subject text = do
  parts ← whole_parts text
  subject_or_fault parts

-- the fault's place, counted from the text's start
abbrev pub with_place : {A : Type 0} → List ℕ → Result A Stop → Result A LabelFault
with_place text (Ok x) = Ok x
with_place text (Err stop) = Err (record { kind = stop.kind; at = length text - stop.left })

-- the element that a text spells, or its first fault
unfoldable pub element_of : List ℕ → Result Element LabelFault
element_of text = with_place text (whole_element text)

-- the subject that a text spells, or its first fault
unfoldable pub subject_of : List ℕ → Result Parts LabelFault
subject_of text = with_place text (whole_subject text)
