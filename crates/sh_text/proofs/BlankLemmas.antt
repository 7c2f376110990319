-- Blanks before what is read.
use Rattle.std.proofs.Common.{◌≡◌, ℕ, ◌≤◌, true, false, not, List, [], ◌∷◌, ◌++◌, length, refl, sym, ap, ◌∙◌, arith, inl, inr}
use Rattle.std.proofs.lemmas.Bool.{cases_Bool}
use Rattle.sh_text.specs.Bytes.{is_blank, ends_word, after_blanks}
use Rattle.sh_text.specs.Reading.{begins_word}
use Rattle.sh_text.specs.Grammar.{EndsWord, AreBlanks}

-- the blanks at the front
pub record Front (bytes : List ℕ) : Type 0 where
  pub blanks : List ℕ
  pub are : AreBlanks blanks
  pub parts : bytes ≡ blanks ++ after_blanks bytes

front_blank : (b : ℕ) (bytes : List ℕ) → is_blank b ≡ true → Front bytes → Front (b ∷ bytes)
front_blank b bytes is f = record { blanks = b ∷ f.blanks; are = (is, f.are); parts = rw is (ap (λ (r : List ℕ). b ∷ r) f.parts) }

front_none : (b : ℕ) (bytes : List ℕ) → is_blank b ≡ false → Front (b ∷ bytes)
front_none b bytes is = record { blanks = []; are = tt; parts = rw is refl }

pub front : (bytes : List ℕ) → Front bytes
front [] = record { blanks = []; are = tt; parts = refl }
front (b ∷ bytes) = elim (cases_Bool (is_blank b)) [ inl is ↦ front_blank b bytes is (front bytes) | inr is ↦ front_none b bytes is ]

-- one byte

pub blank_skipped : (b : ℕ) (bytes : List ℕ) → is_blank b ≡ true → after_blanks (b ∷ bytes) ≡ after_blanks bytes
blank_skipped b bytes is = rw is refl

pub other_stays : (b : ℕ) (bytes : List ℕ) → is_blank b ≡ false → after_blanks (b ∷ bytes) ≡ b ∷ bytes
other_stays b bytes is = rw is refl

pub blanks_skipped : (blanks rest : List ℕ) → AreBlanks blanks → after_blanks (blanks ++ rest) ≡ after_blanks rest
blanks_skipped [] rest are = refl
blanks_skipped (b ∷ blanks) rest are = blank_skipped b (blanks ++ rest) are.0 ∙ blanks_skipped blanks rest are.1

pub twice : (bytes : List ℕ) → after_blanks (after_blanks bytes) ≡ after_blanks bytes
twice [] = refl
twice (b ∷ bytes) = elim (cases_Bool (is_blank b)) [ inl is ↦ rw is (twice bytes) | inr is ↦ rw (is, other_stays b bytes is) refl ]

pub no_more : (bytes : List ℕ) → length (after_blanks bytes) ≤ length bytes
no_more [] = omega arith
no_more (b ∷ bytes) = elim (cases_Bool (is_blank b)) [ inl is ↦ rw is (omega (arith, no_more bytes)) | inr is ↦ rw is (omega arith) ]

-- a blank ends a word

pub blank_ends : (b : ℕ) → is_blank b ≡ true → ends_word b ≡ true
blank_ends b is = rw is refl

pub no_blank : (b : ℕ) → ends_word b ≡ false → is_blank b ≡ false
no_blank b goes = elim (cases_Bool (is_blank b)) [ inl is ↦ (let wrong : true ≡ false = sym (blank_ends b is) ∙ goes in absurd cc) | inr is ↦ is ]

-- no word begins there

pub no_word : (rest : List ℕ) → EndsWord rest → begins_word rest ≡ false
no_word [] ends = refl
no_word (b ∷ rest) ends = ap not ends

pub word_or_end : (rest : List ℕ) → begins_word rest ≡ false → EndsWord rest
word_or_end [] none = tt
word_or_end (b ∷ rest) none =
    elim (cases_Bool (ends_word b)) [ inl ends ↦ ends | inr goes ↦ (let wrong : true ≡ false = sym (ap not goes) ∙ none in absurd cc) ]

pub blanks_end : (blanks rest : List ℕ) → AreBlanks blanks → 1 ≤ length blanks → EndsWord (blanks ++ rest)
blanks_end [] rest are some = absurd (omega (arith, some))
blanks_end (b ∷ blanks) rest are some = blank_ends b are.0

-- a word begins with no blank
pub word_stays : (bytes : List ℕ) → begins_word bytes ≡ true → after_blanks bytes ≡ bytes
word_stays [] begins = refl
word_stays (b ∷ bytes) begins = elim (cases_Bool (ends_word b)) [
  | inl ends ↦ (let wrong : true ≡ false = sym begins ∙ ap not ends in absurd cc)
  | inr goes ↦ other_stays b bytes (no_blank b goes)
]
