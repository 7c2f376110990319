-- The words of flags are letters, and each names one flag.
use Rattle.std.proofs.Common.{◌≡◌, ℕ, ◌<◌, ◌≤◌, Bool, true, ◌&&◌, leb, ltb, List, [], ◌∷◌, length, find, Some, inl, inr, refl, sym, ap, ◌∙◌, arith}
use Rattle.std.specs.List.{AllByRecursion, list_all}
use Rattle.std.specs.Str.{bytes_eq}
use Rattle.std.proofs.lemmas.Bool.{leb-true, ltb-true}
use Rattle.std.proofs.lemmas.Bool.Decides.{nat_tests}
use Rattle.std.proofs.lemmas.Slice.Eq.{bytes_eq-Decides}
use Rattle.termios_core.specs.declared.flags.Flag.{Flag}
use Rattle.termios_core.specs.declared.flags.Flag.TheVariants.{Istrip, Inlcr, Igncr, Icrnl, Ixon, Opost, Onlcr, Ocrnl, Clocal, Hupcl, Isig, Icanon, Echo, Echoe, Echok, Echonl, Echoctl, Noflsh, Tostop}
use Rattle.termios_core.specs.Flags.{all_flags, word}
use Rattle.termios_core.specs.Text.{IsGraphic}
use Rattle.termios_core.specs.Reading.{flag_of}
use Rattle.termios_core.proofs.CaseLemmas.{both, choice_cases, some_is}
use Rattle.termios_core.proofs.SplitLemmas.{Lacks}

-- from a to z
abbrev is_letter : ℕ → Bool
is_letter b = leb 97 b && leb b 122

letters : (flag : Flag) → list_all is_letter (word flag) ≡ true
letters Istrip = refl
letters Inlcr = refl
letters Igncr = refl
letters Icrnl = refl
letters Ixon = refl
letters Opost = refl
letters Onlcr = refl
letters Ocrnl = refl
letters Clocal = refl
letters Hupcl = refl
letters Isig = refl
letters Icanon = refl
letters Echo = refl
letters Echoe = refl
letters Echok = refl
letters Echonl = refl
letters Echoctl = refl
letters Noflsh = refl
letters Tostop = refl

letter_range : (b : ℕ) → is_letter b ≡ true → (97 ≤ b) × (b ≤ 122)
letter_range b h =
    let parts = both (leb 97 b) (leb b 122) h in
    (leb-true _ _ parts.0, leb-true _ _ parts.1)

letters_lack : (c : ℕ) (text : List ℕ) → c < 97 → list_all is_letter text ≡ true → Lacks c text
letters_lack c [] low h = tt
letters_lack c (b ∷ text) low h =
    let parts = both (is_letter b) (list_all is_letter text) h in
    let letter : 97 ≤ b = (letter_range b parts.0).0 in
    (grind (arith, nat_tests), letters_lack c text low parts.1)

letters_graphic : (text : List ℕ) → list_all is_letter text ≡ true → AllByRecursion IsGraphic text
letters_graphic [] h = tt
letters_graphic (b ∷ text) h =
    let parts = both (is_letter b) (list_all is_letter text) h in
    let range = letter_range b parts.0 in
    ((omega (arith, range.0), omega (arith, range.1)), letters_graphic text parts.1)

-- a byte below the letters stands in no word
pub word_lacks : (c : ℕ) (flag : Flag) → c < 97 → Lacks c (word flag)
word_lacks c flag low = letters_lack c (word flag) low (letters flag)

pub word_graphic : (flag : Flag) → AllByRecursion IsGraphic (word flag)
word_graphic flag = letters_graphic (word flag) (letters flag)

short_word : (flag : Flag) → (ltb 0 (length (word flag)) && leb (length (word flag)) 7) ≡ true
short_word Istrip = refl
short_word Inlcr = refl
short_word Igncr = refl
short_word Icrnl = refl
short_word Ixon = refl
short_word Opost = refl
short_word Onlcr = refl
short_word Ocrnl = refl
short_word Clocal = refl
short_word Hupcl = refl
short_word Isig = refl
short_word Icanon = refl
short_word Echo = refl
short_word Echoe = refl
short_word Echok = refl
short_word Echonl = refl
short_word Echoctl = refl
short_word Noflsh = refl
short_word Tostop = refl

-- a word has one to seven letters
pub length-word : (flag : Flag) → (0 < length (word flag)) × (length (word flag) ≤ 7)
length-word flag =
    let parts = both (ltb 0 (length (word flag))) (leb (length (word flag)) 7) (short_word flag) in
    (ltb-true _ _ parts.0, leb-true _ _ parts.1)

-- a word names its flag
pub flag_of-word : (flag : Flag) → flag_of (word flag) ≡ Some flag
flag_of-word Istrip = refl
flag_of-word Inlcr = refl
flag_of-word Igncr = refl
flag_of-word Icrnl = refl
flag_of-word Ixon = refl
flag_of-word Opost = refl
flag_of-word Onlcr = refl
flag_of-word Ocrnl = refl
flag_of-word Clocal = refl
flag_of-word Hupcl = refl
flag_of-word Isig = refl
flag_of-word Icanon = refl
flag_of-word Echo = refl
flag_of-word Echoe = refl
flag_of-word Echok = refl
flag_of-word Echonl = refl
flag_of-word Echoctl = refl
flag_of-word Noflsh = refl
flag_of-word Tostop = refl

find_passes : {X : Type 0} (test : X → Bool) (xs : List X) (x : X) → find test xs ≡ Some x → test x ≡ true
find_passes test [] x e = absurd cc
find_passes test (y ∷ xs) x e = elim (choice_cases (test y) (Some y) (find test xs) (Some x) e) [
  | inl here ↦ ap test (sym (some_is y x here.1)) ∙ here.0
  | inr there ↦ find_passes test xs x there.1
]

-- what names a flag is its word
pub flag_of_some : (name : List ℕ) (flag : Flag) → flag_of name ≡ Some flag → name ≡ word flag
flag_of_some name flag e = sym ((bytes_eq-Decides (word flag) name).0 (find_passes (λ f. bytes_eq (word f) name) all_flags flag e))
