-- The texts that are read are those that spell a termios.
use Rattle.std.proofs.Common.{◌≡◌, ℕ, ◌<◌, Bool, true, cond, false, eqb, List, [], ◌∷◌, ◌++◌, length, map, Option, Some, None, codes, option_map, inl, inr, refl, sym, ap, subst, ◌∙◌, append_assoc, lit<, rules, arith}
use Rattle.std.specs.Prelude.{IfSome, option_and_then}
use Rattle.std.specs.List.{AllByRecursion, join_with_byte}
use Rattle.std.specs.Str.{bytes_eq}
use Rattle.std.specs.Str.Parse.{AllDigits}
use Rattle.std.specs.Fmt.{decimal}
use Rattle.std.proofs.lemmas.Bool.{false≢true}
use Rattle.std.proofs.lemmas.Bool.Decides.{nat_tests}
use Rattle.std.proofs.lemmas.Slice.Eq.{bytes_eq-Decides}
use Rattle.std.proofs.lemmas.List.Splits.{length-slice_split, join_with_byte-slice_split}
use Rattle.std.proofs.lemmas.Str.Parse.{digit_from_value}
use Rattle.std.proofs.lemmas.Fmt.{decimal_is_IsNumeral}
use Rattle.termios_core.specs.declared.flags.Flag.{Flag}
use Rattle.termios_core.specs.declared.flags.Flags.{Flags}
use Rattle.termios_core.specs.declared.termios.Termios.{Termios}
use Rattle.termios_core.specs.Flags.{word, flags_of, on_flags}
use Rattle.termios_core.specs.Termios.{numbers, HasBytes, cooked, raw}
use Rattle.termios_core.specs.Text.{comma, plus, colon, flags_text, numbers_text, termios_text, Spells, cooked_word, raw_word, settings}
use Rattle.termios_core.specs.Reading.{each, parts, flag_of, flags_in, byte_of, bytes_in, with_numbers, around_colon, settings_of, termios_of}
use Rattle.termios_core.proofs.CaseLemmas.{is_false, choice_cases, some_is, some_of_map, some_of_step, if_some}
use Rattle.termios_core.proofs.ByteLemmas.{byte_of-decimal, byte_of_some}
use Rattle.termios_core.proofs.FlagSetLemmas.{flags_of-on_flags}
use Rattle.termios_core.proofs.EachPartLemmas.{each_is, each_all, each_again}
use Rattle.termios_core.proofs.SplitLemmas.{Lacks, Lacks-join, parts-join, around_colon-at, around_colon-some}
use Rattle.termios_core.proofs.WordLemmas.{word_lacks, flag_of-word, flag_of_some}

bytes_eq_is : (xs ys : List ℕ) → bytes_eq xs ys ≡ true → xs ≡ ys
bytes_eq_is xs ys e = (bytes_eq-Decides xs ys).0 e

-- ---- flags

words_text : (text : List ℕ) (flags : List Flag) → parts comma text ≡ map word flags → text ≡ flags_text flags
words_text text [] e = absurd (omega (arith, length-slice_split (λ b. eqb b comma) text, ap length e))
words_text text (flag ∷ flags) e = sym (join_with_byte-slice_split comma text) ∙ ap (join_with_byte comma) e

flags_in_some : (text : List ℕ) (flags : Flags) → flags_in text ≡ Some flags → (list : List Flag) × (flags ≡ flags_of list) × (text ≡ flags_text list)
flags_in_some text flags e =
    elim (choice_cases (bytes_eq text (codes "-")) (Some (flags_of [])) (option_map flags_of (each flag_of (parts comma text))) (Some flags) e) [
      | inl dash ↦ ([], sym (some_is (flags_of []) flags dash.1), bytes_eq_is text (codes "-") dash.0)
      | inr words ↦
          let read = some_of_map flags_of (each flag_of (parts comma text)) flags words.1 in
          (read.0, read.2, words_text text read.0 (each_is flag_of word flag_of_some (parts comma text) read.0 read.1))
    ]

all_lack : (c : ℕ) → c < 97 → (flags : List Flag) → AllByRecursion (Lacks c) (map word flags)
all_lack c low [] = tt
all_lack c low (flag ∷ flags) = (word_lacks c flag low, all_lack c low flags)

all_flags : (flags : List Flag) → AllByRecursion (λ _. Unit {0}) flags
all_flags [] = tt
all_flags (flag ∷ flags) = (tt, all_flags flags)

abbrev dash : ℕ
dash = 45

dash_found : Lacks dash (codes "-") → ⊥
dash_found h = absurd (false≢true (sym h.0))

flags_in-text : (flags : List Flag) → flags_in (flags_text flags) ≡ Some (flags_of flags)
flags_in-text [] = refl
flags_in-text (flag ∷ flags) =
    let text = join_with_byte comma (map word (flag ∷ flags)) in
    let dashless : Lacks dash text = Lacks-join dash comma (map word (flag ∷ flags)) refl (all_lack dash (lit< tt) (flag ∷ flags)) in
    let words : bytes_eq text (codes "-") ≡ false =
    is_false (bytes_eq text (codes "-")) (λ e. dash_found (subst (Lacks dash) (bytes_eq_is text (codes "-") e) dashless)) in
    ap (λ (b : Bool). cond b (Some (flags_of [])) (option_map flags_of (each flag_of (parts comma text)))) words
    ∙ ap (λ (ws : List (List ℕ)). option_map flags_of (each flag_of ws))
    (parts-join comma (word flag) (map word flags) (all_lack comma (lit< tt) (flag ∷ flags)))
    ∙ ap (option_map flags_of) (each_again flag_of word (λ _. Unit {0}) (λ f _. flag_of-word f) (flag ∷ flags) (all_flags (flag ∷ flags)))

flags_text_lacks : (flags : List Flag) → Lacks colon (flags_text flags)
flags_text_lacks [] = (refl, tt)
flags_text_lacks (flag ∷ flags) = Lacks-join colon comma (map word (flag ∷ flags)) refl (all_lack colon (lit< tt) (flag ∷ flags))

-- ---- numbers

digits_lack : (c : ℕ) (text : List ℕ) → c < 48 → AllDigits 10 text → Lacks c text
digits_lack c [] low h = tt
digits_lack c (b ∷ text) low h =
    let digit = digit_from_value b h.0 in
    (grind (arith, nat_tests), digits_lack c text low h.1)

decimals_lack : (c : ℕ) → c < 48 → (ns : List ℕ) → AllByRecursion (λ n. n < 256) ns → AllByRecursion (Lacks c) (map decimal ns)
decimals_lack c low [] h = tt
decimals_lack c low (n ∷ ns) h = (digits_lack c (decimal n) low (decimal_is_IsNumeral n (omega arith)).0.1, decimals_lack c low ns h.1)

bytes_in_some : (text : List ℕ) (ns : List ℕ) → bytes_in text ≡ Some ns → (text ≡ join_with_byte plus (map decimal ns)) × AllByRecursion (λ n. n < 256) ns
bytes_in_some text ns e = (
  sym (join_with_byte-slice_split plus text)
      ∙ ap (join_with_byte plus) (each_is byte_of decimal (λ part n h. (byte_of_some part n h).0) (parts plus text) ns e),
  each_all byte_of (λ n. n < 256) (λ part n h. (byte_of_some part n h).1) (parts plus text) ns e,
)

bytes_in-text : (n : ℕ) (ns : List ℕ) → AllByRecursion (λ n. n < 256) (n ∷ ns) → bytes_in (join_with_byte plus (map decimal (n ∷ ns))) ≡ Some (n ∷ ns)
bytes_in-text n ns h =
    ap (each byte_of) (parts-join plus (decimal n) (map decimal ns) (decimals_lack plus (lit< tt) (n ∷ ns) h))
    ∙ each_again byte_of decimal (λ n. n < 256) byte_of-decimal (n ∷ ns) h

with_numbers_some : (flags : Flags) (ns : List ℕ) (t : Termios) → with_numbers flags ns ≡ Some t → (t.flags ≡ flags) × (numbers t ≡ ns)
with_numbers_some flags (a ∷ b ∷ c ∷ d ∷ e ∷ f ∷ g ∷ h ∷ i ∷ j ∷ k ∷ []) t is =
    let same : record { flags = flags; intr = a; quit = b; erase = c; kill = d; eof = e; eol = f; start = g; stop = h; susp = i; min = j; time = k } ≡ t =
    some_is _ t is in
    (ap (λ (x : Termios). x.flags) (sym same), ap numbers (sym same))
with_numbers_some flags _ t is = absurd cc

-- ---- the whole text

settings_spell : (text : List ℕ) (sides : List ℕ × List ℕ) (t : Termios) → around_colon text ≡ Some sides → settings_of sides.0 sides.1 ≡ Some t
    → Spells text t × HasBytes t
settings_spell text sides t cut e =
    let f = some_of_step (λ f. option_and_then (λ ns. with_numbers f ns) (bytes_in sides.1)) (flags_in sides.0) t e in
    let n = some_of_step (λ ns. with_numbers f.0 ns) (bytes_in sides.1) t f.2 in
    let flags = flags_in_some sides.0 f.0 f.1 in
    let bytes = bytes_in_some sides.1 n.0 n.1 in
    let made = with_numbers_some f.0 n.0 t n.2 in
    let rest : sides.1 ≡ numbers_text t = bytes.0 ∙ ap (λ (ns : List ℕ). join_with_byte plus (map decimal ns)) (sym made.1) in
    let whole : text ≡ flags_text flags.0 ++ codes ":" ++ numbers_text t =
    around_colon-some text sides cut
    ∙ ap (λ (front : List ℕ). front ++ colon ∷ sides.1) flags.2
    ∙ ap (λ (ns : List ℕ). flags_text flags.0 ++ colon ∷ ns) rest
    ∙ sym (append_assoc (flags_text flags.0) (codes ":") (numbers_text t)) in
    (settings flags.0 (made.0 ∙ flags.1) whole, subst (AllByRecursion (λ n. n < 256)) (sym made.1) bytes.1)

cooked_fits : HasBytes cooked
cooked_fits = search rules

raw_fits : HasBytes raw
raw_fits = search rules

-- what is read is spelled so, and its numbers are bytes
pub Spells-termios_of : (text : List ℕ) (t : Termios) → termios_of text ≡ Some t → Spells text t × HasBytes t
unfolding termios_of
Spells-termios_of text t e =
    let sides : Option Termios = option_and_then (λ s. settings_of s.0 s.1) (around_colon text) in
    elim (choice_cases (bytes_eq text (codes "cooked")) (Some cooked) (cond (bytes_eq text (codes "raw")) (Some raw) sides) (Some t) e) [
      | inl is ↦ let same = some_is cooked t is.1 in (cooked_word (bytes_eq_is text (codes "cooked") is.0) (sym same), subst HasBytes same cooked_fits)
      | inr other ↦ elim (choice_cases (bytes_eq text (codes "raw")) (Some raw) sides (Some t) other.1) [
        | inl is ↦ let same = some_is raw t is.1 in (raw_word (bytes_eq_is text (codes "raw") is.0) (sym same), subst HasBytes same raw_fits)
        | inr cut ↦ let s = some_of_step (λ s. settings_of s.0 s.1) (around_colon text) t cut.1 in settings_spell text s.0 t s.1 s.2
      ]
    ]

settings_again : (front rest : List ℕ) (flags : Flags) (ns : List ℕ) → flags_in front ≡ Some flags → bytes_in rest ≡ Some ns
    → settings_of front rest ≡ with_numbers flags ns
settings_again front rest flags ns f n = rw (f, n) refl

termios_of_sides : (text : List ℕ) (sides : List ℕ × List ℕ) → bytes_eq text (codes "cooked") ≡ false → bytes_eq text (codes "raw") ≡ false
    → around_colon text ≡ Some sides → termios_of text ≡ settings_of sides.0 sides.1
unfolding termios_of
termios_of_sides text sides c r cut = rw (c, r, cut) refl

abbrev none : Option (List ℕ × List ℕ)
none = None

-- a text with a colon is no word without one
not_word : (text name : List ℕ) (sides : List ℕ × List ℕ) → around_colon text ≡ Some sides → around_colon name ≡ none → bytes_eq text name ≡ false
not_word text name sides cut word = is_false (bytes_eq text name) (λ e.
    let bad : none ≡ Some sides = sym word ∙ ap around_colon (sym (bytes_eq_is text name e)) ∙ cut in
    cc)

-- what is spelled so is read
pub termios_of-Spells : (text : List ℕ) (t : Termios) → HasBytes t → Spells text t → termios_of text ≡ Some t
unfolding termios_of
termios_of-Spells text t fits (cooked_word e same) = ap termios_of e ∙ ap (λ (x : Termios). Some x) (sym same)
termios_of-Spells text t fits (raw_word e same) = ap termios_of e ∙ ap (λ (x : Termios). Some x) (sym same)
termios_of-Spells text t fits (settings list same e) =
    let sides : List ℕ × List ℕ = (flags_text list, numbers_text t) in
    let cut : around_colon text ≡ Some sides =
    ap around_colon (e ∙ append_assoc (flags_text list) (codes ":") (numbers_text t))
    ∙ around_colon-at (flags_text list) (numbers_text t) (flags_text_lacks list) in
    termios_of_sides text sides (not_word text (codes "cooked") sides cut refl) (not_word text (codes "raw") sides cut refl) cut
    ∙ settings_again (flags_text list) (numbers_text t) (flags_of list) (numbers t) (flags_in-text list) (bytes_in-text t.intr _ fits)
    ∙ ap (λ (f : Flags). with_numbers f (numbers t)) (sym same)

-- what is printed is read as the same termios
pub termios_of-termios_text : (t : Termios) → HasBytes t → termios_of (termios_text t) ≡ Some t
unfolding termios_text
termios_of-termios_text t fits = termios_of-Spells (termios_text t) t fits (settings (on_flags t.flags) (sym (flags_of-on_flags t.flags)) refl)

pub IfSome-Spells : (text : List ℕ) (r : Option Termios) → r ≡ termios_of text → IfSome r (λ t. Spells text t)
IfSome-Spells text r e = if_some r (λ t. Spells text t) (λ t is. (Spells-termios_of text t (sym e ∙ is)).0)
