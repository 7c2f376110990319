-- What is printed is one short word.
use Rattle.std.proofs.Common.{ℕ, ◌+◌, ◌*◌, ◌<◌, ◌≤◌, Bool, true, false, cond, List, [], ◌∷◌, ◌++◌, length, map, filter, codes, arith, lit<}
use Rattle.std.specs.List.{AllByRecursion, join_with_byte}
use Rattle.std.specs.Str.Parse.{AllDigits}
use Rattle.std.specs.Fmt.{decimal}
use Rattle.std.proofs.lemmas.List.{length-append, length-map}
use Rattle.std.proofs.lemmas.Str.Parse.{digit_from_value}
use Rattle.std.proofs.lemmas.Fmt.{decimal_is_IsNumeral, length-decimal-le}
use Rattle.termios_core.specs.declared.flags.Flag.{Flag}
use Rattle.termios_core.specs.declared.flags.Flags.{Flags}
use Rattle.termios_core.specs.declared.termios.Termios.{Termios}
use Rattle.termios_core.specs.Flags.{all_flags, word, is_on, on_flags}
use Rattle.termios_core.specs.Termios.{numbers, HasBytes}
use Rattle.termios_core.specs.Text.{comma, plus, flags_text, numbers_text, termios_text, IsGraphic, IsWord}
use Rattle.termios_core.proofs.WordLemmas.{word_graphic, length-word}

graphic-append : (xs ys : List ℕ) → AllByRecursion IsGraphic xs → AllByRecursion IsGraphic ys → AllByRecursion IsGraphic (xs ++ ys)
graphic-append [] ys h k = k
graphic-append (x ∷ xs) ys h k = (h.0, graphic-append xs ys h.1 k)

graphic-join : (c : ℕ) (ps : List (List ℕ)) → IsGraphic c → AllByRecursion (AllByRecursion IsGraphic) ps → AllByRecursion IsGraphic (join_with_byte c ps)
graphic-join c [] between h = tt
graphic-join c (p ∷ []) between h = h.0
graphic-join c (p ∷ q ∷ ps) between h = graphic-append p (c ∷ join_with_byte c (q ∷ ps)) h.0 (between, graphic-join c (q ∷ ps) between h.1)

-- a join of n parts of at most k bytes
length-join : (c k : ℕ) (ps : List (List ℕ)) → AllByRecursion (λ p. length p ≤ k) ps → length (join_with_byte c ps) ≤ (k + 1) * length ps
length-join c k [] h = omega arith
length-join c k (p ∷ []) h = omega (arith, h.0)
length-join c k (p ∷ q ∷ ps) h =
    let rest = length-join c k (q ∷ ps) h.1 in
    omega (arith, h.0, rest, length-append p (c ∷ join_with_byte c (q ∷ ps)))

-- ---- flags

words_graphic : (flags : List Flag) → AllByRecursion (AllByRecursion IsGraphic) (map word flags)
words_graphic [] = tt
words_graphic (flag ∷ flags) = (word_graphic flag, words_graphic flags)

words_short : (flags : List Flag) → AllByRecursion (λ w. length w ≤ 7) (map word flags)
words_short [] = tt
words_short (flag ∷ flags) = ((length-word flag).1, words_short flags)

flags_graphic : (flags : List Flag) → AllByRecursion IsGraphic (flags_text flags)
flags_graphic [] = ((lit< tt, lit< tt), tt)
flags_graphic (flag ∷ flags) = graphic-join comma (map word (flag ∷ flags)) (lit< tt, lit< tt) (words_graphic (flag ∷ flags))

flags_short : (flags : List Flag) → length (flags_text flags) ≤ 8 * length flags + 1
flags_short [] = omega arith
flags_short (flag ∷ flags) = omega (arith, length-join comma 7 (map word (flag ∷ flags)) (words_short (flag ∷ flags)), length-map flags word)

length_choice : (b : Bool) (flag : Flag) (kept : List Flag) → length (cond b (flag ∷ kept) kept) ≤ length kept + 1
length_choice true flag kept = omega arith
length_choice false flag kept = omega arith

length-filter-le : (p : Flag → Bool) (flags : List Flag) → length (filter p flags) ≤ length flags
length-filter-le p [] = omega arith
length-filter-le p (flag ∷ flags) = omega (arith, length_choice (p flag) flag (filter p flags), length-filter-le p flags)

on_at_most : (flags : Flags) → length (on_flags flags) ≤ 19
unfolding on_flags
on_at_most flags = length-filter-le (is_on flags) all_flags

-- ---- numbers

digits_graphic : (ds : List ℕ) → AllDigits 10 ds → AllByRecursion IsGraphic ds
digits_graphic [] h = tt
digits_graphic (d ∷ ds) h =
    let digit = digit_from_value d h.0 in
    ((omega (arith, digit.0), omega (arith, digit.1)), digits_graphic ds h.1)

decimals_graphic : (ns : List ℕ) → AllByRecursion (λ n. n < 256) ns → AllByRecursion (AllByRecursion IsGraphic) (map decimal ns)
decimals_graphic [] h = tt
decimals_graphic (n ∷ ns) h = (digits_graphic (decimal n) (decimal_is_IsNumeral n (omega arith)).0.1, decimals_graphic ns h.1)

decimals_short : (ns : List ℕ) → AllByRecursion (λ n. n < 256) ns → AllByRecursion (λ p. length p ≤ 3) (map decimal ns)
decimals_short [] h = tt
decimals_short (n ∷ ns) h = (length-decimal-le 3 n (lit< tt) (omega arith) (omega arith), decimals_short ns h.1)

-- ---- the whole text

pub IsWord-termios_text : (t : Termios) → HasBytes t → IsWord (termios_text t)
unfolding termios_text
IsWord-termios_text t fits =
    let flags = flags_text (on_flags t.flags) in
    record {
      some = omega (arith, length-append (flags ++ codes ":") (numbers_text t), length-append flags (codes ":"));
      graphic = graphic-append (flags ++ codes ":") (numbers_text t)
          (graphic-append flags (codes ":") (flags_graphic (on_flags t.flags)) ((lit< tt, lit< tt), tt))
          (graphic-join plus (map decimal (numbers t)) (lit< tt, lit< tt) (decimals_graphic (numbers t) fits));
    }

pub length-termios_text : (t : Termios) → HasBytes t → length (termios_text t) ≤ 300
unfolding termios_text
length-termios_text t fits =
    let flags = flags_text (on_flags t.flags) in
    omega (
      arith,
      length-append (flags ++ codes ":") (numbers_text t),
      length-append flags (codes ":"),
      flags_short (on_flags t.flags),
      on_at_most t.flags,
      length-join plus 3 (map decimal (numbers t)) (decimals_short (numbers t) fits),
    )
