-- Words are read as they are spelled.
use Rattle.std.proofs.Common.{◌≡◌, ℕ, Bool, true, false, not, List, [], ◌∷◌, ◌++◌, flat_map, Ok, refl, sym, ap, ◌∙◌, append_assoc}
use Rattle.std.specs.List.{AllByRecursion}
use Rattle.sh_text.specs.declared.words.Quoting.TheVariants.{Bare, InQuotes}
use Rattle.sh_text.specs.Bytes.{ends_word}
use Rattle.sh_text.specs.Reading.{word_from, word_at, begins_word}
use Rattle.sh_text.specs.Grammar.{Part, bare, in_quotes, behind_backslash, IsNoQuote, IsPart, spelled_part, meant_part}

append_none : (word : List ℕ) → word ++ [] ≡ word
append_none [] = refl
append_none (b ∷ word) = ap (λ w. b ∷ w) (append_none word)

-- a byte between single quotes
quoted_byte : (word bytes : List ℕ) (b : ℕ) → IsNoQuote b → word_from InQuotes word (b ∷ bytes) ≡ word_from InQuotes (word ++ b ∷ []) bytes
unfolding word_from
quoted_byte word bytes b other = rw other refl

-- bytes between single quotes, and the quote behind them
quoted_bytes : (word bytes rest : List ℕ) → AllByRecursion IsNoQuote bytes → word_from InQuotes word (bytes ++ 39 ∷ rest) ≡ word_from Bare (word ++ bytes) rest
unfolding word_from
quoted_bytes word [] rest all = rw (append_none word) refl
quoted_bytes word (b ∷ bytes) rest all =
    quoted_byte word (bytes ++ 39 ∷ rest) b all.0
    ∙ quoted_bytes (word ++ b ∷ []) bytes rest all.1
    ∙ ap (λ w. word_from Bare w rest) (append_assoc word (b ∷ []) bytes)

bare_byte : (word rest : List ℕ) (b : ℕ) → IsPart (bare b) → word_from Bare word (b ∷ rest) ≡ word_from Bare (word ++ b ∷ []) rest
unfolding word_from
bare_byte word rest b is = rw (is.0, is.1, is.2) refl

-- one part
part_spelled : (part : Part) (word rest : List ℕ) → IsPart part
    → word_from Bare word (spelled_part part ++ rest) ≡ word_from Bare (word ++ meant_part part) rest
unfolding word_from
part_spelled (bare b) word rest is = bare_byte word rest b is
part_spelled (in_quotes bytes) word rest is = ap (λ bs. word_from InQuotes word bs) (append_assoc bytes (39 ∷ []) rest) ∙ quoted_bytes word bytes rest is
part_spelled (behind_backslash b) word rest is = refl

-- all parts
parts_spelled : (parts : List Part) (word rest : List ℕ) → AllByRecursion IsPart parts
    → word_from Bare word (flat_map spelled_part parts ++ rest) ≡ word_from Bare (word ++ flat_map meant_part parts) rest
parts_spelled [] word rest all = ap (λ w. word_from Bare w rest) (sym (append_none word))
parts_spelled (part ∷ parts) word rest all =
    ap (λ bs. word_from Bare word bs) (append_assoc (spelled_part part) (flat_map spelled_part parts) rest)
    ∙ part_spelled part word (flat_map spelled_part parts ++ rest) all.0
    ∙ parts_spelled parts (word ++ meant_part part) rest all.1
    ∙ ap (λ w. word_from Bare w rest) (append_assoc word (meant_part part) (flat_map meant_part parts))

not_false : (b : Bool) → not b ≡ false → b ≡ true
not_false true e = refl
not_false false e = absurd cc

-- the word ends where no word goes on
ends_there : (word rest : List ℕ) → begins_word rest ≡ false → word_from Bare word rest ≡ Ok (word, rest)
unfolding word_from
ends_there word [] e = refl
ends_there word (b ∷ rest) e = rw (not_false (ends_word b) e) refl

pub part_begins : (part : Part) (rest : List ℕ) → IsPart part → begins_word (spelled_part part ++ rest) ≡ true
part_begins (bare b) rest is = ap not is.0
part_begins (in_quotes bytes) rest is = refl
part_begins (behind_backslash b) rest is = refl

pub word_spelled : (first : Part) (more : List Part) (rest : List ℕ) → AllByRecursion IsPart (first ∷ more) → begins_word rest ≡ false
    → word_at (flat_map spelled_part (first ∷ more) ++ rest) ≡ Ok (flat_map meant_part (first ∷ more), rest)
unfolding word_at
word_spelled first more rest all ends =
    let begins : begins_word (flat_map spelled_part (first ∷ more) ++ rest) ≡ true =
    ap begins_word (append_assoc (spelled_part first) (flat_map spelled_part more) rest) ∙ part_begins first (flat_map spelled_part more ++ rest) all.0 in
    rw begins (parts_spelled (first ∷ more) [] rest all ∙ ends_there (flat_map meant_part (first ∷ more)) rest ends)
