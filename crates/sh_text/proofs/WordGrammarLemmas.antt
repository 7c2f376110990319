-- What is read as a word is spelled so.
use Rattle.std.proofs.Common.{◌≡◌, ℕ, ◌≤◌, true, false, not, eqb, List, [], ◌∷◌, ◌++◌, length, get_or, Ok, Err, refl, sym, ap, ◌∙◌, arith, inl, inr, append_assoc, append-nil}
use Rattle.std.specs.Prelude.{⊤, flat_map}
use Rattle.std.specs.List.{AllByRecursion}
use Rattle.std.proofs.lemmas.Bool.{cases_Bool, eqb-true}
use Rattle.sh_text.specs.declared.words.Quoting.{Quoting}
use Rattle.sh_text.specs.declared.words.Quoting.TheVariants.{Bare, InQuotes, BehindBackslash}
use Rattle.sh_text.specs.Bytes.{ends_word}
use Rattle.sh_text.specs.Reading.{word_from, word_at, begins_word, stop_at}
use Rattle.sh_text.specs.Grammar.{Part, bare, in_quotes, behind_backslash, IsNoQuote, IsPart, spelled_part, meant_part, EndsWord, SpellsWord}
use Rattle.sh_text.proofs.StepLemmas.{choice_cases, ok_of, ok_is, err_not_ok}

-- the bytes up to where what is quoted ends: the inner ones, with the quote that closes them
abbrev closing : Quoting → List ℕ → List ℕ
closing Bare inner = []
closing InQuotes inner = inner ++ 39 ∷ []
closing BehindBackslash inner = get_or inner 0 0 ∷ []

-- those of them that are the word's own
abbrev own_bytes : Quoting → List ℕ → List ℕ
own_bytes Bare inner = []
own_bytes InQuotes inner = inner
own_bytes BehindBackslash inner = get_or inner 0 0 ∷ []

abbrev IsInner : Quoting → List ℕ → Type 0
IsInner Bare inner = ⊤
IsInner InQuotes inner = AllByRecursion IsNoQuote inner
IsInner BehindBackslash inner = ⊤

-- the rest of a word whose bytes so far are these
record Takes (quoting : Quoting) (word bytes : List ℕ) (x : List ℕ × List ℕ) : Type 0 where
  inner : List ℕ
  parts : List Part
  is_inner : IsInner quoting inner
  valid : AllByRecursion IsPart parts
  spelling : bytes ≡ closing quoting inner ++ (flat_map spelled_part parts ++ x.1)
  meaning : word ++ (own_bytes quoting inner ++ flat_map meant_part parts) ≡ x.0
  ends : EndsWord x.1

takes_none : (word rest : List ℕ) (x : List ℕ × List ℕ) → EndsWord rest → ok_of (word, rest) ≡ Ok x → Takes Bare word rest x
takes_none word rest x ends e =
    rw (← ok_is (word, rest) x e) (record { inner = []; parts = []; is_inner = tt; valid = tt; spelling = refl; meaning = append-nil word; ends = ends })

takes_bare : (word bytes : List ℕ) (b : ℕ) (x : List ℕ × List ℕ) → IsPart (bare b) → Takes Bare (word ++ b ∷ []) bytes x → Takes Bare word (b ∷ bytes) x
takes_bare word bytes b x is t = record {
  inner = [];
  parts = bare b ∷ t.parts;
  is_inner = tt;
  valid = (is, t.valid);
  spelling = ap (λ (r : List ℕ). b ∷ r) t.spelling;
  meaning = sym (append_assoc word (b ∷ []) (flat_map meant_part t.parts)) ∙ t.meaning;
  ends = t.ends;
}

takes_quoted : (word bytes : List ℕ) (x : List ℕ × List ℕ) → Takes InQuotes word bytes x → Takes Bare word (39 ∷ bytes) x
takes_quoted word bytes x t = record {
  inner = [];
  parts = in_quotes t.inner ∷ t.parts;
  is_inner = tt;
  valid = (t.is_inner, t.valid);
  spelling = ap (λ (r : List ℕ). 39 ∷ r) (t.spelling ∙ sym (append_assoc (t.inner ++ 39 ∷ []) (flat_map spelled_part t.parts) x.1));
  meaning = t.meaning;
  ends = t.ends;
}

takes_escaped : (word bytes : List ℕ) (x : List ℕ × List ℕ) → Takes BehindBackslash word bytes x → Takes Bare word (92 ∷ bytes) x
takes_escaped word bytes x t = record {
  inner = [];
  parts = behind_backslash (get_or t.inner 0 0) ∷ t.parts;
  is_inner = tt;
  valid = (tt, t.valid);
  spelling = ap (λ (r : List ℕ). 92 ∷ r) t.spelling;
  meaning = t.meaning;
  ends = t.ends;
}

takes_quote : (word bytes : List ℕ) (x : List ℕ × List ℕ) → Takes Bare word bytes x → Takes InQuotes word (39 ∷ bytes) x
takes_quote word bytes x t = record {
  inner = [];
  parts = t.parts;
  is_inner = tt;
  valid = t.valid;
  spelling = ap (λ (r : List ℕ). 39 ∷ r) t.spelling;
  meaning = t.meaning;
  ends = t.ends;
}

takes_inner : (word bytes : List ℕ) (b : ℕ) (x : List ℕ × List ℕ) → IsNoQuote b → Takes InQuotes (word ++ b ∷ []) bytes x → Takes InQuotes word (b ∷ bytes) x
takes_inner word bytes b x is t = record {
  inner = b ∷ t.inner;
  parts = t.parts;
  is_inner = (is, t.is_inner);
  valid = t.valid;
  spelling = ap (λ (r : List ℕ). b ∷ r) t.spelling;
  meaning = sym (append_assoc word (b ∷ []) (t.inner ++ flat_map meant_part t.parts)) ∙ t.meaning;
  ends = t.ends;
}

takes_byte : (word bytes : List ℕ) (b : ℕ) (x : List ℕ × List ℕ) → Takes Bare (word ++ b ∷ []) bytes x → Takes BehindBackslash word (b ∷ bytes) x
takes_byte word bytes b x t = record {
  inner = b ∷ [];
  parts = t.parts;
  is_inner = tt;
  valid = t.valid;
  spelling = ap (λ (r : List ℕ). b ∷ r) t.spelling;
  meaning = sym (append_assoc word (b ∷ []) (flat_map meant_part t.parts)) ∙ t.meaning;
  ends = t.ends;
}

-- what the reader does with one byte

pub at_end : (word bytes : List ℕ) (b : ℕ) → ends_word b ≡ true → word_from Bare word (b ∷ bytes) ≡ Ok (word, b ∷ bytes)
unfolding word_from
at_end word bytes b ends = rw ends refl

pub at_quote : (word bytes : List ℕ) (b : ℕ) → ends_word b ≡ false → eqb b 39 ≡ true → word_from Bare word (b ∷ bytes) ≡ word_from InQuotes word bytes
unfolding word_from
at_quote word bytes b goes is = rw (goes, is) refl

pub at_backslash : (word bytes : List ℕ) (b : ℕ) → ends_word b ≡ false → eqb b 39 ≡ false → eqb b 92 ≡ true
    → word_from Bare word (b ∷ bytes) ≡ word_from BehindBackslash word bytes
unfolding word_from
at_backslash word bytes b goes no_quote is = rw (goes, no_quote, is) refl

pub at_bare : (word bytes : List ℕ) (b : ℕ) → ends_word b ≡ false → eqb b 39 ≡ false → eqb b 92 ≡ false
    → word_from Bare word (b ∷ bytes) ≡ word_from Bare (word ++ b ∷ []) bytes
unfolding word_from
at_bare word bytes b goes no_quote no_backslash = rw (goes, no_quote, no_backslash) refl

pub at_close : (word bytes : List ℕ) (b : ℕ) → eqb b 39 ≡ true → word_from InQuotes word (b ∷ bytes) ≡ word_from Bare word bytes
unfolding word_from
at_close word bytes b is = rw is refl

pub at_inner : (word bytes : List ℕ) (b : ℕ) → eqb b 39 ≡ false → word_from InQuotes word (b ∷ bytes) ≡ word_from InQuotes (word ++ b ∷ []) bytes
unfolding word_from
at_inner word bytes b other = rw other refl

pub at_escaped : (word bytes : List ℕ) (b : ℕ) → word_from BehindBackslash word (b ∷ bytes) ≡ word_from Bare (word ++ b ∷ []) bytes
unfolding word_from
at_escaped word bytes b = refl

word_from_takes : (quoting : Quoting) (word bytes : List ℕ) (x : List ℕ × List ℕ) → word_from quoting word bytes ≡ Ok x → Takes quoting word bytes x
unfolding word_from
word_from_takes Bare word [] x e = takes_none word [] x tt e
word_from_takes InQuotes word [] x e = err_not_ok (stop_at []) x e
word_from_takes BehindBackslash word [] x e = err_not_ok (stop_at []) x e
word_from_takes Bare word (b ∷ bytes) x e = elim (cases_Bool (ends_word b)) [
  | inl ends ↦ takes_none word (b ∷ bytes) x ends (sym (at_end word bytes b ends) ∙ e)
  | inr goes ↦ elim (cases_Bool (eqb b 39)) [
    | inl quote ↦ rw (eqb-true b 39 quote) (takes_quoted word bytes x (word_from_takes InQuotes word bytes x (sym (at_quote word bytes b goes quote) ∙ e)))
    | inr no_quote ↦ elim (cases_Bool (eqb b 92)) [
      | inl backslash ↦
          rw (eqb-true b 92 backslash)
          (takes_escaped word bytes x (word_from_takes BehindBackslash word bytes x (sym (at_backslash word bytes b goes no_quote backslash) ∙ e)))
      | inr none ↦
          takes_bare word bytes b x (goes, no_quote, none) (word_from_takes Bare (word ++ b ∷ []) bytes x (sym (at_bare word bytes b goes no_quote none) ∙ e))
    ]
  ]
]
word_from_takes InQuotes word (b ∷ bytes) x e = elim (cases_Bool (eqb b 39)) [
  | inl quote ↦ rw (eqb-true b 39 quote) (takes_quote word bytes x (word_from_takes Bare word bytes x (sym (at_close word bytes b quote) ∙ e)))
  | inr other ↦ takes_inner word bytes b x other (word_from_takes InQuotes (word ++ b ∷ []) bytes x (sym (at_inner word bytes b other) ∙ e))
]
word_from_takes BehindBackslash word (b ∷ bytes) x e = takes_byte word bytes b x (word_from_takes Bare (word ++ b ∷ []) bytes x e)

-- a text that begins with a word has a part there
some_part : (bytes : List ℕ) (x : List ℕ × List ℕ) (parts : List Part) → begins_word bytes ≡ true → bytes ≡ flat_map spelled_part parts ++ x.1 → EndsWord x.1
    → 1 ≤ length parts
some_part bytes x (part ∷ parts) begins is ends = omega arith
some_part bytes x [] begins is ends = absurd (no_word x.1 ends (ap begins_word (sym is) ∙ begins))
  where
    no_word : (rest : List ℕ) → EndsWord rest → begins_word rest ≡ true → ⊥
    no_word [] ends begins = absurd cc
    no_word (b ∷ rest) ends begins = let wrong : true ≡ false = sym begins ∙ ap not ends in cc

pub word_taken : (bytes : List ℕ) (x : List ℕ × List ℕ) → word_at bytes ≡ Ok x → SpellsWord bytes x.0 x.1
unfolding word_at
word_taken bytes x e = elim (choice_cases (begins_word bytes) (word_from Bare [] bytes) (Err (stop_at bytes)) (ok_of x) e) [
  | inl begins ↦
      let t = word_from_takes Bare [] bytes x begins.1 in
      record {
        parts = t.parts;
        valid = (some_part bytes x t.parts begins.0 t.spelling t.ends, t.valid);
        spelling = t.spelling;
        meaning = t.meaning;
        ends = t.ends;
      }
  | inr none ↦ err_not_ok (stop_at bytes) x none.1
]
