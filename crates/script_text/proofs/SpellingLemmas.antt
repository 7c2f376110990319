-- Paths are read as they are spelled.
use Rattle.std.proofs.Common.{◌≡◌, ℕ, ◌<◌, ◌≤◌, Bool, true, false, not, ◌&&◌, cond, eqb, leb, ltb, List, [], ◌∷◌, length, map, flat_map, Option, Some, None}
use Rattle.std.proofs.Common.{refl, sym, ap, ◌∙◌, arith, inl, inr}
use Rattle.std.specs.Prelude.{codes}
use Rattle.std.specs.Char.{digit_value}
use Rattle.std.specs.List.{AllByRecursion}
use Rattle.std.specs.Str.{bytes_eq}
use Rattle.std.proofs.lemmas.Bool.{and_parts, and_from, not-true, not_from_false, eqb-true, eqb-false, leb-true, ltb-true, lt-ltb, le-leb, ne_eqb}
use Rattle.script_text.specs.Words.{only_if}
use Rattle.script_text.specs.Paths.{is_plain, pair_value, escape_value, plain_value, then_bytes, path_bytes_of, if_short, path_of}
use Rattle.script_text.specs.Spelling.{Part, plain, escape, IsPart, part_text, part_byte, IsSpelled, WritesPath, lone_sign, by_parts}
use Rattle.script_text.proofs.ChoiceLemmas.{choice_of, same_text}

percent_not_plain : (b : ℕ) → is_plain b ≡ true → eqb b 37 ≡ false
percent_not_plain b h = not-true (eqb b 37) (and_parts (leb 33 b && leb b 126) (not (eqb b 37)) h).1

-- a byte that is no percent sign is read as itself
read_other : (b : ℕ) (rest : List ℕ) → eqb b 37 ≡ false → path_bytes_of (b ∷ rest) ≡ then_bytes (plain_value b) (path_bytes_of rest)
unfolding path_bytes_of
read_other b [] h = refl
read_other b (c ∷ []) h = refl
read_other b (c ∷ d ∷ rest) h = rw h refl

read_plain : (b : ℕ) (rest : List ℕ) → is_plain b ≡ true → path_bytes_of (b ∷ rest) ≡ then_bytes (Some b) (path_bytes_of rest)
read_plain b rest h = read_other b rest (percent_not_plain b h) ∙ ap (λ c. then_bytes (only_if c (Some b)) (path_bytes_of rest)) h

read_escape : (high low : ℕ) (rest : List ℕ) → digit_value high < 16 → digit_value low < 16 → is_plain (pair_value high low) ≡ false
    → path_bytes_of (37 ∷ high ∷ low ∷ rest) ≡ then_bytes (Some (pair_value high low)) (path_bytes_of rest)
unfolding path_bytes_of
read_escape high low rest h l other =
    let passes =
    and_from _ _ (and_from _ _ (lt-ltb (digit_value high) 16 h) (lt-ltb (digit_value low) 16 l)) (not_from_false (is_plain (pair_value high low)) other) in
    ap (λ c. then_bytes (only_if c (Some (pair_value high low))) (path_bytes_of rest)) passes

-- a spelling is read as what it means
pub read_parts : (parts : List Part) → AllByRecursion IsPart parts → path_bytes_of (flat_map part_text parts) ≡ Some (map part_byte parts)
unfolding path_bytes_of
read_parts [] valid = refl
read_parts (plain b ∷ parts) valid = read_plain b (flat_map part_text parts) valid.0 ∙ ap (then_bytes (Some b)) (read_parts parts valid.1)
read_parts (escape high low ∷ parts) valid =
    read_escape high low (flat_map part_text parts) valid.0.0 valid.0.1 valid.0.2 ∙ ap (then_bytes (Some (pair_value high low))) (read_parts parts valid.1)

-- the first byte, and the others
record First (first : Option ℕ) (others : Option (List ℕ)) (bytes : List ℕ) : Type 0 where
  byte : ℕ
  more : List ℕ
  is : first ≡ Some byte
  are : others ≡ Some more
  all : bytes ≡ byte ∷ more

first_of : (first : Option ℕ) (others : Option (List ℕ)) (bytes : List ℕ) → then_bytes first others ≡ Some bytes → First first others bytes
first_of None others bytes e = absurd cc
first_of (Some b) None bytes e = absurd cc
first_of (Some b) (Some more) bytes e = record { byte = b; more = more; is = refl; are = refl; all = cc }

-- what passes a test
passed : (test : Bool) (x y : ℕ) → only_if test (Some x) ≡ Some y → (test ≡ true) × (x ≡ y)
passed true x y e = (refl, cc)
passed false x y e = absurd cc

spelled_plain : (b c : ℕ) (rest bytes : List ℕ) → plain_value b ≡ Some c → IsSpelled rest bytes → IsSpelled (b ∷ rest) (c ∷ bytes)
spelled_plain b c rest bytes e h =
    let test = passed (is_plain b) b c e in
    record {
      parts = plain b ∷ h.parts;
      valid = (test.0, h.valid);
      spelling = ap (λ t. b ∷ t) h.spelling;
      meaning = ap (λ c. c ∷ bytes) (sym test.1) ∙ ap (λ bs. b ∷ bs) h.meaning;
    }

spelled_escape : (high low c : ℕ) (rest bytes : List ℕ) → escape_value high low ≡ Some c → IsSpelled rest bytes → IsSpelled (37 ∷ high ∷ low ∷ rest) (c ∷ bytes)
spelled_escape high low c rest bytes e h =
    let test = passed (ltb (digit_value high) 16 && ltb (digit_value low) 16 && not (is_plain (pair_value high low))) (pair_value high low) c e in
    let parts = and_parts _ _ test.0 in
    let digits = and_parts _ _ parts.0 in
    record {
      parts = escape high low ∷ h.parts;
      valid = ((ltb-true _ _ digits.0, ltb-true _ _ digits.1, not-true _ parts.1), h.valid);
      spelling = ap (λ (t : List ℕ). 37 ∷ high ∷ low ∷ t) h.spelling;
      meaning = ap (λ c. c ∷ bytes) (sym test.1) ∙ ap (λ bs. pair_value high low ∷ bs) h.meaning;
    }

-- what is read has a spelling
pub has_spelling : (text bytes : List ℕ) → path_bytes_of text ≡ Some bytes → IsSpelled text bytes
unfolding path_bytes_of
has_spelling [] bytes e = record { parts = []; valid = tt; spelling = refl; meaning = cc }
has_spelling (b ∷ []) bytes e =
    let f = first_of (plain_value b) (Some []) bytes e in
    rw f.all (spelled_plain b f.byte [] f.more f.is (has_spelling [] f.more f.are))
has_spelling (b ∷ c ∷ []) bytes e =
    let f = first_of (plain_value b) (path_bytes_of (c ∷ [])) bytes e in
    rw f.all (spelled_plain b f.byte (c ∷ []) f.more f.is (has_spelling (c ∷ []) f.more f.are))
has_spelling (b ∷ high ∷ low ∷ rest) bytes e =
    elim (choice_of (eqb b 37) (then_bytes (escape_value high low) (path_bytes_of rest)) (then_bytes (plain_value b) (path_bytes_of (high ∷ low ∷ rest)))
    (Some bytes) e) [
      | inl marked ↦
          let f = first_of (escape_value high low) (path_bytes_of rest) bytes marked.1 in
          rw (eqb-true b 37 marked.0, f.all) (spelled_escape high low f.byte rest f.more f.is (has_spelling rest f.more f.are))
      | inr other ↦
          let f = first_of (plain_value b) (path_bytes_of (high ∷ low ∷ rest)) bytes other.1 in
          rw f.all (spelled_plain b f.byte (high ∷ low ∷ rest) f.more f.is (has_spelling (high ∷ low ∷ rest) f.more f.are))
    ]

-- the path of a text
short_path : (bytes : Option (List ℕ)) (path : List ℕ) → if_short bytes ≡ Some path → (bytes ≡ Some path) × (length path ≤ 1024)
short_path None path e = absurd cc
short_path (Some bs) path e = elim (choice_of (leb (length bs) 1024) (Some bs) None (Some path) e) [
  | inl short ↦ let same : bs ≡ path = cc in (short.1, omega (arith, leb-true (length bs) 1024 short.0, ap length same))
  | inr long ↦ absurd cc
]

some_bytes : (parts : List Part) (text : List ℕ) → text ≡ flat_map part_text parts → (eqb (length text) 0 ≡ false) → 0 < length (map part_byte parts)
some_bytes [] text e some = absurd (eqb-false (length text) 0 some (ap length e))
some_bytes (part ∷ parts) text e some = omega arith

pub path_is_written : (word path : List ℕ) → path_of word ≡ Some path → WritesPath word path
unfolding path_of
path_is_written word path e =
    elim (choice_of (bytes_eq word (codes "%")) (Some []) (cond (eqb (length word) 0) None (if_short (path_bytes_of word))) (Some path) e) [
      | inl alone ↦ lone_sign (same_text word (codes "%") alone.0) cc
      | inr other ↦ elim (choice_of (eqb (length word) 0) None (if_short (path_bytes_of word)) (Some path) other.1) [
        | inl none ↦ absurd cc
        | inr some ↦
            let short = short_path (path_bytes_of word) path some.1 in
            let h = has_spelling word path short.0 in
            by_parts (rw h.meaning (some_bytes h.parts word h.spelling some.0)) short.1 h
      ]
    ]

-- a spelling of some bytes is not empty, and no lone percent sign
parts_some : (parts : List Part) → AllByRecursion IsPart parts → 0 < length (map part_byte parts)
    → (eqb (length (flat_map part_text parts)) 0 ≡ false) × (bytes_eq (flat_map part_text parts) (codes "%") ≡ false)
parts_some [] valid some = absurd (omega arith)
parts_some (plain b ∷ parts) valid some = (ne_eqb (length (flat_map part_text (plain b ∷ parts))) 0 (omega arith), rw (percent_not_plain b valid.0) refl)
parts_some (escape high low ∷ parts) valid some = (ne_eqb (length (flat_map part_text (escape high low ∷ parts))) 0 (omega arith), refl)

pub written_is_read : (word path : List ℕ) → WritesPath word path → path_of word ≡ Some path
unfolding path_of
written_is_read word path (lone_sign w p) = rw (w, p) refl
written_is_read word path (by_parts some short h) =
    let tests = parts_some h.parts h.valid (rw h.meaning at some) in
    let read : path_bytes_of word ≡ Some path = ap path_bytes_of h.spelling ∙ read_parts h.parts h.valid ∙ ap (λ bs. Some bs) (sym h.meaning) in
    let no_sign : bytes_eq word (codes "%") ≡ false = ap (λ t. bytes_eq t (codes "%")) h.spelling ∙ tests.1 in
    let not_empty : eqb (length word) 0 ≡ false = ap (λ (t : List ℕ). eqb (length t) 0) h.spelling ∙ tests.0 in
    rw (no_sign, not_empty, read, le-leb (length path) 1024 short) refl
