-- One item of a command: what it does to the command, and that it is read as it is spelled.
use Rattle.std.proofs.Common.{◌≡◌, ℕ, ◌≤◌, ◌<◌, Bool, true, false, cond, not, eqb, List, [], ◌∷◌, ◌++◌, length, drop, Some, Ok, refl, sym, ap, ◌∙◌, arith, inl, inr, append_assoc, length-append}
use Rattle.std.specs.Prelude.{flat_map, is_none, ◌↔◌}
use Rattle.std.proofs.lemmas.Bool.{cases_Bool, eqb-true}
use Rattle.sh_text.specs.declared.tree.Command.{Command}
use Rattle.sh_text.specs.Bytes.{is_blank, ends_word, after_blanks, begins}
use Rattle.sh_text.specs.Reading.{◌>>=◌, word_at, target_at, output_at, item_at, begins_word, begins_item}
use Rattle.sh_text.specs.Grammar.{Part, bare, in_quotes, behind_backslash, spelled_part, meant_part, IsWord, EndsWord, SpellsWord, AreBlanks, Item, own, input_from, output_to, append_to, IsItem, spelled_item}
use Rattle.sh_text.proofs.StepLemmas.{bind_ok, ok_is}
use Rattle.sh_text.proofs.BlankLemmas.{front, blanks_skipped, no_word, word_stays}
use Rattle.sh_text.proofs.WordGrammarLemmas.{word_taken}
use Rattle.sh_text.proofs.WordSpellingLemmas.{word_spelled, part_begins}

-- the command with the item
abbrev pub with_item : Command → Item → Command
with_item c (own word) = record c { words = c.words ++ flat_map meant_part word ∷ [] }
with_item c (input_from blanks word) = record c { input = Some (flat_map meant_part word) }
with_item c (output_to blanks word) = record c { output = Some (flat_map meant_part word); append = false }
with_item c (append_to blanks word) = record c { output = Some (flat_map meant_part word); append = true }

-- whether the command can have the item
abbrev pub fits : Command → Item → Bool
fits c (own word) = true
fits c (input_from blanks word) = is_none c.input
fits c (output_to blanks word) = is_none c.output
fits c (append_to blanks word) = is_none c.output

-- the front of the bytes is an item, and the rest follows
pub record TakesItem (c : Command) (bytes : List ℕ) (x : Command × List ℕ) : Type 0 where
  pub item : Item
  pub valid : IsItem item
  pub can : fits c item ≡ true
  pub parts : bytes ≡ spelled_item item ++ x.1
  pub meaning : with_item c item ≡ x.0
  pub ends : EndsWord x.1

-- a word behind a mark
record TakesTarget (bytes : List ℕ) (x : List ℕ × List ℕ) : Type 0 where
  blanks : List ℕ
  are : AreBlanks blanks
  parts : List Part
  valid : IsWord parts
  spelling : bytes ≡ (blanks ++ flat_map spelled_part parts) ++ x.1
  meaning : flat_map meant_part parts ≡ x.0
  ends : EndsWord x.1

target_taken : (bytes : List ℕ) (x : List ℕ × List ℕ) → target_at bytes ≡ Ok x → TakesTarget bytes x
unfolding target_at
target_taken bytes x e =
    let f = front bytes in
    let w = word_taken (after_blanks bytes) x e in
    record {
      blanks = f.blanks;
      are = f.are;
      parts = w.parts;
      valid = w.valid;
      spelling = f.parts ∙ ap (λ (r : List ℕ). f.blanks ++ r) w.spelling ∙ sym (append_assoc f.blanks (flat_map spelled_part w.parts) x.1);
      meaning = w.meaning;
      ends = w.ends;
    }

takes_word : (c : Command) (bytes : List ℕ) (x : Command × List ℕ) → (word_at bytes >>= λ word. Ok (record c { words = c.words ++ word.0 ∷ [] }, word.1)) ≡ Ok x
    → TakesItem c bytes x
takes_word c bytes x e =
    let a = bind_ok (word_at bytes) (λ word. Ok (record c { words = c.words ++ word.0 ∷ [] }, word.1)) x e in
    let w = word_taken bytes a.0 a.1 in
    rw (← ok_is (record c { words = c.words ++ a.0.0 ∷ [] }, a.0.1) x a.2) (record {
      item = own w.parts;
      valid = w.valid;
      can = refl;
      parts = w.spelling;
      meaning = ap (λ (word : List ℕ). record c { words = c.words ++ word ∷ [] }) w.meaning;
      ends = w.ends;
    })

takes_input : (c : Command) (bytes : List ℕ) (x : Command × List ℕ) → is_none c.input ≡ true
    → (target_at bytes >>= λ target. Ok (record c { input = Some target.0 }, target.1)) ≡ Ok x → TakesItem c (60 ∷ bytes) x
takes_input c bytes x can e =
    let a = bind_ok (target_at bytes) (λ target. Ok (record c { input = Some target.0 }, target.1)) x e in
    let t = target_taken bytes a.0 a.1 in
    rw (← ok_is (record c { input = Some a.0.0 }, a.0.1) x a.2) (record {
      item = input_from t.blanks t.parts;
      valid = (t.are, t.valid);
      can = can;
      parts = ap (λ (r : List ℕ). 60 ∷ r) t.spelling;
      meaning = ap (λ (word : List ℕ). record c { input = Some word }) t.meaning;
      ends = t.ends;
    })

takes_output : (c : Command) (bytes : List ℕ) (x : Command × List ℕ) → is_none c.output ≡ true → output_at c false bytes ≡ Ok x → TakesItem c (62 ∷ bytes) x
unfolding output_at
takes_output c bytes x can e =
    let a = bind_ok (target_at bytes) (λ target. Ok (record c { output = Some target.0; append = false }, target.1)) x e in
    let t = target_taken bytes a.0 a.1 in
    rw (← ok_is (record c { output = Some a.0.0; append = false }, a.0.1) x a.2) (record {
      item = output_to t.blanks t.parts;
      valid = (t.are, t.valid);
      can = can;
      parts = ap (λ (r : List ℕ). 62 ∷ r) t.spelling;
      meaning = ap (λ (word : List ℕ). record c { output = Some word; append = false }) t.meaning;
      ends = t.ends;
    })

takes_append : (c : Command) (bytes : List ℕ) (x : Command × List ℕ) → is_none c.output ≡ true → output_at c true bytes ≡ Ok x → TakesItem c (62 ∷ 62 ∷ bytes) x
unfolding output_at
takes_append c bytes x can e =
    let a = bind_ok (target_at bytes) (λ target. Ok (record c { output = Some target.0; append = true }, target.1)) x e in
    let t = target_taken bytes a.0 a.1 in
    rw (← ok_is (record c { output = Some a.0.0; append = true }, a.0.1) x a.2) (record {
      item = append_to t.blanks t.parts;
      valid = (t.are, t.valid);
      can = can;
      parts = ap (λ (r : List ℕ). 62 ∷ 62 ∷ r) t.spelling;
      meaning = ap (λ (word : List ℕ). record c { output = Some word; append = true }) t.meaning;
      ends = t.ends;
    })

begins_cons : (b : ℕ) (bytes : List ℕ) → begins b bytes ≡ true → bytes ≡ b ∷ drop 1 bytes
begins_cons b [] is = absurd cc
begins_cons b (c ∷ bytes) is = ap (λ k. k ∷ bytes) (eqb-true c b is)

-- what item_at does with one byte

pub at_input : (c : Command) (bytes : List ℕ) (b : ℕ) → eqb b 60 ≡ true
    → item_at c (b ∷ bytes) ≡ (target_at bytes >>= λ target. Ok (record c { input = Some target.0 }, target.1))
unfolding item_at
at_input c bytes b is = rw is refl

pub at_append : (c : Command) (bytes : List ℕ) (b : ℕ) → eqb b 60 ≡ false → eqb b 62 ≡ true → begins 62 bytes ≡ true
    → item_at c (b ∷ bytes) ≡ output_at c true (drop 1 bytes)
unfolding item_at
at_append c bytes b no_input is twice = rw (no_input, is, twice) refl

pub at_output : (c : Command) (bytes : List ℕ) (b : ℕ) → eqb b 60 ≡ false → eqb b 62 ≡ true → begins 62 bytes ≡ false
    → item_at c (b ∷ bytes) ≡ output_at c false bytes
unfolding item_at
at_output c bytes b no_input is once = rw (no_input, is, once) refl

pub at_word : (c : Command) (bytes : List ℕ) (b : ℕ) → eqb b 60 ≡ false → eqb b 62 ≡ false
    → item_at c (b ∷ bytes) ≡ (word_at (b ∷ bytes) >>= λ word. Ok (record c { words = c.words ++ word.0 ∷ [] }, word.1))
unfolding item_at
at_word c bytes b no_input no_output = rw (no_input, no_output) refl

can_input : (c : Command) (bytes : List ℕ) (b : ℕ) → eqb b 60 ≡ true → begins_item c (b ∷ bytes) ≡ true → is_none c.input ≡ true
can_input c bytes b is begins = rw is at begins

can_output : (c : Command) (bytes : List ℕ) (b : ℕ) → eqb b 60 ≡ false → eqb b 62 ≡ true → begins_item c (b ∷ bytes) ≡ true → is_none c.output ≡ true
can_output c bytes b no_input is begins = rw (no_input, is) at begins

pub item_taken : (c : Command) (bytes : List ℕ) (x : Command × List ℕ) → begins_item c bytes ≡ true → item_at c bytes ≡ Ok x → TakesItem c bytes x
item_taken c [] x begins e = absurd cc
item_taken c (b ∷ bytes) x begun e = elim (cases_Bool (eqb b 60)) [
  | inl is ↦ rw (eqb-true b 60 is) (takes_input c bytes x (can_input c bytes b is begun) (sym (at_input c bytes b is) ∙ e))
  | inr no_input ↦ elim (cases_Bool (eqb b 62)) [
    | inl is ↦ elim (cases_Bool (begins 62 bytes)) [
      | inl twice ↦
          rw (eqb-true b 62 is, begins_cons 62 bytes twice)
          (takes_append c (drop 1 bytes) x (can_output c bytes b no_input is begun) (sym (at_append c bytes b no_input is twice) ∙ e))
      | inr once ↦ rw (eqb-true b 62 is) (takes_output c bytes x (can_output c bytes b no_input is begun) (sym (at_output c bytes b no_input is once) ∙ e))
    ]
    | inr no_output ↦ takes_word c (b ∷ bytes) x (sym (at_word c bytes b no_input no_output) ∙ e)
  ]
]

-- what is spelled is read

pub word_begins : (parts : List Part) (rest : List ℕ) → IsWord parts → begins_word (flat_map spelled_part parts ++ rest) ≡ true
word_begins [] rest is = absurd (omega (arith, is.0))
word_begins (first ∷ more) rest is =
    ap begins_word (append_assoc (spelled_part first) (flat_map spelled_part more) rest) ∙ part_begins first (flat_map spelled_part more ++ rest) is.1.0

pub word_again : (parts : List Part) (rest : List ℕ) → IsWord parts → EndsWord rest
    → word_at (flat_map spelled_part parts ++ rest) ≡ Ok (flat_map meant_part parts, rest)
word_again [] rest is ends = absurd (omega (arith, is.0))
word_again (first ∷ more) rest is ends = word_spelled first more rest is.1 (no_word rest ends)

word_again_as : (bytes word rest : List ℕ) → SpellsWord bytes word rest → word_at bytes ≡ Ok (word, rest)
word_again_as bytes word rest s = ap word_at s.spelling ∙ word_again s.parts rest s.valid s.ends ∙ ap (λ (w : List ℕ). Ok (w, rest)) s.meaning

pub word_as_spelled : (bytes word rest : List ℕ) → (word_at bytes ≡ Ok (word, rest)) ↔ SpellsWord bytes word rest
word_as_spelled bytes word rest = (λ e. word_taken bytes (word, rest) e, word_again_as bytes word rest)

target_again : (blanks : List ℕ) (parts : List Part) (rest : List ℕ) → AreBlanks blanks → IsWord parts → EndsWord rest
    → target_at ((blanks ++ flat_map spelled_part parts) ++ rest) ≡ Ok (flat_map meant_part parts, rest)
unfolding target_at
target_again blanks parts rest are is ends =
    ap word_at
    (ap after_blanks (append_assoc blanks (flat_map spelled_part parts) rest) ∙ blanks_skipped blanks (flat_map spelled_part parts ++ rest) are
    ∙ word_stays (flat_map spelled_part parts ++ rest) (word_begins parts rest is))
    ∙ word_again parts rest is ends

-- a byte that a word begins with is no mark
no_marks : (b : ℕ) → ends_word b ≡ false → (eqb b 60 ≡ false) × (eqb b 62 ≡ false)
no_marks b goes = (
  elim (cases_Bool (eqb b 60)) [ inl is ↦ absurd (wrong b 60 refl is goes) | inr none ↦ none ],
  elim (cases_Bool (eqb b 62)) [ inl is ↦ absurd (wrong b 62 refl is goes) | inr none ↦ none ],
)
  where
    wrong : (b mark : ℕ) → ends_word mark ≡ true → eqb b mark ≡ true → ends_word b ≡ false → ⊥
    wrong b mark ends is goes = let no : true ≡ false = sym ends ∙ ap ends_word (sym (eqb-true b mark is)) ∙ goes in cc

goes_on : (b : ℕ) → not (ends_word b) ≡ true → ends_word b ≡ false
goes_on b begins = elim (cases_Bool (ends_word b)) [ inl ends ↦ (let wrong : true ≡ false = sym begins ∙ ap not ends in absurd cc) | inr goes ↦ goes ]

word_item : (c : Command) (bytes : List ℕ) → begins_word bytes ≡ true
    → item_at c bytes ≡ (word_at bytes >>= λ word. Ok (record c { words = c.words ++ word.0 ∷ [] }, word.1))
word_item c [] begins = absurd cc
word_item c (b ∷ bytes) begins = let none = no_marks b (goes_on b begins) in at_word c bytes b none.0 none.1

pub third : {A : Type 0} (a b : Bool) (x y z : A) → a ≡ false → b ≡ false → cond a x (cond b y z) ≡ z
third a b x y z no_a no_b = rw (no_a, no_b) refl

word_begins_item : (c : Command) (bytes : List ℕ) → begins_word bytes ≡ true → begins_item c bytes ≡ true
word_begins_item c [] begins = absurd cc
word_begins_item c (b ∷ bytes) begun =
    let none = no_marks b (goes_on b begun) in third (eqb b 60) (eqb b 62) (is_none c.input) (is_none c.output) (not (ends_word b)) none.0 none.1 ∙ begun

-- a word behind blanks or none does not begin with a mark
no_mark : (mark : ℕ) (bytes : List ℕ) → ends_word mark ≡ true → begins_word bytes ≡ true → begins mark bytes ≡ false
no_mark mark [] ends begins = refl
no_mark mark (b ∷ bytes) ends begins = elim (cases_Bool (eqb b mark)) [
  | inl is ↦ (let wrong : true ≡ false = sym begins ∙ ap not (ap ends_word (eqb-true b mark is) ∙ ends) in absurd cc)
  | inr none ↦ none
]

no_mark_after : (blanks : List ℕ) (parts : List Part) (rest : List ℕ) → AreBlanks blanks → IsWord parts
    → begins 62 ((blanks ++ flat_map spelled_part parts) ++ rest) ≡ false
no_mark_after [] parts rest are is = no_mark 62 (flat_map spelled_part parts ++ rest) refl (word_begins parts rest is)
no_mark_after (b ∷ blanks) parts rest are is = elim (cases_Bool (eqb b 62)) [
  | inl mark ↦ (let wrong : true ≡ false = sym are.0 ∙ ap is_blank (eqb-true b 62 mark) in absurd cc)
  | inr none ↦ none
]

pub item_begins : (c : Command) (item : Item) (rest : List ℕ) → IsItem item → begins_item c (spelled_item item ++ rest) ≡ fits c item
item_begins c (own word) rest is = word_begins_item c (flat_map spelled_part word ++ rest) (word_begins word rest is)
item_begins c (input_from blanks word) rest is = refl
item_begins c (output_to blanks word) rest is = refl
item_begins c (append_to blanks word) rest is = refl

pub item_stays : (item : Item) (rest : List ℕ) → IsItem item → after_blanks (spelled_item item ++ rest) ≡ spelled_item item ++ rest
item_stays (own word) rest is = word_stays (flat_map spelled_part word ++ rest) (word_begins word rest is)
item_stays (input_from blanks word) rest is = refl
item_stays (output_to blanks word) rest is = refl
item_stays (append_to blanks word) rest is = refl

pub item_again : (c : Command) (item : Item) (rest : List ℕ) → IsItem item → EndsWord rest → item_at c (spelled_item item ++ rest) ≡ Ok (with_item c item, rest)
unfolding output_at
item_again c (own word) rest is ends = word_item c (flat_map spelled_part word ++ rest) (word_begins word rest is) ∙ rw (word_again word rest is ends) refl
item_again c (input_from blanks word) rest is ends =
    at_input c ((blanks ++ flat_map spelled_part word) ++ rest) 60 refl ∙ rw (target_again blanks word rest is.0 is.1 ends) refl
item_again c (output_to blanks word) rest is ends =
    at_output c ((blanks ++ flat_map spelled_part word) ++ rest) 62 refl refl (no_mark_after blanks word rest is.0 is.1)
    ∙ rw (target_again blanks word rest is.0 is.1 ends) refl
item_again c (append_to blanks word) rest is ends =
    at_append c (62 ∷ ((blanks ++ flat_map spelled_part word) ++ rest)) 62 refl refl refl ∙ rw (target_again blanks word rest is.0 is.1 ends) refl

-- an item has a byte at least
pub item_some : (item : Item) (rest : List ℕ) → IsItem item → length rest < length (spelled_item item ++ rest)
item_some (own []) rest is = absurd (omega (arith, is.0))
item_some (own (part ∷ parts)) rest is =
    omega (arith, part_some part, length-append (spelled_part part) (flat_map spelled_part parts), length-append (flat_map spelled_part (part ∷ parts)) rest)
  where
    part_some : (part : Part) → 1 ≤ length (spelled_part part)
    part_some (bare b) = omega arith
    part_some (in_quotes bytes) = omega arith
    part_some (behind_backslash b) = omega arith
item_some (input_from blanks word) rest is = omega (arith, length-append (blanks ++ flat_map spelled_part word) rest)
item_some (output_to blanks word) rest is = omega (arith, length-append (blanks ++ flat_map spelled_part word) rest)
item_some (append_to blanks word) rest is = omega (arith, length-append (blanks ++ flat_map spelled_part word) rest)
