-- What is read as a command is spelled so, and what is spelled so is read.
use Rattle.std.proofs.Common.{◌≡◌, ◌⊎◌, ℕ, zero, suc, ◌≤◌, true, false, cond, eqb, List, [], ◌∷◌, ◌++◌, length, map, Result, Ok, Err, refl, sym, ap, ◌∙◌, arith, inl, inr, append_assoc, length-append}
use Rattle.std.specs.Prelude.{⊤, IsTrue, flat_map}
use Rattle.std.specs.List.{AllByRecursion}
use Rattle.std.proofs.lemmas.Bool.{cases_Bool, ne_eqb}
use Rattle.sh_text.specs.declared.tree.Command.{Command}
use Rattle.sh_text.specs.Bytes.{after_blanks}
use Rattle.sh_text.specs.Reading.{begins_word, begins_item, item_at, items_within, items_at, no_items, command_at, stop_at}
use Rattle.sh_text.specs.Grammar.{Item, own, input_from, output_to, append_to, IsItem, is_own, spelled_item, words_of, inputs_of, outputs_of, EndsWord, AreBlanks, SpacedItem, IsSpacedItem, StandsApart, spelled_spaced_item, CommandWriting, IsCommand, items, spelled_command, meant_command, command_of}
use Rattle.sh_text.proofs.StepLemmas.{bind_ok, choice_cases, ok_of, ok_is, err_not_ok}
use Rattle.sh_text.proofs.BlankLemmas.{front, no_word, blanks_end, blanks_skipped}
use Rattle.sh_text.proofs.ItemGrammarLemmas.{with_item, fits, TakesItem, item_taken, word_begins, item_begins, item_stays, item_again, item_some}
use Rattle.sh_text.specs.declared.fault.Stop.{Stop}
use Rattle.sh_text.proofs.ItemStepLemmas.{with_items, AllFit, items_joined, items_fit, more_within, items_from, items_at_from, items_none, items_step, items_same}

abbrev item_in : SpacedItem → Item
item_in spaced = spaced.item

-- an item behind another one's word
stands_apart : (bytes rest blanks : List ℕ) (item : Item) → IsItem item → EndsWord bytes → bytes ≡ blanks ++ (spelled_item item ++ rest) → IsTrue (is_own item)
    → 1 ≤ length blanks
stands_apart bytes rest (b ∷ blanks) item is ends parts own_word = omega arith
stands_apart bytes rest [] (own word) is ends parts own_word =
    let begins : true ≡ false = sym (word_begins word rest is) ∙ ap begins_word (sym parts) ∙ no_word bytes ends in
    absurd cc
stands_apart bytes rest [] (input_from blanks word) is ends parts own_word = absurd cc
stands_apart bytes rest [] (output_to blanks word) is ends parts own_word = absurd cc
stands_apart bytes rest [] (append_to blanks word) is ends parts own_word = absurd cc

-- items with the blanks before each, and blanks
record TakesMore (c : Command) (bytes : List ℕ) (x : Command × List ℕ) : Type 0 where
  more : List SpacedItem
  blanks : List ℕ
  valid : AllByRecursion IsSpacedItem more
  apart : EndsWord bytes → AllByRecursion StandsApart more
  are_blanks : AreBlanks blanks
  can : AllFit c (map item_in more)
  parts : bytes ≡ flat_map spelled_spaced_item more ++ (blanks ++ x.1)
  meaning : with_items c (map item_in more) ≡ x.0

takes_none : (c : Command) (bytes : List ℕ) (x : Command × List ℕ) → ok_of (c, after_blanks bytes) ≡ Ok x → TakesMore c bytes x
takes_none c bytes x e =
    let f = front bytes in
    rw (← ok_is (c, after_blanks bytes) x e)
    (record { more = []; blanks = f.blanks; valid = tt; apart = λ ends. tt; are_blanks = f.are; can = tt; parts = f.parts; meaning = refl })

-- the first of the items, which may stand at once, and the others
record TakesFirst (c : Command) (bytes : List ℕ) (x : Command × List ℕ) : Type 0 where
  first : SpacedItem
  more : List SpacedItem
  blanks : List ℕ
  valid : AllByRecursion IsSpacedItem (first ∷ more)
  first_apart : EndsWord bytes → StandsApart first
  apart : AllByRecursion StandsApart more
  are_blanks : AreBlanks blanks
  can : AllFit c (map item_in (first ∷ more))
  parts : bytes ≡ flat_map spelled_spaced_item (first ∷ more) ++ (blanks ++ x.1)
  meaning : with_items c (map item_in (first ∷ more)) ≡ x.0

takes_next : (c : Command) (bytes : List ℕ) (l x : Command × List ℕ) → TakesItem c (after_blanks bytes) l → TakesMore l.0 l.1 x → TakesFirst c bytes x
takes_next c bytes l x t m =
    let f = front bytes in
    let tail = flat_map spelled_spaced_item m.more ++ (m.blanks ++ x.1) in
    let whole : bytes ≡ f.blanks ++ (spelled_item t.item ++ l.1) = f.parts ∙ ap (λ (r : List ℕ). f.blanks ++ r) t.parts in
    record {
      first = record { blanks = f.blanks; item = t.item };
      more = m.more;
      blanks = m.blanks;
      valid = ((f.are, t.valid), m.valid);
      first_apart = λ ends. stands_apart bytes l.1 f.blanks t.item t.valid ends whole;
      apart = m.apart t.ends;
      are_blanks = m.are_blanks;
      can = (t.can, rw t.meaning m.can);
      parts = whole ∙ ap (λ (r : List ℕ). f.blanks ++ (spelled_item t.item ++ r)) m.parts
          ∙ sym (append_assoc f.blanks (spelled_item t.item) tail)
          ∙ sym (append_assoc (f.blanks ++ spelled_item t.item) (flat_map spelled_spaced_item m.more) (m.blanks ++ x.1));
      meaning = ap (λ (c : Command). with_items c (map item_in m.more)) t.meaning ∙ m.meaning;
    }

as_more : (c : Command) (bytes : List ℕ) (x : Command × List ℕ) → TakesFirst c bytes x → TakesMore c bytes x
as_more c bytes x t = record {
  more = t.first ∷ t.more;
  blanks = t.blanks;
  valid = t.valid;
  apart = λ ends. (t.first_apart ends, t.apart);
  are_blanks = t.are_blanks;
  can = t.can;
  parts = t.parts;
  meaning = t.meaning;
}

within_zero : (c : Command) (bytes : List ℕ) → items_within 0 c bytes ≡ Ok (c, bytes)
unfolding items_within
within_zero c bytes = refl

within_none : (k : ℕ) (c : Command) (bytes : List ℕ) → begins_item c bytes ≡ false → items_within (suc k) c bytes ≡ Ok (c, bytes)
unfolding items_within
within_none k c bytes none = rw none refl

more_taken : (k : ℕ) (c : Command) (bytes : List ℕ) (x : Command × List ℕ) → items_within k c (after_blanks bytes) ≡ Ok x → TakesMore c bytes x
more_taken zero c bytes x e = takes_none c bytes x (sym (within_zero c (after_blanks bytes)) ∙ e)
more_taken (suc k) c bytes x e = elim (cases_Bool (begins_item c (after_blanks bytes))) [
  | inr none ↦ takes_none c bytes x (sym (within_none k c (after_blanks bytes) none) ∙ e)
  | inl begun ↦
      let a =
      bind_ok (item_at c (after_blanks bytes)) (λ longer. items_within k longer.0 (after_blanks longer.1)) x
      (sym (more_within k c (after_blanks bytes) begun) ∙ e) in
      as_more c bytes x (takes_next c bytes a.0 x (item_taken c (after_blanks bytes) a.0 begun a.1) (more_taken k a.0.0 a.0.1 x a.2))
]

-- no item, or a first one and more
items_taken : (k : ℕ) (bytes : List ℕ) (x : Command × List ℕ) → items_within k no_items (after_blanks bytes) ≡ Ok x
    → (no_items ≡ x.0) ⊎ TakesFirst no_items bytes x
items_taken zero bytes x e =
    inl (ap (λ (y : Command × List ℕ). y.0) (ok_is (no_items, after_blanks bytes) x (sym (within_zero no_items (after_blanks bytes)) ∙ e)))
items_taken (suc k) bytes x e = elim (cases_Bool (begins_item no_items (after_blanks bytes))) [
  | inr none ↦ inl (ap (λ (y : Command × List ℕ). y.0) (ok_is (no_items, after_blanks bytes) x (sym (within_none k no_items (after_blanks bytes) none) ∙ e)))
  | inl begun ↦
      let a =
      bind_ok (item_at no_items (after_blanks bytes)) (λ longer. items_within k longer.0 (after_blanks longer.1)) x
      (sym (more_within k no_items (after_blanks bytes) begun) ∙ e) in
      inr (takes_next no_items bytes a.0 x (item_taken no_items (after_blanks bytes) a.0 begun a.1) (more_taken k a.0.0 a.0.1 x a.2))
]

-- the front of the bytes is a command, and the rest follows
pub record TakesCommand (bytes : List ℕ) (x : Command × List ℕ) : Type 0 where
  pub writing : CommandWriting
  pub valid : IsCommand writing
  pub parts : bytes ≡ spelled_command writing ++ x.1
  pub meaning : meant_command writing ≡ x.0

some_words : (words : List (List ℕ)) → eqb (length words) 0 ≡ false → 1 ≤ length words
some_words [] e = absurd cc
some_words (w ∷ words) e = omega arith

takes_command : (bytes : List ℕ) (x : Command × List ℕ) → TakesFirst no_items bytes x → eqb (length (x.0).words) 0 ≡ false → TakesCommand bytes x
takes_command bytes x t some =
    let j = items_joined (map item_in (t.first ∷ t.more)) t.can in
    let value : command_of (flat_map words_of (map item_in (t.first ∷ t.more))) (flat_map inputs_of (map item_in (t.first ∷ t.more)))
    (flat_map outputs_of (map item_in (t.first ∷ t.more))) ≡ x.0 =
    sym j.value ∙ t.meaning in
    let words : (x.0).words ≡ flat_map words_of (map item_in (t.first ∷ t.more)) = ap (λ (c : Command). c.words) (sym value) in
    record {
      writing = record { first = t.first; more = t.more; blanks = t.blanks };
      valid = record {
        are_items = t.valid;
        apart = t.apart;
        are_blanks = t.are_blanks;
        some_word = some_words (flat_map words_of (map item_in (t.first ∷ t.more))) (ap (λ (ws : List (List ℕ)). eqb (length ws) 0) (sym words) ∙ some);
        one_input = j.one_input;
        one_output = j.one_output;
      };
      parts = t.parts ∙ sym (append_assoc (flat_map spelled_spaced_item (t.first ∷ t.more)) t.blanks x.1);
      meaning = value;
    }

pub command_taken : (bytes : List ℕ) (x : Command × List ℕ) → command_at bytes ≡ Ok x → TakesCommand bytes x
unfolding command_at items_at
command_taken bytes x e =
    let a =
    bind_ok (items_within (length (after_blanks bytes)) no_items (after_blanks bytes))
    (λ read. cond (eqb (length (read.0).words) 0) (Err (stop_at read.1)) (Ok read)) x e in
    elim (choice_cases (eqb (length (a.0.0).words) 0) (Err (stop_at a.0.1)) (Ok a.0) (ok_of x) a.2) [
      | inl none ↦ err_not_ok (stop_at a.0.1) x none.1
      | inr some ↦ rw (← ok_is a.0 x some.1) (elim (items_taken (length (after_blanks bytes)) bytes a.0 a.1) [
        | inl empty ↦ (let wrong : true ≡ false = ap (λ (c : Command). eqb (length c.words) 0) empty ∙ some.0 in absurd cc)
        | inr first ↦ takes_command bytes a.0 first some.0
      ])
    ]

-- what is spelled is read

-- the rest begins with a mark between commands, or is none
abbrev pub AtMark : List ℕ → Type 0
AtMark [] = ⊤
AtMark (b ∷ rest) = (b ≡ 124) ⊎ ((b ≡ 59) ⊎ (b ≡ 38))

mark_ends : (rest : List ℕ) → AtMark rest → EndsWord rest
mark_ends [] at = tt
mark_ends (b ∷ rest) (inl bar) = rw bar refl
mark_ends (b ∷ rest) (inr (inl semicolon)) = rw semicolon refl
mark_ends (b ∷ rest) (inr (inr ampersand)) = rw ampersand refl

pub mark_stays : (rest : List ℕ) → AtMark rest → after_blanks rest ≡ rest
mark_stays [] at = refl
mark_stays (b ∷ rest) (inl bar) = rw bar refl
mark_stays (b ∷ rest) (inr (inl semicolon)) = rw semicolon refl
mark_stays (b ∷ rest) (inr (inr ampersand)) = rw ampersand refl

mark_no_item : (c : Command) (rest : List ℕ) → AtMark rest → begins_item c rest ≡ false
mark_no_item c [] at = refl
mark_no_item c (b ∷ rest) (inl bar) = rw bar refl
mark_no_item c (b ∷ rest) (inr (inl semicolon)) = rw semicolon refl
mark_no_item c (b ∷ rest) (inr (inr ampersand)) = rw ampersand refl

no_items_again : (c : Command) (blanks rest : List ℕ) → AreBlanks blanks → AtMark rest → items_from c (blanks ++ rest) ≡ Ok (c, rest)
no_items_again c blanks rest are at =
    let stays : after_blanks (blanks ++ rest) ≡ rest = blanks_skipped blanks rest are ∙ mark_stays rest at in
    items_none c (blanks ++ rest) (ap (begins_item c) stays ∙ mark_no_item c rest at) ∙ rw stays refl

-- an item and what follows it
item_then : (c : Command) (first : SpacedItem) (rest : List ℕ) → IsSpacedItem first → fits c first.item ≡ true → EndsWord rest
    → items_from c (spelled_spaced_item first ++ rest) ≡ items_from (with_item c first.item) rest
item_then c first rest valid can ends =
    let text = spelled_item first.item ++ rest in
    let same : after_blanks (spelled_spaced_item first ++ rest) ≡ text =
    ap after_blanks (append_assoc first.blanks (spelled_item first.item) rest) ∙ blanks_skipped first.blanks text valid.0
    ∙ item_stays first.item rest valid.1 in
    items_step c (spelled_spaced_item first ++ rest) (ap (begins_item c) same ∙ item_begins c first.item rest valid.1 ∙ can)
    ∙ rw (same, item_again c first.item rest valid.1 ends) refl

item_ends : (spaced : SpacedItem) (rest : List ℕ) → IsSpacedItem spaced → StandsApart spaced → EndsWord (spelled_spaced_item spaced ++ rest)
item_ends spaced rest valid apart = go spaced.blanks spaced.item valid.0 apart
  where
    go : (blanks : List ℕ) (item : Item) → AreBlanks blanks → (IsTrue (is_own item) → 1 ≤ length blanks) → EndsWord ((blanks ++ spelled_item item) ++ rest)
    go (b ∷ blanks) item are apart = blanks_end (b ∷ []) ((blanks ++ spelled_item item) ++ rest) (are.0, tt) (omega arith)
    go [] (own word) are apart = absurd (omega (arith, apart refl))
    go [] (input_from blanks word) are apart = refl
    go [] (output_to blanks word) are apart = refl
    go [] (append_to blanks word) are apart = refl

more_ends : (more : List SpacedItem) (blanks rest : List ℕ) → AllByRecursion IsSpacedItem more → AllByRecursion StandsApart more → AreBlanks blanks
    → AtMark rest → EndsWord (flat_map spelled_spaced_item more ++ (blanks ++ rest))
more_ends [] [] rest valid apart are at = mark_ends rest at
more_ends [] (b ∷ blanks) rest valid apart are at = blanks_end (b ∷ blanks) rest are (omega arith)
more_ends (next ∷ more) blanks rest valid apart are at =
    rw (append_assoc (spelled_spaced_item next) (flat_map spelled_spaced_item more) (blanks ++ rest))
    (item_ends next (flat_map spelled_spaced_item more ++ (blanks ++ rest)) valid.0 apart.0)

items_again : (c : Command) (first : SpacedItem) (more : List SpacedItem) (blanks rest : List ℕ) → AllByRecursion IsSpacedItem (first ∷ more)
    → AllByRecursion StandsApart more → AllFit c (map item_in (first ∷ more)) → AreBlanks blanks → AtMark rest
    → items_from c (flat_map spelled_spaced_item (first ∷ more) ++ (blanks ++ rest)) ≡ Ok (with_items c (map item_in (first ∷ more)), rest)
items_again c first [] blanks rest valid apart can are at =
    ap (items_from c) (append_assoc (spelled_spaced_item first) [] (blanks ++ rest))
    ∙ item_then c first (blanks ++ rest) valid.0 can.0 (more_ends [] blanks rest tt tt are at)
    ∙ no_items_again (with_item c first.item) blanks rest are at
items_again c first (next ∷ more) blanks rest valid apart can are at =
    ap (items_from c) (append_assoc (spelled_spaced_item first) (flat_map spelled_spaced_item (next ∷ more)) (blanks ++ rest))
    ∙ item_then c first (flat_map spelled_spaced_item (next ∷ more) ++ (blanks ++ rest)) valid.0 can.0
    (more_ends (next ∷ more) blanks rest valid.1 apart are at)
    ∙ items_again (with_item c first.item) next more blanks rest valid.1 apart.1 can.1 are at

finish_some : (c : Command) (rest : List ℕ) → 1 ≤ length c.words
    → cond {A = Result (Command × List ℕ) Stop} (eqb (length c.words) 0) (Err (stop_at rest)) (Ok (c, rest)) ≡ Ok (c, rest)
finish_some c rest some = rw (ne_eqb (length c.words) 0 (omega (arith, some))) refl

pub command_again : (writing : CommandWriting) (rest : List ℕ) → IsCommand writing → AtMark rest
    → command_at (spelled_command writing ++ rest) ≡ Ok (meant_command writing, rest)
unfolding command_at
command_again writing rest is at =
    let j = items_joined (items writing) (items_fit (items writing) is.one_input is.one_output) in
    let read : items_at (spelled_command writing ++ rest) ≡ Ok (meant_command writing, rest) =
    items_at_from (spelled_command writing ++ rest)
    ∙ ap (items_from no_items) (append_assoc (flat_map spelled_spaced_item (writing.first ∷ writing.more)) writing.blanks rest)
    ∙ items_again no_items writing.first writing.more writing.blanks rest is.are_items is.apart (items_fit (items writing) is.one_input is.one_output)
    is.are_blanks at
    ∙ ap (λ (c : Command). Ok (c, rest)) j.value in
    rw read (finish_some (meant_command writing) rest is.some_word)

-- a command has a byte at least
pub command_some : (writing : CommandWriting) → IsCommand writing → 1 ≤ length (spelled_command writing)
command_some writing is =
    omega (
      arith,
      item_some writing.first.item [] is.are_items.0.1,
      length-append (spelled_item writing.first.item) [],
      length-append writing.first.blanks (spelled_item writing.first.item),
      length-append (spelled_spaced_item writing.first) (flat_map spelled_spaced_item writing.more),
      length-append (flat_map spelled_spaced_item (writing.first ∷ writing.more)) writing.blanks,
    )

-- blanks before it change nothing
pub command_same : (bytes other : List ℕ) → after_blanks bytes ≡ after_blanks other → command_at bytes ≡ command_at other
unfolding command_at
command_same bytes other same = rw (items_at_from bytes, items_at_from other, items_same no_items bytes other same) refl
