-- Items of a command one after the other, without a bound, and what they make of a command.
use Rattle.std.proofs.Common.{◌≡◌, ℕ, zero, suc, ◌≤◌, ◌<◌, Bool, true, false, List, [], ◌∷◌, ◌++◌, length, Result, Ok, refl, sym, ap, ◌∙◌, arith, inl, inr, append_assoc, append-nil, length-append}
use Rattle.std.specs.Prelude.{⊤, flat_map, is_none}
use Rattle.std.proofs.lemmas.Bool.{cases_Bool}
use Rattle.sh_text.specs.declared.tree.Command.{Command}
use Rattle.sh_text.specs.Bytes.{after_blanks}
use Rattle.sh_text.specs.Reading.{◌>>=◌, begins_item, item_at, items_within, items_at, no_items}
use Rattle.sh_text.specs.Grammar.{Item, own, input_from, output_to, append_to, meant_part, words_of, inputs_of, outputs_of, input_in, output_in, command_of}
use Rattle.sh_text.proofs.StepLemmas.{alike}
use Rattle.sh_text.proofs.BlankLemmas.{no_more}
use Rattle.sh_text.specs.declared.fault.Stop.{Stop}
use Rattle.sh_text.proofs.ItemGrammarLemmas.{with_item, fits, item_taken, item_some}

-- an item takes a byte at least
pub item_shorter : (c : Command) (bytes : List ℕ) (x : Command × List ℕ) → begins_item c bytes ≡ true → item_at c bytes ≡ Ok x → length x.1 < length bytes
item_shorter c bytes x begun e = let t = item_taken c bytes x begun e in rw t.parts (item_some t.item x.1 t.valid)

none_within : (k : ℕ) (c : Command) (bytes : List ℕ) → begins_item c bytes ≡ false → items_within k c bytes ≡ Ok (c, bytes)
unfolding items_within
none_within zero c bytes none = refl
none_within (suc k) c bytes none = rw none refl

pub more_within : (k : ℕ) (c : Command) (bytes : List ℕ) → begins_item c bytes ≡ true
    → items_within (suc k) c bytes ≡ (item_at c bytes >>= λ longer. items_within k longer.0 (after_blanks longer.1))
unfolding items_within
more_within k c bytes begun = rw begun refl

begun_some : (c : Command) (bytes : List ℕ) → begins_item c bytes ≡ true → 1 ≤ length bytes
begun_some c [] begun = absurd cc
begun_some c (b ∷ bytes) begun = omega arith

-- two bounds, where one less of each gives the same
step_alike : (j k : ℕ) (c : Command) (bytes : List ℕ) → length bytes ≤ suc j → length bytes ≤ suc k → begins_item c bytes ≡ true
    → ((c : Command) (bytes : List ℕ) → length bytes ≤ j → length bytes ≤ k → items_within j c bytes ≡ items_within k c bytes)
    → items_within (suc j) c bytes ≡ items_within (suc k) c bytes
step_alike j k c bytes j_fits k_fits begun each =
    more_within j c bytes begun
    ∙ alike (item_at c bytes) (λ longer. items_within j longer.0 (after_blanks longer.1)) (λ longer. items_within k longer.0 (after_blanks longer.1))
    (λ longer e.
    let less = item_shorter c bytes longer begun e in
    let left = no_more longer.1 in
    each longer.0 (after_blanks longer.1) (omega (arith, left, less)) (omega (arith, left, less)))
    ∙ sym (more_within k c bytes begun)

both_none : (j k : ℕ) (c : Command) (bytes : List ℕ) → begins_item c bytes ≡ false → items_within j c bytes ≡ items_within k c bytes
both_none j k c bytes none = none_within j c bytes none ∙ sym (none_within k c bytes none)

-- any bound of at least the number of bytes suffices
within_enough : (j k : ℕ) (c : Command) (bytes : List ℕ) → length bytes ≤ j → length bytes ≤ k → items_within j c bytes ≡ items_within k c bytes
within_enough zero k c bytes j_fits k_fits =
    elim (cases_Bool (begins_item c bytes)) [ inr none ↦ both_none zero k c bytes none | inl begun ↦ absurd (omega (arith, j_fits, begun_some c bytes begun)) ]
within_enough (suc j) zero c bytes j_fits k_fits =
    elim (cases_Bool (begins_item c bytes))
    [ inr none ↦ both_none (suc j) zero c bytes none | inl begun ↦ absurd (omega (arith, k_fits, begun_some c bytes begun)) ]
within_enough (suc j) (suc k) c bytes j_fits k_fits = elim (cases_Bool (begins_item c bytes)) [
  | inr none ↦ both_none (suc j) (suc k) c bytes none
  | inl begun ↦ step_alike j k c bytes j_fits k_fits begun (λ c bytes j_fits k_fits. within_enough j k c bytes j_fits k_fits)
]

-- the items from these bytes on, and the blanks before each
pub items_from : Command → List ℕ → Result (Command × List ℕ) Stop
items_from c bytes = items_within (length (after_blanks bytes)) c (after_blanks bytes)

pub items_at_from : (bytes : List ℕ) → items_at bytes ≡ items_from no_items bytes
unfolding items_at items_from
items_at_from bytes = refl

pub items_none : (c : Command) (bytes : List ℕ) → begins_item c (after_blanks bytes) ≡ false → items_from c bytes ≡ Ok (c, after_blanks bytes)
unfolding items_from
items_none c bytes none = none_within (length (after_blanks bytes)) c (after_blanks bytes) none

pub items_step : (c : Command) (bytes : List ℕ) → begins_item c (after_blanks bytes) ≡ true
    → items_from c bytes ≡ (item_at c (after_blanks bytes) >>= λ longer. items_from longer.0 longer.1)
unfolding items_from
items_step c bytes begun =
    let rest = after_blanks bytes in
    within_enough (length rest) (suc (length rest)) c rest (omega arith) (omega arith)
    ∙ more_within (length rest) c rest begun
    ∙ alike (item_at c rest) (λ longer. items_within (length rest) longer.0 (after_blanks longer.1))
    (λ longer. items_within (length (after_blanks longer.1)) longer.0 (after_blanks longer.1)) (λ longer e.
    within_enough (length rest) (length (after_blanks longer.1)) longer.0 (after_blanks longer.1)
    (omega (arith, no_more longer.1, item_shorter c rest longer begun e)) (omega arith))

-- blanks before them change nothing
pub items_same : (c : Command) (bytes other : List ℕ) → after_blanks bytes ≡ after_blanks other → items_from c bytes ≡ items_from c other
unfolding items_from
items_same c bytes other same = ap (λ (rest : List ℕ). items_within (length rest) c rest) same

-- the command with all of the items
abbrev pub with_items : Command → List Item → Command
with_items c [] = c
with_items c (item ∷ items) = with_items (with_item c item) items

-- the command can have each of them, one after the other
abbrev pub AllFit : Command → List Item → Type 0
AllFit c [] = ⊤
AllFit c (item ∷ items) = (fits c item ≡ true) × AllFit (with_item c item) items

-- the same by the lists of words, inputs and outputs

abbrev Outputs : Type 0
Outputs = List (Bool × List ℕ)

no_input : (inputs : List (List ℕ)) → is_none (input_in inputs) ≡ true → inputs ≡ []
no_input [] none = refl
no_input (word ∷ more) none = absurd cc

no_output : (outputs : Outputs) → is_none (output_in outputs) ≡ true → outputs ≡ []
no_output [] none = refl
no_output (output ∷ more) none = absurd cc

pub with_item_of : (words inputs : List (List ℕ)) (outputs : Outputs) (item : Item) → fits (command_of words inputs outputs) item ≡ true
    → with_item (command_of words inputs outputs) item ≡ command_of (words ++ words_of item) (inputs ++ inputs_of item) (outputs ++ outputs_of item)
with_item_of words inputs outputs (own word) can = rw (append-nil inputs, append-nil outputs) refl
with_item_of words inputs outputs (input_from blanks word) can = rw (no_input inputs can, append-nil words, append-nil outputs) refl
with_item_of words inputs outputs (output_to blanks word) can = rw (no_output outputs can, append-nil words, append-nil inputs) refl
with_item_of words inputs outputs (append_to blanks word) can = rw (no_output outputs can, append-nil words, append-nil inputs) refl

-- at most one of each
abbrev One : {A : Type 0} → List A → Type 0
One xs = length xs ≤ 1

one_more : (words inputs : List (List ℕ)) (outputs : Outputs) (item : Item) → fits (command_of words inputs outputs) item ≡ true → One inputs → One outputs
    → One (inputs ++ inputs_of item) × One (outputs ++ outputs_of item)
one_more words inputs outputs (own word) can one_input one_output = rw (append-nil inputs, append-nil outputs) (one_input, one_output)
one_more words inputs outputs (input_from blanks word) can one_input one_output = rw (no_input inputs can, append-nil outputs) (omega arith, one_output)
one_more words inputs outputs (output_to blanks word) can one_input one_output = rw (no_output outputs can, append-nil inputs) (one_input, omega arith)
one_more words inputs outputs (append_to blanks word) can one_input one_output = rw (no_output outputs can, append-nil inputs) (one_input, omega arith)

-- the lists with those of further items
abbrev all_words : List (List ℕ) → List Item → List (List ℕ)
all_words words items = words ++ flat_map words_of items

abbrev all_inputs : List (List ℕ) → List Item → List (List ℕ)
all_inputs inputs items = inputs ++ flat_map inputs_of items

abbrev all_outputs : Outputs → List Item → Outputs
all_outputs outputs items = outputs ++ flat_map outputs_of items

pub record ItemJoin (words inputs : List (List ℕ)) (outputs : Outputs) (items : List Item) : Type 0 where
  pub value : with_items (command_of words inputs outputs) items ≡ command_of (all_words words items) (all_inputs inputs items) (all_outputs outputs items)
  pub one_input : One (all_inputs inputs items)
  pub one_output : One (all_outputs outputs items)

join_of : (words inputs : List (List ℕ)) (outputs : Outputs) (items : List Item) → One inputs → One outputs → AllFit (command_of words inputs outputs) items
    → ItemJoin words inputs outputs items
join_of words inputs outputs [] one_input one_output fit = record {
  value = rw (append-nil words, append-nil inputs, append-nil outputs) refl;
  one_input = rw (append-nil inputs) one_input;
  one_output = rw (append-nil outputs) one_output;
}
join_of words inputs outputs (item ∷ items) one_input one_output fit =
    let is = with_item_of words inputs outputs item fit.0 in
    let one = one_more words inputs outputs item fit.0 one_input one_output in
    let fit_after : AllFit (command_of (words ++ words_of item) (inputs ++ inputs_of item) (outputs ++ outputs_of item)) items = rw (← is) fit.1 in
    let j = join_of (words ++ words_of item) (inputs ++ inputs_of item) (outputs ++ outputs_of item) items one.0 one.1 fit_after in
    let w = append_assoc words (words_of item) (flat_map words_of items) in
    let i = append_assoc inputs (inputs_of item) (flat_map inputs_of items) in
    let o = append_assoc outputs (outputs_of item) (flat_map outputs_of items) in
    record {
      value = ap (λ (c : Command). with_items c items) is ∙ j.value ∙ rw (w, i, o) refl;
      one_input = rw (← i) j.one_input;
      one_output = rw (← o) j.one_output;
    }

pub items_joined : (items : List Item) → AllFit no_items items → ItemJoin [] [] [] items
items_joined items fit = join_of [] [] [] items (omega arith) (omega arith) fit

-- at most one in all is at most one so far
none_yet : (inputs more : List (List ℕ)) (word : List ℕ) → One (inputs ++ word ∷ more) → is_none (input_in inputs) ≡ true
none_yet [] more word one = refl
none_yet (w ∷ inputs) more word one = absurd (omega (arith, one, length-append inputs (word ∷ more)))

none_yet2 : (outputs more : Outputs) (output : Bool × List ℕ) → One (outputs ++ output ∷ more) → is_none (output_in outputs) ≡ true
none_yet2 [] more output one = refl
none_yet2 (o ∷ outputs) more output one = absurd (omega (arith, one, length-append outputs (output ∷ more)))

can_have : (words inputs : List (List ℕ)) (outputs : Outputs) (item : Item) (items : List Item) → One (all_inputs inputs (item ∷ items))
    → One (all_outputs outputs (item ∷ items)) → fits (command_of words inputs outputs) item ≡ true
can_have words inputs outputs (own word) items one_input one_output = refl
can_have words inputs outputs (input_from blanks word) items one_input one_output =
    none_yet inputs (flat_map inputs_of items) (flat_map meant_part word) one_input
can_have words inputs outputs (output_to blanks word) items one_input one_output =
    none_yet2 outputs (flat_map outputs_of items) (false, flat_map meant_part word) one_output
can_have words inputs outputs (append_to blanks word) items one_input one_output =
    none_yet2 outputs (flat_map outputs_of items) (true, flat_map meant_part word) one_output

all_fit : (words inputs : List (List ℕ)) (outputs : Outputs) (items : List Item) → One (all_inputs inputs items) → One (all_outputs outputs items)
    → AllFit (command_of words inputs outputs) items
all_fit words inputs outputs [] one_input one_output = tt
all_fit words inputs outputs (item ∷ items) one_input one_output =
    let can = can_have words inputs outputs item items one_input one_output in
    let i = append_assoc inputs (inputs_of item) (flat_map inputs_of items) in
    let o = append_assoc outputs (outputs_of item) (flat_map outputs_of items) in (
      can,
      rw (with_item_of words inputs outputs item can)
          (all_fit (words ++ words_of item) (inputs ++ inputs_of item) (outputs ++ outputs_of item) items (rw i one_input) (rw o one_output)),
    )

pub items_fit : (items : List Item) → One (flat_map inputs_of items) → One (flat_map outputs_of items) → AllFit no_items items
items_fit items one_input one_output = all_fit [] [] [] items one_input one_output
