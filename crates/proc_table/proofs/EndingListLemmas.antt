-- The list of those that are to be ended: it has room for one that does not stand there, and it stays such a list with it.
use Rattle.std.proofs.Common.{◌≡◌, ℕ, ◌<◌, true, false, List, [], ◌∷◌, ◌++◌, map, length, eqb, ⊎_elim, arith, refl}
use Rattle.std.specs.List.{list_any, IsDistinct, AllByRecursion}
use Rattle.std.proofs.lemmas.Bool.{cases_Bool}
use Rattle.std.proofs.lemmas.Bool.Decides.{nat_tests}
use Rattle.std.proofs.lemmas.List.{length-map}
use Rattle.std.proofs.lemmas.Map.Steps.{length-le_from_distinct_below}
use Rattle.call_words.specs.declared.event.How.{How}
use Rattle.proc_table.specs.Posts.{is_ending, IsEndingList}

abbrev slots_of : List (ℕ × How) → List ℕ
slots_of ending = map (λ e. e.0) ending

other-slots : (ending : List (ℕ × How)) (slot : ℕ) → is_ending ending slot ≡ false → AllByRecursion (λ other. eqb slot other ≡ false) (slots_of ending)
other-slots [] slot none = tt
other-slots (e ∷ ending) slot none = (grind (arith, nat_tests), other-slots ending slot (grind (arith, nat_tests)))

distinct-slots : (ending : List (ℕ × How)) → IsEndingList ending → IsDistinct eqb (slots_of ending)
unfolding IsDistinct
distinct-slots [] list = tt
distinct-slots (e ∷ ending) list = (other-slots ending e.0 list.1, distinct-slots ending list.2)

slots-below : (ending : List (ℕ × How)) → IsEndingList ending → (slot : ℕ) → list_any (eqb slot) (slots_of ending) ≡ true → slot < 32
slots-below [] list slot has = grind arith
slots-below (e ∷ ending) list slot has =
    ⊎_elim
    (λ same. grind (arith, nat_tests, list.0))
    (λ other. slots-below ending list.2 slot (rw other at has))
    (cases_Bool (eqb slot e.0))

-- with another one it is at most as long as there are slots
pub has-room : (ending : List (ℕ × How)) (slot : ℕ) (why : How) → IsEndingList ending → is_ending ending slot ≡ false → slot < 32 → length ending < 32
has-room ending slot why list none below =
    let longer : IsEndingList ((slot, why) ∷ ending) = (below, none, list) in
    let most = length-le_from_distinct_below (slots_of ((slot, why) ∷ ending)) 32 (distinct-slots ((slot, why) ∷ ending) longer)
    (slots-below ((slot, why) ∷ ending) longer) in
    omega (arith, most, length-map ending (λ (e : ℕ × How). e.0))

not-behind : (ending : List (ℕ × How)) (slot other : ℕ) (why : How) → is_ending ending other ≡ false → eqb slot other ≡ false
    → is_ending (ending ++ (slot, why) ∷ []) other ≡ false
not-behind [] slot other why none apart = grind (arith, nat_tests)
not-behind (e ∷ ending) slot other why none apart =
    let first : eqb e.0 other ≡ false = grind (arith, nat_tests) in
    let rest : is_ending ending other ≡ false = grind (arith, nat_tests) in
    rw (first, not-behind ending slot other why rest apart) refl

-- one more, which does not stand there, leaves it such a list
pub list-behind : (ending : List (ℕ × How)) (slot : ℕ) (why : How) → IsEndingList ending → is_ending ending slot ≡ false → slot < 32
    → IsEndingList (ending ++ (slot, why) ∷ [])
list-behind [] slot why list none below = (below, refl, tt)
list-behind (e ∷ ending) slot why list none below =
    let apart : eqb slot e.0 ≡ false = grind (arith, nat_tests) in
    let rest : is_ending ending slot ≡ false = grind (arith, nat_tests) in
    (list.0, not-behind ending slot e.0 why list.1 apart, list-behind ending slot why list.2 rest below)
