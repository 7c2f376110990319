-- What is made of the words behind a name, where they are so many and each is good.
use Rattle.std.specs.Prelude.{ℕ, List, [], ◌∷◌, Option, Some, None, option_map, option_and_then}

-- what stands where no word is left
abbrev pub alone : {R : Type 0} → R → List (List ℕ) → Option R
alone what [] = Some what
alone what _ = None

-- what is made of one word
abbrev pub with_one : {A R : Type 0} → (List ℕ → Option A) → (A → R) → List (List ℕ) → Option R
with_one value make (w ∷ []) = option_map make (value w)
with_one value make _ = None

-- what is made of two words
abbrev pub with_two : {A B R : Type 0} → (List ℕ → Option A) → (List ℕ → Option B) → (A → B → R) → List (List ℕ) → Option R
with_two first second make (v ∷ w ∷ []) = option_and_then (λ a. option_map (make a) (second w)) (first v)
with_two first second make _ = None

-- what is made of three words
abbrev pub with_three : {A B C R : Type 0} → (List ℕ → Option A) → (List ℕ → Option B) → (List ℕ → Option C) → (A → B → C → R) → List (List ℕ) → Option R
with_three first second third make (u ∷ v ∷ w ∷ []) = option_and_then (λ a. option_and_then (λ b. option_map (make a b) (third w)) (second v)) (first u)
with_three first second third make _ = None
