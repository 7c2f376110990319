-- Calls of one word, of two and of three, and the words that say their fields.
use Rattle.std.proofs.Common.{◌≡◌, ℕ, List, [], ◌∷◌, Option, Some, option_map, option_and_then, subst}
use Rattle.call_words.specs.declared.call.Call.{Call}
use Rattle.script_text.specs.Args.{alone, with_one, with_two, with_three}
use Rattle.script_text.specs.Grammar.{SayAll, call_fields}
use Rattle.script_text.proofs.ChoiceLemmas.{step_source, map_source}

-- a call that stands alone is said by its name
pub alone_said : (made : Call) (n : List ℕ) (ws : List (List ℕ)) (c : Call) → SayAll (call_fields made) (n ∷ []) → alone made ws ≡ Some c
    → SayAll (call_fields c) (n ∷ ws)
alone_said made n [] c said e =
    let same : made ≡ c = cc in
    subst (λ (c : Call). SayAll (call_fields c) (n ∷ [])) same said
alone_said made n (w ∷ ws) c said e = absurd cc

-- what is read of one word is said, where its value is
pub one_said : {A : Type 0} (value : List ℕ → Option A) (make : A → Call) (n : List ℕ) (ws : List (List ℕ)) (c : Call)
    → ((w : List ℕ) (x : A) → value w ≡ Some x → SayAll (call_fields (make x)) (n ∷ w ∷ []))
    → with_one value make ws ≡ Some c → SayAll (call_fields c) (n ∷ ws)
one_said value make n [] c said e = absurd cc
one_said value make n (w ∷ []) c said e =
    let s = map_source make (value w) c e in
    subst (λ (c : Call). SayAll (call_fields c) (n ∷ w ∷ [])) s.gives (said w s.value s.was)
one_said value make n (w ∷ x ∷ ws) c said e = absurd cc

-- what is read of two words is said, where their values are
pub two_said : {A B : Type 0} (first : List ℕ → Option A) (second : List ℕ → Option B) (make : A → B → Call) (n : List ℕ) (ws : List (List ℕ)) (c : Call)
    → ((v w : List ℕ) (x : A) (y : B) → first v ≡ Some x → second w ≡ Some y → SayAll (call_fields (make x y)) (n ∷ v ∷ w ∷ []))
    → with_two first second make ws ≡ Some c → SayAll (call_fields c) (n ∷ ws)
two_said first second make n [] c said e = absurd cc
two_said first second make n (v ∷ []) c said e = absurd cc
two_said {A = A} first second make n (v ∷ w ∷ []) c said e =
    let s = step_source (λ (x : A). option_map (make x) (second w)) (first v) c e in
    let t = map_source (make s.value) (second w) c s.gives in
    subst (λ (c : Call). SayAll (call_fields c) (n ∷ v ∷ w ∷ [])) t.gives (said v w s.value t.value s.was t.was)
two_said first second make n (v ∷ w ∷ x ∷ ws) c said e = absurd cc

-- what is read of three words is said, where their values are
pub three_said : {A B C : Type 0} (first : List ℕ → Option A) (second : List ℕ → Option B) (third : List ℕ → Option C) (make : A → B → C → Call) (n : List ℕ)
    (ws : List (List ℕ)) (c : Call)
    → ((u v w : List ℕ) (x : A) (y : B) (z : C) → first u ≡ Some x → second v ≡ Some y → third w ≡ Some z
    → SayAll (call_fields (make x y z)) (n ∷ u ∷ v ∷ w ∷ []))
    → with_three first second third make ws ≡ Some c → SayAll (call_fields c) (n ∷ ws)
three_said first second third make n [] c said e = absurd cc
three_said first second third make n (u ∷ []) c said e = absurd cc
three_said first second third make n (u ∷ v ∷ []) c said e = absurd cc
three_said {A = A} {B = B} first second third make n (u ∷ v ∷ w ∷ []) c said e =
    let s = step_source (λ (x : A). option_and_then (λ (y : B). option_map (make x y) (third w)) (second v)) (first u) c e in
    let t = step_source (λ (y : B). option_map (make s.value y) (third w)) (second v) c s.gives in
    let r = map_source (make s.value t.value) (third w) c t.gives in
    subst (λ (c : Call). SayAll (call_fields c) (n ∷ u ∷ v ∷ w ∷ [])) r.gives (said u v w s.value t.value r.value s.was t.was r.was)
three_said first second third make n (u ∷ v ∷ w ∷ x ∷ ws) c said e = absurd cc
