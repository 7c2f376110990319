-- What is held may be seen as something else, before a change or after it: each operation and each look has one lemma, which serves the state of a
-- machine and what calls see of it, and what calls see and what a kernel keeps.
use Rattle.std.proofs.Common.{◌≡◌, ℕ, zero, suc, ◌+◌, cond, List, [], ◌∷◌, ◌++◌, map, drop, set, get_or, Option, Some, None, option_map, refl, sym, ap, ◌∙◌}
use Rattle.std.specs.Prelude.{is_none, is_some, count_by}
use Rattle.std.specs.List.{position_or_len}
use Rattle.std.proofs.lemmas.List.{map-set, map-append, drop-map}
use Rattle.std.proofs.lemmas.List.Sums.{sum_by-cons}
use Rattle.label_core.specs.declared.element.Element.{Element}
use Rattle.pipe_core.specs.Pipes.{Held, Pipes, held_at, is_there, contents_at, element_at, free_pipes, lowest_free, add, remove, with_contents, change, put}
use Rattle.pipe_core.specs.Pipes.{take_front, map_pipes}

pub get-map : {X Y : Type 0} (f : X → Y) (xs : List (Option X)) (k : ℕ) → get_or (map (option_map f) xs) k None ≡ option_map f (get_or xs k None)
get-map f [] k = refl
get-map f (x ∷ xs) zero = refl
get-map f (x ∷ xs) (suc k) = get-map f xs k

pub first-map : {X Y : Type 0} (f : X → Y) (xs : List (Option X)) → position_or_len is_none (map (option_map f) xs) ≡ position_or_len is_none xs
first-map f [] = refl
first-map f (None ∷ xs) = refl
first-map f (Some x ∷ xs) = ap (λ n. 1 + n) (first-map f xs)

pub count-map : {X Y : Type 0} (f : X → Y) (xs : List (Option X)) → count_by is_none (map (option_map f) xs) ≡ count_by is_none xs
count-map f [] = refl
count-map {X} {Y} f (None ∷ xs) =
    sum_by-cons (λ (o : Option Y). cond (is_none o) 1 0) None (map (option_map f) xs)
    ∙ ap (λ n. 1 + n) (count-map f xs) ∙ sym (sum_by-cons (λ (o : Option X). cond (is_none o) 1 0) None xs)
count-map {X} {Y} f (Some x ∷ xs) =
    sum_by-cons (λ (o : Option Y). cond (is_none o) 1 0) (Some (f x)) (map (option_map f) xs)
    ∙ ap (λ n. 0 + n) (count-map f xs) ∙ sym (sum_by-cons (λ (o : Option X). cond (is_none o) 1 0) (Some x) xs)

-- the pipe of a number
pub held_at-map : {P Q : Type 0} (f : P → Q) (pipes : Pipes P) (k : ℕ) → held_at (map_pipes f pipes) k ≡ option_map (with_contents f) (held_at pipes k)
held_at-map f pipes k = get-map (with_contents f) pipes k

there : {P Q : Type 0} (f : P → Q) (h : Option (Held P)) → is_some (option_map (with_contents f) h) ≡ is_some h
there f None = refl
there f (Some h) = refl

pub is_there-map : {P Q : Type 0} (f : P → Q) (pipes : Pipes P) (k : ℕ) → is_there (map_pipes f pipes) k ≡ is_there pipes k
is_there-map f pipes k = ap is_some (held_at-map f pipes k) ∙ there f (held_at pipes k)

contents : {P Q : Type 0} (f : P → Q) (h : Option (Held P))
    → option_map (λ x. x.contents) (option_map (with_contents f) h) ≡ option_map f (option_map (λ x. x.contents) h)
contents f None = refl
contents f (Some h) = refl

-- what it holds
pub contents_at-map : {P Q : Type 0} (f : P → Q) (pipes : Pipes P) (k : ℕ) → contents_at (map_pipes f pipes) k ≡ option_map f (contents_at pipes k)
contents_at-map f pipes k = ap (option_map (λ x. x.contents)) (held_at-map f pipes k) ∙ contents f (held_at pipes k)

element : {P Q : Type 0} (f : P → Q) (h : Option (Held P)) → option_map (λ x. x.element) (option_map (with_contents f) h) ≡ option_map (λ x. x.element) h
element f None = refl
element f (Some h) = refl

-- its element
pub element_at-map : {P Q : Type 0} (f : P → Q) (pipes : Pipes P) (k : ℕ) → element_at (map_pipes f pipes) k ≡ element_at pipes k
element_at-map f pipes k = ap (option_map (λ x. x.element)) (held_at-map f pipes k) ∙ element f (held_at pipes k)

-- how many numbers are free, and the lowest of them
pub free_pipes-map : {P Q : Type 0} (f : P → Q) (pipes : Pipes P) → free_pipes (map_pipes f pipes) ≡ free_pipes pipes
free_pipes-map f pipes = count-map (with_contents f) pipes

pub lowest_free-map : {P Q : Type 0} (f : P → Q) (pipes : Pipes P) → lowest_free (map_pipes f pipes) ≡ lowest_free pipes
lowest_free-map f pipes = first-map (with_contents f) pipes

-- a pipe is made
pub add-map : {P Q : Type 0} (f : P → Q) (pipes : Pipes P) (p : P) (e : Element) → map_pipes f (add pipes p e) ≡ add (map_pipes f pipes) (f p) e
add-map f pipes p e =
    rw (lowest_free-map f pipes, map-set (option_map (with_contents f)) pipes (lowest_free pipes) (Some (record { contents = p; element = e }))) refl

-- a pipe goes
pub remove-map : {P Q : Type 0} (f : P → Q) (pipes : Pipes P) (k : ℕ) → map_pipes f (remove pipes k) ≡ remove (map_pipes f pipes) k
remove-map f pipes k = map-set (option_map (with_contents f)) pipes k None

changed : {P Q : Type 0} (f : P → Q) (how : P → P) (also : Q → Q) → ((p : P) → f (how p) ≡ also (f p)) → (h : Option (Held P))
    → option_map (with_contents f) (option_map (with_contents how) h) ≡ option_map (with_contents also) (option_map (with_contents f) h)
changed f how also same None = refl
changed {P} {Q} f how also same (Some h) = ap (λ (q : Q). Some (record { contents = q; element = h.element })) (same h.contents)

-- what a pipe holds is changed, which is seen as another change
pub change-map : {P Q : Type 0} (f : P → Q) (how : P → P) (also : Q → Q) → ((p : P) → f (how p) ≡ also (f p)) → (pipes : Pipes P) (k : ℕ)
    → map_pipes f (change how pipes k) ≡ change also (map_pipes f pipes) k
change-map f how also same pipes k =
    map-set (option_map (with_contents f)) pipes k (option_map (with_contents how) (held_at pipes k))
    ∙ ap (λ o. set (map_pipes f pipes) k o)
    (changed f how also same (held_at pipes k) ∙ ap (option_map (with_contents also)) (sym (held_at-map f pipes k)))

-- a write, where each byte is seen as another
pub put-map : {B C : Type 0} (f : B → C) (pipes : Pipes (List B)) (k : ℕ) (bytes : List B)
    → map_pipes (map f) (put pipes k bytes) ≡ put (map_pipes (map f) pipes) k (map f bytes)
put-map f pipes k bytes = change-map (map f) (λ held. held ++ bytes) (λ held. held ++ map f bytes) (λ held. map-append f held bytes) pipes k

-- a read
pub take_front-map : {B C : Type 0} (f : B → C) (pipes : Pipes (List B)) (k max : ℕ)
    → map_pipes (map f) (take_front pipes k max) ≡ take_front (map_pipes (map f) pipes) k max
take_front-map f pipes k max = change-map (map f) (drop max) (drop max) (λ held. sym (drop-map f max held)) pipes k
