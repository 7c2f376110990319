-- Lists that are seen through a map, and tests and steps that are the same at every element.
use Rattle.std.proofs.Common.{◌≡◌, ℕ, zero, suc, ◌+◌, ◌<◌, Bool, true, false, cond, not, ◌||◌, List, [], ◌∷◌, ◌++◌, map, length, get_or, take, Some, None, refl}
use Rattle.std.proofs.Common.{ap, ap₂, ◌∙◌, append-nil}
use Rattle.std.specs.Prelude.{fold, filter, slice_index_or, position, nat_lt}
use Rattle.std.specs.List.{list_any, prefix_len}
use Rattle.std.proofs.lemmas.List.{length-map}
use Rattle.std.proofs.lemmas.List.Elements.{filter_more}

pub get_or-seen : {A B : Type 0} (g : A → B) (xs : List A) (i : ℕ) (d : A) → slice_index_or (map g xs) i (g d) ≡ g (slice_index_or xs i d)
get_or-seen g [] i d = refl
get_or-seen g (x ∷ xs) zero d = refl
get_or-seen g (x ∷ xs) (suc i) d = get_or-seen g xs i d

pub any-seen : {A B : Type 0} (g : A → B) (test : B → Bool) (also : A → Bool) → ((x : A) → test (g x) ≡ also x) → (xs : List A)
    → list_any test (map g xs) ≡ list_any also xs
any-seen g test also same [] = refl
any-seen g test also same (x ∷ xs) = ap₂ (λ a b. a || b) (same x) (any-seen g test also same xs)

pub any-same : {A : Type 0} (test also : A → Bool) → ((x : A) → test x ≡ also x) → (xs : List A) → list_any test xs ≡ list_any also xs
any-same test also same [] = refl
any-same test also same (x ∷ xs) = ap₂ (λ a b. a || b) (same x) (any-same test also same xs)

pub filter-same : {A : Type 0} (test also : A → Bool) → ((x : A) → test x ≡ also x) → (xs : List A) → filter test xs ≡ filter also xs
filter-same test also same [] = refl
filter-same test also same (x ∷ xs) = ap₂ (λ b (rest : List _). cond b (x ∷ rest) rest) (same x) (filter-same test also same xs)

prefix_len-seen : {A B : Type 0} (g : A → B) (test : B → Bool) (also : A → Bool) → ((x : A) → test (g x) ≡ also x) → (xs : List A)
    → prefix_len test (map g xs) ≡ prefix_len also xs
prefix_len-seen g test also same [] = refl
prefix_len-seen g test also same (x ∷ xs) = ap₂ (λ b n. cond b (1 + n) 0) (same x) (prefix_len-seen g test also same xs)

pub position-seen : {A B : Type 0} (g : A → B) (test : B → Bool) (also : A → Bool) → ((x : A) → test (g x) ≡ also x) → (xs : List A)
    → position test (map g xs) ≡ position also xs
position-seen g test also same xs =
    ap₂ (λ at end. cond (nat_lt at end) (Some at) None)
    (prefix_len-seen g (λ x. not (test x)) (λ x. not (also x)) (λ x. ap not (same x)) xs)
    (length-map xs g)

pub fold-same : {A B : Type 0} (step also : B → A → B) → ((b : B) (x : A) → step b x ≡ also b x) → (b : B) (xs : List A) → fold step b xs ≡ fold also b xs
fold-same step also same b [] = refl
fold-same step also same b (x ∷ xs) = fold-same step also same (step b x) xs ∙ ap (λ c. fold also c xs) (same b x)

-- steps that commute with how their state is seen
pub fold-commutes : {A B C : Type 0} (see : B → C) (step : B → A → B) (also : C → A → C) → ((b : B) (x : A) → also (see b) x ≡ see (step b x))
    → (b : B) (xs : List A) → fold also (see b) xs ≡ see (fold step b xs)
fold-commutes see step also same b [] = refl
fold-commutes see step also same b (x ∷ xs) = ap (λ c. fold also c xs) (same b x) ∙ fold-commutes see step also same (step b x) xs

pub fold-seen : {A B C : Type 0} (g : A → B) (step : C → B → C) (also : C → A → C) → ((c : C) (x : A) → step c (g x) ≡ also c x) → (c : C) (xs : List A)
    → fold step c (map g xs) ≡ fold also c xs
fold-seen g step also same c [] = refl
fold-seen g step also same c (x ∷ xs) = ap (λ b. fold step b (map g xs)) (same c x) ∙ fold-seen g step also same (also c x) xs

-- one more element of a list that is filtered
pub filter-passed : {A : Type 0} (test : A → Bool) (xs : List A) (i : ℕ) (d : A) → i < length xs → test (get_or xs i d) ≡ true
    → filter test (take (i + 1) xs) ≡ filter test (take i xs) ++ get_or xs i d ∷ []
filter-passed test xs i d within passes = filter_more test xs i d within ∙ ap (λ b. filter test (take i xs) ++ cond b (get_or xs i d ∷ []) []) passes

pub filter-failed : {A : Type 0} (test : A → Bool) (xs : List A) (i : ℕ) (d : A) → i < length xs → test (get_or xs i d) ≡ false
    → filter test (take (i + 1) xs) ≡ filter test (take i xs)
filter-failed test xs i d within fails =
    filter_more test xs i d within ∙ ap (λ b. filter test (take i xs) ++ cond b (get_or xs i d ∷ []) []) fails ∙ append-nil (filter test (take i xs))
