-- The parts of a path, one at a time.
use Rattle.std.proofs.Common.{◌≡◌, ℕ, suc, ◌+◌, ◌*◌, ◌<◌, ◌≤◌, false, true, List, [], ◌∷◌, ◌++◌, length, take, drop, get_or, Option, Some, None, refl, sym, ap}
use Rattle.std.proofs.Common.{◌∙◌, arith, ltb, cond, ltb-true, ltb-false, length-drop, length-append, zero}
use Rattle.std.specs.Prelude.{position, not, filter}
use Rattle.std.specs.List.{slice_split, position_or_len}
use Rattle.std.proofs.lemmas.List.{drop-drop, length-take-le, get_or-take}
use Rattle.std.proofs.lemmas.List.Splits.{slice_split_none, slice_split_first}
use Rattle.std.proofs.lemmas.List.Sums.{fails_before_first}
use Rattle.tree_model.specs.Tree.{steps, is_slash, is_skipped}
use Rattle.std.specs.List.{list_all}
use Rattle.std.proofs.lemmas.List.Quantifiers.{position-Some}
use Rattle.vnode_tree.proofs.Positions.{all_fail}
use Rattle.vnode_tree.specs.Walks.{IsCut, is_step, step_of, steps_after, bytes_after}

pub filter_one : (part : List ℕ) (rest : List (List ℕ)) → filter (λ p. not (is_skipped p)) (part ∷ rest) ≡ step_of part ++ filter (λ p. not (is_skipped p)) rest
filter_one part rest =
    elim (is_skipped part) as
    (λ b. cond (not b) (part ∷ filter (λ p. not (is_skipped p)) rest) (filter (λ p. not (is_skipped p)) rest)
    ≡ cond b [] (part ∷ []) ++ filter (λ p. not (is_skipped p)) rest) [
      | true ↦ refl
      | false ↦ refl
    ]

-- bytes of which none is a slash
all_plain : (bytes : List ℕ) → ((k : ℕ) → k < length bytes → is_slash (get_or bytes k 0) ≡ false) → list_all (λ b. not (is_slash b)) bytes ≡ true
all_plain [] none = refl
all_plain (b ∷ bytes) none = rw (none 0 (omega arith)) (all_plain bytes (λ k below. none (suc k) (omega arith)))

before_slash : (path : List ℕ) (k : ℕ) → position is_slash path ≡ Some k → (i : ℕ) → i < k → is_slash (get_or path i 0) ≡ false
before_slash path k found i below = (position-Some is_slash path k 0 found).2 i below

-- a path without a slash is one part
pub cut_none : (path : List ℕ) → position is_slash path ≡ None → IsCut path path None
unfolding steps
cut_none path h =
    let p = position_or_len is_slash path in
    let whole : slice_split is_slash path ≡ path ∷ [] =
    elim (ltb p (length path)) as (λ b. ltb p (length path) ≡ b → cond b (Some p) None ≡ None → slice_split is_slash path ≡ path ∷ []) [
      | true ↦ λ test none. absurd cc
      | false ↦ λ test none.
          let all : length path ≤ p = ltb-false p (length path) test in
          slice_split_none is_slash path (λ k d below. fails_before_first is_slash path k d (omega arith))
    ] refl h in
    record {
      parts = ap (filter (λ p. not (is_skipped p))) whole ∙ filter_one path [];
      shorter = omega arith;
      no_slash = all_plain path (λ k below. all_fail is_slash path k 0 h below);
    }

-- the first part stands before the first slash
split_more : (path : List ℕ) (k : ℕ) → position is_slash path ≡ Some k
    → (k < length path) × (slice_split is_slash path ≡ take k path ∷ slice_split is_slash (drop (k + 1) path))
split_more path k h =
    let p = position_or_len is_slash path in
    elim (ltb p (length path)) as
    (λ b. ltb p (length path) ≡ b → cond b (Some p) None ≡ Some k
    → (k < length path) × (slice_split is_slash path ≡ take k path ∷ slice_split is_slash (drop (k + 1) path))) [
      | true ↦ λ test some.
          let here : p ≡ k = cc in
          let inside : p < length path = ltb-true p (length path) test in
          (omega (arith, inside, here), slice_split_first is_slash path 0 inside ∙ ap (λ at. take at path ∷ slice_split is_slash (drop (at + 1) path)) here)
      | false ↦ λ test some. absurd cc
    ] refl h

pub cut_some : (path part others rest : List ℕ) (k : ℕ) → position is_slash path ≡ Some k → part ≡ take k path → others ≡ drop k path → rest ≡ drop 1 others
    → IsCut path part (Some rest)
unfolding steps
cut_some path part others rest k h w o r =
    let more = split_more path k h in
    let rest_is : rest ≡ drop (k + 1) path = r ∙ ap (drop 1) o ∙ drop-drop 1 k path in
    record {
      parts =
          ap (filter (λ p. not (is_skipped p))) more.1 ∙ filter_one (take k path) (slice_split is_slash (drop (k + 1) path))
          ∙ ap (λ w. step_of w ++ filter (λ p. not (is_skipped p)) (slice_split is_slash (drop (k + 1) path))) (sym w)
          ∙ ap (λ xs. step_of part ++ filter (λ p. not (is_skipped p)) (slice_split is_slash xs)) (sym rest_is);
      shorter =
          omega (
            arith,
            more.0,
            ap (λ (xs : List ℕ). length xs) rest_is,
            length-drop (k + 1) path,
            ap (λ (xs : List ℕ). length xs) w,
            length-take-le k path (omega (arith, more.0)),
          );
      no_slash = ap (λ (xs : List ℕ). list_all (λ b. not (is_slash b)) xs) w ∙ all_plain (take k path) (λ i below.
          let size : length (take k path) ≡ k = length-take-le k path (omega (arith, more.0)) in
          ap is_slash (get_or-take k path i 0 (omega (arith, below, size))) ∙ before_slash path k h i (omega (arith, below, size)));
    }

-- a path cut somewhere
record Parted (path : List ℕ) : Type 0 where
  part : List ℕ
  rest : Option (List ℕ)
  cut : IsCut path part rest

parted : (path : List ℕ) → Parted path
parted path = elim (position is_slash path) as (λ o. position is_slash path ≡ o → Parted path) [
  | None ↦ λ none. record { part = path; rest = None; cut = cut_none path none }
  | Some k ↦
      λ some. record {
        part = take k path;
        rest = Some (drop 1 (drop k path));
        cut = cut_some path (take k path) (drop k path) (drop 1 (drop k path)) k some refl refl refl;
      }
] refl

step_size : (part : List ℕ) → (length (step_of part) ≤ 1) × (length (step_of part) ≤ length part)
step_size [] = (omega arith, omega arith)
step_size (b ∷ part) =
    elim (is_skipped (b ∷ part)) as (λ t. (length (cond t [] ((b ∷ part) ∷ [])) ≤ 1) × (length (cond t [] ((b ∷ part) ∷ [])) ≤ length (b ∷ part))) [
      | true ↦ (omega arith, omega arith)
      | false ↦ (omega arith, omega arith)
    ]

sizes : (path part : List ℕ) (rest : Option (List ℕ)) → IsCut path part rest
    → (length (steps path) ≡ length (step_of part) + length (steps_after rest)) × (bytes_after rest + length part ≡ length path)
sizes path part rest cut = (ap (λ (xs : List (List ℕ)). length xs) cut.parts ∙ length-append (step_of part) (steps_after rest), cut.shorter)

-- each part but the first has a slash before it
steps_size : (fuel : ℕ) (path : List ℕ) → length path < fuel → 2 * length (steps path) ≤ length path + 1
steps_size zero path below = absurd (omega (arith, below))
steps_size (suc fuel) path below =
    let p = parted path in
    let size = step_size p.part in
    elim p.rest as (λ o. IsCut path p.part o → 2 * length (steps path) ≤ length path + 1) [
      | None ↦ λ cut. let all = sizes path p.part None cut in omega (arith, all.0, all.1, size.0, size.1)
      | Some rest ↦ λ cut.
          let all = sizes path p.part (Some rest) cut in
          let more = steps_size fuel rest (omega (arith, all.1, below)) in
          omega (arith, all.0, all.1, size.0, size.1, more)
    ] p.cut

pub few_steps : (path : List ℕ) → length path ≤ 1023 → length (steps path) ≤ 512
few_steps path short = omega (arith, steps_size (suc (length path)) path (omega arith), short)

-- what is left after a part that does nothing, and after one that does something
pub skipped_part : (path part : List ℕ) (rest : Option (List ℕ)) → IsCut path part rest → is_skipped part ≡ true → steps_after rest ≡ steps path
skipped_part path part rest cut skip = sym (cut.parts ∙ ap (λ b. cond b [] (part ∷ []) ++ steps_after rest) skip)

pub kept_part : (path part : List ℕ) (rest : Option (List ℕ)) → IsCut path part rest → is_skipped part ≡ false → steps path ≡ part ∷ steps_after rest
kept_part path part rest cut keep = cut.parts ∙ ap (λ b. cond b [] (part ∷ []) ++ steps_after rest) keep

pub less_left : (path part : List ℕ) (rest : Option (List ℕ)) → IsCut path part rest → bytes_after rest < suc (length path)
less_left path part rest cut = omega (arith, cut.shorter)

pub kept_step : (path part : List ℕ) (rest : Option (List ℕ)) → IsCut path part rest → is_skipped part ≡ false → is_step part ≡ true
kept_step path part rest cut keep = rw (keep, cut.no_slash) refl
