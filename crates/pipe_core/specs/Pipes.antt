-- Pipes, after pipe(2): each under a number, with what it holds and its element. What it holds, P, may be a chain over a pool, a list of
-- bytes, or a list of tagged bytes; all else is the same in the three.
use Rattle.std.specs.Prelude.{ℕ, Bool, List, ◌++◌, map, drop, Option, Some, None, is_none, is_some, option_map, count_by, slice_index_or, slice_set}
use Rattle.std.specs.List.{position_or_len}
use Rattle.label_core.specs.declared.element.Element.{Element}

-- a pipe: what it holds, and the element of its maker
pub record Held (P : Type 0) : Type 0 where
  pub contents : P
  pub element : Element

-- for each number its pipe, if it has one
abbrev pub Pipes : Type 0 → Type 0
Pipes P = List (Option (Held P))

abbrev pub held_at : {P : Type 0} → Pipes P → ℕ → Option (Held P)
held_at pipes k = slice_index_or pipes k None

-- there is a pipe of the number
abbrev pub is_there : {P : Type 0} → Pipes P → ℕ → Bool
is_there pipes k = is_some (held_at pipes k)

-- what the pipe of a number holds
abbrev pub contents_at : {P : Type 0} → Pipes P → ℕ → Option P
contents_at pipes k = option_map (λ h. h.contents) (held_at pipes k)

abbrev pub element_at : {P : Type 0} → Pipes P → ℕ → Option Element
element_at pipes k = option_map (λ h. h.element) (held_at pipes k)

-- how many numbers are free
abbrev pub free_pipes : {P : Type 0} → Pipes P → ℕ
free_pipes pipes = count_by is_none pipes

-- the lowest free number, which a new pipe takes
abbrev pub lowest_free : {P : Type 0} → Pipes P → ℕ
lowest_free pipes = position_or_len is_none pipes

abbrev pub add : {P : Type 0} → Pipes P → P → Element → Pipes P
add pipes contents element = slice_set pipes (lowest_free pipes) (Some (record { contents = contents; element = element }))

abbrev pub remove : {P : Type 0} → Pipes P → ℕ → Pipes P
remove pipes k = slice_set pipes k None

-- with other contents
abbrev pub with_contents : {P Q : Type 0} → (P → Q) → Held P → Held Q
with_contents how h = record { contents = how h.contents; element = h.element }

-- what the pipe of a number holds is changed
abbrev pub change : {P : Type 0} → (P → P) → Pipes P → ℕ → Pipes P
change how pipes k = slice_set pipes k (option_map (with_contents how) (held_at pipes k))

-- a write puts its bytes behind those that the pipe holds; they are bytes or tagged bytes, B
abbrev pub put : {B : Type 0} → Pipes (List B) → ℕ → List B → Pipes (List B)
put pipes k bytes = change (λ held. held ++ bytes) pipes k

-- a read takes at most so many from the front
abbrev pub take_front : {B : Type 0} → Pipes (List B) → ℕ → ℕ → Pipes (List B)
take_front pipes k max = change (drop max) pipes k

-- the same, with something else as what each holds
abbrev pub map_pipes : {P Q : Type 0} → (P → Q) → Pipes P → Pipes Q
map_pipes f pipes = map (option_map (with_contents f)) pipes
