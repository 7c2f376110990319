-- The places of the kernel's table of pipes, as pipes.
use Rattle.std.proofs.Common.{◌≡◌, ℕ, ◌<◌, true, cond, List, [], ◌∷◌, ◌++◌, set, get_or, length, position, Option, Some, None, option_map, refl, sym, ap, ◌∙◌}
use Rattle.std.proofs.Common.{subst, arith}
use Rattle.std.specs.Prelude.{is_none, is_some, count_by, IsSome, nat_lt}
use Rattle.std.specs.List.{position_or_len, Contains}
use Rattle.std.proofs.lemmas.Bool.Decides.{nat_tests}
use Rattle.std.proofs.lemmas.List.{map-set, get_or_past, get_or_default}
use Rattle.std.proofs.lemmas.Bool.{lt-ltb}
use Rattle.std.proofs.lemmas.List.Sums.{sum_by-cons, passes_at_first}
use Rattle.label_core.specs.declared.element.Element.{Element}
use Rattle.block_pool.specs.Pool.{PoolState, times, AreOf, WritesTo}
use Rattle.block_pool.specs.Chain.{ChainState, holds}
use Rattle.block_pool.proofs.TimesLemmas.{times-append}
use Rattle.block_pool.proofs.BlockLemmas.{writes_wider}
use Rattle.pipe_core.specs.declared.pipes.Labelled.{Labelled}
use Rattle.pipe_core.specs.Pipes.{Held, Pipes, held_at, is_there, add, remove, change, free_pipes}
use Rattle.pipe_core.specs.Chains.{bytes_of, blocks_in, blocks_of}
use Rattle.pipe_core.specs.Labelled.{held_of, pipes_of}
use Rattle.pipe_core.proofs.MapLemmas.{get-map, first-map, count-map}
use Rattle.pipe_core.proofs.BlockLemmas.{times-set, blocks-same, blocks-contained, bytes-how}

-- what is pipes_of of a place
pub pipes_of-at : (places : List (Option Labelled)) (k : ℕ) → held_at (pipes_of places) k ≡ option_map held_of (get_or places k None)
pipes_of-at places k = get-map held_of places k

pub pipes_of-set : (places : List (Option Labelled)) (k : ℕ) (o : Option Labelled) → pipes_of (set places k o) ≡ set (pipes_of places) k (option_map held_of o)
pipes_of-set places k o = map-set (option_map held_of) places k o

some-within : {X : Type 0} (xs : List (Option X)) (k : ℕ) → is_some (get_or xs k None) ≡ true → k < length xs
some-within xs k is = grind (arith, get_or_past)

some-held : (o : Option Labelled) → is_some (option_map held_of o) ≡ is_some o
some-held None = refl
some-held (Some l) = refl

-- a pipe that is there stands in a place
pub place-within : (places : List (Option Labelled)) (k : ℕ) → is_there (pipes_of places) k ≡ true → k < length places
place-within places k is = some-within places k (sym (some-held (get_or places k None)) ∙ sym (ap is_some (pipes_of-at places k)) ∙ is)

-- what stands in a place that was read is what the pipe of its number is
pub held-is : (places : List (Option Labelled)) (k : ℕ) (d : Option Labelled) (l : Labelled) → k < length places → get_or places k d ≡ Some l
    → held_at (pipes_of places) k ≡ Some (held_of l)
held-is places k d l within is = pipes_of-at places k ∙ ap (option_map held_of) (get_or_default places k None d within ∙ is)

-- what is written to the blocks of one pipe is written to those of all
pub writes-all : (old new : PoolState) (pipes : Pipes ChainState) (k : ℕ) (h : Held ChainState) → held_at pipes k ≡ Some h → WritesTo h.contents.blocks old new
    → WritesTo (blocks_of pipes) old new
writes-all old new pipes k h is writes =
    writes_wider h.contents.blocks (blocks_of pipes) old new
    (λ n own. blocks-contained n pipes k (subst (λ (o : Option (Held ChainState)). Contains (blocks_in o) n) (sym is) own)) writes

-- the pipe of a place was changed over its own blocks
pub pipes_of-how : (old new : PoolState) (places : List (Option Labelled)) (k : ℕ) (l : Labelled) (chain : ChainState) (how : List ℕ → List ℕ)
    → AreOf old (blocks_of (pipes_of places)) → WritesTo l.pipe.blocks old new → held_at (pipes_of places) k ≡ Some (held_of l)
    → holds new chain ≡ how (holds old l.pipe)
    → bytes_of new (pipes_of (set places k (Some (record { pipe = chain; element = l.element })))) ≡ change how (bytes_of old (pipes_of places)) k
pipes_of-how old new places k l chain how all writes is changed =
    ap (bytes_of new) (pipes_of-set places k (Some (record { pipe = chain; element = l.element })))
    ∙ bytes-how old new (pipes_of places) k (held_of l) chain how all writes is changed

pub pipes_of-blocks : (places : List (Option Labelled)) (k : ℕ) (l : Labelled) (chain : ChainState) → held_at (pipes_of places) k ≡ Some (held_of l)
    → chain.blocks ≡ l.pipe.blocks → blocks_of (pipes_of (set places k (Some (record { pipe = chain; element = l.element })))) ≡ blocks_of (pipes_of places)
pipes_of-blocks places k l chain is same =
    ap blocks_of (pipes_of-set places k (Some (record { pipe = chain; element = l.element })))
    ∙ blocks-same (pipes_of places) k (Some (record { contents = chain; element = l.element })) (same ∙ sym (ap blocks_in is))

-- a pipe comes under a free number
pub pipes_of-added : (places : List (Option Labelled)) (k : ℕ) (pipe : ChainState) (element : Element) → k ≡ position_or_len is_none places
    → pipes_of (set places k (Some (record { pipe = pipe; element = element }))) ≡ add (pipes_of places) pipe element
pipes_of-added places k pipe element first =
    pipes_of-set places k (Some (record { pipe = pipe; element = element }))
    ∙ ap (λ i. set (pipes_of places) i (Some (record { contents = pipe; element = element }))) (first ∙ sym (first-map held_of places))

pub times-added : (n : ℕ) (pipes : Pipes ChainState) (k : ℕ) (pipe : ChainState) (element : Element) → k < length pipes → held_at pipes k ≡ None
    → times n (blocks_of (set pipes k (Some (record { contents = pipe; element = element })))) ≡ times n (pipe.blocks ++ blocks_of pipes)
times-added n pipes k pipe element within free =
    let all = times-set n pipes k (Some (record { contents = pipe; element = element })) within in
    let none : times n (blocks_in (held_at pipes k)) ≡ 0 = ap (λ o. times n (blocks_in o)) free in
    omega (arith, all, none, times-append n pipe.blocks (blocks_of pipes))

pub times-removed : (n : ℕ) (pipes : Pipes ChainState) (k : ℕ) (h : Held ChainState) → k < length pipes → held_at pipes k ≡ Some h
    → times n (blocks_of pipes) ≡ times n (h.contents.blocks ++ blocks_of (remove pipes k))
times-removed n pipes k h within is =
    let all = times-set n pipes k None within in
    let one : times n (blocks_in (held_at pipes k)) ≡ times n h.contents.blocks = ap (λ o. times n (blocks_in o)) is in
    let none : times n (blocks_in None) ≡ 0 = refl in
    omega (arith, all, one, none, times-append n h.contents.blocks (blocks_of (remove pipes k)))

some-means : (a b i : ℕ) → cond (nat_lt a b) (Some a) None ≡ Some i → (i ≡ a) × (i < b)
some-means a b i is = grind (arith, nat_tests)

-- the first free place
pub first-some : {X : Type 0} (xs : List (Option X)) (i : ℕ) → position is_none xs ≡ Some i → (i ≡ position_or_len is_none xs) × (i < length xs)
first-some {X} xs i is = some-means (position_or_len (is_none {T = X}) xs) (length xs) i is

first-free : {X : Type 0} (xs : List (Option X)) → 0 < count_by is_none xs → position_or_len is_none xs < length xs
first-free {X} [] some = let none : count_by (is_none {T = X}) [] ≡ 0 = refl in absurd (omega (arith, none, some))
first-free (None ∷ xs) some = omega arith
first-free (Some x ∷ xs) some =
    let step = sum_by-cons (λ o. cond (is_none o) 1 0) (Some x) xs in
    let rest : 0 < count_by is_none xs = omega (arith, step, some) in
    let more = first-free xs rest in
    omega (arith, more)

is-some : (a b : ℕ) → a < b → IsSome (cond (nat_lt a b) (Some a) None)
is-some a b within = rw (lt-ltb a b within) refl

-- where a number is free there is a free place
pub some-free : (places : List (Option Labelled)) → 0 < free_pipes (pipes_of places) → IsSome (position is_none places)
some-free places free =
    is-some (position_or_len is_none places) (length places) (first-free places (let same = count-map held_of places in omega (arith, same, free)))

nothing : {X : Type 0} (o : Option X) → is_none o ≡ true → o ≡ None
nothing None is = refl
nothing (Some x) is = cc

-- and no pipe is of its number
pub free-held : (places : List (Option Labelled)) (k : ℕ) → k ≡ position_or_len is_none places → k < length places → held_at (pipes_of places) k ≡ None
free-held places k first within =
    let here : position_or_len is_none places < length places = omega (arith, first, within) in
    let none : get_or places k None ≡ None =
    ap (λ i. get_or places i None) first ∙ nothing (get_or places (position_or_len is_none places) None) (passes_at_first is_none places None here) in
    pipes_of-at places k ∙ ap (option_map held_of) none
