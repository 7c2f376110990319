-- Rows of pipes, worked out by hand and computed from the definitions.
use Rattle.std.proofs.Common.{◌≡◌, ℕ, zero, suc, true, false, List, [], ◌∷◌, replicate, refl, Some, None}
use Rattle.label_core.specs.declared.element.Element.TheVariants.{Low, High}
use Rattle.block_pool.specs.Pool.{PoolState}
use Rattle.block_pool.specs.Chain.{ChainState, holds}
use Rattle.pipe_core.specs.Pipes.{Pipes, is_there, contents_at, element_at, free_pipes, lowest_free, add, remove, put, take_front, map_pipes}
use Rattle.pipe_core.specs.Chains.{bytes_of, blocks_of}

-- no pipe of sixteen, one of low, and a second of high behind it
abbrev none : Pipes (List ℕ)
none = replicate 16 None

abbrev one : Pipes (List ℕ)
one = add none [] Low

abbrev two : Pipes (List ℕ)
two = add one (7 ∷ 8 ∷ 9 ∷ []) High

-- as many pipes more
abbrev add_more : ℕ → Pipes (List ℕ) → Pipes (List ℕ)
add_more zero pipes = pipes
add_more (suc n) pipes = add_more n (add pipes [] Low)

-- a new pipe takes the lowest free number
first_number : lowest_free none ≡ 0
first_number = refl

next_number : lowest_free one ≡ 1
next_number = refl

-- also one that a pipe had
number_again : lowest_free (remove two 0) ≡ 0
number_again = refl

-- sixteen are free, and none when there are sixteen pipes
all_free : free_pipes none ≡ 16
all_free = refl

two_used : free_pipes two ≡ 14
two_used = refl

none_free : free_pipes (add_more 16 none) ≡ 0
none_free = refl

last_number : lowest_free (add_more 15 none) ≡ 15
last_number = refl

-- a pipe is there from its making to its removal
there : is_there two 1 ≡ true
there = refl

not_there : is_there one 1 ≡ false
not_there = refl

past_all : is_there two 16 ≡ false
past_all = refl

not_there_again : is_there (remove two 0) 0 ≡ false
not_there_again = refl

-- a removal leaves the others
other_stays : contents_at (remove two 0) 1 ≡ Some (7 ∷ 8 ∷ 9 ∷ [])
other_stays = refl

-- each has the element of its maker
element_low : element_at two 0 ≡ Some Low
element_low = refl

element_high : element_at two 1 ≡ Some High
element_high = refl

element_none : element_at two 2 ≡ None
element_none = refl

-- a write goes behind what is held
put_behind : contents_at (put two 1 (5 ∷ 6 ∷ [])) 1 ≡ Some (7 ∷ 8 ∷ 9 ∷ 5 ∷ 6 ∷ [])
put_behind = refl

-- and leaves the other pipe and the elements
put_other : contents_at (put two 1 (5 ∷ [])) 0 ≡ Some []
put_other = refl

put_element : element_at (put two 1 (5 ∷ [])) 1 ≡ Some High
put_element = refl

-- a write to no pipe does nothing
put_none : put one 3 (5 ∷ []) ≡ one
put_none = refl

-- a read takes from the front
take_two : contents_at (take_front two 1 2) 1 ≡ Some (9 ∷ [])
take_two = refl

take_all : contents_at (take_front two 1 9) 1 ≡ Some []
take_all = refl

take_other : contents_at (take_front two 0 2) 1 ≡ Some (7 ∷ 8 ∷ 9 ∷ [])
take_other = refl

-- what two writes put is read in their order
in_order : contents_at (take_front (put (put one 0 (1 ∷ 2 ∷ [])) 0 (3 ∷ [])) 0 1) 0 ≡ Some (2 ∷ 3 ∷ [])
in_order = refl

-- something else for each byte
seen_pipes : contents_at (map_pipes (λ (bytes : List ℕ). 4 ∷ bytes) two) 1 ≡ Some (4 ∷ 7 ∷ 8 ∷ 9 ∷ [])
seen_pipes = refl

-- the blocks of all pipes, by number
chain : List ℕ → ChainState
chain blocks = record { blocks = blocks; first = 0; count = 0 }

chains : Pipes ChainState
chains = Some (record { contents = chain (3 ∷ 4 ∷ []); element = Low }) ∷ None ∷ Some (record { contents = chain (7 ∷ []); element = High }) ∷ []

all_blocks : blocks_of chains ≡ 3 ∷ 4 ∷ 7 ∷ []
unfolding chains chain
all_blocks = refl

-- the bytes of each are those that its chain holds
bytes_of_each : (pool : PoolState) → contents_at (bytes_of pool chains) 2 ≡ Some (holds pool (chain (7 ∷ [])))
unfolding chains chain
bytes_of_each pool = refl
