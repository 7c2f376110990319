-- Leases of a pool, as lists of block numbers.
use Rattle.std.proofs.Common.{◌≡◌, ℕ, ◌+◌, ◌<◌, ◌≤◌, cond, ltb, List, [], ◌++◌, length, get_or, sym, ap, ◌∙◌, arith, append_assoc, append-nil, length-append}
use Rattle.std.specs.List.{range_with_len}
use Rattle.std.proofs.lemmas.Bool.Decides.{nat_tests}
use Rattle.block_pool.specs.Pool.{PoolState, times, blocks_of_number, AreOf, AreAllOf, AreApart, Lends, WritesTo}
use Rattle.block_pool.proofs.TimesLemmas.{times-append, times-get_or, times-contained, times-range, length_le_size, length_all}

-- a leased block stands in its lease once
pub once_leased : (pool : PoolState) (blocks : List ℕ) → AreOf pool blocks → (n : ℕ) → times n blocks ≤ 1
once_leased pool blocks leased n = grind (arith, times-append n pool.free blocks, leased.once n)

-- a leased block is one of the pool's
pub leased_below : (pool : PoolState) (blocks : List ℕ) → AreOf pool blocks → (i d : ℕ) → i < length blocks → get_or blocks i d < length pool.blocks
leased_below pool blocks leased i d h =
    let here = times-get_or blocks i d h in
    grind (arith, nat_tests, times-append (get_or blocks i d) pool.free blocks, leased.once (get_or blocks i d))

-- the free blocks and the leased ones together are no more than all
pub length_leased : (pool : PoolState) (blocks : List ℕ) → AreOf pool blocks → length pool.free + length blocks ≤ length pool.blocks
length_leased pool blocks leased =
    omega (arith, length_le_size (pool.free ++ blocks) (length pool.blocks) leased.once, length-append pool.free blocks)

-- two leases are apart
pub leases_apart : (pool : PoolState) (blocks others : List ℕ) → AreOf pool (blocks ++ others) → AreApart blocks others
leases_apart pool blocks others leased n one other =
    let here = times-contained blocks n one in
    let there = times-contained others n other in
    absurd (omega (arith, once_leased pool (blocks ++ others) leased n, times-append n blocks others))

-- no leased block is free
pub leased_not_free : (pool : PoolState) (blocks : List ℕ) → AreOf pool blocks → AreApart blocks pool.free
leased_not_free pool blocks leased n one other =
    let here = times-contained blocks n one in
    let there = times-contained pool.free n other in
    absurd (grind (arith, leased.once n, times-append n pool.free blocks))

-- what lending does to the free blocks and the leased ones together
times_lent : (lease : List ℕ) (old new : PoolState) (leased : List ℕ) → Lends lease old new → (n : ℕ)
    → times n (new.free ++ (lease ++ leased)) ≡ times n (old.free ++ leased)
times_lent lease old new leased lent n = ap (times n) (sym (append_assoc new.free lease leased) ∙ ap (λ xs. xs ++ leased) (sym lent.free))

-- lending keeps the number of blocks of each number
blocks_of_number_lent : (lease : List ℕ) (old new : PoolState) → Lends lease old new → (n : ℕ) → blocks_of_number new n ≡ blocks_of_number old n
blocks_of_number_lent lease old new lent n = ap (λ xs. cond (ltb n (length xs)) 1 0) lent.blocks

-- after lending, the lease and what was leased before are leased
pub leased_lent : (lease : List ℕ) (old new : PoolState) (leased : List ℕ) → Lends lease old new → AreOf old leased → AreOf new (lease ++ leased)
leased_lent lease old new leased lent before = record {
  once = λ n. omega (arith, times_lent lease old new leased lent n, blocks_of_number_lent lease old new lent n, before.once n);
}

-- before lending, what is leased after it but for the lease was leased
pub leased_before : (lease : List ℕ) (old new : PoolState) (leased : List ℕ) → Lends lease old new → AreOf new (lease ++ leased) → AreOf old leased
leased_before lease old new leased lent after = record {
  once = λ n. omega (arith, times_lent lease old new leased lent n, blocks_of_number_lent lease old new lent n, after.once n);
}

-- after lending, the lease and all that were leased are all
pub all_lent : (lease : List ℕ) (old new : PoolState) (leased : List ℕ) → Lends lease old new → AreAllOf old leased → AreAllOf new (lease ++ leased)
all_lent lease old new leased lent before = record {
  once = λ n. times_lent lease old new leased lent n ∙ before.once n ∙ sym (blocks_of_number_lent lease old new lent n);
}

-- before lending, all that are leased after it but for the lease were all
pub all_before : (lease : List ℕ) (old new : PoolState) (leased : List ℕ) → Lends lease old new → AreAllOf new (lease ++ leased) → AreAllOf old leased
all_before lease old new leased lent after = record {
  once = λ n. sym (times_lent lease old new leased lent n) ∙ after.once n ∙ blocks_of_number_lent lease old new lent n;
}

-- all blocks that are leased are leased
pub leased_all : (pool : PoolState) (leased : List ℕ) → AreAllOf pool leased → AreOf pool leased
leased_all pool leased all = record { once = λ n. omega (arith, all.once n) }

-- a pool whose free blocks are the numbers below its size has leased none
pub all_free : (pool : PoolState) (size : ℕ) → length pool.blocks ≡ size → pool.free ≡ range_with_len 0 size → AreAllOf pool []
all_free pool size is_size is_free = record {
  once = λ n. rw (append-nil, is_free, is_size) (times-range n size);
}

-- the free blocks and all that are leased are as many as there are
pub length_all_leased : (pool : PoolState) (leased : List ℕ) → AreAllOf pool leased → length pool.free + length leased ≡ length pool.blocks
length_all_leased pool leased all = sym (length-append pool.free leased) ∙ length_all (length pool.blocks) (pool.free ++ leased) all.once

-- the order of leased blocks does not matter
pub leased_rearranged : (pool : PoolState) (blocks others : List ℕ) → ((n : ℕ) → times n blocks ≡ times n others) → AreOf pool blocks → AreOf pool others
leased_rearranged pool blocks others same leased = record {
  once = λ n. omega (arith, times-append n pool.free blocks, times-append n pool.free others, same n, leased.once n);
}

-- the order of all that are leased does not matter
pub all_rearranged : (pool : PoolState) (blocks others : List ℕ) → ((n : ℕ) → times n blocks ≡ times n others) → AreAllOf pool blocks → AreAllOf pool others
all_rearranged pool blocks others same leased = record {
  once = λ n. omega (arith, times-append n pool.free blocks, times-append n pool.free others, same n, leased.once n);
}

-- two leases may be listed the other way round
pub times_swapped : (blocks others : List ℕ) (n : ℕ) → times n (blocks ++ others) ≡ times n (others ++ blocks)
times_swapped blocks others n = omega (arith, times-append n blocks others, times-append n others blocks)

-- a part of what is leased is leased
pub leased_part : (pool : PoolState) (blocks others : List ℕ) → AreOf pool (blocks ++ others) → AreOf pool blocks
leased_part pool blocks others leased = record {
  once = λ n. omega (arith, times-append n pool.free blocks, times-append n pool.free (blocks ++ others), times-append n blocks others, leased.once n);
}

-- what is written to blocks leaves what is leased
pub leased_written : (own : List ℕ) (old new : PoolState) (leased : List ℕ) → WritesTo own old new → AreOf old leased → AreOf new leased
leased_written own old new leased writes before = record {
  once = λ n. rw (writes.free, writes.size) (before.once n);
}

-- what is written to blocks leaves all that are leased
pub all_written : (own : List ℕ) (old new : PoolState) (leased : List ℕ) → WritesTo own old new → AreAllOf old leased → AreAllOf new leased
all_written own old new leased writes before = record {
  once = λ n. rw (writes.free, writes.size) (before.once n);
}

-- two leases reserved one after the other are of the pool together
pub reserved_in_turn : (first second : List ℕ) (start middle last : PoolState) → AreOf start [] → Lends first start middle → Lends second middle last
    → AreOf last (second ++ first)
reserved_in_turn first second start middle last none lends_first lends_second =
    let one : AreOf middle (first ++ []) = leased_lent first start middle [] lends_first none in
    let alone : AreOf middle first = leased_part middle first [] one in
    leased_lent second middle last first lends_second alone
