-- Pipes as an owner of blocks beside others.
use Rattle.std.proofs.Common.{◌≡◌, ℕ, ◌+◌, ◌*◌, ◌<◌, Bool, true, false, cond, List, [], ◌∷◌, ◌++◌, length, set, Option, Some, None, option_map}
use Rattle.std.proofs.Common.{refl, sym, ap, ap₂, ◌∙◌, subst, arith, length-append}
use Rattle.std.specs.Prelude.{is_some, count_by, if◌then◌else◌}
use Rattle.std.specs.List.{All}
use Rattle.std.proofs.lemmas.List.Elements.{All-set, All-head, All-tail}
use Rattle.std.proofs.lemmas.List.{length-map}
use Rattle.std.proofs.lemmas.List.Sums.{sum_by-cons}
use Rattle.label_core.specs.declared.element.Element.{Element}
use Rattle.block_pool.specs.Pool.{PoolState, times, AreOf, Lends, WritesTo}
use Rattle.block_pool.specs.Chain.{ChainState, holds}
use Rattle.block_pool.specs.Others.{SameContents}
use Rattle.block_pool.proofs.LeaseLemmas.{leased_part, leased_rearranged}
use Rattle.block_pool.proofs.CircleLemmas.{holds_same}
use Rattle.block_pool.proofs.OthersLemmas.{same_front, same_rest, keeps_others_still, keeps_others_written, keeps_others_lent, keeps_others_returned}
use Rattle.block_pool.proofs.OthersLemmas.{keeps_others_rearranged, keeps_others_beside, same_blocks}
use Rattle.pipe_core.specs.Pipes.{Held, Pipes, held_at, with_contents, lowest_free, add, remove}
use Rattle.pipe_core.specs.Chains.{bytes_of, blocks_in, blocks_of, HoldsBlocks, KeepsPipes}
use Rattle.pipe_core.specs.declared.pipes.Labelled.{Labelled}
use Rattle.pipe_core.specs.Labelled.{held_of, pipes_of}
use Rattle.pipe_core.proofs.MapLemmas.{add-map, remove-map}
use Rattle.pipe_core.proofs.PlaceLemmas.{pipes_of-set, pipes_of-blocks, writes-all}

held-same : (old new : PoolState) (place : Option (Held ChainState)) → SameContents (blocks_in place) old new
    → option_map (with_contents (holds new)) place ≡ option_map (with_contents (holds old)) place
held-same old new None same = refl
held-same old new (Some h) same =
    ap (λ (bytes : List ℕ). Some (record { contents = bytes; element = h.element })) (holds_same old new h.contents same)

-- pipes whose blocks have the same in them hold the same bytes
pub bytes-same : (old new : PoolState) (pipes : Pipes ChainState) → SameContents (blocks_of pipes) old new → bytes_of new pipes ≡ bytes_of old pipes
bytes-same old new [] same = refl
bytes-same old new (place ∷ places) same =
    ap₂ (λ (h : Option (Held (List ℕ))) (hs : List (Option (Held (List ℕ)))). h ∷ hs)
    (held-same old new place (same_front (blocks_in place) (blocks_of places) old new same))
    (bytes-same old new places (same_rest (blocks_in place) (blocks_of places) old new same))

size-with : (there : Bool) (size rest count : ℕ) → size ≡ (if there then 32 else 0) → rest ≡ 32 * count → size + rest ≡ 32 * (cond there 1 0 + count)
size-with true size rest count is more = omega (arith, is, more)
size-with false size rest count is more = omega (arith, is, more)

-- pipes that have their blocks hold 32 each
pub size_of_all : (pipes : Pipes ChainState) → All HoldsBlocks pipes → length (blocks_of pipes) ≡ 32 * count_by is_some pipes
size_of_all [] all = refl
size_of_all (place ∷ places) all =
    length-append (blocks_in place) (blocks_of places)
    ∙ size-with (is_some place) (length (blocks_in place)) (length (blocks_of places)) (count_by is_some places) (All-head HoldsBlocks place places all)
    (size_of_all places (All-tail HoldsBlocks place places all))
    ∙ ap (λ n. 32 * n) (sym (sum_by-cons (λ (o : Option (Held ChainState)). cond (is_some o) 1 0) place places))

-- A pipe comes over a lease.

pub bytes-added : (old new : PoolState) (pipes : Pipes ChainState) (pipe : ChainState) (element : Element) → new.blocks ≡ old.blocks → holds new pipe ≡ []
    → bytes_of new (add pipes pipe element) ≡ add (bytes_of old pipes) [] element
bytes-added old new pipes pipe element same empty =
    add-map (holds new) pipes pipe element
    ∙ ap₂ (λ (ps : Pipes (List ℕ)) (bytes : List ℕ). add ps bytes element) (bytes-same old new pipes (same_blocks old new (blocks_of pipes) same)) empty

pub added-keeps : (old new : PoolState) (before after : Pipes ChainState) (pipe : ChainState) (element : Element) → Lends pipe.blocks old new
    → length pipe.blocks ≡ 32 → after ≡ add before pipe element
    → ((block : ℕ) → times block (blocks_of after) ≡ times block (pipe.blocks ++ blocks_of before)) → KeepsPipes old new before after
added-keeps old new before after pipe element lends size is has = record {
  blocks = λ all. rw is (All-set HoldsBlocks before (lowest_free before) (Some (record { contents = pipe; element = element })) size all);
  others = keeps_others_rearranged (blocks_of before) (pipe.blocks ++ blocks_of before) (blocks_of before) (blocks_of after) old new (λ block. refl)
      (λ block. sym (has block)) (keeps_others_beside [] pipe.blocks (blocks_of before) old new (keeps_others_lent pipe.blocks old new lends));
}

pub keeps-still : (pool : PoolState) (pipes : Pipes ChainState) → KeepsPipes pool pool pipes pipes
keeps-still pool pipes = record { blocks = λ all. all; others = keeps_others_still (blocks_of pipes) pool }

-- A pipe goes and gives its lease back.

pub removed-of_pool : (pool : PoolState) (before after : Pipes ChainState) (pipe : ChainState)
    → ((block : ℕ) → times block (blocks_of before) ≡ times block (pipe.blocks ++ blocks_of after)) → AreOf pool (blocks_of before) → AreOf pool pipe.blocks
removed-of_pool pool before after pipe had all =
    leased_part pool pipe.blocks (blocks_of after) (leased_rearranged pool (blocks_of before) (pipe.blocks ++ blocks_of after) had all)

pub bytes-removed : (old new : PoolState) (pipes : Pipes ChainState) (k : ℕ) → new.blocks ≡ old.blocks
    → bytes_of new (remove pipes k) ≡ remove (bytes_of old pipes) k
bytes-removed old new pipes k same =
    remove-map (holds new) pipes k ∙ ap (λ (ps : Pipes (List ℕ)). remove ps k) (bytes-same old new pipes (same_blocks old new (blocks_of pipes) same))

pub removed-keeps : (old new : PoolState) (before after : Pipes ChainState) (pipe : ChainState) (k : ℕ) → Lends pipe.blocks new old
    → after ≡ remove before k → ((block : ℕ) → times block (blocks_of before) ≡ times block (pipe.blocks ++ blocks_of after)) → KeepsPipes old new before after
removed-keeps old new before after pipe k lends is had = record {
  blocks = λ all. rw is (All-set HoldsBlocks before k None refl all);
  others = keeps_others_rearranged (pipe.blocks ++ blocks_of after) (blocks_of after) (blocks_of before) (blocks_of after) old new had (λ block. refl)
      (keeps_others_beside pipe.blocks [] (blocks_of after) old new (keeps_others_returned pipe.blocks old new lends));
}

-- A pipe over the same blocks.

pub place-keeps : (old new : PoolState) (places : List (Option Labelled)) (k : ℕ) (l : Labelled) (chain : ChainState) → WritesTo l.pipe.blocks old new
    → k < length places → held_at (pipes_of places) k ≡ Some (held_of l) → chain.blocks ≡ l.pipe.blocks
    → KeepsPipes old new (pipes_of places) (pipes_of (set places k (Some (record { pipe = chain; element = l.element }))))
place-keeps old new places k l chain writes below is same =
    let within : k < length (pipes_of places) = omega (arith, below, length-map places (option_map held_of)) in
    record {
      blocks = λ all.
          (let was : length l.pipe.blocks ≡ 32 = subst (λ (o : Option (Held ChainState)). HoldsBlocks o) is (all k None within) in
          subst (λ (ps : Pipes ChainState). All HoldsBlocks ps) (sym (pipes_of-set places k (Some (record { pipe = chain; element = l.element }))))
          (All-set HoldsBlocks (pipes_of places) k (Some (record { contents = chain; element = l.element })) (ap length same ∙ was) all));
      others = rw (pipes_of-blocks places k l chain is same)
          (keeps_others_written (blocks_of (pipes_of places)) old new (writes-all old new (pipes_of places) k (held_of l) is writes));
    }
