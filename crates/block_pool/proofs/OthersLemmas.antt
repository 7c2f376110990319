-- What a call of one owner of blocks leaves to the others.
use Rattle.std.proofs.Common.{◌≡◌, ℕ, ◌<◌, List, [], ◌∷◌, ◌++◌, length, get_or, refl, sym, ap, ◌∙◌, arith, append_assoc, append-nil, subst, length-append}
use Rattle.std.proofs.lemmas.List.Elements.{All-tail, Contains-get_or}
use Rattle.std.proofs.Math.ListN.{get_or-append}
use Rattle.block_pool.specs.Pool.{PoolState, contents, times, AreOf, Lends, WritesTo}
use Rattle.block_pool.specs.Others.{SameContents, KeepsOthers}
use Rattle.block_pool.proofs.TimesLemmas.{times-append}
use Rattle.block_pool.proofs.LeaseLemmas.{leases_apart, leased_lent, leased_before, all_lent, all_before, leased_rearranged, all_rearranged, leased_written}
use Rattle.block_pool.proofs.LeaseLemmas.{all_written}

-- no call
pub keeps_others_still : (own : List ℕ) (pool : PoolState) → KeepsOthers own own pool pool
keeps_others_still own pool = record {
  size = refl;
  of_pool = λ others leased. leased;
  all = λ others leased. leased;
  contents = λ others leased k d h. refl;
}

-- a write to blocks leaves those of others
pub keeps_others_written : (own : List ℕ) (old new : PoolState) → WritesTo own old new → KeepsOthers own own old new
keeps_others_written own old new writes = record {
  size = writes.size;
  of_pool = λ others leased. leased_written own old new (own ++ others) writes leased;
  all = λ others leased. all_written own old new (own ++ others) writes leased;
  contents = λ others leased k d h. writes.others (get_or others k d)
      (λ here. leases_apart old own others leased (get_or others k d) here (Contains-get_or others k d h));
}

-- a pool whose blocks are the same has the same in them
pub same_blocks : (old new : PoolState) (blocks : List ℕ) → new.blocks ≡ old.blocks → SameContents blocks old new
same_blocks old new blocks same k d h = ap (λ (bs : List (List ℕ)). get_or bs (get_or blocks k d) []) same

-- an owner of none takes a lease
pub keeps_others_lent : (lease : List ℕ) (old new : PoolState) → Lends lease old new → KeepsOthers [] lease old new
keeps_others_lent lease old new lent = record {
  size = ap length lent.blocks;
  of_pool = λ others leased. leased_lent lease old new others lent leased;
  all = λ others leased. all_lent lease old new others lent leased;
  contents = λ others leased. same_blocks old new others lent.blocks;
}

-- an owner gives its lease back
pub keeps_others_returned : (lease : List ℕ) (old new : PoolState) → Lends lease new old → KeepsOthers lease [] old new
keeps_others_returned lease old new lent = record {
  size = sym (ap length lent.blocks);
  of_pool = λ others leased. leased_before lease new old others lent leased;
  all = λ others leased. all_before lease new old others lent leased;
  contents = λ others leased. same_blocks old new others (sym lent.blocks);
}

-- one call after another
pub keeps_others_in_turn : (before middle after : List ℕ) (old mid new : PoolState) → KeepsOthers before middle old mid → KeepsOthers middle after mid new
    → KeepsOthers before after old new
keeps_others_in_turn before middle after old mid new first second = record {
  size = second.size ∙ first.size;
  of_pool = λ others leased. second.of_pool others (first.of_pool others leased);
  all = λ others leased. second.all others (first.all others leased);
  contents = λ others leased k d h. second.contents others (first.of_pool others leased) k d h ∙ first.contents others leased k d h;
}

times-beside : (xs ys others : List ℕ) → ((n : ℕ) → times n xs ≡ times n ys) → (n : ℕ) → times n (xs ++ others) ≡ times n (ys ++ others)
times-beside xs ys others same n = omega (arith, same n, times-append n xs others, times-append n ys others)

-- the blocks that an owner had, and those that it has, may be listed in any order
pub keeps_others_rearranged : (before after first last : List ℕ) (old new : PoolState) → ((n : ℕ) → times n first ≡ times n before)
    → ((n : ℕ) → times n after ≡ times n last) → KeepsOthers before after old new → KeepsOthers first last old new
keeps_others_rearranged before after first last old new had has keeps = record {
  size = keeps.size;
  of_pool = λ others leased. leased_rearranged new (after ++ others) (last ++ others) (times-beside after last others has)
      (keeps.of_pool others (leased_rearranged old (first ++ others) (before ++ others) (times-beside first before others had) leased));
  all = λ others leased. all_rearranged new (after ++ others) (last ++ others) (times-beside after last others has)
      (keeps.all others (all_rearranged old (first ++ others) (before ++ others) (times-beside first before others had) leased));
  contents = λ others leased.
      keeps.contents others (leased_rearranged old (first ++ others) (before ++ others) (times-beside first before others had) leased);
}

-- what is in each of two lists of blocks is the same
pub same_front : (blocks others : List ℕ) (old new : PoolState) → SameContents (blocks ++ others) old new → SameContents blocks old new
same_front blocks others old new same k d h =
    let here = get_or-append blocks others d k h in
    let more : k < length (blocks ++ others) = omega (arith, h, length-append blocks others) in
    ap (contents new) (sym here) ∙ same k d more ∙ ap (contents old) here

pub same_rest : (blocks others : List ℕ) (old new : PoolState) → SameContents (blocks ++ others) old new → SameContents others old new
same_rest [] others old new same = same
same_rest (b ∷ bs) others old new same = same_rest bs others old new (All-tail (λ c. contents new c ≡ contents old c) b (bs ++ others) same)

-- blocks that are the same may be counted to the owner
pub keeps_others_beside : (before after beside : List ℕ) (old new : PoolState) → KeepsOthers before after old new
    → KeepsOthers (before ++ beside) (after ++ beside) old new
keeps_others_beside before after beside old new keeps = record {
  size = keeps.size;
  of_pool = λ others leased. rw (append_assoc after beside others) (keeps.of_pool (beside ++ others) (rw (← append_assoc before beside others) leased));
  all = λ others leased. rw (append_assoc after beside others) (keeps.all (beside ++ others) (rw (← append_assoc before beside others) leased));
  contents = λ others leased.
      same_rest beside others old new (keeps.contents (beside ++ others) (rw (← append_assoc before beside others) leased));
}

-- what was the owner's is the owner's
pub keeps_others_own : (before after : List ℕ) (old new : PoolState) → KeepsOthers before after old new → AreOf old before → AreOf new after
keeps_others_own before after old new keeps leased =
    subst (λ (blocks : List ℕ). AreOf new blocks) (append-nil after)
    (keeps.of_pool [] (subst (λ (blocks : List ℕ). AreOf old blocks) (sym (append-nil before)) leased))
