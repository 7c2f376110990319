-- The blocks of lines and pipes: how many are free, and what a call on the one leaves to the others.
use Rattle.std.proofs.Common.{◌≡◌, ℕ, ◌+◌, ◌-◌, ◌*◌, List, [], ◌∷◌, ◌++◌, length, map, Option, Some, None, cond, refl, sym, ap, ◌∙◌, arith}
use Rattle.std.specs.Prelude.{◌<◌, ◌≤◌, is_some, is_none, count_by, option_map}
use Rattle.std.proofs.lemmas.List.{length-append}
use Rattle.std.proofs.lemmas.List.Sums.{sum_by-cons}
use Rattle.sys_types.specs.declared.limits.TheConstants.{PIPES, POOL_BLOCKS, LINE_BLOCKS, PIPE_BLOCKS}
use Rattle.block_pool.specs.Pool.{PoolState, AreOf}
use Rattle.block_pool.specs.Chain.{ChainState}
use Rattle.block_pool.proofs.LeaseLemmas.{leased_part, length_leased, length_all_leased, all_rearranged, leased_rearranged, times_swapped, leased_all}
use Rattle.pipe_core.specs.Pipes.{Pipes, free_pipes}
use Rattle.pipe_core.specs.Chains.{blocks_of, KeepsPipes}
use Rattle.pipe_core.proofs.OwnerLemmas.{bytes-same}
use Rattle.pipe_core.proofs.OwnerLemmas as owner
use Rattle.tty_dev.specs.Line.{LineState}
use Rattle.tty_dev.specs.Table.{devices, lines_held, KeepsLines}
use Rattle.tty_dev.proofs.TableLemmas.{devices_same, size_of_all}
use Rattle.system_model.specs.Looks.{is_open_line, free_blocks}
use Rattle.system_model.specs.Tables.{Tables, seen_pipes, view_of}
use Rattle.system_model.specs.Fit.{FitBlocks, FitPool}

-- the blocks of the lines are of the pool, and so are those of the pipes
pub lines_of_pool : (pool : PoolState) (pipes : Pipes ChainState) (lines : List LineState) → FitBlocks pool pipes lines → AreOf pool (lines_held lines)
lines_of_pool pool pipes lines fit = leased_part pool (lines_held lines) (blocks_of pipes) (leased_all pool (lines_held lines ++ blocks_of pipes) fit.all)

pub pipes_of_pool : (pool : PoolState) (pipes : Pipes ChainState) (lines : List LineState) → FitBlocks pool pipes lines → AreOf pool (blocks_of pipes)
pipes_of_pool pool pipes lines fit =
    leased_part pool (blocks_of pipes) (lines_held lines)
    (leased_rearranged pool (lines_held lines ++ blocks_of pipes) (blocks_of pipes ++ lines_held lines) (times_swapped (lines_held lines) (blocks_of pipes))
    (leased_all pool (lines_held lines ++ blocks_of pipes) fit.all))

-- a call on lines leaves the pipes
pub lines_fit : (old new : PoolState) (pipes : Pipes ChainState) (before after : List LineState) → FitBlocks old pipes before → KeepsLines old new before after
    → FitBlocks new pipes after
lines_fit old new pipes before after fit keeps = record {
  size = keeps.others.size ∙ fit.size;
  all = keeps.others.all (blocks_of pipes) fit.all;
  lines = keeps.blocks fit.lines;
  pipes = fit.pipes;
}

pub pipes_stay : (old new : PoolState) (pipes : Pipes ChainState) (before after : List LineState) → FitBlocks old pipes before → KeepsLines old new before after
    → seen_pipes new pipes ≡ seen_pipes old pipes
unfolding seen_pipes
pipes_stay old new pipes before after fit keeps =
    bytes-same old new pipes (keeps.others.contents (blocks_of pipes) (leased_all old (lines_held before ++ blocks_of pipes) fit.all))

-- a call on pipes leaves the lines
pub pipes_fit : (old new : PoolState) (before after : Pipes ChainState) (lines : List LineState) → FitBlocks old before lines → KeepsPipes old new before after
    → FitBlocks new after lines
pipes_fit old new before after lines fit keeps = record {
  size = keeps.others.size ∙ fit.size;
  all =
      all_rearranged new (blocks_of after ++ lines_held lines) (lines_held lines ++ blocks_of after) (times_swapped (blocks_of after) (lines_held lines))
      (keeps.others.all (lines_held lines)
      (all_rearranged old (lines_held lines ++ blocks_of before) (blocks_of before ++ lines_held lines) (times_swapped (lines_held lines) (blocks_of before)) fit.all));
  lines = fit.lines;
  pipes = keeps.blocks fit.pipes;
}

pub lines_stay : (old new : PoolState) (before after : Pipes ChainState) (lines : List LineState) → FitBlocks old before lines → KeepsPipes old new before after
    → devices new lines ≡ devices old lines
lines_stay old new before after lines fit keeps =
    devices_same old new lines
    (keeps.others.contents (lines_held lines)
    (leased_rearranged old (lines_held lines ++ blocks_of before) (blocks_of before ++ lines_held lines) (times_swapped (lines_held lines) (blocks_of before))
    (leased_all old (lines_held lines ++ blocks_of before) fit.all)))

-- ---- how many are free

there-map : {P Q : Type 0} (f : P → Q) (pipes : List (Option P)) → count_by is_some (map (option_map f) pipes) ≡ count_by is_some pipes
there-map f [] = refl
there-map {P} {Q} f (x ∷ pipes) =
    sum_by-cons (λ (o : Option Q). cond (is_some o) 1 0) (option_map f x) (map (option_map f) pipes)
    ∙ ap (λ n. cond (is_some (option_map f x)) 1 0 + n) (there-map f pipes)
    ∙ ap (λ b. cond b 1 0 + count_by is_some pipes) (some-map x)
    ∙ sym (sum_by-cons (λ (o : Option P). cond (is_some o) 1 0) x pipes)
  where
    some-map : (o : Option P) → is_some (option_map f o) ≡ is_some o
    some-map None = refl
    some-map (Some p) = refl

pipes-count : (pool : PoolState) (pipes : Pipes ChainState) → count_by is_some (seen_pipes pool pipes) ≡ count_by is_some pipes
unfolding seen_pipes
pipes-count pool pipes = there-map _ pipes

free-left : (free lines pipes all n m : ℕ) → all ≡ 512 → free + (lines + pipes) ≡ all → lines ≡ 40 * n → pipes ≡ 32 * m → 512 - (40 * n + 32 * m) ≡ free
free-left free lines pipes all n m whole sum ls ps = omega arith

-- the blocks that no line and no pipe holds are the free ones of the pool
pub free_seen : (t : Tables) → FitBlocks t.pool t.pipes t.lines → free_blocks (view_of t) ≡ length t.pool.free
unfolding view_of
free_seen t fit =
    ap (λ m. POOL_BLOCKS - (LINE_BLOCKS * count_by is_open_line (devices t.pool t.lines) + PIPE_BLOCKS * m)) (pipes-count t.pool t.pipes)
    ∙ free-left (length t.pool.free) (length (lines_held t.lines)) (length (blocks_of t.pipes)) (length t.pool.blocks)
    (count_by is_open_line (devices t.pool t.lines)) (count_by is_some t.pipes) fit.size
    (ap (λ n. length t.pool.free + n) (sym (length-append (lines_held t.lines) (blocks_of t.pipes)))
    ∙ length_all_leased t.pool (lines_held t.lines ++ blocks_of t.pipes) fit.all)
    (size_of_all t.pool t.lines fit.lines) (owner.size_of_all t.pipes fit.pipes)

-- where lines and pipes have their blocks the pipes have theirs
pub pool_fits : (pool : PoolState) (pipes : Pipes ChainState) (lines : List LineState) → FitBlocks pool pipes lines → FitPool pool pipes
pool_fits pool pipes lines fit = record { size = fit.size; of_pool = pipes_of_pool pool pipes lines fit; pipes = fit.pipes }

few-pipes : (free blocks all there none : ℕ) → all ≡ 512 → free + blocks ≤ all → blocks ≡ 32 * there → there + none ≡ 16 → 32 ≤ free → 0 < none
few-pipes free blocks all there none whole sum ps places room = omega arith

there-or-none : {P : Type 0} (pipes : List (Option P)) → count_by is_some pipes + count_by is_none pipes ≡ length pipes
there-or-none [] = refl
there-or-none {P} (x ∷ pipes) =
    let some = sum_by-cons (λ (o : Option P). cond (is_some o) 1 0) x pipes in
    let none = sum_by-cons (λ (o : Option P). cond (is_none o) 1 0) x pipes in
    let rest = there-or-none pipes in
    let one = one-of x in
    omega (arith, some, none, rest, one)
  where
    one-of : (o : Option P) → cond (is_some o) 1 0 + cond (is_none o) 1 0 ≡ 1
    one-of None = refl
    one-of (Some p) = refl

-- where 32 blocks are free a number of a pipe is free too
pub number_free : (pool : PoolState) (pipes : Pipes ChainState) → FitPool pool pipes → length pipes ≡ PIPES → 32 ≤ length pool.free → 0 < free_pipes pipes
number_free pool pipes fit places room =
    few-pipes (length pool.free) (length (blocks_of pipes)) (length pool.blocks) (count_by is_some pipes) (free_pipes pipes) fit.size
    (length_leased pool (blocks_of pipes) fit.of_pool) (owner.size_of_all pipes fit.pipes) (there-or-none pipes ∙ places) room
