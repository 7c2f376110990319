use Rattle.std.proofs.Common.{◌≡◌, ℕ, ◌-◌, ◌/◌, ◌%◌, ◌<◌, List, [], length, get_or, take, drop, ap, ap₂, ◌∙◌, sym, subst, arith}
use Rattle.std.specs.List.{All}
use Rattle.std.proofs.lemmas.List.{get_or_default, length-take-le, length-drop}
use Rattle.std.proofs.lemmas.Grind.{common_steps}
use Rattle.block_pool.specs.Pool.{PoolState, bytes_in}
use Rattle.block_pool.proofs.LeaseLemmas.{leased_below}
use Rattle.block_pool.proofs.BlockLemmas.{whole_leased, length-bytes_in}
use Rattle.block_pool.proofs.RunLemmas.{run_in_block}
use Rattle.block_pool.proofs.pool.Pool.run_from.Goals as goal

pub index-block-requires : goal.index-block-requires
index-block-requires c =
    let inside : c.args.place / 128 < length c.args.lease.now = omega arith in
    let below = leased_below c.args.self.now c.args.lease.now c.requires.of_pool (c.args.place / 128) 0 inside in
    grind (arith, common_steps, below)

pub returns-clause-bytes : goal.returns-clause-bytes
returns-clause-bytes c =
    let IsWhole : PoolState → Type 0 = λ pool. All (λ (bytes : List ℕ). length bytes ≡ 128) pool.blocks in
    let whole = subst IsWhole c.self.view_is c.self.invariant.whole in
    length-bytes_in c.args.self.now c.args.lease.now (whole_leased c.args.self.now c.args.lease.now whole c.requires.of_pool)

pub returns-clause-run : goal.returns-clause-run
returns-clause-run c =
    let IsWhole : PoolState → Type 0 = λ pool. All (λ (bytes : List ℕ). length bytes ≡ 128) pool.blocks in
    let whole = subst IsWhole c.self.view_is c.self.invariant.whole in
    let at = run_in_block c.args.self.now c.args.lease.now c.args.place (whole_leased c.args.self.now c.args.lease.now whole c.requires.of_pool) c.requires.place in
    let inside : c.args.place / 128 < length c.args.lease.now = omega arith in
    let below = leased_below c.args.self.now c.args.lease.now c.requires.of_pool (c.args.place / 128) 0 inside in
    let number = c.from.ensures ∙ ap₂ (λ (xs : List ℕ) (n : ℕ). get_or xs (n / 128) 0) c.numbers.ensures.numbers c.from-place.ensures in
    let blocks : c.self.inside.blocks.items ≡ c.args.self.now.blocks = ap (λ pool. pool.blocks) c.self.view_is in
    let read : c.from.result < length c.self.inside.blocks.items = rw (blocks, number) below in
    let block =
    c.index-block.ensures ∙ get_or_default c.self.inside.blocks.items c.from.result c.index-block.result.now [] read
    ∙ ap₂ (λ (bs : List (List ℕ)) (n : ℕ). get_or bs n []) blocks number in
    let size : length c.split_at.result.1.now ≡ 128 - c.args.place % 128 =
    ap length (c.split_at.ensures.back ∙ ap₂ (λ (xs : List ℕ) (n : ℕ). drop (n % 128) xs) block c.from-place.ensures ∙ at)
    ∙ length-take-le (128 - c.args.place % 128) (drop c.args.place (bytes_in c.args.self.now c.args.lease.now))
    (omega (arith, length-drop c.args.place (bytes_in c.args.self.now c.args.lease.now), returns-clause-bytes c)) in
    c.split_at.ensures.back ∙ ap₂ (λ (xs : List ℕ) (n : ℕ). drop (n % 128) xs) block c.from-place.ensures ∙ at
    ∙ ap (λ n. take n (drop c.args.place (bytes_in c.args.self.now c.args.lease.now))) (sym size)
