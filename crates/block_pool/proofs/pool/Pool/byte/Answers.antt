use Rattle.std.proofs.Common.{◌≡◌, ℕ, ◌/◌, ◌%◌, ◌<◌, List, [], length, get_or, sym, ap, ap₂, ◌∙◌, subst, arith}
use Rattle.std.specs.List.{All}
use Rattle.std.proofs.lemmas.List.{get_or_default}
use Rattle.std.proofs.lemmas.Grind.{common_steps}
use Rattle.block_pool.specs.Pool.{PoolState}
use Rattle.block_pool.proofs.LeaseLemmas.{leased_below}
use Rattle.block_pool.proofs.BlockLemmas.{whole_leased, get_or-bytes_in}
use Rattle.block_pool.proofs.pool.Pool.byte.Goals as goal

pub index-block-requires : goal.index-block-requires
index-block-requires c =
    let inside : c.args.place / 128 < length c.args.lease.now = omega arith in
    let below = leased_below c.args.self.now c.args.lease.now c.requires.of_pool (c.args.place / 128) 0 inside in
    grind (arith, common_steps, below)

pub returns : goal.returns
returns c =
    let IsWhole : PoolState → Type 0 = λ pool. All (λ (bytes : List ℕ). length bytes ≡ 128) pool.blocks in
    let whole = subst IsWhole c.self.view_is c.self.invariant.whole in
    let at =
    get_or-bytes_in c.args.self.now c.args.lease.now c.args.place (whole_leased c.args.self.now c.args.lease.now whole c.requires.of_pool) c.requires.place in
    let inside : c.args.place / 128 < length c.args.lease.now = omega arith in
    let below = leased_below c.args.self.now c.args.lease.now c.requires.of_pool (c.args.place / 128) 0 inside in
    let number = c.from.ensures ∙ ap₂ (λ (xs : List ℕ) (n : ℕ). get_or xs (n / 128) 0) c.numbers.ensures.numbers c.from-place.ensures in
    let blocks : c.self.inside.blocks.items ≡ c.args.self.now.blocks = ap (λ pool. pool.blocks) c.self.view_is in
    let read : c.from.result < length c.self.inside.blocks.items = rw (blocks, number) below in
    let block =
    c.index-block.ensures ∙ get_or_default c.self.inside.blocks.items c.from.result c.index-block.result.now [] read
    ∙ ap₂ (λ (bs : List (List ℕ)) (n : ℕ). get_or bs n []) blocks number in
    ap₂ (λ (xs : List ℕ) (n : ℕ). get_or xs (n % 128) 0) block c.from-place.ensures ∙ sym at
