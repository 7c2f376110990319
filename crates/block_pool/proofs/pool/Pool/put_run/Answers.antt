use Rattle.std.proofs.Common.{◌≡◌, ℕ, ◌+◌, ◌-◌, ◌/◌, ◌%◌, ◌<◌, List, [], length, get_or, set, refl, ap, ap₂, ◌∙◌, subst, arith}
use Rattle.std.proofs.Math.Seq.{paste}
use borrow.Rule.Slice.PartMut.{put_mid}
use Rattle.std.specs.List.{All}
use Rattle.std.proofs.lemmas.List.{get_or_default}
use Rattle.std.proofs.lemmas.Slice.{put_mid-paste}
use Rattle.std.proofs.lemmas.Grind.{common_steps}
use Rattle.block_pool.specs.Pool.{PoolState, contents}
use Rattle.block_pool.proofs.LeaseLemmas.{leased_below}
use Rattle.block_pool.proofs.BlockLemmas.{whole_leased, length-bytes_in}
use Rattle.block_pool.proofs.RunLemmas.{bytes_in_run_leased}
use Rattle.block_pool.proofs.pool.Pool.put_run.Goals as goal

pub index_mut-block-requires : goal.index_mut-block-requires
index_mut-block-requires c =
    let inside : c.args.place / 128 < length c.args.lease.now = omega arith in
    let below = leased_below c.args.self.now c.args.lease.now c.requires.of_pool (c.args.place / 128) 0 inside in
    grind (arith, common_steps, below)

pub returns-clause-put : goal.returns-clause-put
returns-clause-put c =
    let IsWhole : PoolState → Type 0 = λ pool. All (λ (bytes : List ℕ). length bytes ≡ 128) pool.blocks in
    let whole = subst IsWhole c.self.view_is c.self.invariant.whole in
    let inside : c.args.place / 128 < length c.args.lease.now = omega arith in
    let below = leased_below c.args.self.now c.args.lease.now c.requires.of_pool (c.args.place / 128) 0 inside in
    let number = c.from.ensures ∙ ap₂ (λ (xs : List ℕ) (n : ℕ). get_or xs (n / 128) 0) c.numbers.ensures.numbers c.from-place.ensures in
    let blocks : c.self.inside.blocks.items ≡ c.args.self.now.blocks = ap (λ pool. pool.blocks) c.self.view_is in
    let read : c.from.result < length c.self.inside.blocks.items = rw (blocks, number) below in
    let block =
    c.index_mut-block.ensures.value ∙ get_or_default c.self.inside.blocks.items c.from.result c.index_mut-block.result.now [] read
    ∙ ap (λ (bs : List (List ℕ)). get_or bs c.from.result []) blocks in
    let at : ℕ = c.from-place.result % 128 in
    let taken : length c.args.bytes.now ≡ at + length c.args.bytes.now - at = omega arith in
    let pasted : put_mid at (at + length c.args.bytes.now - at) c.index_mut-block.result.now c.copy_from_slice.new.self
    ≡ paste c.index_mut-block.result.now at c.args.bytes.now (length c.args.bytes.now) =
    put_mid-paste at (at + length c.args.bytes.now - at) c.index_mut-block.result.now c.copy_from_slice.new.self c.args.bytes.now
    (length c.args.bytes.now) c.copy_from_slice.ensures.after taken refl in
    let new : PoolState = record {
      blocks = set c.self.inside.blocks.items c.from.result
          (put_mid at (at + length c.args.bytes.now - at) c.index_mut-block.result.now c.copy_from_slice.new.self);
      free = c.self.inside.free.items;
    } in
    let written : new.blocks
    ≡ set c.args.self.now.blocks c.from.result
    (paste (contents c.args.self.now c.from.result) (c.args.place % 128) c.args.bytes.now (length c.args.bytes.now)) =
    ap₂ (λ (bs : List (List ℕ)) (xs : List ℕ). set bs c.from.result xs) blocks
    (pasted ∙ ap₂ (λ (xs : List ℕ) (n : ℕ). paste xs (n % 128) c.args.bytes.now (length c.args.bytes.now)) block c.from-place.ensures) in
    bytes_in_run_leased c.args.self.now new c.args.lease.now c.args.place c.args.bytes.now c.from.result whole c.requires.of_pool c.requires.place
    c.requires.block number written

pub returns-clause-bytes : goal.returns-clause-bytes
returns-clause-bytes c =
    let IsWhole : PoolState → Type 0 = λ pool. All (λ (bytes : List ℕ). length bytes ≡ 128) pool.blocks in
    let whole = subst IsWhole c.self.view_is c.self.invariant.whole in
    length-bytes_in c.args.self.now c.args.lease.now (whole_leased c.args.self.now c.args.lease.now whole c.requires.of_pool)
