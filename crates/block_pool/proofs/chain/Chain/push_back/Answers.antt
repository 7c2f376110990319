use Rattle.std.proofs.Common.{◌≡◌, ◌*◌, ◌<◌, ◌++◌, length, sym, ap, subst, ◌∙◌, arith, ◌∷◌, []}
use Rattle.block_pool.specs.Pool.{WritesTo}
use Rattle.block_pool.specs.Chain.{ChainState, holds}
use Rattle.block_pool.proofs.CircleLemmas.{holds_push, holds_apart}
use Rattle.block_pool.proofs.chain.Chain.push_back.Goals as goal

pub returns-clause-bytes : goal.returns-clause-bytes
returns-clause-bytes c =
    let bytes : 128 * length c.self.inside.lease ≡ c.bytes_of-bytes.result = sym c.bytes_of-bytes.ensures.bytes in
    let lease : c.self.inside.lease ≡ c.args.self.now.blocks = ap (λ chain. chain.blocks) c.self.view_is in
    let count : c.self.inside.count ≡ c.args.self.now.count = ap (λ chain. chain.count) c.self.view_is in
    let size = ap length lease in
    let room : c.self.inside.count < c.bytes_of-bytes.result = omega arith in
    holds_push c.args.pool.now c.put.new.self c.self.inside.lease c.self.inside.first c.self.inside.count c.bytes_of-bytes.result c.args.byte bytes room
    (c.put.ensures.bytes ∙ bytes) c.put.ensures.put
    ∙ ap (λ (chain : ChainState). holds c.args.pool.now chain ++ c.args.byte ∷ []) c.self.view_is

pub returns-clause-others : goal.returns-clause-others
returns-clause-others c = λ other apart.
    let IsWritten : ChainState → Type 0 = λ chain. WritesTo chain.blocks c.args.pool.now c.put.new.self in
    holds_apart c.args.self.now.blocks c.args.pool.now c.put.new.self other (subst IsWritten c.self.view_is c.put.ensures.writes) apart
