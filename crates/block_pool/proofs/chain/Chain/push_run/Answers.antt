use Rattle.std.proofs.Common.{◌≡◌, ℕ, ◌+◌, ◌*◌, ◌%◌, ◌<◌, ◌≤◌, List, ◌++◌, length, take, refl, sym, ap, ◌∙◌, arith, length-take-le}
use Rattle.block_pool.specs.Chain.{ChainState, holds}
use Rattle.block_pool.proofs.CircleLemmas.{holds_push_run}
use Rattle.block_pool.proofs.chain.Chain.push_run.Goals as goal

pub returns-clause-bytes : goal.returns-clause-bytes
returns-clause-bytes c =
    let bytes : 128 * length c.self.inside.lease ≡ c.bytes_of-places.result = sym c.bytes_of-places.ensures.bytes in
    let lease : c.self.inside.lease ≡ c.args.self.now.blocks = ap (λ chain. chain.blocks) c.self.view_is in
    let count : c.self.inside.count ≡ c.args.self.now.count = ap (λ chain. chain.count) c.self.view_is in
    let size = ap length lease in
    let place : ℕ = (c.self.inside.first + c.self.inside.count) % c.bytes_of-places.result in
    let run : List ℕ = take c.min-run.result c.args.bytes.now in
    let long : length run ≡ c.min-run.result = length-take-le c.min-run.result c.args.bytes.now (omega (arith, c.min-run.ensures)) in
    let room : c.self.inside.count + length run ≤ c.bytes_of-places.result = omega (arith, long, c.min-run.ensures, size, count, c.requires.room) in
    let some : 0 < c.bytes_of-places.result = omega (arith, size, count, c.requires.room, c.requires.some) in
    let inside : place < c.bytes_of-places.result = omega (arith, some) in
    let fits : place + length run ≤ c.bytes_of-places.result = omega (arith, inside, bytes, long, c.min-run.ensures, c.from.ensures) in
    let added : ChainState = record { blocks = c.self.inside.lease; first = c.self.inside.first; count = c.self.inside.count } in
    ap (λ (n : ℕ). holds c.put_run.new.self (record added { count = c.self.inside.count + n })) (sym long)
    ∙ holds_push_run c.args.pool.now c.put_run.new.self c.self.inside.lease run c.self.inside.first c.self.inside.count c.bytes_of-places.result place bytes
    refl (c.put_run.ensures.bytes ∙ bytes) room fits c.put_run.ensures.put
    ∙ ap (λ (chain : ChainState). holds c.args.pool.now chain ++ run) c.self.view_is
