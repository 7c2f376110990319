use Rattle.std.proofs.Common.{◌≡◌, length, vec_len}
use Rattle.std.specs.Vec.{vec_capacity}
use Rattle.std.specs.List.{All}
use Rattle.block_pool.proofs.pool.whole_blocks.Given as goal

abbrev pub invariant-loop-number : goal.invariant-loop-number
invariant-loop-number l = All (λ bytes. length bytes ≡ 128) l.blocks.items × (vec_len l.blocks ≡ l._number) × (vec_capacity l.blocks ≡ l.n)
