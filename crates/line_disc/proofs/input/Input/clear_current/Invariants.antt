use Rattle.std.proofs.Common.{◌≡◌, true, length}
use Rattle.block_pool.specs.Pool.{AreOf}
use Rattle.line_disc.specs.Places.{input_of, all_bytes}
use Rattle.line_disc.proofs.input.Input.clear_current.Given as goal

abbrev pub invariant-loop : goal.invariant-loop
invariant-loop l = record {
  ready : (input_of l.pool l.self).ready ≡ (input_of l.pool l.initial.self).ready;
  kinds : all_bytes l.initial.self.kinds ≡ true → all_bytes l.self.kinds ≡ true;
  blocks : l.self.chain.blocks ≡ l.initial.self.chain.blocks;
  of_pool : AreOf l.pool l.self.chain.blocks;
}

abbrev pub decreases-loop : goal.decreases-loop
decreases-loop l = length (input_of l.pool l.self).current
