use Rattle.std.proofs.Common.{◌≡◌, ◌-◌, ◌≤◌, length}
use Rattle.block_pool.specs.Pool.{AreOf, WritesTo}
use Rattle.line_disc.specs.Transfers.{has_none}
use Rattle.line_disc.specs.Places.{places_in, input_of, all_bytes}
use Rattle.line_disc.proofs.LineLemmas.{turned_round}
use Rattle.line_disc.proofs.input.Input.join.Given as goal

abbrev pub invariant-loop-place : goal.invariant-loop-place
invariant-loop-place l = record {
  turned : turned_round (l._place-end - l._place) (places_in l.pool l.self) ≡ turned_round l._place-end (places_in l.initial.pool l.initial.self);
  seen : has_none (input_of l.pool l.self).ready ≡ all_bytes l.self.kinds;
  most : length l.self.kinds ≤ 1024;
  blocks : l.self.chain.blocks ≡ l.initial.self.chain.blocks;
  writes : WritesTo l.initial.self.chain.blocks l.initial.pool l.pool;
  of_pool : AreOf l.pool l.self.chain.blocks;
}
