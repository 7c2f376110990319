use Rattle.std.proofs.Common.{◌≡◌, ◌-◌, ◌++◌, length}
use Rattle.block_pool.specs.Pool.{AreOf}
use Rattle.line_disc.specs.Places.{places_in, walk}
use Rattle.line_disc.proofs.input.Input.read.Given as goal

abbrev pub invariant-loop-place : goal.invariant-loop-place
invariant-loop-place l = record {
  front : l.bytes.items ++ (walk (l.max - l._place) (places_in l.pool l.self)).0 ≡ (walk l.max (places_in l.pool l.initial.self)).0;
  rest : (walk (l.max - l._place) (places_in l.pool l.self)).1 ≡ (walk l.max (places_in l.pool l.initial.self)).1;
  count : length l.bytes.items ≡ l._place;
  blocks : l.self.chain.blocks ≡ l.initial.self.chain.blocks;
  of_pool : AreOf l.pool l.self.chain.blocks;
}
