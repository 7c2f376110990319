use Rattle.std.proofs.Common.{[], length, ap, ◌∙◌, arith}
use Rattle.std.proofs.lemmas.List.FromFn.{length-range_with_len}
use Rattle.block_pool.proofs.LeaseLemmas.{all_free, leased_all}
use Rattle.block_pool.proofs.pool.Pool.new.Goals as goal

pub returns-clause-all : goal.returns-clause-all
returns-clause-all c = all_free _ c.args.blocks c.in_ok-blocks.ensures.size c.in_ok-free.ensures.numbers

pub invariant_of-result : goal.invariant_of-result
invariant_of-result c = record {
  whole = c.in_ok-blocks.ensures.whole;
  free =
      leased_all _ []
      (all_free (record { blocks = c.in_ok-blocks.blocks.items; free = c.in_ok-free.free.items }) c.args.blocks c.in_ok-blocks.ensures.size
      c.in_ok-free.ensures.numbers);
  enough = omega (arith, c.in_ok-blocks.ensures.size, c.in_ok-free.ensures.room);
  few = omega (arith, c.in_ok-blocks.ensures.size);
}

pub returns-clause-free : goal.returns-clause-free
returns-clause-free c = ap length c.in_ok-free.ensures.numbers ∙ length-range_with_len 0 c.args.blocks
