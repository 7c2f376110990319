use Rattle.std.proofs.Common.{sym, ap, arith}
use Rattle.std.proofs.lemmas.Grind.{common_steps}
use Rattle.block_pool.proofs.LeaseLemmas.{length_leased, leased_before}
use Rattle.block_pool.proofs.pool.Pool.give_back.Goals as goal

pub returns-clause-lends : goal.returns-clause-lends
returns-clause-lends c =
    let within = length_leased c.args.self.now c.args.lease c.requires in
    record {
      blocks = sym (ap (λ pool. pool.blocks) c.self.view_is);
      free = grind (arith, common_steps, within, c.extend_from_slice.ensures.succeeds);
    }

pub returns-clause-others : goal.returns-clause-others
returns-clause-others c = λ leased of_pool. leased_before c.args.lease _ c.args.self.now leased (returns-clause-lends c) of_pool
