use Rattle.std.proofs.Common.{ℕ, List, sym, ap, ◌∙◌, subst}
use Rattle.block_pool.specs.Pool.{AreOf, Lends}
use Rattle.pipe_core.specs.Chains.{bytes_of}
use Rattle.pipe_core.proofs.OwnerLemmas.{removed-of_pool, bytes-removed, removed-keeps}
use Rattle.pipe_core.proofs.pipes.Pipes.release.Goals as goal

pub give_back-requires : goal.give_back-requires
give_back-requires c =
    subst (λ (blocks : List ℕ). AreOf c.args.pool.now blocks) (sym c.into_lease.ensures)
    (removed-of_pool c.args.pool.now c.args.self.now c.remove.new.self c.remove.result c.remove.ensures.blocks c.requires.of_pool)

pub returns-clause-bytes : goal.returns-clause-bytes
returns-clause-bytes c =
    ap (bytes_of c.give_back.new.self) c.remove.ensures.pipes
    ∙ bytes-removed c.args.pool.now c.give_back.new.self c.args.self.now c.args.k (sym c.give_back.ensures.lends.blocks)

pub returns-clause-keeps : goal.returns-clause-keeps
returns-clause-keeps c =
    removed-keeps c.args.pool.now c.give_back.new.self c.args.self.now c.remove.new.self c.remove.result c.args.k
    (subst (λ (blocks : List ℕ). Lends blocks c.give_back.new.self c.args.pool.now) c.into_lease.ensures c.give_back.ensures.lends)
    c.remove.ensures.pipes c.remove.ensures.blocks
