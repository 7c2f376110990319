use Rattle.std.proofs.Common.{ℕ, List, length, sym, ap, ◌∙◌, subst}
use Rattle.block_pool.specs.Pool.{Lends}
use Rattle.pipe_core.specs.Chains.{bytes_of}
use Rattle.pipe_core.proofs.OwnerLemmas.{bytes-added, added-keeps}
use Rattle.pipe_core.proofs.pipes.Pipes.create.Goals as goal

pub returns-clause-bytes : goal.returns-clause-bytes
returns-clause-bytes c =
    ap (bytes_of c.reserve.new.self) c.add.ensures.pipes
    ∙ bytes-added c.args.pool.now c.reserve.new.self c.args.self.now c.over.result c.args.element c.in-Ok.ensures.lends.blocks
    (c.over.ensures.empty c.reserve.new.self)

pub returns-clause-keeps : goal.returns-clause-keeps
returns-clause-keeps c =
    added-keeps c.args.pool.now c.reserve.new.self c.args.self.now c.add.new.self c.over.result c.args.element
    (subst (λ (blocks : List ℕ). Lends blocks c.args.pool.now c.reserve.new.self) (sym c.over.ensures.blocks) c.in-Ok.ensures.lends)
    (ap length c.over.ensures.blocks ∙ c.in-Ok.ensures.count) c.add.ensures.pipes c.add.ensures.blocks
