use Rattle.std.proofs.Common.{length, refl, ap, ◌∙◌}
use Rattle.std.specs.Prelude.{not, ◌&&◌, nat_lt}
use Rattle.open_calls.proofs.LineLooks.{lacks_by}
use Rattle.open_calls.proofs.lines.lacks_blocks.Goals as goal

pub returns-then-is_live-clause-lacks : goal.returns-then-is_live-clause-lacks
returns-then-is_live-clause-lacks c = λ t pool lines fit.
    lacks_by t c.args.pool.now c.args.lines.now c.args.line (length c.args.pool.now.free) c.is_live.result pool lines fit
    (c.is_live.ensures c.args.pool.now) refl
    ∙ ap (λ b. not b && nat_lt (length c.args.pool.now.free) 40) c.if-is_live.true

pub returns-clause-lacks : goal.returns-clause-lacks
returns-clause-lacks c = λ t pool lines fit.
    lacks_by t c.args.pool.now c.args.lines.now c.args.line c.free.result c.is_live.result pool lines fit (c.is_live.ensures c.args.pool.now)
    c.free.ensures
    ∙ ap (λ b. not b && nat_lt c.free.result 40) c.if-is_live.false
