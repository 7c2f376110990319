use Rattle.tty_dev.proofs.TableLemmas.{length-counts, length-devices}
use Rattle.system_model.proofs.BlockLemmas.{lines_fit, pipes_stay}
use Rattle.system_model.proofs.RevokeLemmas.{revoked_as, revoke_fits, revoked_once}
use Rattle.system_model.proofs.revoking.revoke_line.Goals as goal

pub returns-clause-lines : goal.returns-clause-lines
returns-clause-lines c = λ d fit. rw (c.revoke.ensures.counts, c.revoke.ensures.keeps.boots) (revoke_fits d _ _ c.args.line c.requires.line fit)

pub returns-clause-blocks : goal.returns-clause-blocks
returns-clause-blocks c = λ pipes fit. lines_fit _ _ pipes c.args.lines.now _ fit c.revoke.ensures.keeps

pub returns-clause-revokes : goal.returns-clause-revokes
returns-clause-revokes c = λ most fit.
    (rw c.revoke.ensures.session
    (revoked_once most c.args.pool.now _ c.args.lines.now _ c.args.line (rw (length-counts c.args.lines.now, c.requires.places) c.requires.line)
    (rw (length-devices c.args.pool.now c.args.lines.now, c.requires.places) c.requires.line) c.revoke.ensures.devices c.revoke.ensures.counts fit))

pub returns-clause-does : goal.returns-clause-does
returns-clause-does c = λ t pool lines fit blocks.
    revoked_as t _ _ c.args.line c.requires.line (rw lines fit) (rw (pool, lines) c.revoke.ensures.devices) (rw lines c.revoke.ensures.counts)
    (rw pool (pipes_stay _ _ t.pipes c.args.lines.now _ blocks c.revoke.ensures.keeps))
