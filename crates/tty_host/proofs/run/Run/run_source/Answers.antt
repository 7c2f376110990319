use Rattle.std.proofs.Common.{ap, arith}
use Rattle.tty_host.specs.Come.{to_come}
use Rattle.tty_host.proofs.OutputLemmas.{began-more, began-none, keeps-more, keeps-at, keeps-ok, goes-more, goes-at}
use Rattle.tty_host.proofs.SourceLemmas.{gave-took, writes-stop, writes-done}
use Rattle.tty_host.proofs.run.Run.run_source.Goals as goal

pub returns-in_default-clause-writes : goal.returns-in_default-clause-writes
returns-in_default-clause-writes g c = λ text left.
    let kept = c.loop-count.invariant.keeps text left in
    began-more _ _ _ _ _ kept.1.1 (began-none _ _)

pub returns-in-Err-clause-writes : goal.returns-in-Err-clause-writes
returns-in-Err-clause-writes g c = λ text left.
    let kept = c.loop-count.invariant.keeps text left in
    let took = gave-took _ _ _ _ _ kept.1.0 c.in-Ok.ensures.gave in
    rw c.status.ensures
    (writes-stop _ _ _ _ _
    (goes-more _ _ _ _ _ _ _ kept.1.1 (goes-at _ _ _ _ _ _ (ap (λ t. to_come c.loop-count.self t) took.whole) (c.in-Err.ensures.goes took.left))))

pub loop-count-preserved : goal.loop-count-preserved
loop-count-preserved g c =
    let nearer = c.in_default-feed_all.ensures.nearer in
    let writes = c.in_default-feed_all.ensures.grows in
    let reads = c.in-Ok.ensures.grows in
    record {
      keeps = λ text left.
          let kept = c.loop-count.invariant.keeps text left in
          let took = gave-took _ _ _ _ _ kept.1.0 c.in-Ok.ensures.gave in (
            took.left,
            (
              took.is,
              keeps-more _ _ _ _ _ _ kept.1.1
                  (keeps-at _ _ _ _ _ (ap (λ t. to_come c.loop-count.self t) took.whole) (keeps-ok _ _ _ _ _ (c.in_default-feed_all.ensures.goes took.left))),
            ),
          );
      reads = omega (arith, reads, c.loop-count.invariant.reads);
      writes = omega (arith, writes, c.loop-count.invariant.writes);
    }

pub returns-in-Ok-finish-clause-writes : goal.returns-in-Ok-finish-clause-writes
returns-in-Ok-finish-clause-writes g c = λ text left.
    let kept = c.loop-count.invariant.keeps text left in
    let took = gave-took _ _ _ _ _ kept.1.0 c.in-Ok.ensures.gave in
    writes-done _ _ _
    (goes-more _ _ _ _ _ _ _ kept.1.1
    (goes-at _ _ _ _ _ _ (ap (λ t. to_come c.loop-count.self t) (took.none c.if-count-eq0.true)) c.in-Ok-finish.ensures.goes))

pub returns-clause-writes : goal.returns-clause-writes
returns-clause-writes g c = λ text left.
    let kept = c.loop-count.invariant.keeps text left in
    let took = gave-took _ _ _ _ _ kept.1.0 c.in-Ok.ensures.gave in
    rw c.status-in-Err-finish.ensures
    (writes-stop _ _ _ _ _
    (goes-more _ _ _ _ _ _ _ kept.1.1
    (goes-at _ _ _ _ _ _ (ap (λ t. to_come c.loop-count.self t) (took.none c.if-count-eq0.true)) c.in-Err-finish.ensures.goes)))
