use Rattle.std.proofs.Common.{arith}
use Rattle.std.proofs.lemmas.Bool.Decides.{nat_tests}
use Rattle.system_model.proofs.SeenCounts.{ends_counted}
use Rattle.system_model.proofs.closing.has_no_end.Goals as goal

pub returns-then-live-eq0 : goal.returns-then-live-eq0
returns-then-live-eq0 c =
    let sum = ends_counted c.args.k c.args.fds.now in
    let readers = c.live.ensures.count in
    let writers = c.live-then-live-eq0.ensures.count in
    let none = c.if-live-eq0.true in
    grind (arith, nat_tests)

pub returns-else-live-eq0 : goal.returns-else-live-eq0
returns-else-live-eq0 c =
    let sum = ends_counted c.args.k c.args.fds.now in
    let readers = c.live.ensures.count in
    let some = c.if-live-eq0.false in
    grind (arith, nat_tests)
