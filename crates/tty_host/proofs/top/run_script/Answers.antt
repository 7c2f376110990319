use Rattle.std.proofs.Common.{subst}
use Rattle.tty_host.specs.Ends.{Writes}
use Rattle.tty_host.proofs.TopLemmas.{start-come}
use Rattle.tty_host.proofs.top.run_script.Goals as goal

pub returns-in-Ok-clause-writes : goal.returns-in-Ok-clause-writes
returns-in-Ok-clause-writes g c = λ text left.
    let new = c.in-Ok.ensures in
    let start = start-come c.args.says c.in-Ok.run' text new.root new.events new.number new.line new.output in
    subst (λ out. Writes c.run_source.result out (g.K.Sink.written c.args.out.now) (g.K.Sink.written c.run_source.new.out)) start
    (c.run_source.ensures.writes text left)
