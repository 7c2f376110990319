use Rattle.std.proofs.Common.{rules}
use Rattle.edge_io.proofs.system.StdoutSinkSink.write.Goals as goal

pub returns-in-Ok-clause-some : goal.returns-in-Ok-clause-some
returns-in-Ok-clause-some c = search rules
