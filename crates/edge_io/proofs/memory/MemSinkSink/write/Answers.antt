use Rattle.std.proofs.Common.{rules}
use Rattle.edge_io.proofs.memory.MemSinkSink.write.Goals as goal

pub returns-clause-took : goal.returns-clause-took
returns-clause-took c = search rules
