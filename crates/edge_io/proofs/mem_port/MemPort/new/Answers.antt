use Rattle.std.proofs.Common.{rules}
use Rattle.edge_io.proofs.PortLemmas.{came_in_none}
use Rattle.edge_io.proofs.mem_port.MemPort.new.Goals as goal

pub returns : goal.returns
returns c = let s = came_in_none c.args.answers.items in search rules
