use Rattle.std.proofs.Common.{rules}
use Rattle.sys_types.proofs.rules.Rule.errno.Goals as goal

pub returns-in-Dead : goal.returns-in-Dead
returns-in-Dead c = search rules
