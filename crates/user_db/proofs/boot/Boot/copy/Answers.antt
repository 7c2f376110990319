use Rattle.std.proofs.Common.{rules}
use Rattle.user_db.proofs.boot.Boot.copy.Goals as goal

pub returns : goal.returns
returns c = search rules
