use Rattle.std.proofs.Common.{rules}
use Rattle.user_db.proofs.boot.Draft.with_line.Goals as goal

pub returns : goal.returns
returns c = search rules
