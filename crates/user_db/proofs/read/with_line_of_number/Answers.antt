use Rattle.std.proofs.Common.{rules}
use Rattle.user_db.proofs.read.with_line_of_number.Goals as goal

pub returns-clause-said : goal.returns-clause-said
returns-clause-said c = search rules

pub returns-clause-within : goal.returns-clause-within
returns-clause-within c = search rules
