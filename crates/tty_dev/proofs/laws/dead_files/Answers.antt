use Rattle.std.proofs.Common.{refl}
use Rattle.tty_dev.proofs.HistoryLemmas.{dead_where_revoked, dead_for_good}
use Rattle.tty_dev.proofs.laws.dead_files.Goals as goal

pub returns-clause-revoked : goal.returns-clause-revoked
returns-clause-revoked c = λ uses counts. dead_where_revoked uses counts counts.generation refl

pub returns-clause-for_good : goal.returns-clause-for_good
returns-clause-for_good c = dead_for_good
