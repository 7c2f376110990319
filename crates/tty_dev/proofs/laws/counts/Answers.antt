use Rattle.tty_dev.proofs.HistoryLemmas.{close_counts}
use Rattle.tty_dev.proofs.laws.counts.Goals as goal

pub returns : goal.returns
returns c = λ line opened. close_counts line opened
