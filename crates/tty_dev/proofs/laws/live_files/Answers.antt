use Rattle.tty_dev.proofs.HistoryLemmas.{live_files}
use Rattle.tty_dev.proofs.laws.live_files.Goals as goal

pub returns : goal.returns
returns c = live_files
