use Rattle.tty_dev.proofs.TableLemmas as lemmas
use Rattle.tty_dev.proofs.laws.blocks_of_lines.Goals as goal

pub returns-clause-size : goal.returns-clause-size
returns-clause-size c = lemmas.size_of_all

pub returns-clause-live : goal.returns-clause-live
returns-clause-live c = lemmas.live_by_counts
