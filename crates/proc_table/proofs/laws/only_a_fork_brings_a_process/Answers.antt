use Rattle.proc_table.proofs.PidLemmas.{post-no-more, bury-no-more, reap-no-more, once-no-more}
use Rattle.proc_table.proofs.laws.only_a_fork_brings_a_process.Goals as goal

pub returns-clause-post : goal.returns-clause-post
returns-clause-post c = post-no-more

pub returns-clause-bury : goal.returns-clause-bury
returns-clause-bury c = bury-no-more

pub returns-clause-reap : goal.returns-clause-reap
returns-clause-reap c = reap-no-more

pub returns-clause-once : goal.returns-clause-once
returns-clause-once c = once-no-more
