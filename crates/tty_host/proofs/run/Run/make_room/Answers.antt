use Rattle.tty_host.proofs.OutputLemmas.{goes-ok, keeps-same}
use Rattle.tty_host.proofs.run.Run.make_room.Goals as goal

pub returns-then-remaining_capacity-len-clause-goes : goal.returns-then-remaining_capacity-len-clause-goes
returns-then-remaining_capacity-len-clause-goes g c = λ more. goes-ok _ _ _ _ (keeps-same _ _)
