use Rattle.acl_core.proofs.ModeLemmas.{minimal_mode, with_mode_mode}
use Rattle.acl_core.proofs.laws.mode_is_kept.Goals as goal

pub returns-clause-minimal : goal.returns-clause-minimal
returns-clause-minimal c = minimal_mode

pub returns-clause-with_mode : goal.returns-clause-with_mode
returns-clause-with_mode c = with_mode_mode
