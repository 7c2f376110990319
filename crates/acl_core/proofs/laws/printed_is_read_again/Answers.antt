use Rattle.acl_core.proofs.ListTextLemmas.{read_again}
use Rattle.acl_core.proofs.laws.printed_is_read_again.Goals as goal

pub returns : goal.returns
returns c = read_again
