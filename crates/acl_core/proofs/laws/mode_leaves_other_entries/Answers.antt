use Rattle.acl_core.proofs.ModeEntryLemmas.{with_mode_tags, with_mode_named, with_mode_group}
use Rattle.acl_core.proofs.laws.mode_leaves_other_entries.Goals as goal

pub returns : goal.returns
returns c = record { tags = with_mode_tags; named_entries = with_mode_named; group_under_mask = with_mode_group }
