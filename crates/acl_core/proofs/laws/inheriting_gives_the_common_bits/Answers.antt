use Rattle.acl_core.proofs.ModeEntryLemmas.{inherited_tags, inherited_owner, inherited_mask, inherited_group, inherited_other, inherited_named, inherited_under_mask}
use Rattle.acl_core.proofs.laws.inheriting_gives_the_common_bits.Goals as goal

pub returns : goal.returns
returns c = record {
  tags = inherited_tags;
  owner = inherited_owner;
  mask = inherited_mask;
  group = inherited_group;
  other = inherited_other;
  named_entries = inherited_named;
  group_under_mask = inherited_under_mask;
}
