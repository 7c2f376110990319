use Rattle.std.proofs.Common.{append_assoc}
use Rattle.acl_core.proofs.TextLemmas.{list_text-cons}
use Rattle.acl_core.proofs.print.push_list.Goals as goal

pub returns-in-Some-clause-text : goal.returns-in-Some-clause-text
returns-in-Some-clause-text c =
    rw (c.push_others.ensures.text, c.push_entry.ensures.text, c.in-Some.ensures.cases.0, list_text-cons) (append_assoc c.args.out.now.items _ _)
