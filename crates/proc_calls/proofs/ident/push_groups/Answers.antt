use Rattle.std.proofs.Common.{refl, append_assoc}
use Rattle.proc_calls.proofs.Groups.{no_groups, some_groups}
use Rattle.proc_calls.proofs.ident.push_groups.Goals as goal

pub returns-in-None-clause-bytes : goal.returns-in-None-clause-bytes
returns-in-None-clause-bytes c = rw (c.push_bytes.ensures.bytes, no_groups c.args.groups.now c.in-None.ensures.cases) refl

pub returns-in-Some-clause-bytes : goal.returns-in-Some-clause-bytes
returns-in-Some-clause-bytes c =
    rw (c.push_others.ensures.bytes, c.push_number.ensures.bytes, c.in-Some.ensures.cases.0, some_groups) (append_assoc c.args.out.now.items _ _)
