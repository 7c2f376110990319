use Rattle.std.proofs.Common.{◌∙◌, eqb, ap}
use Rattle.acl_core.specs.Walk.{answer}
use Rattle.acl_core.proofs.FaultLemmas.{valid_from_no_fault}
use Rattle.acl_core.proofs.WalkLemmas.{answer_grants}
use Rattle.acl_core.proofs.acl.Acl.check.Goals as goal

pub returns : goal.returns
returns c =
    let a = c.args in
    let list = a.self.now in
    c.answer.ensures ∙ ap (answer (eqb a.cred.now.uid a.owner)) c.of-found.ensures
    ∙ rw c.entries.ensures.same (answer_grants a.cred.now a.owner a.group a.want list (valid_from_no_fault list c.entries.ensures.valid.valid).once)
