use Rattle.std.proofs.Common.{[], ◌∷◌, ap, ◌∙◌, sym}
use Rattle.sys_types.specs.declared.rules.Rule.TheVariants.{FileSpace}
use Rattle.system_model.specs.Rows.{deny, first}
use Rattle.io_calls.proofs.WriteRows.{space_checked}
use Rattle.io_calls.proofs.write_verdicts.space_verdict.Goals as goal

pub returns-then-lacks_space : goal.returns-then-lacks_space
returns-then-lacks_space c = λ t slot fd nodes.
    ap (λ b. first (deny b FileSpace ∷ [])) (sym c.if-lacks_space.true)
    ∙ space_checked t slot fd c.args.node c.write_place-place.result c.args.file.now c.args.bytes.now c.as_slice.result.now c.lacks_space.result
    (rw nodes c.lacks_space.ensures.node) (rw nodes c.write_place-place.ensures.place) c.as_slice.ensures.bytes (rw nodes c.lacks_space.ensures.map)

pub returns : goal.returns
returns c = λ t slot fd nodes.
    ap (λ b. first (deny b FileSpace ∷ [])) (sym c.if-lacks_space.false)
    ∙ space_checked t slot fd c.args.node c.write_place-place.result c.args.file.now c.args.bytes.now c.as_slice.result.now c.lacks_space.result
    (rw nodes c.lacks_space.ensures.node) (rw nodes c.write_place-place.ensures.place) c.as_slice.ensures.bytes (rw nodes c.lacks_space.ensures.map)
