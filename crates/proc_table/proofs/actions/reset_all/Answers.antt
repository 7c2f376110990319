use Rattle.std.proofs.Common.{◌<◌, length, set, get_or, ap, ◌∙◌, arith}
use Rattle.std.proofs.lemmas.List.{get_or_default}
use Rattle.std.proofs.lemmas.List.Edits.{map_over_more}
use Rattle.call_words.specs.declared.signal.Action.TheVariants as action
use Rattle.proc_table.specs.Changes.{reset_action}
use Rattle.proc_table.proofs.actions.reset_all.Goals as goal

pub loop-action-preserved : goal.loop-action-preserved
loop-action-preserved c =
    let actions = c.loop-action.actions in
    let index = c.loop-action.action-index in
    let within : index < length actions = omega (arith, c.loop-action-test.true, c.loop-action.auto.actions) in
    ap (set actions index) c.reset_action.ensures
    ∙ map_over_more reset_action c.args.actions.now actions index (get_or actions index action.Normal) c.loop-action-test.true c.loop-action.invariant
    (get_or_default actions index action.Normal (get_or actions index action.Normal) within)
