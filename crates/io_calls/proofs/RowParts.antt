-- A row whose checks do not hold does what it does without them.
use Rattle.std.proofs.Common.{◌≡◌, None, Result, Ok, Err, sym, ap, ◌∙◌}
use Rattle.std.specs.Prelude.{IfOk}
use Rattle.call_words.specs.declared.event.Decision.{Decision}
use Rattle.system_model.specs.Effects.{change_all}
use Rattle.system_model.specs.Rows.{Row, Does, first, decision_by, effects_by}
use Rattle.system_model.specs.State.{View}
use Rattle.io_calls.specs.Moves.{without_checks}

pub all_pass : (old new : View) (d : Decision) (row : Row) → first row.checks ≡ None → Does old new d (without_checks row) → Does old new d row
all_pass old new d row none does = record {
  state = does.state ∙ ap (λ o. change_all old (effects_by o row.effects)) (sym none);
  answer = does.answer ∙ ap (λ o. decision_by o row.answer) (sym none);
}

pub if_passes : {E : Type 0} (old new : View) (result : Result Decision E) (row : Row) → first row.checks ≡ None
    → IfOk result (λ d. Does old new d (without_checks row)) → IfOk result (λ d. Does old new d row)
if_passes old new (Ok d) row none does = all_pass old new d row none does
if_passes old new (Err e) row none does = does
