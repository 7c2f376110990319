-- A verdict on a call that is not to go on settles it: what its check does is done, and what that gives is decided.
use Rattle.std.proofs.Common.{◌≡◌, [], Option, Some, true, refl, sym, ap, ◌∙◌}
use Rattle.call_words.specs.declared.event.Decision.{Decision}
use Rattle.proc_table.specs.Processes.{Process}
use Rattle.system_model.specs.Parts.{Path}
use Rattle.system_model.specs.State.{View}
use Rattle.system_model.specs.Effects.{change_all}
use Rattle.system_model.specs.Rows.{Row, Check, Does, first, decision_by, effects_by, noted}
use Rattle.system_model.specs.declared.verdict.Verdict.{Verdict}
use Rattle.system_model.specs.declared.verdict.Verdict.TheVariants.{Refused, Empty, Zero, Asleep, Stopped, Interrupted, Broken, Go}
use Rattle.system_model.specs.Verdicts.{check_of, is_held}
use Rattle.system_model.proofs.RowLemmas.{holds_first}

-- the check of a verdict that is held
held : (who : Process Path) (v : Verdict) → is_held v ≡ true → (c : Check) × (check_of who v ≡ Some c)
held who (Refused rule) is = (_, refl)
held who Empty is = (_, refl)
held who Zero is = (_, refl)
held who (Asleep reason) is = (_, refl)
held who (Stopped signal) is = (_, refl)
held who (Interrupted signal) is = (_, refl)
held who Broken is = (_, refl)
held who Go is = cc

by-check : (o : Option Check) (c : Check) (old new : View) (d : Decision) (row : Row) → o ≡ Some c → o ≡ first row.checks
    → new ≡ change_all old (effects_by o []) → d ≡ decision_by o noted → Does old new d row
by-check o c old new d row is check state answer =
    rw (answer ∙ ap (λ o. decision_by o noted) is)
    (holds_first old new row c (sym check ∙ is) (state ∙ ap (λ o. change_all old (effects_by o [])) is))

pub settles : (who : Process Path) (v : Verdict) (old new : View) (d : Decision) (row : Row) → is_held v ≡ true → check_of who v ≡ first row.checks
    → new ≡ change_all old (effects_by (check_of who v) []) → d ≡ decision_by (check_of who v) noted → Does old new d row
settles who v old new d row is check state answer =
    by-check (check_of who v) (held who v is).0 old new d row (held who v is).1 check state answer
