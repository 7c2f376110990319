-- How a call is shown to do what its row says: by the first of its checks that holds, or by its effects where none does.
use Rattle.std.proofs.Common.{◌≡◌, List, [], ◌∷◌, ◌++◌, Option, Some, None, refl, sym, ap, ◌∙◌}
use Rattle.sys_types.specs.declared.rules.Rule.{Rule}
use Rattle.call_words.specs.declared.event.Decision.{Decision}
use Rattle.call_words.specs.declared.event.Decision.TheVariants.{Answer, Sleep}
use Rattle.call_words.specs.declared.event.Reason.{Reason}
use Rattle.call_words.specs.declared.event.Reply.TheVariants.{Denied}
use Rattle.system_model.specs.State.{View}
use Rattle.system_model.specs.Effects.{change_all}
use Rattle.system_model.specs.Rows.{Given, Check, refused, early, asleep, Row, behind, first, decision_by, decision_of, answer_of, effects_by, Does}

-- ---- the checks of a row

-- a check that holds is the first
pub stops : (o : Option Check) (cs : List (Option Check)) (c : Check) → o ≡ Some c → first (o ∷ cs) ≡ Some c
stops o cs c e = rw e refl

-- one that does not hold leaves it to the next
pub passes : (o : Option Check) (cs : List (Option Check)) → o ≡ None → first (o ∷ cs) ≡ first cs
passes o cs e = rw e refl

-- checks before others: one of them holds, or none does
pub first_held : (checks more : List (Option Check)) (c : Check) → first checks ≡ Some c → first (checks ++ more) ≡ Some c
first_held [] more c is = absurd cc
first_held (None ∷ checks) more c is = first_held checks more c is
first_held (Some x ∷ checks) more c is = is

pub first_free : (checks more : List (Option Check)) → first checks ≡ None → first (checks ++ more) ≡ first more
first_free [] more none = refl
first_free (None ∷ checks) more none = first_free checks more none
first_free (Some x ∷ checks) more none = absurd cc

-- ---- a row

-- a check holds: what it gives is decided, and its effects are done
pub holds_first : (old new : View) (row : Row) (c : Check) → first row.checks ≡ Some c → new ≡ change_all old c.1 → Does old new (decision_of c.0) row
holds_first old new row c e is = record {
  state = is ∙ ap (λ o. change_all old (effects_by o row.effects)) (sym e);
  answer = ap (λ o. decision_by o row.answer) (sym e);
}

-- a check refuses
pub refuses : (v : View) (row : Row) (rule : Rule) → first row.checks ≡ Some (refused rule, []) → Does v v (Answer (Denied rule)) row
refuses v row rule e = holds_first v v row (refused rule, []) e refl

-- a check gives an answer before the later ones are looked at
pub answers_early : (v : View) (row : Row) (given : Given) → first row.checks ≡ Some (early given, []) → Does v v (answer_of given) row
answers_early v row given e = holds_first v v row (early given, []) e refl

-- a check sleeps
pub sleeps : (v : View) (row : Row) (reason : Reason) → first row.checks ≡ Some (asleep reason, []) → Does v v (Sleep reason) row
sleeps v row reason e = holds_first v v row (asleep reason, []) e refl

-- no check holds
pub goes_on : (old new : View) (row : Row) → first row.checks ≡ None → new ≡ change_all old row.effects → Does old new (answer_of row.answer) row
goes_on old new row e is = record {
  state = is ∙ ap (λ o. change_all old (effects_by o row.effects)) (sym e);
  answer = ap (λ o. decision_by o row.answer) (sym e);
}

-- a check in front of a row refuses
pub front_refuses : (v : View) (check : Option Check) (row : Row) (rule : Rule) → check ≡ Some (refused rule, [])
    → Does v v (Answer (Denied rule)) (behind (check ∷ []) row)
front_refuses v check row rule e = refuses v (behind (check ∷ []) row) rule (stops check row.checks (refused rule, []) e)

-- it does not hold
pub front_passes : (old new : View) (d : Decision) (check : Option Check) (row : Row) → check ≡ None → Does old new d row → Does old new d (behind (check ∷ []) row)
front_passes old new d check row e does = record {
  state = does.state ∙ ap (λ o. change_all old (effects_by o row.effects)) (sym (passes check row.checks e));
  answer = does.answer ∙ ap (λ o. decision_by o row.answer) (sym (passes check row.checks e));
}

-- checks in front of a row: one of them refuses, or none holds
pub checks_refuse : (v : View) (checks : List (Option Check)) (row : Row) (rule : Rule) → first checks ≡ Some (refused rule, [])
    → Does v v (Answer (Denied rule)) (behind checks row)
checks_refuse v checks row rule e = refuses v (behind checks row) rule (first_held checks row.checks (refused rule, []) e)

pub checks_pass : (old new : View) (d : Decision) (checks : List (Option Check)) (row : Row) → first checks ≡ None → Does old new d row
    → Does old new d (behind checks row)
checks_pass old new d checks row e does = record {
  state = does.state ∙ ap (λ o. change_all old (effects_by o row.effects)) (sym (first_free checks row.checks e));
  answer = does.answer ∙ ap (λ o. decision_by o row.answer) (sym (first_free checks row.checks e));
}
