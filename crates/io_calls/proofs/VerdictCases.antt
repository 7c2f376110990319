-- A verdict on which a check holds, and one on which none does.
use Rattle.std.proofs.Common.{◌≡◌, true, false, List, ◌++◌, Option, Some, None, refl, sym}
use Rattle.std.specs.Prelude.{is_some}
use Rattle.proc_table.specs.Processes.{Process}
use Rattle.system_model.specs.Parts.{Path}
use Rattle.system_model.specs.Rows.{Check, first}
use Rattle.system_model.specs.declared.verdict.Verdict.{Verdict}
use Rattle.system_model.specs.declared.verdict.Verdict.TheVariants as verdict
use Rattle.system_model.specs.Verdicts.{check_of, is_held}
use Rattle.system_model.proofs.RowLemmas.{first_held}

pub goes : (who : Process Path) (v : Verdict) → is_held v ≡ false → check_of who v ≡ None
goes who verdict.Go free = refl
goes who (verdict.Refused rule) free = absurd cc
goes who verdict.Empty free = absurd cc
goes who verdict.Zero free = absurd cc
goes who (verdict.Asleep reason) free = absurd cc
goes who (verdict.Stopped signal) free = absurd cc
goes who (verdict.Interrupted signal) free = absurd cc
goes who verdict.Broken free = absurd cc

pub holds : (who : Process Path) (v : Verdict) → is_held v ≡ true → is_some (check_of who v) ≡ true
holds who verdict.Go held = absurd cc
holds who (verdict.Refused rule) held = refl
holds who verdict.Empty held = refl
holds who verdict.Zero held = refl
holds who (verdict.Asleep reason) held = refl
holds who (verdict.Stopped signal) held = refl
holds who (verdict.Interrupted signal) held = refl
holds who verdict.Broken held = refl

-- a check that holds is the first of more
pub held_first : (checks more : List (Option Check)) (o : Option Check) → o ≡ first checks → is_some o ≡ true → o ≡ first (checks ++ more)
held_first checks more None is held = absurd cc
held_first checks more (Some c) is held = sym (first_held checks more c (sym is))
