-- What the checks of a call come to, as a kernel keeps it.
use Rattle.std.specs.Prelude.{Bool, true, false, List, [], ◌∷◌, Option, Some, None}
use Rattle.sys_types.specs.declared.rules.Rule.TheVariants.{Signal, NoReader}
use Rattle.call_words.specs.declared.event.Reason.TheVariants.{Stop}
use Rattle.call_words.specs.declared.signal.To.{To}
use Rattle.call_words.specs.declared.signal.To.TheVariants.{Pid}
use Rattle.sys_types.specs.declared.sig.Sig.{Sig}
use Rattle.sys_types.specs.declared.sig.Sig.TheVariants as sig
use Rattle.proc_table.specs.Processes.{Process}
use Rattle.system_model.specs.Parts.{Path}
use Rattle.system_model.specs.Rows.{Check, refused, early, asleep, number, bytes}
use Rattle.system_model.specs.ProcessEffects.{post}
use Rattle.system_model.specs.Effects.{Effect, on_processes}
use Rattle.system_model.specs.Background.{post_to_group}
use Rattle.system_model.specs.declared.verdict.Verdict.{Verdict}
use Rattle.system_model.specs.declared.verdict.Verdict.TheVariants.{Refused, Empty, Zero, Asleep, Stopped, Interrupted, Broken, Go}

-- the check that a verdict on a call of a process tells of
abbrev pub check_of : Process Path → Verdict → Option Check
check_of who (Refused rule) = Some (refused rule, [])
check_of who Empty = Some (early (bytes []), [])
check_of who Zero = Some (early (number 0), [])
check_of who (Asleep reason) = Some (asleep reason, [])
check_of who (Stopped signal) = Some (asleep Stop, post_to_group signal who)
check_of who (Interrupted signal) = Some (refused Signal, post_to_group signal who)
check_of who Broken = Some (refused NoReader, on_processes (post sig.PIPE (Pid who.pid)) ∷ [])
check_of who Go = None

-- some check holds
abbrev pub is_held : Verdict → Bool
is_held Go = false
is_held verdict = true

-- the effects of a signal that is posted
abbrev pub posts_of : Option (Sig × To) → List Effect
posts_of None = []
posts_of (Some p) = on_processes (post p.0 p.1) ∷ []
