use Rattle.std.proofs.Common.{sym, ◌∙◌}
use Rattle.kern_core.proofs.SlotLemmas.{told, not_told}
use Rattle.kern_core.proofs.system.System.tell_if_left.Goals as goal

pub returns-then-is_left-clause-does : goal.returns-then-is_left-clause-does
returns-then-is_left-clause-does c = rw (c.told.ensures, ← c.self.view_is) (told _ c.args.slot (sym c.is_left.ensures ∙ c.if-is_left.true))

pub returns-else-is_left-clause-does : goal.returns-else-is_left-clause-does
returns-else-is_left-clause-does c = rw (← c.self.view_is) (not_told _ c.args.slot (sym c.is_left.ensures ∙ c.if-is_left.false))
