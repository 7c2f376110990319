use Rattle.std.proofs.Common.{true, false, not, refl, sym, ap, ◌∙◌}
use Rattle.line_disc.specs.Device.{is_takeable}
use Rattle.line_disc.specs.Lines.{line_at}
use Rattle.tty_dev.specs.Table.{devices}
use Rattle.system_model.specs.Tables.{Tables}
use Rattle.kern_core.proofs.WakeLemmas.{gives_output}
use Rattle.kern_core.proofs.system.System.has_output.Goals as goal

pub returns-then-not-self : goal.returns-then-not-self
returns-then-not-self c =
    gives_output c.args.self.now c.args.line false c.is_takeable.result
    (ap (λ (t : Tables). t.halted) (sym c.self.view_is) ∙ c.if-not-self.true)
    (c.is_takeable.ensures c.args.self.now.pool
    ∙ ap (λ (t : Tables). is_takeable (line_at (devices c.args.self.now.pool t.lines) c.args.line)) c.self.view_is)

pub returns-else-not-self : goal.returns-else-not-self
returns-else-not-self c =
    ap not c.if-not-self.false
    ∙ gives_output c.args.self.now c.args.line true _ (ap (λ (t : Tables). t.halted) (sym c.self.view_is) ∙ c.if-not-self.false) refl
