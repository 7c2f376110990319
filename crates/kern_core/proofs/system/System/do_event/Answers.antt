use Rattle.std.proofs.Common.{sym, ap, ◌∙◌}
use Rattle.std.proofs.lemmas.Result.{on_ok_weaker, on_err_weaker}
use Rattle.system_model.specs.Tables.{Tables}
use Rattle.kern_core.proofs.BehindLemmas.{halted_gone, live_does, live_free}
use Rattle.kern_core.proofs.system.System.do_event.Goals as goal

pub returns-then-self-clause-does : goal.returns-then-self-clause-does
returns-then-self-clause-does c =
    rw c.tell_gone.ensures
    (halted_gone c.args.self.now c.args.event.now (ap (λ (t : Tables). t.halted) (sym c.self.view_is) ∙ c.if-self.true))

pub returns-clause-does : goal.returns-clause-does
returns-clause-does c =
    on_ok_weaker c.dispatch.result
    (live_does c.args.self.now _ c.dispatch.new.decision c.args.event.now (ap (λ (t : Tables). t.halted) (sym c.self.view_is) ∙ c.if-self.false))
    c.dispatch.ensures.does

pub returns-clause-free : goal.returns-clause-free
returns-clause-free c =
    on_err_weaker c.dispatch.result (live_free c.args.self.now c.args.event.now (ap (λ (t : Tables). t.halted) (sym c.self.view_is) ∙ c.if-self.false))
    c.dispatch.ensures.free
