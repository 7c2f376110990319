use Rattle.std.proofs.Common.{[], sym, ap}
use Rattle.system_model.specs.Effects.{change_all}
use Rattle.system_model.specs.Looks.{caller_of}
use Rattle.system_model.specs.Rows.{effects_by}
use Rattle.system_model.specs.SignalCalls.{pause_row}
use Rattle.system_model.specs.Tables.{view_of}
use Rattle.system_model.proofs.VerdictRows.{settles}
use Rattle.proc_calls.proofs.Waiting.{held_is}
use Rattle.proc_calls.proofs.signals.do_pause.Goals as goal

pub returns : goal.returns
returns c = record {
  does = λ t processes.
      (let row = pause_row (view_of t) c.args.slot in
      let who = caller_of (view_of t) c.args.slot in
      settles who c.pause_verdict.result (view_of t) (view_of t) c.decision.result row
      (held_is who c.pause_verdict.result _ (c.pause_verdict.ensures.verdict t processes)) (c.pause_verdict.ensures.verdict t processes)
      (ap (λ o. change_all (view_of t) (effects_by o [])) (sym (c.pause_verdict.ensures.verdict t processes)))
      (c.decision.ensures who));
}
