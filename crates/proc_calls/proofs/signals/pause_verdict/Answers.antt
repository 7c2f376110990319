use Rattle.std.proofs.Common.{[], Some, sym, ap, ◌∙◌}
use Rattle.call_words.specs.declared.event.Reason.TheVariants.{Pause}
use Rattle.proc_table.specs.Procs.{process_of}
use Rattle.system_model.specs.Rows.{sleep_of}
use Rattle.system_model.specs.Verdicts.{check_of}
use Rattle.proc_calls.proofs.Changes.{caller_as}
use Rattle.proc_calls.proofs.signals.pause_verdict.Goals as goal

pub returns : goal.returns
returns c = record {
  verdict = λ t processes.
      (let who = caller_as t c.args.procs.now c.args.slot (process_of c.caller.result.now) processes c.caller.ensures in
      ap (λ w. check_of w c.sleep_verdict.result) who ∙ c.sleep_verdict.ensures t ∙ ap (λ w. Some (sleep_of w Pause, [])) (sym who));
}
