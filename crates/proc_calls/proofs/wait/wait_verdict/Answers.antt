use Rattle.std.proofs.Common.{true, [], ◌∷◌, Ok, Err, sym, ap, ◌∙◌}
use Rattle.call_words.specs.declared.event.Reason.TheVariants.{Child}
use Rattle.proc_table.specs.Processes.{Process}
use Rattle.proc_table.specs.Procs.{process_of}
use Rattle.system_model.specs.Looks.{caller_of}
use Rattle.system_model.specs.Parts.{Path}
use Rattle.system_model.specs.Rows.{first, sleep_if, answer_if, number}
use Rattle.system_model.specs.Tables.{view_of}
use Rattle.system_model.specs.Verdicts.{check_of}
use Rattle.proc_calls.proofs.Changes.{caller_as}
use Rattle.proc_calls.proofs.Waiting.{first_check, news_go_on, no_news_here}
use Rattle.proc_calls.proofs.wait.wait_verdict.Goals as goal

pub returns-in_default : goal.returns-in_default
returns-in_default c = record {
  verdict = λ t processes.
      first_check t c.args.procs.now c.args.slot c.args.pid c.args.flags (Err c.in_default.field-0) processes (sym c.in_default.is ∙ c.child_news.ensures);
}

pub returns-then-is_some : goal.returns-then-is_some
returns-then-is_some c = record {
  verdict = λ t processes.
      news_go_on c.in-Ok.news c.args.flags.no_hang (caller_of (view_of t) c.args.slot) (sym c.is_some.ensures ∙ c.if-is_some.true)
      ∙ first_check t c.args.procs.now c.args.slot c.args.pid c.args.flags (Ok c.in-Ok.news) processes (sym c.in-Ok.is ∙ c.child_news.ensures);
}

pub returns-then-flags : goal.returns-then-flags
returns-then-flags c = record {
  verdict = λ t processes.
      sym (ap (λ b. first (answer_if b (number 0) ∷ sleep_if true (caller_of (view_of t) c.args.slot) Child ∷ [])) c.if-flags.true)
      ∙ no_news_here c.in-Ok.news c.args.flags.no_hang (caller_of (view_of t) c.args.slot) (sym c.is_some.ensures ∙ c.if-is_some.false)
      ∙ first_check t c.args.procs.now c.args.slot c.args.pid c.args.flags (Ok c.in-Ok.news) processes (sym c.in-Ok.is ∙ c.child_news.ensures);
}

pub returns : goal.returns
returns c = record {
  verdict = λ t processes.
      (let who = caller_as t c.args.procs.now c.args.slot (process_of c.caller.result.now) processes c.caller.ensures in
      ap (λ w. check_of w c.sleep_verdict.result) who
      ∙ c.sleep_verdict.ensures t
      ∙ ap (λ (w : Process Path). first (sleep_if true w Child ∷ [])) (sym who)
      ∙ sym (ap (λ b. first (answer_if b (number 0) ∷ sleep_if true (caller_of (view_of t) c.args.slot) Child ∷ [])) c.if-flags.false)
      ∙ no_news_here c.in-Ok.news c.args.flags.no_hang (caller_of (view_of t) c.args.slot) (sym c.is_some.ensures ∙ c.if-is_some.false)
      ∙ first_check t c.args.procs.now c.args.slot c.args.pid c.args.flags (Ok c.in-Ok.news) processes (sym c.in-Ok.is ∙ c.child_news.ensures));
}
