use Rattle.std.proofs.Common.{refl, sym, ap, ◌∙◌}
use Rattle.call_words.specs.declared.event.Decision.TheVariants.{Answer}
use Rattle.call_words.specs.declared.event.Reply.TheVariants.{Text}
use Rattle.proc_table.specs.Processes.{Process}
use Rattle.proc_table.specs.Procs.{process_of}
use Rattle.system_model.specs.CredCalls.{ident_row, ident_text}
use Rattle.system_model.specs.Looks.{caller_of}
use Rattle.system_model.specs.Parts.{Path}
use Rattle.system_model.specs.Tables.{view_of}
use Rattle.system_model.proofs.RowLemmas.{goes_on}
use Rattle.proc_calls.proofs.Changes.{caller_as, decides}
use Rattle.proc_calls.proofs.ident.do_ident.Goals as goal

pub returns : goal.returns
returns c = record {
  does = λ t processes.
      decides (view_of t) (view_of t) (Answer (Text (ident_text (caller_of (view_of t) c.args.slot)))) c.text.result (ident_row (view_of t) c.args.slot)
      (c.text.ensures ∙ ap (λ text. Answer (Text text)) (c.ident.ensures t.nodes)
      ∙ ap (λ (who : Process Path). Answer (Text (ident_text who)))
      (sym (caller_as t c.args.procs.now c.args.slot (process_of c.caller.result.now) processes c.caller.ensures)))
      (goes_on (view_of t) (view_of t) (ident_row (view_of t) c.args.slot) refl refl);
}
