use Rattle.std.proofs.Common.{refl, sym, ap, ◌∙◌, true}
use Rattle.call_words.specs.declared.event.Decision.TheVariants.{Answer}
use Rattle.call_words.specs.declared.event.Reply.TheVariants.{Text}
use Rattle.proc_table.specs.Processes.{slots_by_pid}
use Rattle.proc_table.specs.Procs.{process_of}
use Rattle.proc_calls.specs.PsTexts.{texts_of}
use Rattle.system_model.specs.ProcCalls.{ps_row, ps_text}
use Rattle.system_model.specs.Looks.{caller_of}
use Rattle.system_model.specs.Tables.{view_of}
use Rattle.system_model.proofs.RowLemmas.{goes_on}
use Rattle.proc_calls.proofs.Changes.{caller_as, decides}
use Rattle.proc_calls.proofs.Listed.{listed_as}
use Rattle.proc_calls.proofs.ps.do_ps.Goals as goal

pub returns : goal.returns
returns c = record {
  does = λ t processes.
      (let who = process_of c.caller.result.now in
      let slots = c.slots_seen-slots.result.items in
      decides (view_of t) (view_of t) (Answer (Text (ps_text (view_of t) (caller_of (view_of t) c.args.slot)))) c.text.result (ps_row (view_of t) c.args.slot)
      (c.text.ensures ∙ ap (λ text. Answer (Text text))
      (sym
      (ap (ps_text (view_of t)) (caller_as t c.args.procs.now c.args.slot who processes c.caller.ensures)
      ∙ listed_as t c.args.procs.now who (slots_by_pid (λ p. true) c.args.procs.now) slots processes c.slots_seen-slots.ensures.slots
      c.slots_seen-slots.ensures.processes
      (rw (← c.as_slice.ensures.value) c.texts.ensures.most)
      (rw (← c.as_slice.ensures.value) c.as_slice.ensures.fits)
      ∙ ap (texts_of c.args.procs.now) (sym c.as_slice.ensures.value) ∙ sym c.texts.ensures.text)))
      (goes_on (view_of t) (view_of t) (ps_row (view_of t) c.args.slot) refl refl));
}
