use Rattle.std.proofs.Common.{sym, ap, ◌∙◌, ◌≡◌, List, Result, Ok, Err}
use Rattle.acl_core.specs.declared.entry.Entry.{Entry}
use Rattle.acl_core.specs.Reading.{list_at}
use Rattle.acl_core.proofs.ListTextLemmas.{list_found, list_again, list_left, fault_place}
use Rattle.acl_core.specs.declared.fault.Stop.{Stop}
use Rattle.acl_core.proofs.read.read_list.Goals as goal

pub overflow_sub-result : goal.overflow_sub-result
overflow_sub-result c = list_left c.args.text.now c.in-Err.stop c.in-Err.ensures

pub returns-in-Ok-clause-spelling : goal.returns-in-Ok-clause-spelling
returns-in-Ok-clause-spelling c =
    let f = list_found c.args.text.now c.in-Ok.entries.items c.in-Ok.ensures in
    (f.1, f.0)

pub returns-in-Ok-clause-only : goal.returns-in-Ok-clause-only
returns-in-Ok-clause-only c = λ list has_text is.
    let both : ◌≡◌ {A = Result (List Entry) Stop} (Ok c.in-Ok.entries.items) (Ok list) = sym c.in-Ok.ensures ∙ ap list_at is ∙ list_again list has_text in
    cc

pub returns-in-Err-clause-only : goal.returns-in-Err-clause-only
returns-in-Err-clause-only c = λ list has_text is.
    let both : ◌≡◌ {A = Result (List Entry) Stop} (Err c.in-Err.stop) (Ok list) = sym c.in-Err.ensures ∙ ap list_at is ∙ list_again list has_text in
    absurd cc

pub returns-in-Err-clause-fault : goal.returns-in-Err-clause-fault
returns-in-Err-clause-fault c = fault_place c.args.text.now c.in-Err.stop c.in-Err.ensures
