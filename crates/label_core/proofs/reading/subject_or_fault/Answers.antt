use Rattle.std.proofs.Common.{sym, ap}
use Rattle.std.proofs.lemmas.Option.{cond_some}
use Rattle.label_core.specs.Subject.{Parts, is_subject}
use Rattle.label_core.proofs.StepLemmas.{ok_of}
use Rattle.label_core.proofs.reading.subject_or_fault.Goals as goal

pub returns-in-Some : goal.returns-in-Some
returns-in-Some c =
    let parts : Parts = record { active = c.args.active; low = c.args.low; high = c.args.high } in
    let given = cond_some (is_subject parts) parts c.in-Some.s (sym c.in-Some.ensures) in
    rw given.0 (ap ok_of given.1)
