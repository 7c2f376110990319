use Rattle.std.proofs.Common.{sym, ap, ◌∙◌}
use Rattle.std.specs.Prelude.{slice_get}
use Rattle.system_model.specs.Effects.{change_all}
use Rattle.system_model.specs.Endings.{end_next}
use Rattle.system_model.specs.Tables.{view_of}
use Rattle.proc_calls.proofs.Joins.{at_place, runs_at, runs_on}
use Rattle.proc_calls.proofs.Worked.{none_runs, ending_of_view}
use Rattle.proc_calls.proofs.endings.end_at.Goals as goal

pub returns-in_default-clause-running : goal.returns-in_default-clause-running
returns-in_default-clause-running c =
    none_runs c.args.procs.now c.args.ending.now.items c.args.place (sym c.entry_at.ensures ∙ c.in_default.is)

pub returns-in_default-clause-does : goal.returns-in_default-clause-does
returns-in_default-clause-does c = λ t descriptors pipes processes pool lines ending root.
    rw (← descriptors, ← pipes, ← processes, ← pool, ← lines, ← ending)
    (ap (λ next. change_all (view_of t) (end_next (view_of t) next))
    (sym (ap (λ list. slice_get list c.args.place) (ending_of_view t ∙ ending) ∙ sym c.entry_at.ensures ∙ c.in_default.is)))

pub end_one-requires-clause-caller : goal.end_one-requires-clause-caller
end_one-requires-clause-caller c =
    let here = at_place c.args.ending.now.items c.args.place (c.in-Some.slot, c.in-Some.how) c.requires.list (sym c.entry_at.ensures ∙ c.in-Some.is) in
    record { below = here.below; running = runs_at c.args.procs.now c.args.ending.now.items c.args.place (c.in-Some.slot, c.in-Some.how) here c.requires.running }

pub end_one-requires-clause-stands : goal.end_one-requires-clause-stands
end_one-requires-clause-stands c =
    (at_place c.args.ending.now.items c.args.place (c.in-Some.slot, c.in-Some.how) c.requires.list (sym c.entry_at.ensures ∙ c.in-Some.is)).stands

pub returns-clause-running : goal.returns-clause-running
returns-clause-running c =
    let here = at_place c.args.ending.now.items c.args.place (c.in-Some.slot, c.in-Some.how) c.requires.list (sym c.entry_at.ensures ∙ c.in-Some.is) in
    runs_on c.args.procs.now c.end_one.new.procs c.args.ending.now.items c.end_one.new.ending.items c.args.place (c.in-Some.slot, c.in-Some.how) here
    c.requires.running c.end_one.ensures.joined

pub returns-clause-does : goal.returns-clause-does
returns-clause-does c = λ t descriptors pipes processes pool lines ending root.
    c.end_one.ensures.does t descriptors pipes processes pool lines ending root
    ∙ ap (λ next. change_all (view_of t) (end_next (view_of t) next))
    (sym (ap (λ list. slice_get list c.args.place) (ending_of_view t ∙ ending) ∙ sym c.entry_at.ensures ∙ c.in-Some.is))
