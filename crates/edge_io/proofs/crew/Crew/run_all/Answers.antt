use Rattle.edge_io.proofs.CrewLemmas.{all_ran}
use Rattle.edge_io.proofs.crew.Crew.run_all.Goals as goal

pub returns-clause-ran : goal.returns-clause-ran
returns-clause-ran g c =
    let word = c.in_scope-is_run.result.0 in
    all_ran (g.J.Job.ran c.args.shared.now) word c.args.jobs.items c.in_scope-is_run.result.1.items c.if-not-is_run.false c.in_scope-is_run.ensures
