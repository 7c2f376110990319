use Rattle.std.proofs.Common.{rules}
use Rattle.std.proofs.lemmas.List.Elements.{AllZip-push}
use Rattle.edge_io.specs.Crew.{Went}
use Rattle.edge_io.proofs.threads.+run_rest.Goals as goal

pub returns-in-Ok-clause-went : goal.returns-in-Ok-clause-went
returns-in-Ok-clause-went g t c =
    let went = Went (g.J.Job.ran c.args.shared.now) c.run_rest-word.result.0.value in
    let p = AllZip-push went c.pop.new.self.items c.run_rest-word.result.1.items c.in-Some.job c.join-back.result.job in
    search rules

pub returns-in-Err-clause-went : goal.returns-in-Err-clause-went
returns-in-Err-clause-went g t c =
    let went = Went (g.J.Job.ran c.args.shared.now) c.run_rest-word-in-Err.result.0.value in
    let p = AllZip-push went c.pop.new.self.items c.run_rest-word-in-Err.result.1.items c.in-Some.job c.task-back.result.job in
    search rules
