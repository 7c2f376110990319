use Rattle.std.proofs.Common.{ℕ, List, Bor, sym, arith}
use Rattle.std.proofs.lemmas.Result.{err_from_is_err_and}
use Rattle.sh_text.specs.declared.tree.Job.{Job}
use Rattle.sh_text.proofs.JobLoopLemmas.{jobs_fault, jobs_more, jobs_end, some_left}
use Rattle.sh_text.proofs.jobs.jobs.Goals as goal

pub returns-in_err-job-clause-gives : goal.returns-in_err-job-clause-gives
returns-in_err-job-clause-gives c =
    let p = err_from_is_err_and c.from_residual.result c.from_residual.ensures.1 in
    rw (p.1, p.2)
    (jobs_fault (λ (x : Job × Bor (List ℕ)). (x.0, x.1.now)) (λ (x : List Job). x) _ c.loop-rest.jobs c.loop-rest.rest.now c.in_err-job.field-0.0
    c.loop-rest.invariant.value (sym c.loop-rest-test.ensures) c.in_err-job.ensures.gives)

pub loop-rest-preserved : goal.loop-rest-preserved
loop-rest-preserved c =
    let next = c.after_blanks-rest-in-loop-rest in
    let some = some_left c.loop-rest.rest.now (sym c.loop-rest-test.ensures) in
    record {
      value =
          rw c.in_ok-push.ensures
          (jobs_more _ c.loop-rest.jobs c.in_ok-job.job c.loop-rest.rest.now c.in_ok-job.after.now next.result.now c.loop-rest.invariant.value
          c.in_ok-job.ensures.gives next.ensures.gives (omega (arith, some, next.ensures.shorter, c.in_ok-job.ensures.shorter)));
      shorter = omega (arith, next.ensures.shorter, c.in_ok-job.ensures.shorter, c.loop-rest.invariant.shorter);
    }

pub returns-clause-gives : goal.returns-clause-gives
returns-clause-gives c = jobs_end _ c.loop-rest.jobs c.loop-rest.rest.now c.loop-rest.invariant.value (sym c.loop-rest-test.ensures)
