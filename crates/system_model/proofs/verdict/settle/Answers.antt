use Rattle.std.proofs.Common.{◌≡◌, [], sym, ap, ◌∙◌}
use Rattle.proc_table.specs.Processes.{running_at}
use Rattle.proc_table.specs.Procs.{process_of}
use Rattle.system_model.specs.Effects.{change_all}
use Rattle.system_model.specs.Looks.{caller_of}
use Rattle.system_model.specs.Rows.{effects_by}
use Rattle.system_model.specs.Tables.{Tables, view_of}
use Rattle.system_model.specs.Verdicts.{check_of, posts_of}
use Rattle.system_model.proofs.SeenProcesses.{caller_seen}
use Rattle.system_model.proofs.VerdictRows.{settles}
use Rattle.system_model.proofs.verdict.settle.Goals as goal
use Rattle.system_model.proofs.verdict.settle.Goals.{in-Some, in_default, After-decision}

posts-as : (c : After-decision) (t : Tables) → t.processes ≡ c.args.procs.now
    → posts_of c.signal.result ≡ effects_by (check_of (caller_of (view_of t) c.args.slot) c.args.verdict) []
posts-as c t processes =
    c.signal.ensures t.nodes
    ∙ ap (λ who. effects_by (check_of who c.args.verdict) [])
    (sym (caller_seen t c.args.slot (process_of c.caller.result.now) (ap (λ ps. running_at ps c.args.slot) processes ∙ c.caller.ensures)))

pub returns-clause-does : goal.returns-clause-does
returns-clause-does c = λ t row processes ending check.
    settles (caller_of (view_of t) c.args.slot) c.args.verdict (view_of t) _ c.decision.result row c.requires.held check
    (elim c.match-signal.branch [
      | in-Some w ↦
          rw (w.procs-is, w.ending-is)
          (w.post.ensures.does t processes ending ∙ ap (change_all (view_of t)) (ap posts_of (sym w.in-Some.is) ∙ posts-as c t processes))
      | in_default w ↦
          rw (w.procs-is, w.ending-is, ← processes, ← ending)
          (ap (change_all (view_of t)) (ap posts_of (sym w.in_default.is) ∙ posts-as c t processes))
    ])
    (c.decision.ensures (caller_of (view_of t) c.args.slot))
