use Rattle.std.proofs.Common.{sym, ap, ◌∙◌}
use Rattle.proc_table.specs.Processes.{running_at}
use Rattle.proc_table.specs.Procs.{process_of}
use Rattle.system_model.specs.Effects.{change_all}
use Rattle.system_model.specs.Looks.{caller_of}
use Rattle.system_model.specs.Tables.{view_of}
use Rattle.system_model.specs.TtyCalls.{tell_leader}
use Rattle.node_calls.proofs.Revoking.{hup_other, hup_self}
use Rattle.node_calls.proofs.revoke.tell_leader.Goals as goal

pub returns-then-caller-leader-clause-does : goal.returns-then-caller-leader-clause-does
returns-then-caller-leader-clause-does c = λ t processes ending.
    c.post.ensures.does t processes ending
    ∙ ap (change_all (view_of t))
    (sym (hup_other t c.args.slot (process_of c.caller.result.now) c.in-Some.leader (ap (λ ps. running_at ps c.args.slot) processes ∙ c.caller.ensures)
    c.if-caller-leader.true)
    ∙ ap (tell_leader (caller_of (view_of t) c.args.slot)) (sym c.in-Some.is))

pub returns-else-caller-leader-clause-does : goal.returns-else-caller-leader-clause-does
returns-else-caller-leader-clause-does c = λ t processes ending.
    rw (← processes, ← ending)
    (ap (change_all (view_of t))
    (sym (hup_self t c.args.slot (process_of c.caller.result.now) c.in-Some.leader (ap (λ ps. running_at ps c.args.slot) processes ∙ c.caller.ensures)
    c.if-caller-leader.false)
    ∙ ap (tell_leader (caller_of (view_of t) c.args.slot)) (sym c.in-Some.is)))
