use Rattle.std.proofs.Common.{Some, None, sym, ap, ◌∙◌}
use Rattle.proc_table.specs.Processes.{running_at}
use Rattle.proc_table.specs.Procs.{process_of}
use Rattle.system_model.specs.Looks.{tty_path}
use Rattle.system_model.specs.Tables.{view_of}
use Rattle.open_calls.proofs.NodeLooks.{access_seen, own_seen, own_none, own_denied, own_held, own_free}
use Rattle.open_calls.proofs.lines.own_line.Goals as goal

pub returns-in_default-clause-checks : goal.returns-in_default-clause-checks
returns-in_default-clause-checks c = λ t nodes processes pool lines fit blocks.
    own_none (view_of t) c.args.slot c.args.access c.args.flags
    (own_seen t c.args.slot (process_of c.caller-who.result.now) c.args.lines.now None (ap (λ ps. running_at ps c.args.slot) processes ∙ c.caller-who.ensures)
    lines (sym c.in_default.is ∙ c.line_of_session.ensures.line t.pool))

pub returns-in-Err-clause-checks : goal.returns-in-Err-clause-checks
returns-in-Err-clause-checks c = λ t nodes processes pool lines fit blocks.
    (let who = process_of c.caller-who.result.now in
    let runs = ap (λ ps. running_at ps c.args.slot) processes ∙ c.caller-who.ensures in
    own_denied (view_of t) c.args.slot c.args.access c.args.flags c.in-Some.line c.in-Err.rule
    (own_seen t c.args.slot who c.args.lines.now (Some c.in-Some.line) runs lines (sym c.in-Some.is ∙ c.line_of_session.ensures.line t.pool))
    (access_seen t c.args.tree.now c.args.slot who c.line_node-node.result (tty_path c.in-Some.line) c.args.access c.reads.result c.writes.result
    (Some c.in-Err.rule) nodes runs c.in-Err.ensures.map c.line_node-node.ensures.path c.reads.ensures c.writes.ensures c.in-Err.ensures.denied))

pub returns-in-Ok-clause-line : goal.returns-in-Ok-clause-line
returns-in-Ok-clause-line c = λ t processes lines.
    own_seen t c.args.slot (process_of c.caller-who.result.now) c.args.lines.now (Some c.in-Some.line)
    (ap (λ ps. running_at ps c.args.slot) processes ∙ c.caller-who.ensures) lines (sym c.in-Some.is ∙ c.line_of_session.ensures.line t.pool)

pub returns-in-Ok-clause-checks : goal.returns-in-Ok-clause-checks
returns-in-Ok-clause-checks c = λ t nodes processes pool lines fit blocks.
    (let who = process_of c.caller-who.result.now in
    let runs = ap (λ ps. running_at ps c.args.slot) processes ∙ c.caller-who.ensures in
    own_free (view_of t) c.args.slot c.args.access c.args.flags c.in-Some.line
    (own_seen t c.args.slot who c.args.lines.now (Some c.in-Some.line) runs lines (sym c.in-Some.is ∙ c.line_of_session.ensures.line t.pool))
    (access_seen t c.args.tree.now c.args.slot who c.line_node-node.result (tty_path c.in-Some.line) c.args.access c.reads.result c.writes.result
    None nodes runs c.in_default-may_access.ensures.map c.line_node-node.ensures.path c.reads.ensures c.writes.ensures
    c.in_default-may_access.ensures.denied)
    (c.in-Ok.ensures.checks t processes pool lines fit blocks))

pub returns-in-Err-may_open_line-clause-checks : goal.returns-in-Err-may_open_line-clause-checks
returns-in-Err-may_open_line-clause-checks c = λ t nodes processes pool lines fit blocks.
    (let who = process_of c.caller-who.result.now in
    let runs = ap (λ ps. running_at ps c.args.slot) processes ∙ c.caller-who.ensures in
    own_held (view_of t) c.args.slot c.args.access c.args.flags c.in-Some.line c.in-Err-may_open_line.verdict
    (own_seen t c.args.slot who c.args.lines.now (Some c.in-Some.line) runs lines (sym c.in-Some.is ∙ c.line_of_session.ensures.line t.pool))
    (access_seen t c.args.tree.now c.args.slot who c.line_node-node.result (tty_path c.in-Some.line) c.args.access c.reads.result c.writes.result
    None nodes runs c.in_default-may_access.ensures.map c.line_node-node.ensures.path c.reads.ensures c.writes.ensures
    c.in_default-may_access.ensures.denied)
    (c.in-Err-may_open_line.ensures.checks t processes pool lines fit blocks))
