use Rattle.std.proofs.Common.{true, false, refl, ap, ◌∙◌}
use Rattle.proc_table.specs.Processes.{running_at}
use Rattle.proc_table.specs.Procs.{process_of}
use Rattle.sys_types.specs.declared.rules.Rule.TheVariants.{NoRevoke, LabelWrite, Owner}
use Rattle.system_model.specs.Tables.{view_of}
use Rattle.system_model.specs.TtyCalls.{revoke_at, tty_of_node}
use Rattle.system_model.proofs.FitLemmas.{directory_live}
use Rattle.system_model.proofs.NodeRows.{node_denies}
use Rattle.node_calls.proofs.NodeAsked.{asks, what_seen, writes_seen, owner_seen, refuses_there, goes_on_there}
use Rattle.node_calls.proofs.Revoking.{no_line, a_line, revoke_done}
use Rattle.node_calls.proofs.revoke.do_revoke.Goals as goal

pub find_node-requires : goal.find_node-requires
find_node-requires c =
    directory_live c.args.tree.now c.args.procs.now c.args.slot (process_of c.caller-who.result.now) c.requires.directories c.caller-who.ensures

pub returns-in-Err-clause-does : goal.returns-in-Err-clause-does
returns-in-Err-clause-does c = λ t nodes processes pool lines ending fit blocks.
    rw (c.denied.ensures, ← processes, ← pool, ← lines, ← ending)
    (node_denies t c.args.slot (process_of c.caller-who.result.now) c.args.path.now (revoke_at (view_of t) c.args.slot) c.in-Err.rule
    (ap (λ ps. running_at ps c.args.slot) processes ∙ c.caller-who.ensures)
    (rw nodes c.in-Err.ensures))

pub returns-in_default-clause-does : goal.returns-in_default-clause-does
returns-in_default-clause-does c = λ t nodes processes pool lines ending fit blocks.
    let a =
    asks t c.args.tree.now c.args.procs.now c.args.slot (process_of c.caller-who.result.now) c.args.path.now c.in-Ok.node nodes processes c.caller-who.ensures
    c.in-Ok.ensures in
    let none = ap tty_of_node (what_seen a c.in-Ok.node c.kind.ensures.map) ∙ no_line _ c.kind.result c.kind.ensures.kind c.in_default.not-Line in
    rw (c.denied-in_default.ensures, ← processes, ← pool, ← lines, ← ending) (refuses_there a (revoke_at (view_of t) c.args.slot) NoRevoke (rw none refl))

pub returns-then-not-writes_by_label-clause-does : goal.returns-then-not-writes_by_label-clause-does
returns-then-not-writes_by_label-clause-does c = λ t nodes processes pool lines ending fit blocks.
    let a =
    asks t c.args.tree.now c.args.procs.now c.args.slot (process_of c.caller-who.result.now) c.args.path.now c.in-Ok.node nodes processes c.caller-who.ensures
    c.in-Ok.ensures in
    let line = ap tty_of_node (what_seen a c.in-Ok.node c.kind.ensures.map) ∙ a_line _ c.kind.result c.in-Line.line c.kind.ensures.kind c.in-Line.is in
    let label = writes_seen a false c.writes_by_label.ensures.map c.if-not-writes_by_label.ensures.writes in
    rw (c.denied-then-not-writes_by_label.ensures, ← processes, ← pool, ← lines, ← ending)
    (refuses_there a (revoke_at (view_of t) c.args.slot) LabelWrite (rw (line, label) refl))

pub returns-then-not-is_owner-clause-does : goal.returns-then-not-is_owner-clause-does
returns-then-not-is_owner-clause-does c = λ t nodes processes pool lines ending fit blocks.
    let a =
    asks t c.args.tree.now c.args.procs.now c.args.slot (process_of c.caller-who.result.now) c.args.path.now c.in-Ok.node nodes processes c.caller-who.ensures
    c.in-Ok.ensures in
    let line = ap tty_of_node (what_seen a c.in-Ok.node c.kind.ensures.map) ∙ a_line _ c.kind.result c.in-Line.line c.kind.ensures.kind c.in-Line.is in
    let label = writes_seen a true c.writes_by_label.ensures.map c.if-not-writes_by_label.ensures.writes in
    let own = owner_seen a true c.is_owner.ensures.map c.if-not-is_owner.ensures.owner in
    rw (c.denied-then-not-is_owner.ensures, ← processes, ← pool, ← lines, ← ending)
    (refuses_there a (revoke_at (view_of t) c.args.slot) Owner (rw (line, label, own) refl))

pub returns-clause-does : goal.returns-clause-does
returns-clause-does c = λ t nodes processes pool lines ending fit blocks.
    let a =
    asks t c.args.tree.now c.args.procs.now c.args.slot (process_of c.caller-who.result.now) c.args.path.now c.in-Ok.node nodes processes c.caller-who.ensures
    c.in-Ok.ensures in
    let line = ap tty_of_node (what_seen a c.in-Ok.node c.kind.ensures.map) ∙ a_line _ c.kind.result c.in-Line.line c.kind.ensures.kind c.in-Line.is in
    let label = writes_seen a true c.writes_by_label.ensures.map c.if-not-writes_by_label.ensures.writes in
    let own = owner_seen a false c.is_owner.ensures.map c.if-not-is_owner.ensures.owner in
    let after = record t { pool = c.revoke_line-session.new.pool; lines = c.revoke_line-session.new.lines } in
    rw c.nothing.ensures
    (goes_on_there a _ (revoke_at (view_of t) c.args.slot) (rw (line, label, own) refl)
    (rw line
    (revoke_done t c.revoke_line-session.new.pool c.revoke_line-session.new.lines _ c.args.slot c.in-Line.line (process_of c.caller-who.result.now)
    c.revoke_line-session.result (ap (λ ps. running_at ps c.args.slot) processes ∙ c.caller-who.ensures)
    (c.revoke_line-session.ensures.does t pool lines fit blocks)
    (rw (pool, lines) c.revoke_line-session.ensures.session)
    (c.tell_leader.ensures.does after processes ending))))
