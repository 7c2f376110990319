use Rattle.std.proofs.Common.{sym, ◌∙◌}
use Rattle.system_model.specs.Looks.{caller_of}
use Rattle.system_model.specs.Tables.{view_of}
use Rattle.system_model.specs.TtyCalls.{tcdrain_row}
use Rattle.tty_calls.proofs.LineRows.{goes}
use Rattle.tty_calls.proofs.ChangeRows.{drain_done}
use Rattle.tty_calls.proofs.changes.do_tcdrain.Goals as goal

pub returns-then-is_held-clause-does : goal.returns-then-is_held-clause-does
returns-then-is_held-clause-does c = λ t descriptors processes lines ending.
    c.settle.ensures.does t (tcdrain_row (view_of t) c.args.slot c.args.fd) processes ending (c.drain_verdict-verdict.ensures t descriptors processes lines)

pub returns-clause-does : goal.returns-clause-does
returns-clause-does c = λ t descriptors processes lines ending.
    rw (c.nothing.ensures, ← processes, ← ending)
    (drain_done (view_of t) c.args.slot c.args.fd
    (sym (c.drain_verdict-verdict.ensures t descriptors processes lines)
    ∙ goes (caller_of (view_of t) c.args.slot) c.drain_verdict-verdict.result (sym c.is_held.ensures ∙ c.if-is_held.false)))
