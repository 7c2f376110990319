use Rattle.std.proofs.Common.{false, refl, sym, ◌∙◌}
use Rattle.system_model.specs.IoCalls.{read_row}
use Rattle.system_model.specs.Looks.{caller_of}
use Rattle.system_model.specs.Tables.{Tables, view_of}
use Rattle.io_calls.proofs.ReadChecks.{read_short}
use Rattle.io_calls.proofs.RowParts.{all_pass}
use Rattle.io_calls.proofs.VerdictCases.{goes}
use Rattle.io_calls.proofs.reads.do_read.Goals as goal

pub returns-then-is_held-clause-does : goal.returns-then-is_held-clause-does
returns-then-is_held-clause-does c = λ t nodes descriptors pipes processes pool lines ending recheck.
    rw (← descriptors, ← pipes, ← lines)
    (c.settle.ensures.does t (read_row (view_of t) c.args.slot c.args.fd c.args.max) processes ending
    (c.read_verdict-verdict.ensures t nodes descriptors pipes processes lines recheck))

pub read_from-requires-clause-most : goal.read_from-requires-clause-most
read_from-requires-clause-most c =
    let t : Tables = record {
      nodes = c.args.tree.now;
      descriptors = c.args.fds.now;
      pipes = c.args.pipes.now;
      processes = c.args.procs.now;
      pool = c.args.pool.now;
      lines = c.args.lines.now;
      ending = c.args.ending.now.items;
      recheck = c.args.recheck;
      halted = false;
    } in
    read_short (view_of t) c.args.slot c.args.fd c.args.max
    (sym (goes (caller_of (view_of t) c.args.slot) c.read_verdict-verdict.result (sym c.is_held.ensures ∙ c.if-is_held.false))
    ∙ c.read_verdict-verdict.ensures t refl refl refl refl refl refl)

pub returns-clause-does : goal.returns-clause-does
returns-clause-does c = λ t nodes descriptors pipes processes pool lines ending recheck.
    rw (← processes, ← ending)
    (all_pass (view_of t) _ c.read_from.result (read_row (view_of t) c.args.slot c.args.fd c.args.max)
    (sym (c.read_verdict-verdict.ensures t nodes descriptors pipes processes lines recheck)
    ∙ goes (caller_of (view_of t) c.args.slot) c.read_verdict-verdict.result (sym c.is_held.ensures ∙ c.if-is_held.false))
    (c.read_from.ensures.does t nodes descriptors pipes pool lines))
