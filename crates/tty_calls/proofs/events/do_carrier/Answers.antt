use Rattle.std.proofs.Common.{true, false, Some, None, sym, ap, ◌∙◌}
use Rattle.call_words.specs.declared.signal.To.TheVariants.{Pid}
use Rattle.sys_types.specs.declared.sig.Sig.TheVariants as sig
use Rattle.system_model.specs.Effects.{on_processes, change}
use Rattle.system_model.specs.ProcessEffects.{post}
use Rattle.system_model.proofs.SeenLines.{lines_still}
use Rattle.tty_calls.proofs.EventRows.{carrier_as, carrier_done, carrier_revokes}
use Rattle.tty_calls.proofs.events.do_carrier.Goals as goal

pub returns-then-not-set_carrier-clause-lines : goal.returns-then-not-set_carrier-clause-lines
returns-then-not-set_carrier-clause-lines c = λ d fit.
    lines_still d c.args.lines.now c.set_carrier.new.lines c.set_carrier.ensures.counts c.set_carrier.ensures.keeps.boots fit

pub returns-then-not-set_carrier-clause-does : goal.returns-then-not-set_carrier-clause-does
returns-then-not-set_carrier-clause-does c = λ t processes pool lines ending fit.
    rw (← processes, ← ending)
    (carrier_done t _ c.args.line c.args.up false c.session_at-session.result
    (rw (pool, lines) (sym c.set_carrier.ensures.told ∙ c.if-not-set_carrier.true))
    (rw lines (sym (c.session_at-session.ensures t.pool)))
    (carrier_as t c.set_carrier.new.pool c.set_carrier.new.lines c.args.line c.args.up (rw (pool, lines) c.set_carrier.ensures.devices)
    (rw lines c.set_carrier.ensures.counts) (rw (pool, lines) fit) (rw (pool, lines) c.set_carrier.ensures.keeps)))

pub returns-in_default-clause-does : goal.returns-in_default-clause-does
returns-in_default-clause-does c = λ t processes pool lines ending fit.
    rw (← processes, ← ending)
    (carrier_done t _ c.args.line c.args.up true None
    (rw (pool, lines) (sym c.set_carrier.ensures.told ∙ c.if-not-set_carrier.false))
    (rw lines (sym (c.session_at-session.ensures t.pool) ∙ c.in_default.is))
    (carrier_as t c.set_carrier.new.pool c.set_carrier.new.lines c.args.line c.args.up (rw (pool, lines) c.set_carrier.ensures.devices)
    (rw lines c.set_carrier.ensures.counts) (rw (pool, lines) fit) (rw (pool, lines) c.set_carrier.ensures.keeps)))

pub returns-clause-does : goal.returns-clause-does
returns-clause-does c = λ t processes pool lines ending fit.
    (carrier_done t _ c.args.line c.args.up true (Some c.in-Some.leader)
    (rw (pool, lines) (sym c.set_carrier.ensures.told ∙ c.if-not-set_carrier.false))
    (rw lines (sym (c.session_at-session.ensures t.pool) ∙ c.in-Some.is))
    (c.post.ensures.does (record t { pool = c.set_carrier.new.pool; lines = c.set_carrier.new.lines }) processes ending
    ∙ ap (λ v. change v (on_processes (post sig.HUP (Pid c.in-Some.leader))))
    (carrier_as t c.set_carrier.new.pool c.set_carrier.new.lines c.args.line c.args.up (rw (pool, lines) c.set_carrier.ensures.devices)
    (rw lines c.set_carrier.ensures.counts) (rw (pool, lines) fit) (rw (pool, lines) c.set_carrier.ensures.keeps))))

pub returns-then-not-set_carrier-clause-revokes : goal.returns-then-not-set_carrier-clause-revokes
returns-then-not-set_carrier-clause-revokes c = λ most.
    carrier_revokes most c.args.pool.now c.set_carrier.new.pool c.args.lines.now c.set_carrier.new.lines c.args.line c.args.up c.set_carrier.ensures.devices
    c.set_carrier.ensures.counts

pub returns-in_default-clause-revokes : goal.returns-in_default-clause-revokes
returns-in_default-clause-revokes c = λ most.
    carrier_revokes most c.args.pool.now c.set_carrier.new.pool c.args.lines.now c.set_carrier.new.lines c.args.line c.args.up c.set_carrier.ensures.devices
    c.set_carrier.ensures.counts

pub returns-clause-revokes : goal.returns-clause-revokes
returns-clause-revokes c = λ most.
    carrier_revokes most c.args.pool.now c.set_carrier.new.pool c.args.lines.now c.set_carrier.new.lines c.args.line c.args.up c.set_carrier.ensures.devices
    c.set_carrier.ensures.counts
