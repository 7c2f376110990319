use Rattle.std.proofs.Common.{Some, None, sym, ap, ◌∙◌}
use Rattle.call_words.specs.declared.signal.To.TheVariants.{Group}
use Rattle.system_model.specs.Effects.{on_processes, change}
use Rattle.system_model.specs.ProcessEffects.{post}
use Rattle.tty_calls.proofs.EventRows.{byte_as, byte_done, byte_revokes}
use Rattle.tty_calls.proofs.events.do_byte.Goals as goal

pub returns-in_default-clause-does : goal.returns-in_default-clause-does
returns-in_default-clause-does c = λ t processes pool lines ending fit.
    rw (← processes, ← ending)
    (byte_done t _ c.args.line c.args.byte c.foreground_at-foreground.result None c.session_at-session.result
    (rw lines (sym (c.foreground_at-foreground.ensures t.pool)))
    (rw (pool, lines) (sym c.receive.ensures.signal ∙ c.in_default.is))
    (rw lines (sym (c.session_at-session.ensures t.pool)))
    (byte_as t c.receive.new.pool c.receive.new.lines c.args.line c.args.byte (rw (pool, lines) c.receive.ensures.devices)
    (rw lines c.receive.ensures.counts) (rw (pool, lines) fit) (rw (pool, lines) c.receive.ensures.keeps)))

pub returns-in-None-clause-does : goal.returns-in-None-clause-does
returns-in-None-clause-does c = λ t processes pool lines ending fit.
    rw (← processes, ← ending)
    (byte_done t _ c.args.line c.args.byte c.foreground_at-foreground.result (Some c.in-Some.sig) None
    (rw lines (sym (c.foreground_at-foreground.ensures t.pool)))
    (rw (pool, lines) (sym c.receive.ensures.signal ∙ c.in-Some.is))
    (rw lines (sym (c.session_at-session.ensures t.pool) ∙ c.in-None.is))
    (byte_as t c.receive.new.pool c.receive.new.lines c.args.line c.args.byte (rw (pool, lines) c.receive.ensures.devices)
    (rw lines c.receive.ensures.counts) (rw (pool, lines) fit) (rw (pool, lines) c.receive.ensures.keeps)))

pub returns-in-Some-session-clause-does : goal.returns-in-Some-session-clause-does
returns-in-Some-session-clause-does c = λ t processes pool lines ending fit.
    (byte_done t _ c.args.line c.args.byte c.foreground_at-foreground.result (Some c.in-Some.sig) (Some c.in-Some-session.field-0)
    (rw lines (sym (c.foreground_at-foreground.ensures t.pool)))
    (rw (pool, lines) (sym c.receive.ensures.signal ∙ c.in-Some.is))
    (rw lines (sym (c.session_at-session.ensures t.pool) ∙ c.in-Some-session.is))
    (c.post.ensures.does (record t { pool = c.receive.new.pool; lines = c.receive.new.lines }) processes ending
    ∙ ap (λ v. change v (on_processes (post c.in-Some.sig (Group c.foreground_at-foreground.result))))
    (byte_as t c.receive.new.pool c.receive.new.lines c.args.line c.args.byte (rw (pool, lines) c.receive.ensures.devices)
    (rw lines c.receive.ensures.counts) (rw (pool, lines) fit) (rw (pool, lines) c.receive.ensures.keeps))))

pub returns-in_default-clause-revokes : goal.returns-in_default-clause-revokes
returns-in_default-clause-revokes c = λ most.
    byte_revokes most c.args.pool.now c.receive.new.pool c.args.lines.now c.receive.new.lines c.args.line c.args.byte c.receive.ensures.devices
    c.receive.ensures.counts

pub returns-in-None-clause-revokes : goal.returns-in-None-clause-revokes
returns-in-None-clause-revokes c = λ most.
    byte_revokes most c.args.pool.now c.receive.new.pool c.args.lines.now c.receive.new.lines c.args.line c.args.byte c.receive.ensures.devices
    c.receive.ensures.counts

pub returns-in-Some-session-clause-revokes : goal.returns-in-Some-session-clause-revokes
returns-in-Some-session-clause-revokes c = λ most.
    byte_revokes most c.args.pool.now c.receive.new.pool c.args.lines.now c.receive.new.lines c.args.line c.args.byte c.receive.ensures.devices
    c.receive.ensures.counts
