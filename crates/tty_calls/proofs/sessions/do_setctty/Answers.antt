use Rattle.std.proofs.Common.{[], true, false, refl, sym, ap, ◌∙◌}
use Rattle.std.specs.Prelude.{not, ◌==◌, is_some}
use Rattle.std.specs.List.{list_any}
use Rattle.sys_types.specs.declared.rules.Rule.TheVariants.{NotLeader, HasTty, LineTaken}
use Rattle.line_disc.specs.Lines.{line_at}
use Rattle.proc_table.specs.Groups.{is_number}
use Rattle.proc_table.specs.Processes.{Process, running_at}
use Rattle.proc_table.specs.Procs.{process_of}
use Rattle.tty_dev.specs.Line.{LineState}
use Rattle.tty_dev.specs.Table.{devices}
use Rattle.system_model.specs.Looks.{line_of_session}
use Rattle.system_model.specs.Parts.{Path}
use Rattle.system_model.specs.Tables.{view_of}
use Rattle.system_model.specs.TtyCalls.{setctty_on}
use Rattle.system_model.proofs.RowLemmas.{refuses}
use Rattle.system_model.proofs.SeenLines.{line_seen, lines_still}
use Rattle.system_model.proofs.SeenProcesses.{caller_seen}
use Rattle.tty_calls.proofs.LineRows.{tty_denied, tty_does}
use Rattle.tty_calls.proofs.SessionRows.{session_found, setctty_checks, session_set}
use Rattle.tty_calls.proofs.sessions.do_setctty.Goals as goal

pub returns-in-Err-clause-does : goal.returns-in-Err-clause-does
returns-in-Err-clause-does c = λ t descriptors processes lines.
    rw (c.denied.ensures, ← lines)
    (tty_denied t c.args.slot c.args.fd (setctty_on (view_of t) c.args.slot) c.in-Err.rule (c.in-Err.ensures.line t descriptors lines))

pub returns-then-not-is_leader-clause-does : goal.returns-then-not-is_leader-clause-does
returns-then-not-is_leader-clause-does c = λ t descriptors processes lines.
    (let who = caller_seen t c.args.slot (process_of c.caller-who.result.now) (ap (λ ps. running_at ps c.args.slot) processes ∙ c.caller-who.ensures) in
    rw (c.denied-then-not-is_leader.ensures, ← lines)
    (tty_does (view_of t) _ _ c.args.slot c.args.fd c.in-Ok.line (setctty_on (view_of t) c.args.slot) (c.in-Ok.ensures.line t descriptors lines)
    (refuses (view_of t) (setctty_on (view_of t) c.args.slot c.in-Ok.line) NotLeader
    (setctty_checks (view_of t) c.args.slot c.in-Ok.line true _ _
    (ap (λ (w : Process Path). not (w.pid == w.session)) who ∙ ap not (sym c.is_leader.ensures ∙ c.if-not-is_leader.true)) refl refl))))

pub returns-then-has_line-clause-does : goal.returns-then-has_line-clause-does
returns-then-has_line-clause-does c = λ t descriptors processes lines.
    (let p = process_of c.caller-who.result.now in
    let who = caller_seen t c.args.slot p (ap (λ ps. running_at ps c.args.slot) processes ∙ c.caller-who.ensures) in
    rw (c.denied-then-has_line.ensures, ← lines)
    (tty_does (view_of t) _ _ c.args.slot c.args.fd c.in-Ok.line (setctty_on (view_of t) c.args.slot) (c.in-Ok.ensures.line t descriptors lines)
    (refuses (view_of t) (setctty_on (view_of t) c.args.slot c.in-Ok.line) HasTty
    (setctty_checks (view_of t) c.args.slot c.in-Ok.line false true _
    (ap (λ (w : Process Path). not (w.pid == w.session)) who ∙ ap not (sym c.is_leader.ensures ∙ c.if-not-is_leader.false))
    (ap (λ (w : Process Path). is_some (line_of_session (view_of t) w.session)) who ∙ session_found t p.session
    ∙ ap (list_any (λ (line : LineState). is_number p.session line.session)) lines ∙ sym c.has_line.ensures ∙ c.if-has_line.true)
    refl))))

pub returns-then-is_some-clause-does : goal.returns-then-is_some-clause-does
returns-then-is_some-clause-does c = λ t descriptors processes lines.
    (let p = process_of c.caller-who.result.now in
    let who = caller_seen t c.args.slot p (ap (λ ps. running_at ps c.args.slot) processes ∙ c.caller-who.ensures) in
    rw (c.denied-then-is_some.ensures, ← lines)
    (tty_does (view_of t) _ _ c.args.slot c.args.fd c.in-Ok.line (setctty_on (view_of t) c.args.slot) (c.in-Ok.ensures.line t descriptors lines)
    (refuses (view_of t) (setctty_on (view_of t) c.args.slot c.in-Ok.line) LineTaken
    (setctty_checks (view_of t) c.args.slot c.in-Ok.line false false true
    (ap (λ (w : Process Path). not (w.pid == w.session)) who ∙ ap not (sym c.is_leader.ensures ∙ c.if-not-is_leader.false))
    (ap (λ (w : Process Path). is_some (line_of_session (view_of t) w.session)) who ∙ session_found t p.session
    ∙ ap (list_any (λ (line : LineState). is_number p.session line.session)) lines ∙ sym c.has_line.ensures ∙ c.if-has_line.false)
    (ap (λ d. is_some d.session) (line_seen t c.in-Ok.line) ∙ ap (λ ls. is_some (line_at (devices t.pool ls) c.in-Ok.line).session) lines
    ∙ sym (c.is_some.ensures ∙ ap is_some (c.session_at.ensures t.pool)) ∙ c.if-is_some.true)))))

pub returns-clause-lines : goal.returns-clause-lines
returns-clause-lines c =
    lines_still c.args.fds.now c.args.lines.now c.set_session.new.lines c.set_session.ensures.counts
    (c.set_session.ensures.keeps (record { blocks = []; free = [] })).boots c.requires.lines

pub returns-clause-does : goal.returns-clause-does
returns-clause-does c = λ t descriptors processes lines.
    (let p = process_of c.caller-who.result.now in
    let who = caller_seen t c.args.slot p (ap (λ ps. running_at ps c.args.slot) processes ∙ c.caller-who.ensures) in
    rw c.nothing.ensures
    (tty_does (view_of t) _ _ c.args.slot c.args.fd c.in-Ok.line (setctty_on (view_of t) c.args.slot) (c.in-Ok.ensures.line t descriptors lines)
    (session_set t c.set_session.new.lines c.in-Ok.line c.args.slot p who
    (rw lines (c.set_session.ensures.devices t.pool)) (rw lines c.set_session.ensures.counts)
    (setctty_checks (view_of t) c.args.slot c.in-Ok.line false false false
    (ap (λ (w : Process Path). not (w.pid == w.session)) who ∙ ap not (sym c.is_leader.ensures ∙ c.if-not-is_leader.false))
    (ap (λ (w : Process Path). is_some (line_of_session (view_of t) w.session)) who ∙ session_found t p.session
    ∙ ap (list_any (λ (line : LineState). is_number p.session line.session)) lines ∙ sym c.has_line.ensures ∙ c.if-has_line.false)
    (ap (λ d. is_some d.session) (line_seen t c.in-Ok.line) ∙ ap (λ ls. is_some (line_at (devices t.pool ls) c.in-Ok.line).session) lines
    ∙ sym (c.is_some.ensures ∙ ap is_some (c.session_at.ensures t.pool)) ∙ c.if-is_some.false)))))
