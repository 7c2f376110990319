use Rattle.std.proofs.Common.{◌≡◌, true, cond, sym, ap, ◌∙◌}
use Rattle.std.specs.Prelude.{[]}
use Rattle.std.specs.List.{list_all}
use Rattle.system_model.specs.Effects.{change_all}
use Rattle.system_model.specs.LineEvents.{is_ended, hang_up_leader}
use Rattle.system_model.specs.Tables.{view_of}
use Rattle.system_model.proofs.BlockLemmas.{lines_fit}
use Rattle.system_model.proofs.SeenLines.{lines_still}
use Rattle.tty_calls.proofs.EndRows.{end_as, end_done, end_revokes, ended_before, ended_seen, halted_with}
use Rattle.tty_calls.proofs.ends.do_end.Goals as goal
use Rattle.tty_calls.proofs.ends.do_end.Goals.{then-all_ended, else-all_ended}

pub returns-then-has_ended-clause-does : goal.returns-then-has_ended-clause-does
returns-then-has_ended-clause-does c = λ t processes pool lines ending halted fit.
    rw (← processes, ← pool, ← lines, ← ending, ← halted)
    (ended_before t c.args.line (rw lines (sym (c.has_ended.ensures t.pool) ∙ c.if-has_ended.true)))

halted-is : (c : goal.Joined-all_ended) → c.if-all_ended.halted ≡ cond c.all_ended.result true c.args.halted.now
halted-is c =
    elim c.if-all_ended.branch [
      | then-all_ended w ↦ w.halted-is ∙ ap (λ b. cond b true c.args.halted.now) (sym w.if-all_ended.true)
      | else-all_ended w ↦ w.halted-is ∙ ap (λ b. cond b true c.args.halted.now) (sym w.if-all_ended.false)
    ]

pub returns-clause-does : goal.returns-clause-does
returns-clause-does c = λ t processes pool lines ending halted fit.
    (let after = record t { pool = c.end_line-told.new.pool; lines = c.end_line-told.new.lines } in
    let mid = record after { processes = c.hang_up.new.procs; ending = c.hang_up.new.ending.items } in
    end_done t (view_of mid) (view_of (record mid { halted = c.if-all_ended.halted })) c.args.line c.end_line-told.result c.all_ended.result
    c.session_at-session.result
    (rw lines (sym (c.has_ended.ensures t.pool) ∙ c.if-has_ended.false))
    (rw (pool, lines) (sym c.end_line-told.ensures.told))
    (rw lines (sym (c.session_at-session.ensures t.pool)))
    (rw (pool, lines) (ap (list_all is_ended) (sym c.end_line-told.ensures.devices))
    ∙ ended_seen c.end_line-told.new.pool c.end_line-told.new.lines ∙ sym c.all_ended.ensures)
    (c.hang_up.ensures.does after processes ending
    ∙ ap (λ v. change_all v (cond c.end_line-told.result (hang_up_leader c.session_at-session.result) []))
    (end_as t c.end_line-told.new.pool c.end_line-told.new.lines c.args.line (rw (pool, lines) c.end_line-told.ensures.devices)
    (rw lines c.end_line-told.ensures.counts) (rw (pool, lines) fit) (rw (pool, lines) c.end_line-told.ensures.keeps)))
    (ap (λ h. view_of (record mid { halted = h })) (halted-is c ∙ ap (λ h. cond c.all_ended.result true h) (sym halted))
    ∙ halted_with mid c.all_ended.result))

pub returns-clause-lines : goal.returns-clause-lines
returns-clause-lines c = λ d fit.
    lines_still d c.args.lines.now c.end_line-told.new.lines c.end_line-told.ensures.counts c.end_line-told.ensures.keeps.boots fit

pub returns-clause-blocks : goal.returns-clause-blocks
returns-clause-blocks c = λ pipes fit.
    lines_fit c.args.pool.now c.end_line-told.new.pool pipes c.args.lines.now c.end_line-told.new.lines fit c.end_line-told.ensures.keeps

pub returns-clause-revokes : goal.returns-clause-revokes
returns-clause-revokes c = λ most.
    end_revokes most c.args.pool.now c.end_line-told.new.pool c.args.lines.now c.end_line-told.new.lines c.args.line c.end_line-told.ensures.devices
    c.end_line-told.ensures.counts
