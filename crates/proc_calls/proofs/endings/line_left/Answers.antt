use Rattle.std.proofs.Common.{◌≡◌, true, sym, ap, ◌∙◌, arith, subst}
use Rattle.std.specs.Prelude.{◌==◌, is_some}
use Rattle.std.proofs.lemmas.Bool.Decides.{nat_tests}
use Rattle.line_disc.specs.Lines.{line_at}
use Rattle.tty_dev.specs.Table.{devices}
use Rattle.proc_table.specs.Procs.{process_of}
use Rattle.system_model.specs.Tables.{seen_process}
use Rattle.proc_calls.specs.Ends.{HasSession}
use Rattle.proc_calls.proofs.Leaving.{session_there, left_as, first_same}
use Rattle.proc_calls.proofs.endings.line_left.Goals as goal

pub returns-in-Some-clause-left : goal.returns-in-Some-clause-left
returns-in-Some-clause-left c = λ t lines.
    (let leads : (c.args.who.now.pid == c.args.who.now.session) ≡ true = (let is = c.if-who.false in grind (arith, nat_tests)) in
    left_as t (seen_process t.nodes (process_of c.args.who.now)) c.in-Some.line c.foreground_at.result leads
    (sym (c.line_of_session.ensures.line t lines) ∙ c.in-Some.is)
    (c.foreground_at.ensures t.pool ∙ ap (λ ls. (line_at (devices t.pool ls) c.in-Some.line).foreground) (sym lines)))

pub returns-in-Some-clause-session : goal.returns-in-Some-clause-session
returns-in-Some-clause-session c = λ t n group lines is.
    subst (HasSession t.pool c.args.lines.now) (first_same c.in-Some.line n c.foreground_at.result group is) (record {
      below = c.in-Some.ensures.below;
      session = ap (λ ls. is_some (line_at (devices t.pool ls) c.in-Some.line).session) (sym lines)
          ∙ session_there t c.args.who.now.session c.in-Some.line (sym (c.line_of_session.ensures.line t lines) ∙ c.in-Some.is);
    })
