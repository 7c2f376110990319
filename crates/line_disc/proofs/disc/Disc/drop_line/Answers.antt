use Rattle.std.proofs.Common.{◌≡◌, ℕ, [], ap, ◌∙◌, subst}
use Rattle.line_disc.specs.Echo.{drop_line_echo}
use Rattle.line_disc.specs.Discipline.{Input}
use Rattle.line_disc.specs.Places.{input_of}
use Rattle.line_disc.specs.Disc.{DiscState, discipline_of}
use Rattle.line_disc.proofs.DiscLemmas as lemmas
use Rattle.line_disc.proofs.disc.Disc.drop_line.Goals as goal

pub returns-clause-line : goal.returns-clause-line
returns-clause-line c =
    let Cleared : DiscState
    → Type 0 = λ s. discipline_of c.args.pool.now
    (lemmas.disc_state c.self.inside.termios c.clear_current.new.self c.self.inside.output c.self.inside.stopped)
    ≡ record (discipline_of c.args.pool.now s) {
      input = record { ready = (input_of c.args.pool.now s.input).ready; current = [] };
    } in
    let cleared = subst Cleared c.self.view_is
    (ap
    (λ (i : Input ℕ). record
    (discipline_of c.args.pool.now (lemmas.disc_state c.self.inside.termios c.self.inside.input c.self.inside.output c.self.inside.stopped))
    { input = i })
    (lemmas.same_input (input_of c.args.pool.now c.clear_current.new.self) _ _ c.clear_current.ensures.ready c.clear_current.ensures.current)) in
    lemmas.drops_line (discipline_of c.args.pool.now c.args.self.now)
    (discipline_of c.args.pool.now
    (lemmas.disc_state c.self.inside.termios c.clear_current.new.self c.self.inside.output c.self.inside.stopped))
    _ c.args.byte c.drop_line_echo-echoed.result.items
    (c.drop_line_echo-echoed.ensures ∙ ap (λ (s : DiscState). drop_line_echo s.termios c.args.byte) c.self.view_is) cleared c.put_echo.ensures.line
