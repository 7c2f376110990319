use Rattle.std.proofs.Common.{◌≡◌, ℕ, ◌++◌, [], Option, refl, sym, ap, ◌∙◌, subst}
use Rattle.std.specs.Prelude.{option_to_list}
use Rattle.line_disc.specs.Echo.{erase_echo}
use Rattle.line_disc.specs.Discipline.{Input, bytes}
use Rattle.line_disc.specs.Cook.{erase}
use Rattle.line_disc.specs.Places.{input_of}
use Rattle.line_disc.specs.Disc.{DiscState, discipline_of}
use Rattle.line_disc.proofs.DiscLemmas as lemmas
use Rattle.line_disc.proofs.disc.Disc.erase.Goals as goal

pub returns-in_default-clause-line : goal.returns-in_default-clause-line
returns-in_default-clause-line c =
    let none : (input_of c.args.pool.now c.self.inside.input).current ≡ [] = c.pop_current.ensures.none.0 c.in_default.is in
    let was =
    c.pop_current.ensures.current ∙ ap (λ (o : Option ℕ). (input_of c.args.pool.now c.pop_current.new.self).current ++ option_to_list o) c.in_default.is in
    let same = lemmas.same_input (input_of c.args.pool.now c.pop_current.new.self) _ _ c.pop_current.ensures.ready
    (lemmas.nothing_more (input_of c.args.pool.now c.pop_current.new.self).current (input_of c.args.pool.now c.self.inside.input).current was) in
    let Lines : DiscState → Type 0 =
    λ s. discipline_of c.args.pool.now
    (lemmas.disc_state c.self.inside.termios c.pop_current.new.self c.self.inside.output c.self.inside.stopped)
    ≡ erase bytes (discipline_of c.args.pool.now s) c.args.byte in
    subst Lines c.self.view_is
    (ap (λ (i : Input ℕ). record (discipline_of c.args.pool.now
    (lemmas.disc_state c.self.inside.termios c.self.inside.input c.self.inside.output c.self.inside.stopped)) { input = i }) same
    ∙ lemmas.erases_nothing
    (discipline_of c.args.pool.now
    (lemmas.disc_state c.self.inside.termios c.self.inside.input c.self.inside.output c.self.inside.stopped))
    c.args.byte none)

pub returns-clause-line : goal.returns-clause-line
returns-clause-line c =
    let Popped : DiscState
    → Type 0 = λ s. discipline_of c.args.pool.now
    (lemmas.disc_state c.self.inside.termios c.pop_current.new.self c.self.inside.output c.self.inside.stopped)
    ≡ record (discipline_of c.args.pool.now s) {
      input = record { ready = (input_of c.args.pool.now s.input).ready; current = (input_of c.args.pool.now c.pop_current.new.self).current };
    } in
    let popped = subst Popped c.self.view_is
    (ap
    (λ (i : Input ℕ). record
    (discipline_of c.args.pool.now (lemmas.disc_state c.self.inside.termios c.self.inside.input c.self.inside.output c.self.inside.stopped))
    { input = i })
    (lemmas.same_input (input_of c.args.pool.now c.pop_current.new.self) _ _ c.pop_current.ensures.ready refl)) in
    let current = sym (ap (λ (s : DiscState). (input_of c.args.pool.now s.input).current) c.self.view_is) ∙ c.in-Some.ensures.current in
    lemmas.erases (discipline_of c.args.pool.now c.args.self.now)
    (discipline_of c.args.pool.now
    (lemmas.disc_state c.self.inside.termios c.pop_current.new.self c.self.inside.output c.self.inside.stopped))
    _ c.args.byte c.in-Some.removed
    (input_of c.args.pool.now c.pop_current.new.self).current c.erase_echo-echoed.result.items current
    (c.erase_echo-echoed.ensures ∙ ap (λ (s : DiscState). erase_echo s.termios c.args.byte c.in-Some.removed) c.self.view_is) popped c.put_echo.ensures.line
