use Rattle.std.proofs.Common.{ℕ, not, sym, ap, ap₂, ◌∙◌}
use Rattle.std.specs.Prelude.{nat_lt}
use Rattle.line_disc.specs.Places.{InputState, all_bytes}
use Rattle.line_disc.proofs.InputLemmas.{input_state, has_line_where, has_none-input_of}
use Rattle.line_disc.proofs.input.Input.has_line.Goals as goal

pub returns-clause-kinds : goal.returns-clause-kinds
returns-clause-kinds c =
    ap₂ (λ (n m : ℕ). nat_lt n m) c.self.invariant.current (c.len.ensures.count ∙ c.self.invariant.count) ∙ has_line_where c.self.inside.kinds
    ∙ ap (λ (s : InputState). not (all_bytes s.kinds)) c.self.view_is

pub returns-clause-lines : goal.returns-clause-lines
returns-clause-lines c = λ pool.
    let seen = returns-clause-kinds c in
    let lines = has_none-input_of pool (input_state c.self.inside.chain c.self.inside.kinds) c.self.invariant.count in
    rw (← c.self.view_is) (seen ∙ sym (ap (λ (s : InputState). not (all_bytes s.kinds)) c.self.view_is) ∙ sym (ap not lines))
