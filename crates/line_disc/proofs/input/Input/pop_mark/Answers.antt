use Rattle.std.proofs.Common.{◌≡◌, length, true, false, sym, ap, ◌∙◌}
use Rattle.line_disc.specs.Places.{InputState, begins_with_mark}
use Rattle.line_disc.proofs.InputLemmas.{input_state, no_mark_in_front, mark_in_front, has_none-input_of}
use Rattle.line_disc.proofs.input.Input.pop_mark.Goals as goal

pub returns-then-not-begins_with_mark-clause-rest : goal.returns-then-not-begins_with_mark-clause-rest
returns-then-not-begins_with_mark-clause-rest c =
    let none : begins_with_mark c.self.inside.kinds ≡ false = cc in
    rw (← c.self.view_is) (no_mark_in_front c.args.pool.now (input_state c.self.inside.chain c.self.inside.kinds) c.self.invariant.count none)

pub returns-then-not-begins_with_mark-clause-seen : goal.returns-then-not-begins_with_mark-clause-seen
returns-then-not-begins_with_mark-clause-seen c =
    rw (← c.self.view_is) (has_none-input_of c.args.pool.now (input_state c.self.inside.chain c.self.inside.kinds) c.self.invariant.count)

pub returns-clause-rest : goal.returns-clause-rest
returns-clause-rest c =
    let mark : begins_with_mark c.self.inside.kinds ≡ true = cc in
    let seen = ap (λ (s : InputState). begins_with_mark s.kinds) c.self.view_is in
    let many : c.args.self.now.chain.count ≡ length c.args.self.now.kinds =
    sym (ap (λ (s : InputState). s.chain.count) c.self.view_is) ∙ c.self.invariant.count ∙ ap (λ (s : InputState). length s.kinds) c.self.view_is in
    mark_in_front c.args.pool.now c.args.self.now c.pop.new.self c.pop.result many (sym seen ∙ mark) c.pop.ensures.places c.pop.ensures.none
