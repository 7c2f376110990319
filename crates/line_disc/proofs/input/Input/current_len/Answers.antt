use Rattle.std.proofs.Common.{sym, ◌∙◌}
use Rattle.line_disc.proofs.InputLemmas.{input_state, length-current_of, has_none-input_of}
use Rattle.line_disc.proofs.input.Input.current_len.Goals as goal

pub returns-clause-len : goal.returns-clause-len
returns-clause-len c = λ pool.
    rw (← c.self.view_is)
    (c.self.invariant.current ∙ sym (length-current_of pool (input_state c.self.inside.chain c.self.inside.kinds) c.self.invariant.count))

pub returns-clause-seen : goal.returns-clause-seen
returns-clause-seen c =
    λ pool. rw (← c.self.view_is) (has_none-input_of pool (input_state c.self.inside.chain c.self.inside.kinds) c.self.invariant.count)
