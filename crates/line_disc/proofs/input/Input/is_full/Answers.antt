use Rattle.std.proofs.Common.{◌≡◌, ℕ, length, sym, ap, ◌∙◌, rules}
use Rattle.std.specs.Prelude.{nat_eq, nat_le}
use Rattle.line_disc.specs.Places.{InputState}
use Rattle.line_disc.proofs.InputLemmas.{input_state, places-input_of}
use Rattle.line_disc.proofs.input.Input.is_full.Goals as goal

pub returns-clause-places : goal.returns-clause-places
returns-clause-places c = λ pool.
    let seen : nat_eq c.room.result 0 ≡ nat_le 1024 (length c.args.self.now.kinds) = search rules in
    rw (← c.self.view_is) (seen ∙ sym (ap (λ (s : InputState). nat_le 1024 (length s.kinds)) c.self.view_is)
    ∙ sym (ap (λ (n : ℕ). nat_le 1024 n) (places-input_of pool (input_state c.self.inside.chain c.self.inside.kinds) c.self.invariant.count)))
