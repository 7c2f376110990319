use Rattle.std.proofs.Common.{◌≡◌, ℕ, min, ap, ◌∙◌}
use Rattle.line_disc.proofs.InputLemmas.{input_state, PopsFront, whole-pop, places_in-pop, none_in-pop, has_none-input_of}
use Rattle.line_disc.proofs.input.Input.pop.Goals as goal

pub invariant_of-self : goal.invariant_of-self
invariant_of-self c =
    let pops : PopsFront c.args.pool.now (input_state c.self.inside.chain c.self.inside.kinds)
    (input_state c.pop_front-byte.new.self c.pop_front-kind.new.self) c.pop_front-kind.result c.pop_front-byte.result = record {
      kinds = c.pop_front-kind.ensures.kinds;
      no_kind = c.pop_front-kind.ensures.none;
      held = c.pop_front-byte.ensures.bytes;
      count = c.pop_front-byte.ensures.count;
      blocks = c.pop_front-byte.ensures.blocks;
    } in
    let counted : c.min-self-inside.result ≡ min c.self.inside.current c.pop_front-byte.new.self.count =
    c.min-self-inside.ensures ∙ ap (λ (n : ℕ). min c.self.inside.current n) c.len.ensures.count in
    rw counted
    (whole-pop c.args.pool.now (input_state c.self.inside.chain c.self.inside.kinds)
    (input_state c.pop_front-byte.new.self c.pop_front-kind.new.self) c.pop_front-kind.result c.pop_front-byte.result
    c.self.inside.current c.self.invariant pops c.pop_front-byte.ensures.none)

pub returns-clause-places : goal.returns-clause-places
returns-clause-places c =
    let pops : PopsFront c.args.pool.now (input_state c.self.inside.chain c.self.inside.kinds)
    (input_state c.pop_front-byte.new.self c.pop_front-kind.new.self) c.pop_front-kind.result c.pop_front-byte.result = record {
      kinds = c.pop_front-kind.ensures.kinds;
      no_kind = c.pop_front-kind.ensures.none;
      held = c.pop_front-byte.ensures.bytes;
      count = c.pop_front-byte.ensures.count;
      blocks = c.pop_front-byte.ensures.blocks;
    } in
    rw (← c.self.view_is, c.zip.ensures)
    (places_in-pop c.args.pool.now (input_state c.self.inside.chain c.self.inside.kinds)
    (input_state c.pop_front-byte.new.self c.pop_front-kind.new.self) c.pop_front-kind.result c.pop_front-byte.result c.self.invariant.count
    pops c.pop_front-byte.ensures.none)

pub returns-clause-none : goal.returns-clause-none
returns-clause-none c =
    let pops : PopsFront c.args.pool.now (input_state c.self.inside.chain c.self.inside.kinds)
    (input_state c.pop_front-byte.new.self c.pop_front-kind.new.self) c.pop_front-kind.result c.pop_front-byte.result = record {
      kinds = c.pop_front-kind.ensures.kinds;
      no_kind = c.pop_front-kind.ensures.none;
      held = c.pop_front-byte.ensures.bytes;
      count = c.pop_front-byte.ensures.count;
      blocks = c.pop_front-byte.ensures.blocks;
    } in
    rw (← c.self.view_is, c.zip.ensures)
    (none_in-pop c.args.pool.now (input_state c.self.inside.chain c.self.inside.kinds)
    (input_state c.pop_front-byte.new.self c.pop_front-kind.new.self) c.pop_front-kind.result c.pop_front-byte.result c.self.invariant.count
    pops c.pop_front-byte.ensures.none)

pub returns-clause-seen : goal.returns-clause-seen
returns-clause-seen c =
    let whole = invariant_of-self c in
    has_none-input_of c.args.pool.now (input_state c.pop_front-byte.new.self c.pop_front-kind.new.self) whole.count
