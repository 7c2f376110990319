use Rattle.std.proofs.Common.{◌<◌, sym, ◌∙◌, refl, arith}
use Rattle.line_disc.proofs.InputLemmas.{input_state, PopsBack, takes_last, length-current_of, none_of_length, none_of_some}
use Rattle.line_disc.proofs.input.Input.pop_current.Goals as goal

pub returns-then-self-eq0-clause-none : goal.returns-then-self-eq0-clause-none
returns-then-self-eq0-clause-none c =
    let none =
    length-current_of c.args.pool.now (input_state c.self.inside.chain c.self.inside.kinds) c.self.invariant.count
    ∙ sym c.self.invariant.current ∙ c.if-self-eq0.true in
    (λ _. rw (← c.self.view_is) (none_of_length _ none), λ _. refl)

pub invariant_of-self : goal.invariant_of-self
invariant_of-self c =
    let pops : PopsBack c.args.pool.now (input_state c.self.inside.chain c.self.inside.kinds)
    (input_state c.pop_back-2.new.self c.pop_back.new.self) c.pop_back.result c.pop_back-2.result = record {
      kinds = c.pop_back.ensures.kinds;
      no_kind = c.pop_back.ensures.none;
      held = c.pop_back-2.ensures.bytes;
      no_byte = c.pop_back-2.ensures.none;
      count = c.pop_back-2.ensures.count;
      blocks = c.pop_back-2.ensures.blocks;
    } in
    let some : 0 < c.self.inside.current = omega arith in
    (takes_last c.args.pool.now (input_state c.self.inside.chain c.self.inside.kinds) (input_state c.pop_back-2.new.self c.pop_back.new.self)
    c.pop_back.result c.pop_back-2.result
    c.self.inside.current c.self.invariant some pops).whole

pub returns-clause-ready : goal.returns-clause-ready
returns-clause-ready c =
    let pops : PopsBack c.args.pool.now (input_state c.self.inside.chain c.self.inside.kinds)
    (input_state c.pop_back-2.new.self c.pop_back.new.self) c.pop_back.result c.pop_back-2.result = record {
      kinds = c.pop_back.ensures.kinds;
      no_kind = c.pop_back.ensures.none;
      held = c.pop_back-2.ensures.bytes;
      no_byte = c.pop_back-2.ensures.none;
      count = c.pop_back-2.ensures.count;
      blocks = c.pop_back-2.ensures.blocks;
    } in
    let some : 0 < c.self.inside.current = omega arith in
    rw (← c.self.view_is)
    ((takes_last c.args.pool.now (input_state c.self.inside.chain c.self.inside.kinds) (input_state c.pop_back-2.new.self c.pop_back.new.self)
    c.pop_back.result c.pop_back-2.result
    c.self.inside.current c.self.invariant some pops).ready)

pub returns-clause-current : goal.returns-clause-current
returns-clause-current c =
    let pops : PopsBack c.args.pool.now (input_state c.self.inside.chain c.self.inside.kinds)
    (input_state c.pop_back-2.new.self c.pop_back.new.self) c.pop_back.result c.pop_back-2.result = record {
      kinds = c.pop_back.ensures.kinds;
      no_kind = c.pop_back.ensures.none;
      held = c.pop_back-2.ensures.bytes;
      no_byte = c.pop_back-2.ensures.none;
      count = c.pop_back-2.ensures.count;
      blocks = c.pop_back-2.ensures.blocks;
    } in
    let some : 0 < c.self.inside.current = omega arith in
    rw (← c.self.view_is)
    ((takes_last c.args.pool.now (input_state c.self.inside.chain c.self.inside.kinds) (input_state c.pop_back-2.new.self c.pop_back.new.self)
    c.pop_back.result c.pop_back-2.result
    c.self.inside.current c.self.invariant some pops).current)

pub returns-clause-kinds : goal.returns-clause-kinds
returns-clause-kinds c =
    let pops : PopsBack c.args.pool.now (input_state c.self.inside.chain c.self.inside.kinds)
    (input_state c.pop_back-2.new.self c.pop_back.new.self) c.pop_back.result c.pop_back-2.result = record {
      kinds = c.pop_back.ensures.kinds;
      no_kind = c.pop_back.ensures.none;
      held = c.pop_back-2.ensures.bytes;
      no_byte = c.pop_back-2.ensures.none;
      count = c.pop_back-2.ensures.count;
      blocks = c.pop_back-2.ensures.blocks;
    } in
    let some : 0 < c.self.inside.current = omega arith in
    rw (← c.self.view_is)
    ((takes_last c.args.pool.now (input_state c.self.inside.chain c.self.inside.kinds) (input_state c.pop_back-2.new.self c.pop_back.new.self)
    c.pop_back.result c.pop_back-2.result
    c.self.inside.current c.self.invariant some pops).bytes)

pub returns-clause-none : goal.returns-clause-none
returns-clause-none c =
    let pops : PopsBack c.args.pool.now (input_state c.self.inside.chain c.self.inside.kinds)
    (input_state c.pop_back-2.new.self c.pop_back.new.self) c.pop_back.result c.pop_back-2.result = record {
      kinds = c.pop_back.ensures.kinds;
      no_kind = c.pop_back.ensures.none;
      held = c.pop_back-2.ensures.bytes;
      no_byte = c.pop_back-2.ensures.none;
      count = c.pop_back-2.ensures.count;
      blocks = c.pop_back-2.ensures.blocks;
    } in
    let some : 0 < c.self.inside.current = omega arith in
    let taken = takes_last c.args.pool.now (input_state c.self.inside.chain c.self.inside.kinds)
    (input_state c.pop_back-2.new.self c.pop_back.new.self) c.pop_back.result c.pop_back-2.result
    c.self.inside.current c.self.invariant some pops in
    rw (← c.self.view_is) (none_of_some _ c.pop_back-2.result _ taken.some taken.current)
