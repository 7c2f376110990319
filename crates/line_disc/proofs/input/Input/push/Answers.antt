use Rattle.std.proofs.Common.{◌<◌, ◌++◌, ◌∷◌, [], length, ap, ◌∙◌, arith}
use Rattle.line_disc.specs.Places.{InputState, places_in}
use Rattle.line_disc.proofs.LineLemmas.{current_places-le}
use Rattle.line_disc.proofs.InputLemmas.{input_state, places_in-push, input_of-push, whole-push, has_none-input_of}
use Rattle.line_disc.proofs.input.Input.push.Goals as goal

pub current_behind-self-inside-requires : goal.current_behind-self-inside-requires
current_behind-self-inside-requires c =
    let seen = ap (λ (s : InputState). length s.kinds) c.self.view_is in
    omega (arith, seen, c.self.invariant.current, current_places-le c.self.inside.kinds)

pub invariant_of-self : goal.invariant_of-self
invariant_of-self c =
    let seen = ap (λ (s : InputState). length s.kinds) c.self.view_is in
    let room : length c.self.inside.kinds < 1024 = omega (arith, seen) in
    rw c.current_behind-self-inside.ensures
    (whole-push (input_state c.self.inside.chain c.self.inside.kinds) (input_state c.push_back.new.self c.push_back-2.new.self) c.args.kind
    c.self.inside.current c.self.invariant room
    c.push_back.ensures.blocks c.push_back.ensures.count c.push_back-2.ensures)

pub returns-clause-places : goal.returns-clause-places
returns-clause-places c =
    places_in-push c.args.pool.now c.push_back.new.pool (input_state c.self.inside.chain c.self.inside.kinds)
    (input_state c.push_back.new.self c.push_back-2.new.self) c.args.kind c.args.byte
    c.self.invariant.count c.push_back-2.ensures c.push_back.ensures.bytes
    ∙ ap (λ (s : InputState). places_in c.args.pool.now s ++ (c.args.kind, c.args.byte) ∷ []) c.self.view_is

pub returns-clause-lines : goal.returns-clause-lines
returns-clause-lines c =
    input_of-push c.args.pool.now c.push_back.new.pool c.args.self.now (input_state c.push_back.new.self c.push_back-2.new.self) c.args.kind
    c.args.byte (returns-clause-places c)

pub returns-clause-seen : goal.returns-clause-seen
returns-clause-seen c =
    let whole = invariant_of-self c in
    has_none-input_of c.push_back.new.pool (input_state c.push_back.new.self c.push_back-2.new.self) whole.count
