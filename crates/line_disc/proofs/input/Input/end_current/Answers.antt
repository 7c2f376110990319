use Rattle.std.proofs.Common.{◌≡◌, [], ◌++◌, true, refl, sym, ap, ◌∙◌, append-nil, Option}
use Rattle.std.specs.Prelude.{option_to_list}
use Rattle.line_disc.specs.declared.place.PlaceKind.{PlaceKind}
use Rattle.line_disc.specs.Places.{InputState, all_bytes}
use Rattle.line_disc.proofs.InputLemmas.{input_state, ends_current, ends_none, whole-ended}
use Rattle.line_disc.proofs.input.Input.end_current.Goals as goal

pub returns-in_default-clause-ready : goal.returns-in_default-clause-ready
returns-in_default-clause-ready c = λ pool.
    let none : c.self.inside.kinds ≡ [] = c.pop_back.ensures.none.0 c.in_default.is in
    let left : c.pop_back.new.self ≡ [] =
    sym (append-nil c.pop_back.new.self) ∙ ap (λ (o : Option PlaceKind). c.pop_back.new.self ++ option_to_list o) (sym c.in_default.is)
    ∙ sym c.pop_back.ensures.kinds ∙ none in
    rw (← c.self.view_is)
    ((ends_none pool (input_state c.self.inside.chain c.self.inside.kinds) (input_state c.self.inside.chain c.pop_back.new.self) none left).ready)

pub returns-in_default-clause-current : goal.returns-in_default-clause-current
returns-in_default-clause-current c = λ pool.
    let none : c.self.inside.kinds ≡ [] = c.pop_back.ensures.none.0 c.in_default.is in
    let left : c.pop_back.new.self ≡ [] =
    sym (append-nil c.pop_back.new.self) ∙ ap (λ (o : Option PlaceKind). c.pop_back.new.self ++ option_to_list o) (sym c.in_default.is)
    ∙ sym c.pop_back.ensures.kinds ∙ none in
    (ends_none pool (input_state c.self.inside.chain c.self.inside.kinds) (input_state c.self.inside.chain c.pop_back.new.self) none left).current

pub invariant_of-self-2 : goal.invariant_of-self-2
invariant_of-self-2 c =
    whole-ended (input_state c.self.inside.chain c.self.inside.kinds) (input_state c.self.inside.chain c.push_back.new.self)
    c.pop_back.new.self c.in-Some._last c.self.inside.current
    c.self.invariant c.in-Some.ensures.kinds c.push_back.ensures refl

pub returns-clause-ready : goal.returns-clause-ready
returns-clause-ready c = λ pool.
    let all : all_bytes c.self.inside.kinds ≡ true = ap (λ (s : InputState). all_bytes s.kinds) c.self.view_is ∙ c.requires in
    rw (← c.self.view_is)
    ((ends_current pool (input_state c.self.inside.chain c.self.inside.kinds) (input_state c.self.inside.chain c.push_back.new.self) c.pop_back.new.self
    c.in-Some._last
    c.self.invariant.count all c.in-Some.ensures.kinds c.push_back.ensures refl).ready)

pub returns-clause-current : goal.returns-clause-current
returns-clause-current c = λ pool.
    let all : all_bytes c.self.inside.kinds ≡ true = ap (λ (s : InputState). all_bytes s.kinds) c.self.view_is ∙ c.requires in
    (ends_current pool (input_state c.self.inside.chain c.self.inside.kinds) (input_state c.self.inside.chain c.push_back.new.self) c.pop_back.new.self
    c.in-Some._last
    c.self.invariant.count all c.in-Some.ensures.kinds c.push_back.ensures refl).current
