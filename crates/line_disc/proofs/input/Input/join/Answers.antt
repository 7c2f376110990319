use Rattle.std.proofs.Common.{◌≡◌, ℕ, ◌-◌, zero, length, sym, ap, ◌∙◌, refl, arith}
use Rattle.block_pool.proofs.BlockLemmas.{writes_none}
use Rattle.line_disc.specs.Discipline.{Input}
use Rattle.line_disc.specs.Transfers.{has_none}
use Rattle.line_disc.specs.Places.{InputState, places_in}
use Rattle.line_disc.proofs.LineLemmas.{turned_round}
use Rattle.line_disc.proofs.InputLemmas.{input_state, length-places_in, has_none-input_of, joins}
use Rattle.line_disc.proofs.input.Input.join.Goals as goal

pub loop-place-init : goal.loop-place-init
loop-place-init c =
    let many = ap (λ (s : InputState). length s.kinds) c.self.view_is in
    record {
      turned = ap (λ (n : ℕ). turned_round n (places_in c.args.pool.now c.args.self.now)) (omega arith);
      seen =
          rw (← c.self.view_is) (has_none-input_of c.args.pool.now (input_state c.self.inside.chain c.self.inside.kinds) c.self.invariant.count);
      most = omega (arith, many, c.self.invariant.most);
      blocks = refl;
      writes = writes_none _ _;
      of_pool = c.requires;
    }

pub returns-clause-current : goal.returns-clause-current
returns-clause-current c =
    let through : c.len-place-end.result - c.loop-place._place ≡ zero = omega arith in
    let turned = sym (ap (λ (n : ℕ). turned_round n (places_in c.loop-place.pool c.loop-place.self)) through) ∙ c.loop-place.invariant.turned in
    let all : c.len-place-end.result ≡ length (places_in c.args.pool.now c.args.self.now) =
    rw (← c.self.view_is)
    (c.len-place-end.ensures.count ∙ c.self.invariant.count
    ∙ sym (length-places_in c.args.pool.now (input_state c.self.inside.chain c.self.inside.kinds) c.self.invariant.count)) in
    ap (λ (i : Input ℕ). i.current) (joins c.args.pool.now c.loop-place.pool c.args.self.now c.loop-place.self c.len-place-end.result all turned)

pub returns-clause-ready : goal.returns-clause-ready
returns-clause-ready c =
    let through : c.len-place-end.result - c.loop-place._place ≡ zero = omega arith in
    let turned = sym (ap (λ (n : ℕ). turned_round n (places_in c.loop-place.pool c.loop-place.self)) through) ∙ c.loop-place.invariant.turned in
    let all : c.len-place-end.result ≡ length (places_in c.args.pool.now c.args.self.now) =
    rw (← c.self.view_is)
    (c.len-place-end.ensures.count ∙ c.self.invariant.count
    ∙ sym (length-places_in c.args.pool.now (input_state c.self.inside.chain c.self.inside.kinds) c.self.invariant.count)) in
    ap (λ (i : Input ℕ). i.ready) (joins c.args.pool.now c.loop-place.pool c.args.self.now c.loop-place.self c.len-place-end.result all turned)

pub returns-clause-kinds : goal.returns-clause-kinds
returns-clause-kinds c = sym c.loop-place.invariant.seen ∙ ap (λ xs. has_none xs) (returns-clause-ready c)
