use Rattle.std.proofs.Common.{◌≡◌, ℕ, List, ◌-◌, ◌++◌, zero, sym, ap, ◌∙◌, arith, append-nil}
use Rattle.line_disc.specs.Places.{places_in, walk}
use Rattle.line_disc.proofs.LineLemmas.{walk_zero}
use Rattle.line_disc.proofs.input.Input.read.Goals as goal

pub returns-clause-front : goal.returns-clause-front
returns-clause-front c =
    let through : c.args.max - c.loop-place._place ≡ zero = omega arith in
    let nothing = ap (λ (n : ℕ). (walk n (places_in c.args.pool.now c.loop-place.self)).0) through ∙ walk_zero _ in
    c.piece_of-2.ensures ∙ sym (append-nil c.loop-place.bytes.items) ∙ ap (λ (xs : List ℕ). c.loop-place.bytes.items ++ xs) (sym nothing)
    ∙ c.loop-place.invariant.front

pub returns-clause-rest : goal.returns-clause-rest
returns-clause-rest c =
    let through : c.args.max - c.loop-place._place ≡ zero = omega arith in
    c.pop_mark.ensures.rest ∙ sym (ap (λ (n : ℕ). (walk n (places_in c.args.pool.now c.loop-place.self)).1) through) ∙ c.loop-place.invariant.rest
