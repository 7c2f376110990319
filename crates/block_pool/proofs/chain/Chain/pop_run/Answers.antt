use Rattle.std.proofs.Common.{◌≡◌, ℕ, ◌+◌, ◌-◌, ◌*◌, ◌%◌, ◌<◌, ◌≤◌, List, ◌++◌, length, take, drop, refl, sym, ap, ◌∙◌, arith, length-take-le}
use Rattle.std.proofs.lemmas.List.{take-take}
use Rattle.block_pool.specs.Pool.{bytes_in}
use Rattle.block_pool.specs.Chain.{ChainState, holds}
use Rattle.block_pool.proofs.CircleLemmas.{holds_pop_run, holds-none, length-holds}
use Rattle.block_pool.proofs.chain.Chain.pop_run.Goals as goal

pub returns-then-self-eq0-clause-none : goal.returns-then-self-eq0-clause-none
returns-then-self-eq0-clause-none c =
    let none : c.args.self.now.count ≡ 0 = sym (ap (λ chain. chain.count) c.self.view_is) ∙ c.if-self-eq0.true in
    (λ _. holds-none c.args.pool.now c.args.self.now none, λ _. refl)

pub returns-clause-bytes : goal.returns-clause-bytes
returns-clause-bytes c =
    let bytes : 128 * length c.self.inside.lease ≡ c.bytes_of-places.result = sym c.bytes_of-places.ensures.bytes in
    let n : ℕ = c.min-taken.result in
    let place : ℕ = c.self.inside.first % c.bytes_of-places.result in
    let some : 0 < c.bytes_of-places.result = omega (arith, c.self.invariant, bytes, c.if-self-eq0.false) in
    let enough : n ≤ c.self.inside.count = omega (arith, c.min-taken.ensures, c.min.ensures, c.from.ensures) in
    let short : n ≤ length c.run_from-run.result.now = omega (arith, c.min-taken.ensures, c.min.ensures) in
    let inside : place < c.bytes_of-places.result = omega (arith, some) in
    let fits : place + n ≤ c.bytes_of-places.result = omega (arith, inside, bytes, short, c.run_from-run.ensures.len) in
    let run : take n c.run_from-run.result.now ≡ take n (drop place (bytes_in c.args.pool.now c.self.inside.lease)) =
    ap (take n) c.run_from-run.ensures.run ∙ take-take n (length c.run_from-run.result.now) (drop place (bytes_in c.args.pool.now c.self.inside.lease)) short in
    let left : ChainState =
    record { blocks = c.self.inside.lease; first = (c.self.inside.first + n) % c.bytes_of-places.result; count = c.self.inside.count - n } in
    ap (holds c.args.pool.now) (sym c.self.view_is)
    ∙ holds_pop_run c.args.pool.now c.self.inside.lease c.self.inside.first c.self.inside.count c.bytes_of-places.result n bytes some
    (c.run_from-run.ensures.bytes ∙ bytes) enough fits
    ∙ ap (λ (xs : List ℕ). xs ++ holds c.args.pool.now left) (sym run)

pub returns-clause-none : goal.returns-clause-none
returns-clause-none c =
    let long : length (take c.min-taken.result c.run_from-run.result.now) ≡ c.min-taken.result =
    length-take-le c.min-taken.result c.run_from-run.result.now (omega (arith, c.min-taken.ensures, c.min.ensures)) in
    let some : 0 < c.min-taken.result =
    omega (arith, c.min-taken.ensures, c.min.ensures, c.from.ensures, c.run_from-run.ensures.len, c.if-self-eq0.false, c.requires.some) in (
      λ e. absurd (omega (arith, long, some, ap length e)),
      λ e.
          let count : c.self.inside.count ≡ 0 =
          ap (λ chain. chain.count) c.self.view_is ∙ sym (length-holds c.args.pool.now c.args.self.now) ∙ ap length e in
          absurd (c.if-self-eq0.false count),
    )
