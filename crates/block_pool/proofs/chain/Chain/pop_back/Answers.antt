use Rattle.std.proofs.Common.{◌≡◌, ℕ, ◌-◌, ◌*◌, ◌<◌, length, [], ◌∷◌, ◌++◌, refl, sym, ap, ◌∙◌, arith}
use Rattle.block_pool.specs.Chain.{ChainState, holds}
use Rattle.block_pool.proofs.CircleLemmas.{holds_back, holds-none, length-holds}
use Rattle.block_pool.proofs.chain.Chain.pop_back.Goals as goal

pub returns-then-self-eq0-clause-none : goal.returns-then-self-eq0-clause-none
returns-then-self-eq0-clause-none c =
    let none : c.args.self.now.count ≡ 0 = sym (ap (λ chain. chain.count) c.self.view_is) ∙ c.if-self-eq0.true in
    (λ _. holds-none c.args.pool.now c.args.self.now none, λ _. refl)

pub returns-clause-bytes : goal.returns-clause-bytes
returns-clause-bytes c =
    let bytes : 128 * length c.self.inside.lease ≡ c.bytes_of-bytes.result = sym c.bytes_of-bytes.ensures.bytes in
    let some : 0 < c.self.inside.count = omega arith in
    let left : ChainState = record { blocks = c.self.inside.lease; first = c.self.inside.first; count = c.self.inside.count - 1 } in
    ap (holds c.args.pool.now) (sym c.self.view_is)
    ∙ holds_back c.args.pool.now c.self.inside.lease c.self.inside.first c.self.inside.count c.bytes_of-bytes.result bytes some
    ∙ ap (λ (byte : ℕ). holds c.args.pool.now left ++ byte ∷ []) (sym c.byte.ensures)

pub returns-clause-none : goal.returns-clause-none
returns-clause-none c = (
  λ e. cc,
  λ e.
      let count : c.self.inside.count ≡ 0 =
      ap (λ chain. chain.count) c.self.view_is ∙ sym (length-holds c.args.pool.now c.args.self.now) ∙ ap length e in
      absurd (c.if-self-eq0.false count),
)
