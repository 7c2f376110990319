use Rattle.std.proofs.Common.{◌≡◌, ℕ, ◌-◌, ◌≤◌, List, ◌++◌, length, take, drop, sym, ap, ◌∙◌, arith, append_assoc, length-drop, length-take-le}
use Rattle.std.proofs.Math.Seq.{take-add}
use Rattle.std.proofs.lemmas.List.{take-take}
use Rattle.block_pool.specs.Pool.{WritesTo}
use Rattle.block_pool.specs.Chain.{holds}
use Rattle.block_pool.proofs.BlockLemmas.{writes_in_turn}
use Rattle.block_pool.proofs.LeaseLemmas.{leased_written}
use Rattle.block_pool.proofs.CircleLemmas.{holds_apart}
use Rattle.block_pool.proofs.chain.Chain.push_all.Goals as goal

pub loop-done-preserved : goal.loop-done-preserved
loop-done-preserved c =
    let left : ℕ = length c.args.bytes.now - c.loop-done.done in
    let rest : List ℕ = drop c.loop-done.done c.args.bytes.now in
    let long : length (take left rest) ≡ left = length-take-le left rest (omega (arith, length-drop c.loop-done.done c.args.bytes.now)) in
    let most : c.push_run-done.result ≤ left = omega (arith, long, c.push_run-done.ensures.most) in
    let run = take-take c.push_run-done.result left rest most in
    let writes : WritesTo c.args.self.now.blocks c.loop-done.pool c.push_run-done.new.pool =
    rw (← c.loop-done.invariant.blocks) c.push_run-done.ensures.writes in
    let blocks = c.push_run-done.ensures.blocks ∙ c.loop-done.invariant.blocks in
    record {
      bytes =
          c.push_run-done.ensures.bytes ∙ ap (λ (xs : List ℕ). holds c.loop-done.pool c.loop-done.self ++ xs) run
          ∙ ap (λ (xs : List ℕ). xs ++ take c.push_run-done.result rest) c.loop-done.invariant.bytes
          ∙ append_assoc (holds c.args.pool.now c.args.self.now) (take c.loop-done.done c.args.bytes.now) (take c.push_run-done.result rest)
          ∙ ap (λ (xs : List ℕ). holds c.args.pool.now c.args.self.now ++ xs)
          (sym (take-add c.loop-done.done c.push_run-done.result c.args.bytes.now));
      count = omega (arith, c.push_run-done.ensures.count, c.loop-done.invariant.count);
      most = omega (arith, most, c.loop-done-test.true);
      blocks = blocks;
      writes = writes_in_turn c.args.self.now.blocks c.args.pool.now c.loop-done.pool c.push_run-done.new.pool c.loop-done.invariant.writes writes;
      of_pool =
          rw (c.push_run-done.ensures.blocks)
          (leased_written c.args.self.now.blocks c.loop-done.pool c.push_run-done.new.pool c.loop-done.self.blocks writes c.loop-done.invariant.of_pool);
    }

pub returns-clause-others : goal.returns-clause-others
returns-clause-others c = λ other apart. holds_apart c.args.self.now.blocks c.args.pool.now c.loop-done.pool other c.loop-done.invariant.writes apart
