use Rattle.std.proofs.Common.{◌≡◌, ℕ, List, rules, arith}
use Rattle.std.specs.Prelude.{IsTrue, EachIndex, ◌↔◌, bit_and, slice_index}
use Rattle.std.specs.Int.{bit_not, w64}
use Rattle.label_core.proofs.MarkLemmas.{HasBits, covers, each_covered}
use Rattle.label_core.proofs.comp_set.is_covered.Goals as goal

pub returns : goal.returns
returns c =
    let some : List ℕ = c.args.some.now in
    let all : List ℕ = c.args.all.now in
    let some_fits : HasBits some = λ k. omega (arith, c.type_inv.some k) in
    let all_fits : HasBits all = λ k. omega (arith, c.type_inv.all k) in
    let no_bit_outside : IsTrue c.all.result ↔ EachIndex some (λ k. bit_and (slice_index some k) (bit_not w64 (slice_index all k)) ≡ 0) = search rules in (
      λ is. covers some all all_fits c.requires.some_len (no_bit_outside.0 is),
      λ each. no_bit_outside.1 (each_covered some all some_fits all_fits c.requires.some_len each),
    )
