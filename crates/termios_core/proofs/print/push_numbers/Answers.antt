use Rattle.std.proofs.Common.{◌≡◌, ◌++◌, ◌∷◌, [], eqb, cond, length, take, get_or, arith}
use Rattle.std.proofs.lemmas.List.{take_more, length-take}
use Rattle.std.specs.Fmt.{decimal}
use Rattle.termios_core.specs.Text.{plus}
use Rattle.termios_core.proofs.JoinLemmas.{join_more}
use Rattle.termios_core.proofs.print.push_numbers.Goals as goal

pub loop-i-preserved : goal.loop-i-preserved
loop-i-preserved c =
    let xs = c.args.numbers.now in
    let i = c.loop-i.i in
    let count : length (take i xs) ≡ i = omega (arith, length-take i xs) in
    let between : c.push_separator.new.out.items ≡ c.loop-i.out.items ++ cond (eqb (length (take i xs)) 0) [] (plus ∷ []) =
    rw count c.push_separator.ensures.text in
    record {
      text =
          rw (take_more xs i 0 c.loop-i-test.true)
          (join_more decimal plus (take i xs) (get_or xs i 0) _ _ _ _ c.loop-i.invariant.text between c.push_number.ensures.text);
      room = omega arith;
    }
