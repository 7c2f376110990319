-- Each bit of a digit below 8, as a mask tests it and as a quotient gives it.
use Rattle.std.proofs.Common.{◌/◌, ◌%◌, eqb, not, bit_and, refl}
use Rattle.std.proofs.lemmas.Bool.{agree_below_at}
use Rattle.acl_core.proofs.perm.Perm.from_digit.Goals as goal

pub returns : goal.returns
returns c =
    let n = c.args.digit in
    λ i. record {
      read = agree_below_at (λ n. not (eqb (bit_and n 4) 0)) (λ n. eqb (n / 4 % 2) 1) 8 n refl c.requires i;
      write = agree_below_at (λ n. not (eqb (bit_and n 2) 0)) (λ n. eqb (n / 2 % 2) 1) 8 n refl c.requires i;
      exec = agree_below_at (λ n. not (eqb (bit_and n 1) 0)) (λ n. eqb (n % 2) 1) 8 n refl c.requires i;
    }
