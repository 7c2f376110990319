use Rattle.std.proofs.Common.{◌≡◌, arith}
use Rattle.script_text.proofs.Digits.{parse-digits, utf8-digits}
use Rattle.script_text.proofs.numbers.read_long_digits.Goals as goal

pub returns-in-Ok : goal.returns-in-Ok
returns-in-Ok c =
    let digits = c.args.digits.now in
    let text : c.in-Ok.text.now ≡ digits = c.in-Ok.ensures.cases.0 in
    let parsed = rw (text) at c.from_str_radix.ensures.value in
    rw c.ok.ensures.value (parse-digits 64 10 digits c.from_str_radix.result (omega arith) parsed c.requires.digits c.requires.some)

pub returns-in-Err : goal.returns-in-Err
returns-in-Err c = absurd (c.in-Err.ensures.cases.0 (utf8-digits 10 c.args.digits.now (omega arith) c.requires.digits))
