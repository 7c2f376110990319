use Rattle.std.proofs.Common.{◌≡◌}
use Rattle.script_text.proofs.Digits.{parse-digits, utf8-digits}
use Rattle.script_text.proofs.numbers.read_digits.Goals as goal

pub returns-in-Ok : goal.returns-in-Ok
returns-in-Ok c =
    let digits = c.args.digits.now in
    let text : c.in-Ok.text.now ≡ digits = c.in-Ok.ensures.cases.0 in
    let parsed = rw (text, c.from.ensures) at c.from_str_radix.ensures.value in
    rw c.ok.ensures.value (parse-digits 32 c.args.radix digits c.from_str_radix.result c.requires.high parsed c.requires.digits c.requires.some)

pub returns-in-Err : goal.returns-in-Err
returns-in-Err c = absurd (c.in-Err.ensures.cases.0 (utf8-digits c.args.radix c.args.digits.now c.requires.high c.requires.digits))
