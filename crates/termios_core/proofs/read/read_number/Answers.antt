use Rattle.std.proofs.Common.{◌≡◌, ◌≢◌, ◌<◌, length, get_or, ◌∙◌, rules, arith}
use Rattle.std.proofs.lemmas.Grind.{common_steps}
use Rattle.termios_core.proofs.ByteLemmas.{byte_of_parsed}
use Rattle.termios_core.proofs.read.read_number.Goals as goal

pub returns : goal.returns
returns c =
    let text = c.args.text.now in
    let same : c.in_ok-ok.field-0.now ≡ text = search rules in
    let some : 0 < length text = grind (arith, common_steps) in
    let first : get_or text 0 0 ≡ c.in_ok-first.field-0.now = grind (arith, common_steps) in
    let plain : get_or text 0 0 ≢ 43 = omega arith in
    let zeros : get_or text 0 0 ≡ 48 → length text ≡ 1 = λ e. grind (arith, common_steps) in
    c.ok-2.ensures.value ∙ byte_of_parsed text c.parse.result (rw (← same) c.parse.ensures.value.0) some plain zeros
