use Rattle.std.proofs.Common.{rules, ◌≡◌, ◌<◌, ◌∙◌, [], ◌∷◌, length, take, drop, ap, ◌+◌, ◌-◌, List, ℕ, arith}
use Rattle.std.proofs.lemmas.Grind.{common_steps}
use Rattle.user_db.specs.Lines.{lines}
use Rattle.user_db.proofs.LinesCome.{lines_none, lines_one, lines_more}
use Rattle.user_db.proofs.read.next_line.Goals as goal

pub returns-then-is_empty-clause-lines : goal.returns-then-is_empty-clause-lines
returns-then-is_empty-clause-lines c =
    let none : c.args.text.now ≡ [] = grind (arith, common_steps) in
    ap lines none ∙ lines_none

pub returns-in-Some-clause-lines : goal.returns-in-Some-clause-lines
returns-in-Some-clause-lines c =
    let text = c.args.text.now in
    let at = c.in-Some.at in
    let rest : drop (at + 1) text ≡ take (length text - (at + 1)) (drop (at + 1) text) = grind (arith, common_steps) in
    lines_more text at (search rules) ∙ ap (λ (r : List ℕ). take at text ∷ lines r) rest

pub returns-in-None-clause-lines : goal.returns-in-None-clause-lines
returns-in-None-clause-lines c =
    let some : 0 < length c.args.text.now = grind (arith, common_steps) in
    lines_one c.args.text.now some (search rules)
