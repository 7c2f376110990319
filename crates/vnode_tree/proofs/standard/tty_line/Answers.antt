use Rattle.std.proofs.Common.{◌≡◌, ◌++◌, ◌∷◌, [], ℕ, List, ap, ap₂, ◌∙◌, append_assoc}
use Rattle.std.specs.Prelude.{codes, if◌then◌else◌}
use Rattle.vnode_tree.specs.Standard.{digit}
use Rattle.vnode_tree.proofs.standard.tty_line.Goals as goal

pub returns-clause-line : goal.returns-clause-line
returns-clause-line c =
    let first : c.in_ok-with_word.with_word ≡ c.args.text ++ codes "tty " = c.in_ok-with_word.ensures in
    let second : c.in_ok-with_digit.with_digit ≡ (c.args.text ++ codes "tty ") ++ digit c.args.number ∷ [] =
    c.in_ok-with_digit.ensures ∙ ap (λ (xs : List ℕ). xs ++ digit c.args.number ∷ []) first in
    c.in_ok-longer.ensures ∙ ap₂ (λ (xs ys : List ℕ). xs ++ ys) second c.on_or_off.ensures.text
    ∙ append_assoc (c.args.text ++ codes "tty ") (digit c.args.number ∷ []) (if c.args.on then codes " on\n" else codes " off\n")
    ∙ append_assoc c.args.text (codes "tty ") (digit c.args.number ∷ (if c.args.on then codes " on\n" else codes " off\n"))
