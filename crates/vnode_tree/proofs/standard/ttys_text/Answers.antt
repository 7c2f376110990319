use Rattle.std.proofs.Common.{◌≡◌, ◌++◌, ℕ, List, false, get_or, sym, ap, ◌∙◌, arith}
use Rattle.vnode_tree.specs.Standard.{tty_text, tty_line}
use Rattle.vnode_tree.proofs.Standards.{ttys_more}
use Rattle.vnode_tree.proofs.standard.ttys_text.Goals as goal

pub loop-number-preserved : goal.loop-number-preserved
loop-number-preserved c =
    let text : c.in_ok-text.text ≡ c.loop-number.text ++ tty_text c.args.on.now c.loop-number.number =
    c.in_ok-text.ensures.line ∙ ap (λ (i : ℕ). c.loop-number.text ++ tty_line c.loop-number.number (get_or c.args.on.now i false)) c.from.ensures in (
      text ∙ ap (λ (xs : List ℕ). xs ++ tty_text c.args.on.now c.loop-number.number) c.loop-number.invariant.0
          ∙ sym (ttys_more c.args.on.now c.loop-number.number),
      omega (arith, c.in_ok-text.ensures.most, c.loop-number.invariant.1),
    )
