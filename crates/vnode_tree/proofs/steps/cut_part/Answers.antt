use Rattle.std.proofs.Common.{sym, ap, ◌∙◌, take, drop, length-drop}
use Rattle.std.proofs.Math.Seq.{take-length}
use Rattle.vnode_tree.proofs.Cuts.{cut_none, cut_some}
use Rattle.vnode_tree.proofs.steps.cut_part.Goals as goal

pub returns-in-None : goal.returns-in-None
returns-in-None c = cut_none c.args.path.now (sym c.slash_at.ensures ∙ c.in-None.is)

pub returns-in-Some : goal.returns-in-Some
returns-in-Some c =
    cut_some c.args.path.now c.split_at.result.0.now c.split_at.result.1.now _ c.in-Some.at (sym c.slash_at.ensures ∙ c.in-Some.is) c.split_at.ensures.front
    c.split_at.ensures.back
    (ap (λ n. take n (drop 1 c.split_at.result.1.now)) (sym (length-drop 1 c.split_at.result.1.now)) ∙ take-length (drop 1 c.split_at.result.1.now))
