use Rattle.std.proofs.Common.{subst, List, ℕ}
use Rattle.script_text.specs.Words.{parts_of}
use Rattle.script_text.proofs.Ids.{AreRead, all_read}
use Rattle.script_text.proofs.rights.read_ids.Goals as goal

pub returns : goal.returns
returns c =
    let all = parts_of 43 c.args.word.now in
    let ids = c.loop-number.ids.items in
    all_read all ids (subst (λ (left : List (List ℕ)). AreRead all left ids) c.in_default.ensures.0 c.loop-number.invariant)
