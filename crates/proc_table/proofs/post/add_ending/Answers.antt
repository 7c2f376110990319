use Rattle.std.proofs.Common.{◌≡◌, ◌<◌, length, false, arith, sym, ap, ◌∙◌}
use Rattle.proc_table.specs.Posts.{is_ending}
use Rattle.proc_table.proofs.EndingListLemmas.{has-room, list-behind}
use Rattle.proc_table.proofs.post.add_ending.Goals as goal

pub push-requires : goal.push-requires
push-requires c =
    let none : is_ending c.args.ending.now.items c.args.slot ≡ false =
    ap (λ ending. is_ending ending c.args.slot) (sym c.as_slice.ensures.value) ∙ sym c.is_ending.ensures ∙ c.if-not-is_ending.true in
    let room : length c.args.ending.now.items < 32 = has-room c.args.ending.now.items c.args.slot c.args.how c.requires.list none c.requires.slot in
    (omega arith, room)

pub returns-then-not-is_ending-clause-list : goal.returns-then-not-is_ending-clause-list
returns-then-not-is_ending-clause-list c =
    let none : is_ending c.args.ending.now.items c.args.slot ≡ false =
    ap (λ ending. is_ending ending c.args.slot) (sym c.as_slice.ensures.value) ∙ sym c.is_ending.ensures ∙ c.if-not-is_ending.true in
    rw c.push.ensures.items (list-behind c.args.ending.now.items c.args.slot c.args.how c.requires.list none c.requires.slot)
