use Rattle.std.proofs.Common.{◌++◌, List, ℕ, ap, ◌∙◌, sym, arith}
use Rattle.std.specs.Fmt.{decimal}
use Rattle.label_core.proofs.SetTextLemmas.{IsPrinted-more, IsPrinted-same, IsPrinted_all, room_to-more}
use Rattle.label_core.proofs.printing.push_set.Goals as goal
use Rattle.label_core.proofs.printing.push_set.Goals.{then-has, else-has}

pub push_number-requires : goal.push_number-requires
push_number-requires c = omega (arith, c.push.ensures.len, c.loop-n.invariant.room, room_to-more c.loop-n.n (omega arith) (omega arith))

pub loop-n-preserved : goal.loop-n-preserved
loop-n-preserved c =
    let n = c.loop-n.n in
    let set = c.args.set.now in
    let front = c.args.out.now.items in
    elim c.if-has.branch [
      | then-has w ↦
          let pushed = w.push_number.ensures.text ∙ ap (λ (xs : List ℕ). xs ++ decimal n) w.push.ensures.items in
          rw (w.out-is, w.mark-is)
          (IsPrinted-more set front c.loop-n.out.items w.push_number.new.out.items c.loop-n.mark n (omega arith) (omega arith) c.has.ensures.set
          (sym c.has.ensures.member ∙ w.if-has.true) pushed c.loop-n.invariant)
      | else-has w ↦
          rw (w.out-is, w.mark-is)
          (IsPrinted-same set front c.loop-n.out.items c.loop-n.mark n (omega arith) c.has.ensures.set (sym c.has.ensures.member ∙ w.if-has.false)
          c.loop-n.invariant)
    ]

pub returns : goal.returns
returns c =
    let all =
    IsPrinted_all c.args.set.now c.args.out.now.items c.loop-n.out.items c.loop-n.mark c.loop-n.n c.loop-n-test.false (omega arith) c.loop-n.invariant in
    record { text = all.0; room = all.1; valid = all.2 }
