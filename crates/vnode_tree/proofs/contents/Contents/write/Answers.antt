use Rattle.std.proofs.Common.{length, sym, ◌∙◌, ap}
use Rattle.std.proofs.lemmas.List.{nil_from_length}
use Rattle.std.proofs.lemmas.Bool.{eqb-true}
use Rattle.vnode_tree.specs.Contents.{after_write}
use Rattle.vnode_tree.proofs.Writes.{nothing_written, some_bytes, whole_written}
use Rattle.vnode_tree.proofs.contents.Contents.write.Goals as goal

pub returns-then-is_empty-clause-ok : goal.returns-then-is_empty-clause-ok
returns-then-is_empty-clause-ok c =
    nothing_written c.args.self.now c.args.bytes.now c.args.at
    (nil_from_length c.args.bytes.now (eqb-true (length c.args.bytes.now) 0 (sym c.is_empty.ensures ∙ c.if-is_empty.true)))

pub returns-clause-ok : goal.returns-clause-ok
returns-clause-ok c =
    whole_written c.fill_to.new.bytes.len c.self.inside.bytes.items c.fill_to.new.bytes.items c.as_mut_slice.result.now c.put.new.bytes c.args.bytes.now
    c.args.at c.fill_to.new.bytes.ok.0 c.as_mut_slice.ensures.value c.in_ok-fill_to.ensures.ok
    (some_bytes (length c.args.bytes.now) (sym c.is_empty.ensures ∙ c.if-is_empty.false)) c.put.ensures
    ∙ ap (λ old. after_write old c.args.at c.args.bytes.now) c.self.view_is
