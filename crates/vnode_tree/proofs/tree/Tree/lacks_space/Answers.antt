use Rattle.std.proofs.Common.{arith, ◌∙◌, ap, sym}
use Rattle.std.specs.Prelude.{nat_lt}
use Rattle.vnode_tree.specs.Contents.{with_write}
use Rattle.vnode_tree.proofs.Looks.{live_entry, record_is}
use Rattle.std.proofs.lemmas.Bool.{ltb-false}
use Rattle.vnode_tree.proofs.Files.{file_live, length_written, weighed}
use Rattle.vnode_tree.proofs.Finite.{bytes_after, apart_table, what_is_at}
use Rattle.vnode_tree.proofs.tree.Tree.lacks_space.Goals as goal

pub entry_of-requires : goal.entry_of-requires
entry_of-requires c =
    live_entry c.self.inside.entries c.args.self.now c.args.node c.self.view_is (file_live c.args.self.now c.args.node c.requires)

pub returns-clause-table : goal.returns-clause-table
returns-clause-table c =
    let w =
    weighed c.self.inside.entries c.args.self.now c.args.node c.entry_of.result.now c.args.at
    c.args.bytes.now c.total.result c.len.result c.len_after.result c.self.view_is c.self.invariant
    c.entry_of.ensures c.total.ensures c.len.ensures c.len_after.ensures in
    grind (arith, w.whole, w.part, w.most)

pub returns-clause-map : goal.returns-clause-map
returns-clause-map c =
    returns-clause-table c
    ∙ ap (nat_lt 4194304)
    (sym
    (bytes_after (with_write c.args.at c.args.bytes.now) c.args.self.now c.args.node
    (apart_table c.self.inside.entries c.args.self.now c.self.view_is c.self.invariant) (file_live c.args.self.now c.args.node c.requires)))

pub returns-clause-behind : goal.returns-clause-behind
returns-clause-behind c = λ room some.
    let w =
    weighed c.self.inside.entries c.args.self.now c.args.node c.entry_of.result.now c.args.at
    c.args.bytes.now c.total.result c.len.result c.len_after.result c.self.view_is c.self.invariant
    c.entry_of.ensures c.total.ensures c.len.ensures c.len_after.ensures in
    let whole = ltb-false _ _ (sym (returns-clause-table c) ∙ room) in
    let end = c.len_after.ensures ∙ length_written c.entry_of.result.now.contents c.args.bytes.now c.args.at some in
    omega (arith, w.whole, w.part, w.most, whole, end)

pub returns-clause-node : goal.returns-clause-node
returns-clause-node c =
    record_is c.self.inside.entries c.args.self.now c.args.node c.entry_of.result.now c.self.view_is c.self.invariant c.entry_of.ensures
    ∙ sym (what_is_at c.self.inside.entries c.args.self.now c.args.node c.entry_of.result.now c.self.view_is c.self.invariant c.entry_of.ensures)
