-- The total has the bytes after the write.
use Rattle.std.proofs.Common.{◌≡◌, Some, refl, ◌∙◌, arith}
use Rattle.vnode_tree.specs.Links.{entry_at}
use Rattle.vnode_tree.proofs.Indexes.{stands, entry_changed, part_of_total}
use Rattle.vnode_tree.proofs.places.Places.write.Goals as goal

pub invariant_of-self-in-Some : goal.invariant_of-self-in-Some
invariant_of-self-in-Some c =
    let at : entry_at c.self.inside.entries.items c.from.result ≡ Some c.in-Some.entry =
    stands c.self.inside.entries.items c.args.self.now c.from.result c.args.node c.in-Some.entry c.index_mut.result.now c.self.view_is c.requires.there
    (c.from.ensures ∙ c.number.ensures) c.index_mut.ensures.value c.in-Some.is in
    let part =
    part_of_total c.self.inside.entries.items c.self.inside.keys.items c.self.inside.total c.from.result c.in-Some.entry c.self.invariant at in
    entry_changed c.self.inside.entries.items c.self.inside.keys.items c.self.inside.total c.from.result c.in-Some.entry _ _
    c.self.invariant at refl (omega (arith, part, c.len.ensures, c.len-in-Some.ensures))
