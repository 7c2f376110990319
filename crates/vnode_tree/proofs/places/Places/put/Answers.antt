-- A new node has its key, and its bytes are in the total.
use Rattle.std.proofs.Common.{◌≡◌, Some, length, ap, ◌∙◌, arith}
use Rattle.vnode_tree.specs.Links.{entry_at}
use Rattle.vnode_tree.specs.Keys.{key_of}
use Rattle.vnode_tree.specs.Kept.{size_in}
use Rattle.vnode_tree.proofs.Indexes.{place_set}
use Rattle.vnode_tree.proofs.places.Places.put.Goals as goal

pub invariant_of-self : goal.invariant_of-self
invariant_of-self c =
    let none : size_in (entry_at c.self.inside.entries.items c.args.place) ≡ 0 =
    ap (λ es. size_in (entry_at es c.args.place)) c.self.view_is ∙ ap size_in c.requires.free in
    place_set c.self.inside.entries.items c.self.inside.keys.items c.self.inside.total c.args.place _ _ _ c.self.invariant
    (omega (arith, ap (λ es. length es) c.self.view_is, c.requires.inside))
    (ap (λ key. Some key) (c.of.ensures ∙ ap (key_of c.args.entry.dir) c.as_slice.ensures.bytes)) (omega (arith, none, c.len.ensures))
