use Rattle.std.proofs.Common.{◌≡◌, ◌≤◌, ◌++◌, ◌∷◌, ◌+◌, [], true, false, length, Some, set, refl, sym, ◌∙◌, arith}
use Rattle.std.specs.Prelude.{sum_by}
use Rattle.vnode_tree.specs.declared.entry.Entry.{Entry}
use Rattle.vnode_tree.specs.Nodes.{path_of, new_node}
use Rattle.vnode_tree.specs.Kept.{size_in}
use Rattle.vnode_tree.proofs.Calls.{full_table, Made, made_call}
use Rattle.vnode_tree.proofs.Files.{space_is}
use Rattle.vnode_tree.proofs.Indexes.{free_at}
use Rattle.vnode_tree.proofs.Finite.{nodes_changed, nodes_counted, apart_table}
use Rattle.vnode_tree.proofs.tree.Tree.make.Goals as goal

pub returns-in_default-clause-full : goal.returns-in_default-clause-full
returns-in_default-clause-full c = (
  λ _. full_table c.self.inside.entries c.args.self.now c.self.view_is c.self.invariant (sym c.free_place.ensures ∙ c.in_default.is),
  λ _. refl,
)

pub put-requires-clause-free : goal.put-requires-clause-free
put-requires-clause-free c = free_at c.self.inside.entries c.in-Some.place c.in-Some.ensures

pub put-requires-clause-room : goal.put-requires-clause-room
put-requires-clause-room c = omega (arith, c.requires.room, space_is c.self.inside.entries c.args.self.now c.self.view_is c.self.invariant)

-- the new node
abbrev entry : goal.After-of → Entry
entry c = record { dir = c.number.result; name = c.copy.result; kind = c.args.kind; attrs = c.args.attrs; default = c.args.default; contents = c.args.contents }

room : (c : goal.After-of) → sum_by size_in c.self.inside.entries + length c.args.contents ≤ 4194304
room c = omega (arith, c.requires.room, space_is c.self.inside.entries c.args.self.now c.self.view_is c.self.invariant)

done : (c : goal.After-of)
    → Made c.args.self.now c.in-Some.place (path_of c.args.self.now c.args.dir ++ c.args.name.now ∷ [])
    (new_node c.args.kind c.args.attrs c.args.default c.args.contents) (set c.self.inside.entries c.in-Some.place (Some (entry c)))
done c =
    made_call c.self.inside.entries c.args.self.now c.in-Some.place (entry c) c.args.dir c.args.name.now c.self.view_is
    c.self.invariant c.in-Some.ensures c.number.ensures c.copy.ensures.same c.copy.ensures.most c.requires.dir c.requires.name
    c.requires.kind (room c) c.requires.absent

pub invariant_of-self : goal.invariant_of-self
invariant_of-self c = rw c.put.ensures (done c).kept

pub returns-clause-full : goal.returns-clause-full
returns-clause-full c = (λ no. absurd (let wrong : false ≡ true = no in cc), λ full. absurd (omega (arith, full, (done c).room)))

pub returns-clause-free : goal.returns-clause-free
returns-clause-free c = rw c.of.ensures (done c).free

pub returns-clause-new_node : goal.returns-clause-new_node
returns-clause-new_node c = rw (c.of.ensures, c.put.ensures) (done c).made

pub returns-clause-live : goal.returns-clause-live
returns-clause-live c = rw (c.of.ensures, c.put.ensures) (done c).live

pub returns-clause-changes : goal.returns-clause-changes
returns-clause-changes c = rw c.put.ensures (done c).changes

pub returns-clause-count : goal.returns-clause-count
returns-clause-count c = rw c.put.ensures (done c).count

pub returns-clause-space : goal.returns-clause-space
returns-clause-space c = rw c.put.ensures (done c).space

pub returns-clause-keeps : goal.returns-clause-keeps
returns-clause-keeps c = rw c.put.ensures (done c).keeps

pub returns-clause-map : goal.returns-clause-map
returns-clause-map c = nodes_changed _ _ _ _ (returns-clause-changes c)

pub returns-clause-full_map : goal.returns-clause-full_map
returns-clause-full_map c =
    rw (nodes_counted c.args.self.now (apart_table c.self.inside.entries c.args.self.now c.self.view_is c.self.invariant)) (returns-clause-full c)

pub returns-in_default-clause-full_map : goal.returns-in_default-clause-full_map
returns-in_default-clause-full_map c =
    rw (nodes_counted c.args.self.now (apart_table c.self.inside.entries c.args.self.now c.self.view_is c.self.invariant))
    (returns-in_default-clause-full c)
