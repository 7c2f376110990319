use Rattle.std.proofs.Common.{◌<◌, ◌≤◌, arith, refl, sym, ◌∙◌}
use Rattle.std.proofs.lemmas.Bool.{ltb-true, ltb-false}
use Rattle.vnode_tree.specs.Contents.{after_write, with_write, space_of}
use Rattle.vnode_tree.specs.Nodes.{with_record}
use Rattle.vnode_tree.specs.Links.{entry_with_contents, with_entry}
use Rattle.vnode_tree.proofs.Looks.{live_entry}
use Rattle.vnode_tree.proofs.Calls.{Recorded}
use Rattle.vnode_tree.proofs.Files.{file_live, file_written}
use Rattle.vnode_tree.proofs.Finite.{nodes_changed, bytes_after, apart_table}
use Rattle.vnode_tree.proofs.tree.Tree.write.Goals as goal

pub write-requires-clause-there : goal.write-requires-clause-there
write-requires-clause-there c =
    live_entry c.self.inside.entries c.args.self.now c.args.node c.self.view_is (file_live c.args.self.now c.args.node c.requires)

pub write-requires-clause-room : goal.write-requires-clause-room
write-requires-clause-room c =
    (file_written c.self.inside.entries c.args.self.now c.args.node c.args.at c.args.bytes.now c.self.view_is c.self.invariant c.requires
    (ltb-false _ _ (sym c.lacks_space.ensures.table ∙ c.if-lacks_space.false))).kept.space

pub returns-then-lacks_space-clause-space : goal.returns-then-lacks_space-clause-space
returns-then-lacks_space-clause-space c =
    let over : 4194304 < space_of (with_record (with_write c.args.at c.args.bytes.now) c.args.self.now c.args.node) =
    ltb-true _ _ (sym c.lacks_space.ensures.table ∙ c.if-lacks_space.true) in
    (λ _. over, λ _. refl)

-- there is room
room : (c : goal.In-Ok) → space_of (with_record (with_write c.args.at c.args.bytes.now) c.args.self.now c.args.node) ≤ 4194304
room c = ltb-false _ _ (sym c.lacks_space.ensures.table ∙ c.if-lacks_space.false)

done : (c : goal.In-Ok)
    → Recorded (with_write c.args.at c.args.bytes.now) c.args.self.now c.args.node
    (with_entry (entry_with_contents (λ old. after_write old c.args.at c.args.bytes.now)) c.self.inside.entries c.args.node)
done c = file_written c.self.inside.entries c.args.self.now c.args.node c.args.at c.args.bytes.now c.self.view_is c.self.invariant c.requires (room c)

pub invariant_of-self : goal.invariant_of-self
invariant_of-self c = rw c.in-Ok.ensures.ok (done c).kept

pub returns-in-Ok-clause-space : goal.returns-in-Ok-clause-space
returns-in-Ok-clause-space c = (λ is. absurd cc, λ over. absurd (omega (arith, over, room c)))

pub returns-in-Ok-clause-after_write : goal.returns-in-Ok-clause-after_write
returns-in-Ok-clause-after_write c = rw c.in-Ok.ensures.ok (done c).set

pub returns-in-Ok-clause-changes : goal.returns-in-Ok-clause-changes
returns-in-Ok-clause-changes c = rw c.in-Ok.ensures.ok (done c).changes

pub returns-in-Err-clause-space : goal.returns-in-Err-clause-space
returns-in-Err-clause-space c =
    let fits = ltb-false _ _ (sym c.lacks_space.ensures.table ∙ c.if-lacks_space.false) in
    (λ is. absurd cc, λ over. absurd (omega (arith, over, fits)))

pub returns-in-Ok-clause-map : goal.returns-in-Ok-clause-map
returns-in-Ok-clause-map c = nodes_changed _ _ _ _ (returns-in-Ok-clause-changes c)

pub returns-then-lacks_space-clause-space_map : goal.returns-then-lacks_space-clause-space_map
returns-then-lacks_space-clause-space_map c =
    let over = ltb-true _ _ (sym c.lacks_space.ensures.map ∙ c.if-lacks_space.true) in
    (λ _. over, λ _. refl)

pub returns-in-Ok-clause-space_map : goal.returns-in-Ok-clause-space_map
returns-in-Ok-clause-space_map c =
    rw
    (bytes_after (with_write c.args.at c.args.bytes.now) c.args.self.now c.args.node
    (apart_table c.self.inside.entries c.args.self.now c.self.view_is c.self.invariant) (file_live c.args.self.now c.args.node c.requires))
    (returns-in-Ok-clause-space c)

pub returns-in-Err-clause-space_map : goal.returns-in-Err-clause-space_map
returns-in-Err-clause-space_map c =
    rw
    (bytes_after (with_write c.args.at c.args.bytes.now) c.args.self.now c.args.node
    (apart_table c.self.inside.entries c.args.self.now c.self.view_is c.self.invariant) (file_live c.args.self.now c.args.node c.requires))
    (returns-in-Err-clause-space c)
