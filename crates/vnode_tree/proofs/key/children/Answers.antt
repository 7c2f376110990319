-- The loop leaves the places whose keys are of nodes in the directory.
use Rattle.std.proofs.Common.{◌≡◌, ◌++◌, ◌∷◌, [], ap, sym, ◌∙◌, cond, length, List, ℕ, refl, arith, length-append, append-nil}
use Rattle.vnode_tree.proofs.Indexes.{keys_more, keys_all}
use Rattle.vnode_tree.proofs.key.children.Goals as goal
use Rattle.vnode_tree.proofs.key.children.Goals.{then-is_key_inside, else-is_key_inside}

pub loop-place-preserved : goal.loop-place-preserved
loop-place-preserved c =
    let nodes : List ℕ = c.loop-place.children.items in
    let place : ℕ = c.loop-place.place in
    let found =
    keys_more c.args.dir place c.args.keys.now nodes c.if-is_key_inside.children.items c.loop-place.invariant.found in
    elim c.if-is_key_inside.branch [
      | then-is_key_inside w ↦
          let longer : c.if-is_key_inside.children.items ≡ nodes ++ place ∷ [] =
          rw w.children-is (w.push.ensures.items ∙ ap (λ n. nodes ++ n ∷ []) w.of.ensures) in
          record {
            found = found (longer ∙ ap (λ b. nodes ++ cond b (place ∷ []) []) (sym w.if-is_key_inside.true ∙ c.is_key_inside.ensures));
            few = omega (arith, ap length longer, length-append nodes (place ∷ []), c.loop-place.invariant.few);
          }
      | else-is_key_inside w ↦
          let same : c.if-is_key_inside.children.items ≡ nodes = rw w.children-is refl in
          record {
            found = found (same ∙ sym (append-nil nodes) ∙ ap (λ b. nodes ++ cond b (place ∷ []) []) (sym w.if-is_key_inside.false ∙ c.is_key_inside.ensures));
            few = omega (arith, ap length same, c.loop-place.invariant.few);
          }
    ]

pub returns : goal.returns
returns c = keys_all c.args.dir c.loop-place.place c.args.keys.now c.loop-place.children.items (omega arith) c.loop-place.invariant.found
