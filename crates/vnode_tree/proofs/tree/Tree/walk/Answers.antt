use Rattle.std.proofs.Common.{◌≡◌, ◌<◌, ◌≤◌, [], List, ℕ, length, map, sym, ◌∙◌, ap, ap₂, subst, true, false}
use Rattle.std.specs.Prelude.{◌==◌}
use Rattle.tree_model.specs.Tree.{walk_from, begin_at, steps}
use Rattle.vnode_tree.specs.Nodes.{path_of, tree_of}
use Rattle.vnode_tree.specs.Walks.{paths_of_end, Passes}
use Rattle.vnode_tree.proofs.WalkSteps.{walk_too_long, walk_nothing, walk_whole}
use Rattle.vnode_tree.proofs.Walking.{whole_walk}
use Rattle.vnode_tree.proofs.tree.Tree.walk.Goals as goal

pub returns-then-bytes-gt-PATH_BYTES-clause-by_walk : goal.returns-then-bytes-gt-PATH_BYTES-clause-by_walk
returns-then-bytes-gt-PATH_BYTES-clause-by_walk c =
    rw c.new-passed.ensures
    (sym
    (walk_too_long (tree_of c.args.self.now) (path_of c.args.self.now c.args.cwd) c.args.path.now
    (subst (λ (xs : List ℕ). 1023 < length xs) c.as_slice-bytes.ensures.bytes c.if-bytes-gt-PATH_BYTES.true)))

pub returns-then-is_empty-clause-by_walk : goal.returns-then-is_empty-clause-by_walk
returns-then-is_empty-clause-by_walk c =
    rw c.new-passed.ensures (sym (walk_nothing (tree_of c.args.self.now) (path_of c.args.self.now c.args.cwd) c.args.path.now
    (subst (λ (xs : List ℕ). length xs ≤ 1023) c.as_slice-bytes.ensures.bytes c.if-bytes-gt-PATH_BYTES.false)
    (subst (λ (xs : List ℕ). (length xs == 0) ≡ true) c.as_slice-bytes.ensures.bytes (sym c.is_empty.ensures ∙ c.if-is_empty.true))))

pub returns-clause-by_walk : goal.returns-clause-by_walk
returns-clause-by_walk c =
    let begin : path_of c.args.self.now c.begin_at-from.result ≡ begin_at (path_of c.args.self.now c.args.cwd) c.args.path.now =
    c.begin_at-from.ensures.begins ∙ ap (begin_at (path_of c.args.self.now c.args.cwd)) c.as_slice-bytes.ensures.bytes in
    let parts : c.new.result ≡ steps c.args.path.now = c.new.ensures.steps ∙ ap steps c.as_slice-bytes.ensures.bytes in
    let nothing : c.new-passed.result.items ≡ [] = c.new-passed.ensures in
    let all : Passes (walk_from (tree_of c.args.self.now) (path_of c.args.self.now c.begin_at-from.result) c.new.result) (map (path_of c.args.self.now) [])
    (map (path_of c.args.self.now) c.walk_from-end.new.passed.items) (paths_of_end c.args.self.now c.walk_from-end.result) =
    subst
    (λ (xs : List ℕ). Passes (walk_from (tree_of c.args.self.now) (path_of c.args.self.now c.begin_at-from.result) c.new.result)
    (map (path_of c.args.self.now) xs) (map (path_of c.args.self.now) c.walk_from-end.new.passed.items)
    (paths_of_end c.args.self.now c.walk_from-end.result))
    nothing c.walk_from-end.ensures.passes in
    whole_walk c.args.self.now c.walk_from-end.new.passed.items
    (walk_from (tree_of c.args.self.now) (path_of c.args.self.now c.begin_at-from.result) c.new.result)
    (paths_of_end c.args.self.now c.walk_from-end.result) all
    ∙ ap₂ (λ (here : List (List ℕ)) (s : List (List ℕ)). walk_from (tree_of c.args.self.now) here s) begin parts
    ∙ sym (walk_whole (tree_of c.args.self.now) (path_of c.args.self.now c.args.cwd) c.args.path.now
    (subst (λ (xs : List ℕ). length xs ≤ 1023) c.as_slice-bytes.ensures.bytes c.if-bytes-gt-PATH_BYTES.false)
    (subst (λ (xs : List ℕ). (length xs == 0) ≡ false) c.as_slice-bytes.ensures.bytes (sym c.is_empty.ensures ∙ c.if-is_empty.false)))
