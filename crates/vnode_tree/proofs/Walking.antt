-- A walk on its way.
use Rattle.std.proofs.Common.{◌≡◌, ℕ, ◌+◌, ◌<◌, ◌≤◌, true, false, List, [], ◌∷◌, ◌++◌, length, map, Option, None, refl, sym, ap, ap₂, ◌∙◌, arith, subst}
use Rattle.std.proofs.Common.{length-append}
use Rattle.std.specs.Prelude.{All, is_some}
use Rattle.std.proofs.lemmas.List.{append-nil}
use Rattle.std.proofs.lemmas.List.Elements.{All-push}
use Rattle.tree_model.specs.Tree.{PathWalk, WalkEnd, walk_from, walk_ending, walk_past, absent_end, parent_of, is_parent, is_dir_record}
use Rattle.vnode_tree.specs.Nodes.{NodeAt, IsLive, IsAt, path_of, tree_of}
use Rattle.vnode_tree.specs.Walks.{Passes}
use Rattle.vnode_tree.proofs.WalkSteps.{walk_up, walk_down, walk_absent}

-- A walk that began with some directories passed is at a node: what it has passed and still passes is what it passes in all.
pub record Walking (nodes : List (Option NodeAt)) (whole : PathWalk) (before : List ℕ) (here : ℕ) (steps : List (List ℕ)) (passed : List ℕ) : Type 0 where
  pub all : map (path_of nodes) passed ++ (walk_from (tree_of nodes) (path_of nodes here) steps).passed ≡ map (path_of nodes) before ++ whole.passed
  pub ends : (walk_from (tree_of nodes) (path_of nodes here) steps).end ≡ whole.end
  pub live : IsLive nodes here
  pub lives : All (IsLive nodes) passed
  pub room : length passed + length steps ≤ 512

-- it ends here, with nothing more passed
pub walk_ends : (nodes : List (Option NodeAt)) (whole : PathWalk) (before : List ℕ) (here : ℕ) (steps : List (List ℕ)) (passed : List ℕ) (end : WalkEnd)
    → Walking nodes whole before here steps passed → walk_from (tree_of nodes) (path_of nodes here) steps ≡ walk_ending end
    → Passes whole (map (path_of nodes) before) (map (path_of nodes) passed) end
walk_ends nodes whole before here steps passed end w is = record {
  passed = sym (append-nil (map (path_of nodes) passed)) ∙ ap (λ (x : PathWalk). map (path_of nodes) passed ++ x.passed) (sym is) ∙ w.all;
  ends = ap (λ (x : PathWalk). x.end) (sym is) ∙ w.ends;
}

map_push : (nodes : List (Option NodeAt)) (passed : List ℕ) (here : ℕ)
    → map (path_of nodes) (passed ++ here ∷ []) ≡ map (path_of nodes) passed ++ path_of nodes here ∷ []
map_push nodes [] here = refl
map_push nodes (x ∷ xs) here = ap (λ (ps : List (List (List ℕ))). path_of nodes x ∷ ps) (map_push nodes xs here)

regroup : (xs : List (List (List ℕ))) (x : List (List ℕ)) (ys : List (List (List ℕ))) → (xs ++ x ∷ []) ++ ys ≡ xs ++ x ∷ ys
regroup [] x ys = refl
regroup (y ∷ xs) x ys = ap (λ (ps : List (List (List ℕ))). y ∷ ps) (regroup xs x ys)

-- it goes on at another node
pub walk_goes : (nodes : List (Option NodeAt)) (whole : PathWalk) (before : List ℕ) (here next : ℕ) (part : List ℕ) (steps : List (List ℕ)) (passed : List ℕ)
    → Walking nodes whole before here (part ∷ steps) passed → IsLive nodes next
    → walk_from (tree_of nodes) (path_of nodes here) (part ∷ steps) ≡ walk_past (path_of nodes here) (walk_from (tree_of nodes) (path_of nodes next) steps)
    → Walking nodes whole before next steps (passed ++ here ∷ [])
walk_goes nodes whole before here next part steps passed w live is = record {
  all = ap (λ (ps : List (List (List ℕ))). ps ++ (walk_from (tree_of nodes) (path_of nodes next) steps).passed) (map_push nodes passed here)
      ∙ regroup (map (path_of nodes) passed) (path_of nodes here) (walk_from (tree_of nodes) (path_of nodes next) steps).passed
      ∙ ap (λ (x : PathWalk). map (path_of nodes) passed ++ x.passed) (sym is) ∙ w.all;
  ends = ap (λ (x : PathWalk). x.end) (sym is) ∙ w.ends;
  live = live;
  lives = All-push (IsLive nodes) passed here w.lives w.live;
  room = omega (arith, w.room, length-append passed (here ∷ []));
}

-- it ends at the name that this directory does not have
pub walk_lacks : (nodes : List (Option NodeAt)) (whole : PathWalk) (before : List ℕ) (here : ℕ) (part : List ℕ) (steps : List (List ℕ)) (passed : List ℕ)
    (end : WalkEnd)
    → Walking nodes whole before here (part ∷ steps) passed
    → walk_from (tree_of nodes) (path_of nodes here) (part ∷ steps) ≡ walk_past (path_of nodes here) (walk_ending end)
    → Passes whole (map (path_of nodes) before) (map (path_of nodes) (passed ++ here ∷ [])) end
walk_lacks nodes whole before here part steps passed end w is = record {
  passed = map_push nodes passed here ∙ ap (λ (x : PathWalk). map (path_of nodes) passed ++ x.passed) (sym is) ∙ w.all;
  ends = ap (λ (x : PathWalk). x.end) (sym is) ∙ w.ends;
}

-- at its beginning
pub walk_begins : (nodes : List (Option NodeAt)) (here : ℕ) (steps : List (List ℕ)) (passed : List ℕ) → IsLive nodes here → All (IsLive nodes) passed
    → length passed + length steps ≤ 512 → Walking nodes (walk_from (tree_of nodes) (path_of nodes here) steps) passed here steps passed
walk_begins nodes here steps passed live lives room = record { all = refl; ends = refl; live = live; lives = lives; room = room }

-- the part that was taken from those that are left
pub walk_takes : (nodes : List (Option NodeAt)) (whole : PathWalk) (before : List ℕ) (here : ℕ) (steps more : List (List ℕ)) (part : List ℕ) (passed : List ℕ)
    → Walking nodes whole before here steps passed → steps ≡ part ∷ more → Walking nodes whole before here (part ∷ more) passed
walk_takes nodes whole before here steps more part passed w is = subst (λ s. Walking nodes whole before here s passed) is w

-- there is room for one more
pub room_for_one : (nodes : List (Option NodeAt)) (whole : PathWalk) (before : List ℕ) (here : ℕ) (part : List ℕ) (more : List (List ℕ)) (passed : List ℕ)
    → Walking nodes whole before here (part ∷ more) passed → length passed < 512
room_for_one nodes whole before here part more passed w = omega (arith, w.room)

some_true : {X : Type 0} (o : Option X) → o ≡ None → is_some o ≡ false
some_true o e = ap is_some e

-- the steps of a walk
pub goes_up : (nodes : List (Option NodeAt)) (whole : PathWalk) (before : List ℕ) (here next : ℕ) (part : List ℕ) (steps : List (List ℕ)) (passed : List ℕ)
    → Walking nodes whole before here (part ∷ steps) passed → length part ≤ 255 → is_dir_record (tree_of nodes (path_of nodes here)) ≡ true
    → is_parent part ≡ true → IsAt nodes (parent_of (path_of nodes here)) next → Walking nodes whole before next steps (passed ++ here ∷ [])
goes_up nodes whole before here next part steps passed w short dir up at =
    walk_goes nodes whole before here next part steps passed w at.live
    (walk_up (tree_of nodes) (path_of nodes here) part steps short dir up
    ∙ ap (λ (p : List (List ℕ)). walk_past (path_of nodes here) (walk_from (tree_of nodes) p steps)) (sym at.here))

pub goes_down : (nodes : List (Option NodeAt)) (whole : PathWalk) (before : List ℕ) (here next : ℕ) (part : List ℕ) (steps : List (List ℕ)) (passed : List ℕ)
    → Walking nodes whole before here (part ∷ steps) passed → length part ≤ 255 → is_dir_record (tree_of nodes (path_of nodes here)) ≡ true
    → is_parent part ≡ false → IsAt nodes (path_of nodes here ++ part ∷ []) next → Walking nodes whole before next steps (passed ++ here ∷ [])
goes_down nodes whole before here next part steps passed w short dir down at =
    walk_goes nodes whole before here next part steps passed w at.live
    (walk_down (tree_of nodes) (path_of nodes here) part steps short dir down at.some
    ∙ ap (λ (p : List (List ℕ)). walk_past (path_of nodes here) (walk_from (tree_of nodes) p steps)) (sym at.here))

pub lacks : (nodes : List (Option NodeAt)) (whole : PathWalk) (before : List ℕ) (here : ℕ) (part : List ℕ) (steps : List (List ℕ)) (passed : List ℕ)
    → Walking nodes whole before here (part ∷ steps) passed → length part ≤ 255 → is_dir_record (tree_of nodes (path_of nodes here)) ≡ true
    → is_parent part ≡ false → tree_of nodes (path_of nodes here ++ part ∷ []) ≡ None
    → Passes whole (map (path_of nodes) before) (map (path_of nodes) (passed ++ here ∷ [])) (absent_end (path_of nodes here) part steps)
lacks nodes whole before here part steps passed w short dir down none =
    walk_lacks nodes whole before here part steps passed (absent_end (path_of nodes here) part steps) w
    (walk_absent (tree_of nodes) (path_of nodes here) part steps short dir down (some_true (tree_of nodes (path_of nodes here ++ part ∷ [])) none))

-- a walk that began with nothing passed
pub whole_walk : (nodes : List (Option NodeAt)) (passed : List ℕ) (whole : PathWalk) (end : WalkEnd)
    → Passes whole (map (path_of nodes) []) (map (path_of nodes) passed) end → record { passed = map (path_of nodes) passed; end = end } ≡ whole
whole_walk nodes passed whole end p = ap₂ (λ (ps : List (List (List ℕ))) (e : WalkEnd). record { passed = ps; end = e }) p.passed p.ends
